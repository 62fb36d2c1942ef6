use Rattle.std.proofs.Common.{ℕ, slice_range}
use Rattle.msgpack_bytes.specs.declared.answers.Head.TheVariants as head
use Rattle.event_modes.proofs.Heads.{headed}
use Rattle.event_listing.proofs.Scalars.{name_cases, no_str, no_head_str, str_whole}
use Rattle.event_listing.proofs.names.name_of.Goals as goal

pub returns-in-Str : goal.returns-in-Str
returns-in-Str c =
    name_cases c.unmarked.result c.args.key.now (slice_range c.args.key.now c.in-Str.start c.in-Str.end)
    (str_whole c.args.key.now c.in-Str.start c.in-Str.end c.requires
    (headed c.args.key.now c.head.result c.in-Some.found (head.Str c.in-Str.start c.in-Str.end) c.in-Some.is c.in-Str.is c.head.ensures.right)) c.unmarked.ensures

pub returns-in_default : goal.returns-in_default
returns-in_default c =
    λ name n. no_str c.args.key.now c.head.result c.in-Some.found c.in-Some.is c.in_default.not-Str c.head.ensures.only name n.str

pub returns-in-None : goal.returns-in-None
returns-in-None c = λ name n. no_head_str c.args.key.now c.head.result c.in-None.is c.head.ensures.only name n.str
