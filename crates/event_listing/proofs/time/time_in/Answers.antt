use Rattle.std.proofs.Common.{subst, ⊎_elim}
use Rattle.msgpack_bytes.specs.Answers.{IsHead}
use Rattle.msgpack_bytes.specs.declared.answers.Head.TheVariants as head
use Rattle.event_modes.proofs.Heads.{has_head, headed, no_int}
use Rattle.event_listing.proofs.Integers.{int_kept}
use Rattle.event_listing.proofs.Wholes.{int_whole}
use Rattle.event_listing.proofs.time.time_in.Goals as goal

pub unreachable-requires : goal.unreachable-requires
unreachable-requires c = has_head c.args.time.now c.requires.item (subst (IsHead c.args.time.now 0) c.in_default-head.is c.head.ensures.right)

pub unreachable-requires-in_default-found : goal.unreachable-requires-in_default-found
unreachable-requires-in_default-found c =
    let h = subst (IsHead c.args.time.now 0) c.in-Some-head.is c.head.ensures.right in
    ⊎_elim (λ int. no_int c.args.time.now c.in-Some-head.found h c.in_default-found.not-Int int.0 int.1) (λ event. c.in_default.ensures event) c.requires.time

pub returns : goal.returns
returns c =
    int_kept c.args.time.now c.in-Int.seconds c.type_inv.time
    (int_whole c.args.time.now c.in-Int.seconds c.requires.item
    (headed c.args.time.now c.head.result c.in-Some-head.found (head.Int c.in-Int.seconds) c.in-Some-head.is c.in-Int.is c.head.ensures.right))
