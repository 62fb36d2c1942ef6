use Rattle.std.proofs.Common.{refl, subst}
use Rattle.msgpack_bytes.specs.declared.answers.Head.TheVariants as head
use Rattle.event_modes.proofs.Heads.{headed, has_head, is_int, no_int}
use Rattle.msgpack_bytes.specs.Answers.{IsHead}
use Rattle.event_modes.proofs.item.is_integer.Goals as goal

pub returns-in-Int : goal.returns-in-Int
returns-in-Int c =
    let item = c.args.item.now in
    (λ _. is_int item c.in-Int.field-0 c.requires (headed item c.head.result c.in-Some.head (head.Int c.in-Int.field-0) c.in-Some.is c.in-Int.is c.head.ensures.right), λ _. refl)

pub returns-in_default : goal.returns-in_default
returns-in_default c =
    let item = c.args.item.now in
    (λ f. absurd cc, λ i. absurd (no_int item c.in-Some.head (headed item c.head.result c.in-Some.head c.in-Some.head c.in-Some.is refl c.head.ensures.right) c.in_default.not-Int i.0 i.1))

pub returns-in-None : goal.returns-in-None
returns-in-None c =
    (λ f. absurd cc, λ i. absurd (has_head c.args.item.now c.requires (subst (IsHead c.args.item.now 0) c.in-None.is c.head.ensures.right)))
