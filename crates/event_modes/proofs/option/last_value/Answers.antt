use Rattle.std.proofs.Common.{ℕ, List, ◌∷◌, ◌∙◌, ap, refl}
use Rattle.event_modes.proofs.Walked.{no_odd, sought_start, sought_here, sought_on, sought_end}
use Rattle.event_modes.proofs.option.last_value.Goals as goal

pub loop-key-init : goal.loop-key-init
loop-key-init c = sought_start c.args.name.now c.args.items c.requires

pub loop-key-preserved-then-is_text : goal.loop-key-preserved-then-is_text
loop-key-preserved-then-is_text c =
    sought_here c.args.name.now c.args.items c.loop-key.items c.in-Some.key.now (record { value = c.in-Some-next.value; behind = c.bytes_left.result }) c.next-in-Some.new.self c.next.new.self c.loop-key.last c.loop-key.invariant
    c.in-Some.ensures.steps c.in-Some-next.ensures.steps (c.if-is_text.ensures.0 refl) c.bytes_left.ensures

pub loop-key-preserved : goal.loop-key-preserved
loop-key-preserved c =
    sought_on c.args.name.now c.args.items c.loop-key.items c.in-Some.key.now c.in-Some-next.value.now c.next-in-Some.new.self c.next.new.self c.loop-key.last c.loop-key.invariant
    c.in-Some.ensures.steps c.in-Some-next.ensures.steps (λ t. let f = c.if-is_text.ensures.1 t in cc)

pub returns-in_default-next : goal.returns-in_default-next
returns-in_default-next c = λ pairs a. absurd (no_odd c.args.items c.loop-key.items c.in-Some.key.now c.loop-key.invariant.walk
    (c.in-Some.ensures.steps ∙ ap (λ (z : List (List ℕ)). c.in-Some.key.now ∷ z) c.in_default-next.ensures.steps.0))

pub returns-in_default : goal.returns-in_default
returns-in_default c = λ pairs a. sought_end c.args.name.now c.args.items c.loop-key.items pairs c.loop-key.last c.loop-key.invariant c.in_default.ensures.steps.0 a
