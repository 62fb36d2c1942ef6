use Rattle.std.proofs.Common.{Option, Some, None, refl, arith}
use Rattle.std.specs.Prelude.{IfSome}
use Rattle.event_modes.proofs.Alone.{short_found, longer_found}
use Rattle.event_modes.proofs.usual.short_str.Goals as goal

-- what was cut off, by what it is
cut_off : {X : Type 0} (o : Option X) {P Q : X → Type 0} → ((x : X) → P x → Q x) → IfSome o P → IfSome o Q
cut_off None f p = tt
cut_off (Some x) f p = f x p

pub returns-then-first-le191 : goal.returns-then-first-le191
returns-then-first-le191 c =
    cut_off c.cut.result (λ found p. short_found c.args.bytes.now found.0.now found.1.now _ (omega arith) refl c.if-first-ge160.true c.if-first-le191.true (let n = p.0 in let same = c.from.ensures in omega arith) p.1) c.cut.ensures

pub returns-then-first : goal.returns-then-first
returns-then-first c =
    cut_off c.cut-then-first.result
    (λ found p. longer_found c.args.bytes.now found.0.now found.1.now _ (omega arith) c.if-first.true refl (omega (arith, c.type_inv.bytes 1)) (let n = p.0 in let same = c.from-then-first.ensures in omega arith) p.1) c.cut-then-first.ensures
