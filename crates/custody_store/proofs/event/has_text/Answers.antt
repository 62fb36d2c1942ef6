use Rattle.std.proofs.Common.{rules, ◌≡◌, ℕ, refl, arith}
use Rattle.std.specs.declared.vec.Vec.{Vec}
use Rattle.std.proofs.lemmas.Bool.{false≢true}
use Rattle.std.proofs.lemmas.Grind.{common_steps}
use Rattle.custody_store.proofs.Members.{contains_shown, shown_contains}
use Rattle.custody_store.proofs.event.has_text.Goals as goal

pub returns-then-eq : goal.returns-then-eq
returns-then-eq g c =
    let same : c.one-item.result.items ≡ c.args.text.now = first_of (search rules, grind (arith, common_steps)) in
    (λ _. contains_shown (λ (x : Vec ℕ g.row.A.Denot). x.items) c.args.texts.now c.loop-one.one-index c.one-item.result c.args.text.now c.loop-one-test.true c.one-item.is same, λ _. refl)

pub returns : goal.returns
returns g c = (
  λ t. absurd (false≢true t),
  λ m. let w = shown_contains (λ (x : Vec ℕ g.row.A.Denot). x.items) c.args.texts.now c.args.text.now m in absurd (c.loop-one.invariant w.0 w.1 (omega arith) w.3 w.4),
)
