use Rattle.std.proofs.Common.{ℕ, ◌<◌, ◌≤◌, inl, ⊎_elim, sym, subst, ◌∙◌, arith}
use Rattle.numbered_files.specs.Names.{IsNumber}
use Rattle.numbered_files.proofs.Counted.{differ}
use Rattle.numbered_files.proofs.Found.{with_one}
use Rattle.numbered_files.proofs.folder.take_in.Goals as goal

pub returns-then-number-eq0 : goal.returns-then-number-eq0
returns-then-number-eq0 g c n = (
  (λ t. inl t),
  ⊎_elim (λ t. t) (λ p.
      let same = differ c.args.family c.in-Some.number n (omega arith) p.1 (sym c.in-Some.ensures ∙ p.2) in
      let from : 1 ≤ n = p.0 in
      absurd (omega arith)),
)

pub returns : goal.returns
returns g c n =
    let small : c.in-Some.number < 4294967296 = omega arith in
    let from : 1 ≤ c.in-Some.number = omega arith in
    with_one c.in-Some.number c.args.found.now c.insert.new.self c.in_ok-insert.ensures.updates.0 n (IsNumber c.args.family c.args.name.now n)
    (λ same. subst (λ (q : ℕ). IsNumber c.args.family c.args.name.now q) same (from, small, c.in-Some.ensures))
    (λ p. differ c.args.family c.in-Some.number n small p.1 (sym c.in-Some.ensures ∙ p.2))
