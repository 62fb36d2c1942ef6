-- No line goes missing.
use Rattle.std.proofs.Common.{ℕ, ◌≡◌, ◌-◌, inl, inr, List, [], ◌∷◌, ◌++◌, take, Contains, refl, sym, ap, ◌∙◌, subst, append_assoc}
use Rattle.std.specs.List.{AllByRecursion}
use Rattle.std.proofs.lemmas.List.Elements.{Contains-append_left}
use Rattle.lru.proofs.CallerLemmas.{Contains-take}
use Rattle.lru.proofs.Splits.{Contains-cons, Contains-middle, Contains-nil}
use Rattle.sha2.specs.Sha256.{sha256}
use Rattle.recent_lines.specs.Laws.{IsAmong, NoneGoesMissing}
use Rattle.recent_lines.specs.Recent.{remembering, AreKept, Recent}

-- each digest that is remembered is that of one of these lines
abbrev AreOf : Recent → List (List ℕ) → Type 0
AreOf recent lines = (digest : List ℕ) → Contains recent.digests digest → (line : List ℕ) × Contains lines line × (sha256 line ≡ digest)

still_of : (recent : Recent) (lines : List (List ℕ)) (line : List ℕ) → AreOf recent lines → AreOf (remembering recent line) (lines ++ line ∷ [])
still_of recent lines line are digest has = elim (Contains-cons (sha256 line) (take (recent.most - 1) recent.digests) digest has) [
  | inl same ↦ (line, Contains-middle lines line [], same)
  | inr older ↦ let one = are digest (Contains-take (recent.most - 1) recent.digests digest older) in (one.0, Contains-append_left lines (line ∷ []) one.0 one.1, one.2)
]

among : (lines kept before : List (List ℕ)) (recent now : Recent) → AreOf recent before → AreKept recent lines kept now → AllByRecursion (IsAmong (before ++ kept)) lines
among [] kept before recent now are each = tt
among (line ∷ lines) kept before recent now are (inl (again, each)) =
    let one = are (sha256 line) again in
    ((one.0, Contains-append_left before kept one.0 one.1, one.2), among lines kept before recent now are each)
among (line ∷ lines) kept before recent now are (inr (not, (others, e, each))) =
    let whole : before ++ kept ≡ (before ++ line ∷ []) ++ others = ap (λ k. before ++ k) e ∙ sym (append_assoc before (line ∷ []) others) in (
      (line, subst (λ k. Contains (before ++ k) line) (sym e) (Contains-middle before line others), refl),
      subst (λ k. AllByRecursion (IsAmong k) lines) (sym whole) (among lines others (before ++ line ∷ []) (remembering recent line) now (still_of recent before line are) each),
    )

pub none_missing : NoneGoesMissing
none_missing recent now lines kept none each = among lines kept [] recent now (λ digest has. absurd (Contains-nil digest (subst (λ ds. Contains ds digest) none has))) each
