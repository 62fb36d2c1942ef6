-- A folder opens one way.
use Rattle.std.proofs.Common.{◌≡◌, ℕ, ◌<◌, List, Option, Some, sym, ap, subst, ◌∙◌, arith, inl, inr}
use Rattle.std.proofs.lemmas.Bool.{cases_lt}
use Rattle.std.proofs.lemmas.Option.{same_Some}
use Rattle.disk_files.specs.Disk.{Folder}
use Rattle.buffer_state.specs.State.{State}
use Rattle.chunk_journal.specs.Meaning.{IsReplayed, IsDamaged, Answer, Means, NotSealed, BadRecord}
use Rattle.chunk_journal.specs.Laws.{AnswersOneWay}
use Rattle.journal_files.specs.Folders.{journal_name, IsPassedOver, OpensBy, Opens, IsDamagedFolder}
use Rattle.journal_files.proofs.Cuts.{used_of, replayed_of}

state_in : State → Answer → State
state_in other (Means state used) = state
state_in other NotSealed = other
state_in other BadRecord = other

module _ (law : AnswersOneWay) where
  -- a sealed generation isn't passed over
  counts : (bytes : List ℕ) (file : Option (List ℕ)) (state : State) (used : ℕ) → file ≡ Some bytes → IsReplayed bytes state used → IsPassedOver file → ⊥
  counts bytes file state used there means passed =
      let differs : Means state used ≡ NotSealed = law bytes (Means state used) NotSealed means (subst IsPassedOver there passed) in
      cc differs

  same_state : (bytes : List ℕ) (one other : State) (m n : ℕ) → IsReplayed bytes one m → IsReplayed bytes other n → one ≡ other
  unfolding state_in
  same_state bytes one other m n a b = ap (state_in other) (law bytes (Means one m) (Means other n) a b)

  not_below : (path : List ℕ) (folder : Folder) (one other : State) (a : OpensBy path folder one) (b : OpensBy path folder other) → a.number < b.number → ⊥
  not_below path folder one other a b lt =
      counts b.bytes (folder (journal_name path b.number)) other _ b.there (replayed_of b.bytes other b.means) (a.above b.number lt b.last)

  same_generation : (path : List ℕ) (folder : Folder) (one other : State) (a : OpensBy path folder one) (b : OpensBy path folder other) → a.number ≡ b.number → one ≡ other
  same_generation path folder one other a b e =
      let same : a.bytes ≡ b.bytes = same_Some _ _ (sym a.there ∙ ap (λ (n : ℕ). folder (journal_name path n)) e ∙ b.there) in
      let used = used_of a.bytes one a.means in
      same_state b.bytes one other used (used_of b.bytes other b.means) (subst (λ (z : List ℕ). IsReplayed z one used) same (replayed_of a.bytes one a.means)) (replayed_of b.bytes other b.means)

  pub one_way : (path : List ℕ) (folder : Folder) (one other : State) → Opens path folder one → Opens path folder other → one ≡ other
  one_way path folder one other (inl a) (inl b) =
      elim (cases_lt a.number b.number) [
        | inl lt ↦ absurd (not_below path folder one other a b lt)
        | inr le ↦ elim (cases_lt b.number a.number) [
          | inl lt ↦ absurd (not_below path folder other one b a lt)
          | inr ge ↦ same_generation path folder one other a b (omega (arith, le, ge))
        ]
      ]
  one_way path folder one other (inl a) (inr b) =
      absurd (counts a.bytes (folder (journal_name path a.number)) one _ a.there (replayed_of a.bytes one a.means) (b.1 a.number (omega (arith, a.first)) a.last))
  one_way path folder one other (inr a) (inl b) =
      absurd (counts b.bytes (folder (journal_name path b.number)) other _ b.there (replayed_of b.bytes other b.means) (a.1 b.number (omega (arith, b.first)) b.last))
  one_way path folder one other (inr a) (inr b) = a.0 ∙ sym b.0

  -- a damaged generation isn't passed over
  broken : (bytes : List ℕ) (file : Option (List ℕ)) → file ≡ Some bytes → IsDamaged bytes → IsPassedOver file → ⊥
  broken bytes file there bad passed =
      let differs : BadRecord ≡ NotSealed = law bytes BadRecord NotSealed bad (subst IsPassedOver there passed) in
      cc differs

  at_one : (path : List ℕ) (folder : Folder) (state : State) (a : OpensBy path folder state) (d : IsDamagedFolder path folder) → a.number ≡ d.number → ⊥
  at_one path folder state a d e =
      let same : a.bytes ≡ d.bytes = same_Some _ _ (sym a.there ∙ ap (λ (n : ℕ). folder (journal_name path n)) e ∙ d.highest.there) in
      let used = used_of a.bytes state a.means in
      let differs : Means state used ≡ BadRecord = law d.bytes (Means state used) BadRecord (subst (λ (z : List ℕ). IsReplayed z state used) same (replayed_of a.bytes state a.means)) d.damaged in
      cc differs

  pub undamaged : (path : List ℕ) (folder : Folder) (state : State) → Opens path folder state → IsDamagedFolder path folder → ⊥
  undamaged path folder state (inl a) d =
      elim (cases_lt a.number d.number) [
        | inl lt ↦ broken d.bytes (folder (journal_name path d.number)) d.highest.there d.damaged (a.above d.number lt d.highest.last)
        | inr le ↦ elim (cases_lt d.number a.number) [
          | inl lt ↦ counts a.bytes (folder (journal_name path a.number)) state _ a.there (replayed_of a.bytes state a.means) (d.highest.above a.number lt a.last)
          | inr ge ↦ at_one path folder state a d (omega (arith, le, ge))
        ]
      ]
  undamaged path folder state (inr a) d =
      broken d.bytes (folder (journal_name path d.number)) d.highest.there d.damaged (a.1 d.number (omega (arith, d.highest.first)) d.highest.last)
