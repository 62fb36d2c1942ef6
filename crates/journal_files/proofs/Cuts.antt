-- What a beginning of a generation's bytes means.
use Rattle.std.proofs.Common.{◌≡◌, ◌⊎◌, ℕ, suc, ◌+◌, ◌-◌, ◌<◌, ◌≤◌, Bool, true, false, cond, ltb, List, [], ◌∷◌, ◌++◌, length, take, drop, length-take, refl, sym, ap, subst, ◌∙◌, append_assoc, arith, inl, inr}
use Rattle.std.proofs.lemmas.Bool.{cases_lt, ltb-true}
use Rattle.std.proofs.lemmas.List.{length-append, take-append-drop, append-nil}
use Rattle.std.specs.List.{AllByRecursion}
use Rattle.buffer_state.specs.State.{State}
use Rattle.buffer_state.specs.Steps.{settled}
use Rattle.chunk_journal.specs.Records.{Record, Seal, record_bytes, IsRecord}
use Rattle.chunk_journal.specs.Journal.{IsJournal, journal_bytes, within}
use Rattle.chunk_journal.specs.Meaning.{Leads, IsReplayed, EndsUnsealed, after_all}
use Rattle.chunk_journal.proofs.Answered.{cuts_before, cuts_behind}
use Rattle.chunk_journal.proofs.Cuts.{cut_whole}
use Rattle.journal_files.specs.Folders.{IsSealed}
use Rattle.journal_files.specs.JournalLogs.{JournalLog, records_of, state_at_seal, state_of, reopened_at, IsJournalLog}

-- ---- how many records

most_by : (len n x most : ℕ) (b : Bool) → x ≤ most → cond b 0 (suc x) ≤ suc most
most_by len n x most true le = omega arith
most_by len n x most false le = omega (arith, le)

pub within_most : (records : List Record) (n : ℕ) → within records n ≤ length records
within_most [] n = omega arith
within_most (item ∷ records) n =
    let len = length (record_bytes item) in
    most_by len n (within records (n - len)) (length records) (ltb n len) (within_most records (n - len))

least_by : (len n x least : ℕ) (b : Bool) → len ≤ n → least ≤ x → ltb n len ≡ b → suc least ≤ cond b 0 (suc x)
least_by len n x least true le fits e = absurd (omega (arith, le, ltb-true _ _ e))
least_by len n x least false le fits e = omega (arith, fits)

-- in the bytes of the first records these end, whatever follows
pub within_front : (front back : List Record) (n : ℕ) → length (journal_bytes front) ≤ n → length front ≤ within (front ++ back) n
within_front [] back n le = omega arith
within_front (item ∷ front) back n le =
    let len = length (record_bytes item) in
    let total : length (journal_bytes (item ∷ front)) ≡ len + length (journal_bytes front) = length-append (record_bytes item) (journal_bytes front) in
    least_by len n (within (front ++ back) (n - len)) (length front) (ltb n len) (omega (arith, total, le)) (within_front front back (n - len) (omega (arith, total, le))) refl

-- ---- a cut

-- the bytes are a journal of a log's generation with so many of its steps
pub record IsCut (t : JournalLog) (bytes : List ℕ) : Type 0 where
  pub steps : ℕ
  pub begun : steps ≤ length t.steps
  pub used : ℕ
  pub means : IsReplayed bytes (reopened_at t steps) used

-- what a log's records lead to
abbrev pub leads_of : (t : JournalLog) → IsJournalLog t → Leads (records_of t) (state_of t)
leads_of t is = record {
  told = t.told;
  next = t.next;
  steps = t.steps;
  tells = is.tells;
  greater = is.greater;
  allowed = is.allowed;
  whole = refl;
  here = refl;
}

-- a generation that is replayed is sealed
pub sealed_of : (bytes : List ℕ) (state : State) (used : ℕ) → IsReplayed bytes state used → IsSealed bytes state
sealed_of bytes state used r =
    let l = r.generation.leads in
    record {
      logged = record { told = l.told; next = l.next; steps = l.steps; durable = 0 };
      told = record { tells = l.tells; greater = l.greater; allowed = l.allowed; records = subst (AllByRecursion IsRecord) l.whole r.journal.each; few = omega arith };
      rest = r.rest;
      journal = subst (λ (z : List Record). IsJournal bytes z r.rest) l.whole r.journal;
      means = r.generation.means ∙ ap settled l.here;
    }

-- how many bytes the records of a sealed generation have
abbrev pub used_of : (bytes : List ℕ) (state : State) → IsSealed bytes state → ℕ
used_of bytes state s = length (journal_bytes (records_of s.logged))

-- a sealed generation is replayed
pub replayed_of : (bytes : List ℕ) (state : State) (s : IsSealed bytes state) → IsReplayed bytes state (used_of bytes state s)
replayed_of bytes state s = record {
  records = records_of s.logged;
  rest = s.rest;
  journal = s.journal;
  generation = record { last = state_of s.logged; leads = leads_of s.logged s.told; means = s.means };
  ends = refl;
}

journal_of : (t : JournalLog) → IsJournalLog t → IsJournal (journal_bytes (records_of t)) (records_of t) []
journal_of t is = record {
  each = is.records;
  whole = sym (append-nil (journal_bytes (records_of t)));
  torn = inl (omega arith);
}

length_of : (t : JournalLog) → length (records_of t) ≡ length t.told + 1 + length t.steps
length_of t = omega (arith, length-append t.told (Seal t.next ∷ t.steps))

-- with so many records, the Seal among them
sealed_with : (t : JournalLog) → IsJournalLog t → (bytes : List ℕ) (j : ℕ) (end : List ℕ) → IsJournal bytes (take j (records_of t)) end → j ≤ length (records_of t) → length t.told < j
    → (c : IsCut t bytes) × (j ≡ length t.told + 1 + c.steps)
sealed_with t is bytes j end journal most more =
    let k = j - (length t.told + 1) in
    let e : j ≡ length t.told + 1 + k = omega (arith, more) in (
      record {
        steps = k;
        begun = omega (arith, length_of t, most, more);
        used = length (journal_bytes (take j (records_of t)));
        means = record {
          records = take j (records_of t);
          rest = end;
          journal = journal;
          generation = record {
            last = after_all (state_at_seal t) (take k t.steps);
            leads = subst (λ (i : ℕ). Leads (take i (records_of t)) (after_all (state_at_seal t) (take k t.steps))) (sym e) (cuts_behind (records_of t) (state_of t) (leads_of t is) k);
            means = refl;
          };
          ends = refl;
        };
      },
      e,
    )

-- a beginning of a generation's bytes ends before the Seal, or means what it means after some of
-- the steps
pub cut : (t : JournalLog) → IsJournalLog t → (n : ℕ) → EndsUnsealed (take n (journal_bytes (records_of t))) ⊎ IsCut t (take n (journal_bytes (records_of t)))
cut t is n =
    let c = cut_whole (journal_bytes (records_of t)) (records_of t) [] n (journal_of t is) in
    let j = within (records_of t) n in
    elim (cases_lt (length t.told) j) [
      | inl more ↦ inr (sealed_with t is (take n (journal_bytes (records_of t))) j c.0 c.1 (within_most (records_of t) n) more).0
      | inr le ↦ inl (record {
        records = take j (records_of t);
        rest = c.0;
        journal = c.1;
        unsealed = cuts_before (records_of t) (state_of t) (leads_of t is) j le;
      })
    ]

-- the records that each stop leaves
abbrev pub durable_records : JournalLog → List Record
durable_records t = t.told ++ Seal t.next ∷ take t.durable t.steps

-- where the durable records are whole, the durable steps are among those
pub record IsDurableCut (t : JournalLog) (bytes : List ℕ) : Type 0 where
  pub cut : IsCut t bytes
  pub enough : t.durable ≤ cut.steps

split_durable : (t : JournalLog) → durable_records t ++ drop t.durable t.steps ≡ records_of t
split_durable t = append_assoc t.told (Seal t.next ∷ take t.durable t.steps) (drop t.durable t.steps)
    ∙ ap (λ (z : List Record). t.told ++ Seal t.next ∷ z) (take-append-drop t.durable t.steps)

length_durable : (t : JournalLog) → t.durable ≤ length t.steps → length (durable_records t) ≡ length t.told + 1 + t.durable
length_durable t le = omega (arith, le, length-append t.told (Seal t.next ∷ take t.durable t.steps), length-take t.durable t.steps)

pub durable_cut : (t : JournalLog) → IsJournalLog t → (n : ℕ) → length (journal_bytes (durable_records t)) ≤ n → IsDurableCut t (take n (journal_bytes (records_of t)))
durable_cut t is n le =
    let c = cut_whole (journal_bytes (records_of t)) (records_of t) [] n (journal_of t is) in
    let j = within (records_of t) n in
    let least : length (durable_records t) ≤ j = subst (λ (z : List Record). length (durable_records t) ≤ within z n) (split_durable t) (within_front (durable_records t) (drop t.durable t.steps) n le) in
    let s = sealed_with t is (take n (journal_bytes (records_of t))) j c.0 c.1 (within_most (records_of t) n) (omega (arith, least, length_durable t is.few)) in
    record { cut = s.0; enough = omega (arith, least, length_durable t is.few, s.1) }
