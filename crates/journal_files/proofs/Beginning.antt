-- A generation that is begun beside the older ones.
use Rattle.std.proofs.Common.{◌≡◌, ◌⊎◌, ⊎_elim, ℕ, zero, suc, ◌+◌, ◌<◌, ◌≤◌, ◌^◌, Bool, true, false, cond, List, ◌++◌, length, take, [], min, Option, Some, None, refl, sym, ap, subst, ◌∙◌, arith, inl, inr}
use Rattle.std.specs.Str.{bytes_eq}
use Rattle.std.specs.List.{AllByRecursion, flat_map}
use Rattle.std.proofs.lemmas.Bool.{cases_eq, cases_lt}
use Rattle.std.proofs.lemmas.List.{length-append, take-append-le, take_min, take_all, take-take, length-take}
use Rattle.std.proofs.lemmas.Slice.Eq.{bytes_eq-Decides}
use Rattle.std.proofs.Math.Seq.{take-append-add}
use Rattle.disk_files.specs.Disk.{File, Disk, Folder, MayStay, SameDisk, Changes, with_file, new_file, with_bytes}
use Rattle.disk_files.specs.Moments.{History, now, LeavesOnly}
use Rattle.disk_files.specs.declared.dir.FileNo.{FileNo}
use Rattle.disk_files.proofs.Moments.{here, elsewhere, follows, leaves_same, weaker, joined}
use Rattle.disk_files.proofs.Table.{itself}
use Rattle.buffer_state.specs.State.{State}
use Rattle.buffer_state.specs.Steps.{settled, reopened}
use Rattle.chunk_journal.specs.Records.{Record, Seal, record_bytes, IsRecord}
use Rattle.chunk_journal.specs.Journal.{journal_bytes}
use Rattle.chunk_journal.specs.Meaning.{EndsUnsealed, after_all, chunk_records, AreTold}
use Rattle.chunk_journal.specs.Places.{Spots, ArePlaced}
use Rattle.chunk_journal.proofs.Coming.{journal_push}
use Rattle.chunk_journal.proofs.ChunkRecords.{told_so}
use Rattle.journal_files.specs.Folders.{journal_name, IsPassedOver, PassesAbove, IsSealed, Opens, OpensWithin}
use Rattle.journal_files.specs.JournalLogs.{JournalLog, records_of, state_at_seal, state_of, reopened_at, new_generation, IsJournalLog, IsOfSome}
use Rattle.journal_files.specs.declared.placing.Placing.TheVariants.{Stays}
use Rattle.journal_files.specs.Views.{OpenJournal}
use Rattle.journal_files.specs.Disks.{Keeps, Recovers, HasNoneFrom}
use Rattle.file_pieces.specs.Adding.{IsLeftOf, Partly}
use Rattle.journal_files.specs.Pieces.{HasNew, IsUnfinished, IsSealing, sealed}
use Rattle.journal_files.proofs.Names.{apart, numbers_apart}
use Rattle.journal_files.proofs.Cuts.{IsCut, cut, sealed_of}
use Rattle.journal_files.proofs.Recovery.{file_with, passed_none, recovers}
use Rattle.journal_files.proofs.Steps.{all_last}

-- ---- what it tells

-- what is told of these chunks can be told so
pub record CanOpen (s : State) : Type 0 where
  pub logged : IsJournalLog (new_generation s)
  pub leads : settled (state_of (new_generation s)) ≡ reopened s

pub can_open : (s : State) → AreTold 0 s.chunks s.next → AllByRecursion IsRecord (flat_map chunk_records s.chunks) → IsRecord (Seal s.next) → CanOpen s
can_open s told each seal =
    let so = told_so s.chunks s.next told seal.fields in
    record {
      logged = record { tells = so.each; greater = so.within; allowed = tt; records = all_last (flat_map chunk_records s.chunks) (Seal s.next) each seal; few = omega arith };
      leads = so.leads;
    }

bytes_of : (s : State) → journal_bytes (records_of (new_generation s)) ≡ journal_bytes (flat_map chunk_records s.chunks) ++ record_bytes (Seal s.next)
bytes_of s = journal_push (flat_map chunk_records s.chunks) (Seal s.next)

-- ---- what there is of it

pub some_first : (name told seal : List ℕ) (old new : Disk) → IsUnfinished name told old new → IsUnfinished name (told ++ seal) old new
some_first name told seal old new (inl same) = inl same
some_first name told seal old new (inr some) =
    let len = min some.len (length told) in
    let e : take some.len told ≡ take len (told ++ seal) = sym (take-append-le len told seal (omega arith) ∙ take_min some.len told) in
    inr (record { len = len; new = record { none = some.new.none; made = subst (λ (b : List ℕ). SameDisk new (with_file old name (Some (with_bytes b new_file)))) e some.new.made } })

pub some_second : (name told seal : List ℕ) (old mid new : Disk) → HasNew name told old mid → Partly name seal mid new → IsUnfinished name (told ++ seal) old new
some_second name told seal old mid new first second =
    let grew = follows old mid new name (Some (with_bytes told new_file)) (with_bytes (take second.len seal)) first.made second.grew in
    inr (record {
      len = length told + second.len;
      new = record {
        none = first.none;
        made = subst (λ (b : List ℕ). SameDisk new (with_file old name (Some (with_bytes b new_file)))) (sym (take-append-add told seal second.len)) grew;
      };
    })

-- so many bytes more
pub new_more : (name told seal : List ℕ) (old mid new : Disk) → HasNew name told old mid → (second : Partly name seal mid new) → HasNew name (told ++ take second.len seal) old new
new_more name told seal old mid new first second = record {
  none = first.none;
  made = follows old mid new name (Some (with_bytes told new_file)) (with_bytes (take second.len seal)) first.made second.grew;
}

-- ---- whole

module _ (journal : OpenJournal) (s : State) (can : CanOpen s) (old mid new : Disk) (told seal : List ℕ) where
  pub whole : told ≡ journal_bytes (flat_map chunk_records s.chunks) → seal ≡ record_bytes (Seal s.next) → 1 ≤ journal.number → journal.number < 2 ^ 32 → journal.len ≡ length told + length seal → ArePlaced (journal_bytes (records_of (new_generation s))) journal.places (state_of (new_generation s))
      → HasNoneFrom journal.path old journal.number → HasNew (journal_name journal.path journal.number) told old mid → Changes (journal_name journal.path journal.number) (sealed seal) mid new → Keeps journal new (new_generation s)
  whole told_is seal_is first last len_is placed none made changes =
      let name = journal_name journal.path journal.number in
      let after = follows old mid new name (Some (with_bytes told new_file)) (sealed seal) made.made changes in
      let bytes : told ++ seal ≡ journal_bytes (records_of (new_generation s)) = ap (λ (z : List ℕ). z ++ seal) told_is ∙ ap (λ (z : List ℕ). journal_bytes (flat_map chunk_records s.chunks) ++ z) seal_is ∙ sym (bytes_of s) in
      record {
        logged = can.logged;
        first = first;
        last = last;
        synced = length (told ++ seal);
        there = here old new name _ after ∙ ap (λ (w : List ℕ). Some (file_with w (length (told ++ seal)))) bytes;
        holds = omega (arith, ap length bytes);
        fits = omega (arith, ap length bytes);
        counted = omega (arith, len_is, ap length bytes, length-append told seal);
        newest = λ n above below.
            elsewhere old new name (journal_name journal.path n) _ after (numbers_apart journal.path journal.number n last below (λ e. omega (arith, e, above))) ∙ none n (omega (arith, above)) below;
        placed = placed;
      }

-- ---- other files

pub others_first : (name bytes other : List ℕ) (old new : Disk) → (other ≡ name → ⊥) → IsUnfinished name bytes old new → new other ≡ old other
others_first name bytes other old new differ (inl same) = same other
others_first name bytes other old new differ (inr some) = elsewhere old new name other _ some.new.made (apart name other (λ e. differ (sym e)))

pub others_whole : (name told seal other : List ℕ) (old mid new : Disk) → (other ≡ name → ⊥) → HasNew name told old mid → Changes name (sealed seal) mid new → new other ≡ old other
others_whole name told seal other old mid new differ made changes =
    elsewhere mid new name other _ changes (apart name other (λ e. differ (sym e))) ∙ elsewhere old mid name other _ made.made (apart name other (λ e. differ (sym e)))

-- ---- a stop while it is begun

-- a folder beside one without the file of this number, which is passed over
module _ (path : List ℕ) (folder hidden : Folder) (number : ℕ) (last : number < 2 ^ 32) (none : hidden (journal_name path number) ≡ None) (passed : IsPassedOver (folder (journal_name path number)))
    (others : (n : ℕ) → n < 2 ^ 32 → (number ≡ n → ⊥) → folder (journal_name path n) ≡ hidden (journal_name path n)) where
  passes_too : (n : ℕ) → n < 2 ^ 32 → IsPassedOver (hidden (journal_name path n)) → IsPassedOver (folder (journal_name path n))
  passes_too n below over =
      ⊎_elim (λ same. subst (λ (m : ℕ). IsPassedOver (folder (journal_name path m))) same passed)
      (λ differ. subst IsPassedOver (sym (others n below differ)) over) (cases_eq number n)

  pub opens_too : (state : State) → Opens path hidden state → Opens path folder state
  opens_too state (inr nothing) = inr (nothing.0, λ n above below. passes_too n below (nothing.1 n above below))
  opens_too state (inl o) =
      let differ : number ≡ o.number → ⊥ = λ e. (let gone = sym none ∙ ap (λ (n : ℕ). hidden (journal_name path n)) e ∙ o.there in cc gone) in
      inl (record {
        number = o.number;
        first = o.first;
        last = o.last;
        bytes = o.bytes;
        there = others o.number o.last differ ∙ o.there;
        above = λ n above below. passes_too n below (o.above n above below);
        means = o.means;
      })

-- the folder without this file
abbrev without : List ℕ → Folder → Folder
without name folder other = cond (bytes_eq name other) None (folder other)

without_at : (b : Bool) (o left : Option (List ℕ)) → b ≡ false → left ≡ cond b None left
without_at true o left e = absurd (cc e)
without_at false o left e = refl

hides : (b : Bool) (o made : Option File) (left : Option (List ℕ)) → (b ≡ true → o ≡ None) → MayStay (cond b made o) left → MayStay o (cond b None left)
hides true o made left none stays = subst (λ (f : Option File). MayStay f None) (sym (none refl)) refl
hides false o made left none stays = stays

state_same : (t : JournalLog) (s : State) → settled (state_of (new_generation s)) ≡ reopened s → (m : IsOfSome t (reopened s)) → (k : ℕ) → k ≤ length (new_generation s).steps → reopened_at (new_generation s) k ≡ reopened_at t m.steps
state_same t s leads m zero le = leads ∙ m.state_is
state_same t s leads m (suc k) le = absurd (omega (arith, le))

-- what all of the steps lead to
pub of_all : (t : JournalLog) (s : State) → IsJournalLog t → settled (state_of t) ≡ reopened s → IsOfSome t (reopened s)
of_all t s is means = record {
  steps = length t.steps;
  enough = is.few;
  begun = omega arith;
  state_is = sym means ∙ ap (λ (z : List Record). settled (after_all (state_at_seal t) z)) (sym (take_all (length t.steps) t.steps (omega arith)));
}

-- what a folder that opens within a log opens to
pub of_folder : (path : List ℕ) (folder : Folder) (t : JournalLog) (s : State) → ((one other : State) → Opens path folder one → Opens path folder other → one ≡ other) → OpensWithin path t folder → Opens path folder s → reopened s ≡ s
    → IsOfSome t (reopened s)
of_folder path folder t s one_way w opens same = record {
  steps = w.steps;
  enough = w.enough;
  begun = w.begun;
  state_is = same ∙ one_way s (reopened_at t w.steps) opens w.opens;
}

-- what is left of a generation: nothing that counts, or what means something
record CutLeft (t : JournalLog) (left : Option (List ℕ)) : Type 0 where
  bytes : List ℕ
  is : left ≡ Some bytes
  cut : IsCut t bytes

abbrev IsSomeCut : JournalLog → Option (List ℕ) → Type 0
IsSomeCut t left = IsPassedOver left ⊎ CutLeft t left

cut_at : (t : JournalLog) → IsJournalLog t → (bytes : List ℕ) (n : ℕ) → take n (journal_bytes (records_of t)) ≡ bytes → IsSomeCut t (Some bytes)
cut_at t is bytes n e =
    ⊎_elim (λ unsealed. inl (subst EndsUnsealed e unsealed)) (λ c. inr (record { bytes = bytes; is = refl; cut = subst (IsCut t) e c })) (cut t is n)

-- a beginning of a generation that tells what the older one means
module _ (path : List ℕ) (number : ℕ) (t : JournalLog) (s : State) (can : CanOpen s) (first : 1 ≤ number) (last : number < 2 ^ 32) (m : IsOfSome t (reopened s)) (folder : Folder)
    (above : PassesAbove path folder number) where
  pub opens_new : (bytes : List ℕ) → folder (journal_name path number) ≡ Some bytes → IsCut (new_generation s) bytes → OpensWithin path t folder
  opens_new bytes there c = record {
    steps = m.steps;
    enough = m.enough;
    begun = m.begun;
    opens = inl (record {
      number = number;
      first = first;
      last = last;
      bytes = bytes;
      there = there;
      above = above;
      means = subst (IsSealed bytes) (state_same t s can.leads m c.steps c.begun) (sealed_of bytes _ c.used c.means);
    });
  }

  -- what is left of the file: nothing, or some of the bytes
  left_opens : (hidden : Folder) → hidden (journal_name path number) ≡ None → ((n : ℕ) → n < 2 ^ 32 → (number ≡ n → ⊥) → folder (journal_name path n) ≡ hidden (journal_name path n))
      → OpensWithin path t hidden → (left : Option (List ℕ)) → folder (journal_name path number) ≡ left → IsSomeCut (new_generation s) left → OpensWithin path t folder
  left_opens hidden none others w left is (inl passed) = record {
    steps = w.steps;
    enough = w.enough;
    begun = w.begun;
    opens = opens_too path folder hidden number last none (subst IsPassedOver (sym is) passed) others (reopened_at t w.steps) w.opens;
  }
  left_opens hidden none others w left is (inr c) = opens_new c.bytes (is ∙ c.is) c.cut

-- the bytes that are left
cut_of : (t : JournalLog) → IsJournalLog t → (written : List ℕ) (len : ℕ) (left : Option (List ℕ)) → written ≡ journal_bytes (records_of t) → MayStay (Some (with_bytes (take len written) new_file)) left → IsSomeCut t left
cut_of t is written len None e stays = inl tt
cut_of t is written len (Some bytes) e stays =
    elim (cases_lt len (length bytes)) [
      | inl lt ↦ cut_at t is bytes len (ap (take len) (sym e) ∙ sym (take_all (length bytes) (take len written) (omega (arith, lt, length-take len written))) ∙ stays.1)
      | inr le ↦ cut_at t is bytes (length bytes) (ap (take (length bytes)) (sym e) ∙ sym (take-take (length bytes) len written le) ∙ stays.1)
    ]

pub unfinished : (path : List ℕ) (number : ℕ) (t : JournalLog) (s : State) (old new : Disk) → CanOpen s → 1 ≤ number → number < 2 ^ 32 → IsOfSome t (reopened s) → HasNoneFrom path old number
    → Recovers path old t → IsUnfinished (journal_name path number) (journal_bytes (records_of (new_generation s))) old new → Recovers path new t
unfinished path number t s old new can first last m none before (inl same) folder leaves = before folder (leaves_same new old folder same leaves)
unfinished path number t s old new can first last m none before (inr some) folder leaves =
    let name = journal_name path number in
    let file : Option File = Some (with_bytes (take some.len (journal_bytes (records_of (new_generation s)))) new_file) in
    let hidden = without name folder in
    let w = before hidden (λ q. hides (bytes_eq name q) (old q) file (folder q) (λ e. ap old (sym ((bytes_eq-Decides name q).0 e)) ∙ some.new.none) (subst (λ (f : Option File). MayStay f (folder q)) (some.new.made q) (leaves q))) in
    let gone : hidden name ≡ None = ap (λ (b : Bool). cond b None (folder name)) (itself name) in
    let at : new name ≡ file = here old new name _ some.new.made in
    left_opens path number t s can first last m folder
    (λ n above below. passed_none (folder (journal_name path n)) (subst (λ (f : Option File). MayStay f (folder (journal_name path n)))
    (elsewhere old new name (journal_name path n) _ some.new.made (numbers_apart path number n last below (λ e. omega (arith, e, above))) ∙ none n (omega (arith, above)) below) (leaves (journal_name path n))))
    hidden gone (λ n below differ. without_at (bytes_eq name (journal_name path n)) (folder (journal_name path n)) (folder (journal_name path n)) (numbers_apart path number n last below differ))
    w (folder name) refl (cut_of (new_generation s) can.logged (journal_bytes (records_of (new_generation s))) some.len (folder name) refl (subst (λ (f : Option File). MayStay f (folder name)) at (leaves name)))

-- ---- a journal whose older files change

pub kept_above : (journal : OpenJournal) (disk after : Disk) (t : JournalLog) → Keeps journal disk t → ((n : ℕ) → journal.number ≤ n → n < 2 ^ 32 → after (journal_name journal.path n) ≡ disk (journal_name journal.path n)) → Keeps journal after t
kept_above journal disk after t keeps same = record {
  logged = keeps.logged;
  first = keeps.first;
  last = keeps.last;
  synced = keeps.synced;
  there = same journal.number (omega arith) keeps.last ∙ keeps.there;
  holds = keeps.holds;
  fits = keeps.fits;
  counted = keeps.counted;
  newest = λ n above below. same n (omega (arith, above)) below ∙ keeps.newest n above below;
  placed = keeps.placed;
}

-- a new generation opens to the state of the older one
pub renewed : (path : List ℕ) (t : JournalLog) (s : State) (folder : Folder) → settled (state_of (new_generation s)) ≡ reopened s → IsOfSome t (reopened s) → OpensWithin path (new_generation s) folder → OpensWithin path t folder
renewed path t s folder leads m w = record {
  steps = m.steps;
  enough = m.enough;
  begun = m.begun;
  opens = subst (Opens path folder) (state_same t s leads m w.steps w.begun) w.opens;
}

-- ---- beginning as it is done

module _ (path : List ℕ) (number : ℕ) (s : State) (can : CanOpen s) (name told : List ℕ) (first : 1 ≤ number) (last : number < 2 ^ 32) (name_is : name ≡ journal_name path number)
    (told_is : told ≡ journal_bytes (flat_map chunk_records s.chunks)) where
  run_is : (seal : List ℕ) → seal ≡ record_bytes (Seal s.next) → told ++ seal ≡ journal_bytes (records_of (new_generation s))
  run_is seal seal_is = ap (λ (z : List ℕ). z ++ seal) told_is ∙ ap (λ (z : List ℕ). journal_bytes (flat_map chunk_records s.chunks) ++ z) seal_is ∙ sym (bytes_of s)

  stops_so : (t : JournalLog) (old new : Disk) (seal : List ℕ) → seal ≡ record_bytes (Seal s.next) → IsOfSome t (reopened s) → HasNoneFrom path old number → Recovers path old t
      → IsUnfinished name (told ++ seal) old new → Recovers path new t
  stops_so t old new seal seal_is m none before some =
      unfinished path number t s old new can first last m none before
      (subst (λ (n : List ℕ). IsUnfinished n (journal_bytes (records_of (new_generation s))) old new) name_is (subst (λ (b : List ℕ). IsUnfinished name b old new) (run_is seal seal_is) some))

  stops_early : (t : JournalLog) (old new : Disk) → IsOfSome t (reopened s) → HasNoneFrom path old number → Recovers path old t → IsUnfinished name told old new → Recovers path new t
  stops_early t old new m none before some =
      stops_so t old new (record_bytes (Seal s.next)) refl m none before (some_first name told (record_bytes (Seal s.next)) old new some)

  pub ends : (journal : OpenJournal) (old mid new : Disk) (seal : List ℕ) → journal.path ≡ path → journal.number ≡ number → journal.len ≡ length told + length seal → ArePlaced (journal_bytes (records_of (new_generation s))) journal.places (state_of (new_generation s))
      → seal ≡ record_bytes (Seal s.next) → HasNoneFrom path old number
      → HasNew name told old mid → Changes name (sealed seal) mid new → Keeps journal new (new_generation s)
  ends journal old mid new seal path_is number_is len_is placed seal_is none made changes =
      let named : name ≡ journal_name journal.path journal.number = name_is ∙ ap (λ (p : List ℕ). journal_name p number) (sym path_is) ∙ ap (λ (n : ℕ). journal_name journal.path n) (sym number_is) in
      whole journal s can old mid new told seal told_is seal_is (omega (arith, first, number_is)) (omega (arith, last, number_is)) len_is placed
      (λ n from below. ap (λ (p : List ℕ). old (journal_name p n)) path_is ∙ none n (omega (arith, from, number_is)) below)
      (subst (λ (z : List ℕ). HasNew z told old mid) named made) (subst (λ (z : List ℕ). Changes z (sealed seal) mid new) named changes)

  -- what a stop leaves at each moment
  module _ (t : JournalLog) (m : IsOfSome t (reopened s)) (old mid : History) (none : HasNoneFrom path (now old) number) (before : Recovers path (now old) t) (makes : LeavesOnly old mid (IsLeftOf (IsUnfinished name told (now old)))) where
    pub making : LeavesOnly old mid (OpensWithin path t)
    making =
        weaker old mid (IsLeftOf (IsUnfinished name told (now old))) (OpensWithin path t)
        (λ folder left. stops_early t (now old) left.disk m none before left.so folder left.stays) makes

    module _ (file : FileNo) (places : Spots) (placed : ArePlaced (journal_bytes (records_of (new_generation s))) places (state_of (new_generation s))) (seal : List ℕ) (seal_is : seal ≡ record_bytes (Seal s.next))
        (made : HasNew name told (now old) (now mid)) where
      seal_left : (disk : Disk) → IsSealing name seal (now mid) disk → Recovers path disk t
      seal_left disk (inl same) folder leaves = making.each mid.moment making.later (omega arith) folder (leaves_same disk (now mid) folder same leaves)
      seal_left disk (inr (inl some)) folder leaves = stops_so t (now old) disk seal seal_is m none before (some_second name told seal (now old) (now mid) disk made some) folder leaves
      seal_left disk (inr (inr changes)) folder leaves =
          let journal : OpenJournal = record { path = path; number = number; file = file; len = length told + length seal; ready = []; places = places; placing = Stays } in
          renewed path t s folder can.leads m
          (recovers journal disk (new_generation s) (ends journal (now old) (now mid) disk seal refl refl refl placed seal_is none made changes) folder leaves)

      pub sealing : (new : History) → LeavesOnly mid new (IsLeftOf (IsSealing name seal (now mid))) → LeavesOnly old new (OpensWithin path t)
      sealing new seals =
          joined old mid new (OpensWithin path t) making
          (weaker mid new (IsLeftOf (IsSealing name seal (now mid))) (OpensWithin path t) (λ folder left. seal_left left.disk left.so folder left.stays) seals)
