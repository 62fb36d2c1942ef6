-- A file is fed to an outline, one part after another.
use Rattle.std.proofs.Common.{◌≡◌, ℕ, zero, suc, ◌+◌, ◌<◌, ◌≤◌, ◌^◌, Bool, true, false, cond, ltb, List, [], ◌∷◌, ◌++◌, length, take, drop, Option, Some, refl, sym, ap, subst, ◌∙◌, append-nil, append_assoc, ⊎_elim, arith, inl, inr}
use Rattle.std.specs.Prelude.{IsSome}
use Rattle.std.proofs.lemmas.Bool.{cases_lt, ltb-false}
use Rattle.std.proofs.lemmas.List.{take_all, take-append-le, take-append-drop}
use Rattle.disk_files.specs.Disk.{SameDisk, reads, read_of}
use Rattle.disk_files.specs.Moments.{History, now, Elapses}
use Rattle.disk_files.specs.declared.dir.FileNo.{FileNo}
use Rattle.chunk_journal.specs.Feeding.{Heard, IsAfter}
use Rattle.chunk_journal.specs.Journal.{IsTorn, IsBad, IsJournal, journal_bytes, within}
use Rattle.chunk_journal.specs.Meaning.{IsDamaged}
use Rattle.chunk_journal.specs.Records.{Record, record_bytes, IsRecord}
use Rattle.chunk_journal.proofs.Cuts.{cut_whole}
use Rattle.file_pieces.specs.Pieces.{HasPart, part_of}
use Rattle.file_pieces.proofs.ReadOn.{elapsed}
use Rattle.file_pieces.proofs.Sums.{parts_joined}
use Rattle.journal_files.specs.Found.{HasHeard}

-- nothing of the disk changed, nothing was refused, and the first bytes of the file were fed
pub record Feeds {D : Type 0} (honest : D → Type 0) (history : D → History) (opened : D → FileNo → Option (List ℕ)) (faults : D → ℕ) (file : FileNo) (len done : ℕ) (outline : Heard) (first dir : D) : Type 0 where
  pub is_honest : honest first → honest dir
  pub time : honest first → Elapses (history first) (history dir)
  pub same : honest first → SameDisk (now (history dir)) (now (history first))
  pub stays_open : (other : FileNo) → opened dir other ≡ opened first other
  pub quiet : faults dir ≡ faults first
  pub heard : HasHeard outline
  pub fed : outline.fed ≡ done
  pub all : honest first → (name bytes : List ℕ) → opened first file ≡ Some name → reads (now (history first)) name ≡ Some bytes → len ≡ length bytes
  pub so_far : honest first → (name bytes : List ℕ) → opened first file ≡ Some name → reads (now (history first)) name ≡ Some bytes → IsAfter outline (take done bytes)

-- ---- what is damaged stays so, whatever follows it

front : (l m : List ℕ) → take (length l) (l ++ m) ≡ l
front l m = take-append-le (length l) l m (omega arith) ∙ take_all (length l) l (omega arith)

-- a beginning of torn bytes is torn
torn_front : (l m : List ℕ) → IsTorn (l ++ m) → IsTorn l
torn_front l m torn =
    let cut = cut_whole (l ++ m) [] (l ++ m) (length l) (record { each = tt; whole = refl; torn = torn }) in
    subst IsTorn (sym cut.1.whole ∙ front l m) cut.1.torn

torn_by : (l : List ℕ) (item : Record) (n : ℕ) (b : Bool) → ltb n (length (record_bytes item)) ≡ b → n < length (record_bytes item)
    → (end : List ℕ) × IsJournal l (take (cond b 0 (suc (within [] 0))) (item ∷ [])) end → IsTorn l
torn_by l item n true e less j = subst IsTorn (sym j.1.whole) j.1.torn
torn_by l item n false e less j = absurd (omega (arith, ltb-false _ _ e, less))

-- so is a proper beginning of a record
torn_record : (l m : List ℕ) (item : Record) (more : List ℕ) → IsRecord item → l ++ m ≡ record_bytes item ++ more → length l < length (record_bytes item) → IsTorn l
torn_record l m item more is e less =
    let bytes = record_bytes item in
    let cut = cut_whole bytes (item ∷ []) [] (length l) (record { each = (is, tt); whole = sym (append-nil bytes) ∙ sym (append-nil (bytes ++ [])); torn = inl (omega arith) }) in
    let same : take (length l) bytes ≡ l = sym (take-append-le (length l) bytes more (omega (arith, less))) ∙ sym (ap (take (length l)) e) ∙ front l m in
    torn_by l item (length l) (ltb (length l) (length bytes)) refl less (subst (λ (z : List ℕ). (end : List ℕ) × IsJournal z (take (within (item ∷ []) (length l)) (item ∷ [])) end) same cut)

bad_more : (l m : List ℕ) → IsBad l → IsBad (l ++ m)
bad_more l m bad = record {
  whole = λ torn. bad.whole (torn_front l m torn);
  none = λ item more is e. ⊎_elim
      (λ less. bad.whole (torn_record l m item more is e less))
      (λ within. bad.none item (drop (length (record_bytes item)) l) is
      (sym (take-append-drop (length (record_bytes item)) l) ∙ ap (λ (z : List ℕ). z ++ drop (length (record_bytes item)) l)
      (sym (take-append-le (length (record_bytes item)) l m within) ∙ ap (take (length (record_bytes item))) e ∙ front (record_bytes item) more)))
      (cases_lt (length l) (length (record_bytes item)));
}

damaged_more : (l m : List ℕ) → IsDamaged l → IsDamaged (l ++ m)
damaged_more l m d = record {
  records = d.records;
  rest = d.rest ++ m;
  begins = record { each = d.begins.each; whole = ap (λ (z : List ℕ). z ++ m) d.begins.whole ∙ append_assoc (journal_bytes d.records) d.rest m };
  wrong = ⊎_elim (λ misplaced. inl misplaced) (λ bad. inr (bad_more d.rest m bad)) d.wrong;
}

-- a damaged beginning
pub damaged_front : (n : ℕ) (l : List ℕ) → IsDamaged (take n l) → IsDamaged l
damaged_front n l d = subst IsDamaged (take-append-drop n l) (damaged_more (take n l) (drop n l) d)

-- ---- another part

module _ {D : Type 0} (honest : D → Type 0) (history : D → History) (opened : D → FileNo → Option (List ℕ)) (faults : D → ℕ) (file : FileNo) (len done : ℕ) (outline : Heard) (first dir : D) (so : Feeds honest history opened faults file len done outline first dir) where
  pub stays_some : IsSome (opened first file) → IsSome (opened dir file)
  stays_some is = subst IsSome (sym (so.stays_open file)) is

  pub reads_still : honest first → (name bytes : List ℕ) → reads (now (history first)) name ≡ Some bytes → reads (now (history dir)) name ≡ Some bytes
  reads_still h name bytes there = ap read_of (so.same h name) ∙ there

  has_next : (next : ℕ) (bytes : List ℕ) → done + next ≤ len → len < 2 ^ 64 → len ≡ length bytes → HasPart bytes done next
  has_next next bytes within small all = (omega (arith, within, all), omega (arith, within, small))

  -- an error in between
  pub same_on : (new : D) → honest first → SameDisk (now (history new)) (now (history dir)) → SameDisk (now (history new)) (now (history first))
  same_on new h same name = same name ∙ so.same h name

  pub damaged_there : (next : ℕ) → done + next ≤ len → len < 2 ^ 64
      → (honest dir → (name bytes seen : List ℕ) → opened dir file ≡ Some name → reads (now (history dir)) name ≡ Some bytes → HasPart bytes done next → IsAfter outline seen → IsDamaged seen)
      → honest first → (name bytes : List ℕ) → opened first file ≡ Some name → reads (now (history first)) name ≡ Some bytes → IsDamaged bytes
  damaged_there next within small damaged h name bytes named there =
      damaged_front done bytes (damaged (so.is_honest h) name bytes (take done bytes) (so.stays_open file ∙ named) (reads_still h name bytes there) (has_next next bytes within small (so.all h name bytes named there)) (so.so_far h name bytes named there))

  pub feeds_on : (next : ℕ) (new : D) (behind : Heard) → done + next ≤ len → len < 2 ^ 64 → (honest dir → honest new) → (honest dir → Elapses (history dir) (history new)) → (honest dir → SameDisk (now (history new)) (now (history dir)))
      → ((other : FileNo) → opened new other ≡ opened dir other) → faults new ≡ faults dir → (HasHeard outline → HasHeard behind) → behind.fed ≡ outline.fed + next
      → (honest dir → (name bytes seen : List ℕ) → opened dir file ≡ Some name → reads (now (history dir)) name ≡ Some bytes → HasPart bytes done next → IsAfter outline seen → IsAfter behind (seen ++ part_of bytes done next))
      → Feeds honest history opened faults file len (done + next) behind first new
  feeds_on next new behind within small is_honest time same stays quiet heard fed after = record {
    is_honest = λ h. is_honest (so.is_honest h);
    time = λ h. elapsed (history first) (history dir) (history new) (so.time h) (time (so.is_honest h)) (same (so.is_honest h));
    same = λ h. same_on new h (same (so.is_honest h));
    stays_open = λ other. stays other ∙ so.stays_open other;
    quiet = quiet ∙ so.quiet;
    heard = heard so.heard;
    fed = fed ∙ ap (λ n. n + next) so.fed;
    all = so.all;
    so_far = λ h name bytes named there. subst (IsAfter behind) (parts_joined bytes done next)
        (after (so.is_honest h) name bytes (take done bytes) (so.stays_open file ∙ named) (reads_still h name bytes there) (has_next next bytes within small (so.all h name bytes named there)) (so.so_far h name bytes named there));
  }

  -- all of it
  pub all_fed : len ≤ done → honest first → (name bytes : List ℕ) → opened first file ≡ Some name → reads (now (history first)) name ≡ Some bytes → IsAfter outline bytes
  all_fed whole h name bytes named there =
      let all = so.all h name bytes named there in
      subst (IsAfter outline) (take_all done bytes (omega (arith, whole, all))) (so.so_far h name bytes named there)

-- some bytes are left of a list that begins with some
pub some_left : (n : ℕ) (l k m : List ℕ) → 0 < n → 0 < length l → 0 < length (take n ((l ++ k) ++ m))
some_left zero l k m some any = absurd (omega (arith, some))
some_left (suc n) [] k m some any = absurd (omega (arith, any))
some_left (suc n) (x ∷ l) k m some any = omega arith
