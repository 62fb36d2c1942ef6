-- Bytes that are read by one call after another.
use Rattle.std.proofs.Common.{◌≡◌, ℕ, ◌+◌, ◌≤◌, List, [], length, Option, Result, Ok, Err, refl, sym, ap, ◌∙◌, ⊎_elim, arith}
use Rattle.std.specs.Prelude.{IsErrOf}
use Rattle.std.proofs.lemmas.Bool.{cases_lt}
use Rattle.disk_files.specs.Disk.{SameDisk, read_of}
use Rattle.disk_files.specs.Moments.{History, now, Elapses}
use Rattle.disk_files.specs.declared.dir.FileNo.{FileNo}
use Rattle.file_pieces.specs.Adding.{Adds, HasAny, HasPieceCause}
use Rattle.file_pieces.specs.Reading.{Reads}
use Rattle.file_pieces.specs.declared.error.PieceError.{PieceError}
use Rattle.file_pieces.specs.declared.error.PieceError.TheVariants.{Fault, Short}
use Rattle.file_pieces.proofs.Steps.{adds_as, adds_less, adds_none, adds_then, cause_then, on_ok}

-- two calls, one after the other
pub elapsed : (old mid new : History) → Elapses old mid → Elapses mid new → SameDisk (now new) (now mid) → Elapses old new
elapsed old mid new first second same = record {
  later = omega (arith, first.later, second.later);
  past = λ t le name. second.past t (omega (arith, le, first.later)) name ∙ first.past t le name;
  since = λ t after below name. ⊎_elim (λ behind. second.since t behind below name)
      (λ before. second.past t before name ∙ first.since t after before name ∙ sym (same name)) (cases_lt mid.moment t);
}

-- ---- the same answer, of another type

pub as_short : {T U : Type 0} (e : PieceError) → IsErrOf {T = T} (Err e) Short → IsErrOf {T = U} (Err e) Short
as_short Fault short = absurd (cc short)
as_short Short short = refl

pub cause_as : {T U : Type 0} (a b : ℕ) (e : PieceError) → HasPieceCause {T = T} a b (Err e) → HasPieceCause {T = U} a b (Err e)
cause_as a b Fault c = record { later = c.later; passed = tt; failed = λ yes. c.failed refl; short = λ no. absurd (cc no) }
cause_as a b Short c = record { later = c.later; passed = tt; failed = λ no. absurd (cc no); short = λ yes. c.short refl }

pub cause_on : {T U : Type 0} (a b : ℕ) (x : T) (y : U) → HasPieceCause a b (Ok x) → HasPieceCause a b (Ok y)
cause_on a b x y c = record { later = c.later; passed = c.passed; failed = λ no. absurd (cc no); short = λ no. absurd (cc no) }

module _ {D : Type 0} (is_honest : D → Type 0) (history : D → History) (opened : D → FileNo → Option (List ℕ)) (bytes_left : D → FileNo → ℕ) (fault_count : D → ℕ) (file : FileNo) where
  -- one call, and then the next
  pub reads_then : {T U : Type 0} (x : T) (r : Result U PieceError) (W V G H K : List ℕ → Type 0) (old mid new : D) → Reads is_honest history opened bytes_left fault_count file W G old mid (Ok x)
      → Reads is_honest history opened bytes_left fault_count file V H mid new r → ((seen : List ℕ) → W seen → V seen) → ((seen : List ℕ) → W seen → G seen → H seen → K seen)
      → Reads is_honest history opened bytes_left fault_count file W K old new r
  reads_then x r W V G H K old mid new first second each both = record {
    honest = λ h. second.honest (first.honest h);
    time = λ h. elapsed (history old) (history mid) (history new) (first.time h) (second.time (first.honest h)) (second.same (first.honest h));
    same = λ h name. second.same (first.honest h) name ∙ first.same h name;
    stays_open = λ other. second.stays_open other ∙ first.stays_open other;
    room = λ other. omega (arith, first.room other, second.room other);
    cause = cause_then (fault_count old) (fault_count mid) (fault_count new) x r first.cause second.cause;
    ok = λ h name seen is found w. on_ok r (second.ok (first.honest h) name seen (first.stays_open file ∙ is) (ap read_of (first.same h name) ∙ found) (each seen w))
        (λ more. both seen w (first.ok h name seen is found w) more);
    whole = λ h name seen is found w short. second.whole (first.honest h) name seen (first.stays_open file ∙ is) (ap read_of (first.same h name) ∙ found) (each seen w) short;
  }

  -- one call, and then one that is refused
  pub reads_not : {S T U : Type 0} (x : S) (e : PieceError) (W V G H K : List ℕ → Type 0) (old mid new : D) → Reads is_honest history opened bytes_left fault_count file W G old mid (Ok x)
      → Reads {T = T} is_honest history opened bytes_left fault_count file V H mid new (Err e) → ((seen : List ℕ) → W seen → V seen) → Reads {T = U} is_honest history opened bytes_left fault_count file W K old new (Err e)
  reads_not x e W V G H K old mid new first second each =
      let both = reads_then x (Err e) W V G H (λ seen. Unit {0}) old mid new first second each (λ seen w given more. tt) in
      record {
        honest = both.honest;
        time = both.time;
        same = both.same;
        stays_open = both.stays_open;
        room = both.room;
        cause = cause_as (fault_count old) (fault_count new) e both.cause;
        ok = λ h name seen is found w. tt;
        whole = λ h name seen is found w short. both.whole h name seen is found w (as_short e short);
      }

  -- said in other words
  pub reads_as : {T : Type 0} (r : Result T PieceError) (W V G H : List ℕ → Type 0) (old new : D) → Reads is_honest history opened bytes_left fault_count file V G old new r → ((seen : List ℕ) → W seen → V seen)
      → ((seen : List ℕ) → W seen → G seen → H seen) → Reads is_honest history opened bytes_left fault_count file W H old new r
  reads_as r W V G H old new reads each more = record {
    honest = reads.honest;
    time = reads.time;
    same = reads.same;
    stays_open = reads.stays_open;
    room = reads.room;
    cause = reads.cause;
    ok = λ h name seen is found w. on_ok r (reads.ok h name seen is found (each seen w)) (more seen w);
    whole = λ h name seen is found w short. reads.whole h name seen is found (each seen w) short;
  }

  -- done, whatever is answered
  pub reads_done : {T U : Type 0} (x : T) (y : U) (W G : List ℕ → Type 0) (old new : D) → Reads is_honest history opened bytes_left fault_count file W G old new (Ok x) → Reads is_honest history opened bytes_left fault_count file W G old new (Ok y)
  reads_done x y W G old new reads = record {
    honest = reads.honest;
    time = reads.time;
    same = reads.same;
    stays_open = reads.stays_open;
    room = reads.room;
    cause = cause_on (fault_count old) (fault_count new) x y reads.cause;
    ok = reads.ok;
    whole = λ h name seen is found w short. absurd (cc short);
  }

module _ {D : Type 0} (is_honest : D → Type 0) (history : D → History) (opened : D → FileNo → Option (List ℕ)) (bytes_left : D → FileNo → ℕ) (fault_count : D → ℕ) (from to : FileNo) where
  -- bytes are read, and what they give is added
  pub adds_read : {T U : Type 0} (x : T) (r : Result U PieceError) (size : ℕ) (W G : List ℕ → Type 0) (told : List ℕ) (B : List ℕ → List ℕ) (old mid new : D) → Reads is_honest history opened bytes_left fault_count from W G old mid (Ok x)
      → Adds is_honest history opened bytes_left fault_count from to (length told) HasAny (λ _. told) mid new r → length told ≤ size → ((seen : List ℕ) → W seen → G seen → told ≡ B seen)
      → Adds is_honest history opened bytes_left fault_count from to size W B old new r
  adds_read x r size W G told B old mid new first second less same =
      let none = adds_none is_honest history opened bytes_left fault_count from to (Ok x) HasAny old mid first.honest first.stays_open (first.room to) first.cause first.same first.time (λ h source name seen copies any short. absurd (cc short)) in
      let both = adds_then is_honest history opened bytes_left fault_count from to x r 0 (length told) HasAny (λ _. []) (λ _. told) old mid new none second in
      adds_as is_honest history opened bytes_left fault_count from to r (0 + length told) size HasAny W (λ _. told) B old new both (omega (arith, less))
      (λ h source name seen copies has. (tt, same seen has (first.ok h source seen copies.source_is copies.there has)))

  -- bytes aren't read, and nothing is added
  pub adds_unread : {T U : Type 0} (e : PieceError) (size : ℕ) (W G : List ℕ → Type 0) (B : List ℕ → List ℕ) (old new : D) → Reads {T = T} is_honest history opened bytes_left fault_count from W G old new (Err e)
      → Adds {T = U} is_honest history opened bytes_left fault_count from to size W B old new (Err e)
  adds_unread e size W G B old new first =
      adds_less is_honest history opened bytes_left fault_count from to e 0 size (omega arith) W (λ _. []) B old new
      (adds_none is_honest history opened bytes_left fault_count from to (Err e) W old new first.honest first.stays_open (first.room to) (cause_as (fault_count old) (fault_count new) e first.cause) first.same first.time
      (λ h source name seen copies has short. first.whole h source seen copies.source_is copies.there has (as_short e short)))
