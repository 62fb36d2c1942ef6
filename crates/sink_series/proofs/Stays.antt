-- What a stop leaves of what is safe.
use Rattle.std.proofs.Common.{ℕ, zero, suc, ◌≡◌, ◌≤◌, ⊎_elim, true, false, List, ◌++◌, length, take, drop, Option, Some, None, option_map, refl, ap, sym, subst, ◌∙◌, arith, append_assoc}
use Rattle.std.specs.List.{AllByRecursion}
use Rattle.std.proofs.lemmas.List.{take_all, take-append-drop, take-append-le}
use Rattle.std.proofs.lemmas.Bool.{cases_eq}
use Rattle.disk_files.specs.Disk.{File, Disk, Folder, MayStay, StopLeaves, kept_file, after_stop}
use Rattle.sink_series.specs.Events.{Event, IsEvent, run_of, Holds}
use Rattle.sink_series.specs.Names.{sink_name}
use Rattle.sink_series.specs.Folders.{FileHolds, HoldsTo}
use Rattle.sink_series.specs.Keeping.{IsSafe, FileBegins}
use Rattle.sink_series.proofs.Contents.{after, holds_one, first_are}

-- what is left of a file with these events at the front of what is synced
pub record Left (left : Option (List ℕ)) (events : List Event) : Type 0 where
  pub bytes : List ℕ
  pub found : left ≡ Some bytes
  pub rest : List ℕ
  pub whole : bytes ≡ run_of events ++ rest

left_of : (f : File) (left : Option (List ℕ)) (events : List Event) (more : List ℕ) → f.is_durable ≡ true → f.is_removed ≡ false → take f.synced f.written ≡ run_of events ++ more
    → MayStay (Some f) left → Left left events
left_of f None events more durable there synced stays = absurd (⊎_elim (λ gone. cc (gone, there)) (λ no. cc (no, durable)) stays)
left_of f (Some bytes) events more durable there synced stays =
    let parts : f.written ≡ bytes ++ drop (length bytes) f.written =
    sym (take-append-drop (length bytes) f.written) ∙ ap (λ (b : List ℕ). b ++ drop (length bytes) f.written) stays.1 in
    let front : take f.synced bytes ≡ run_of events ++ more =
    sym (ap (take f.synced) parts ∙ take-append-le f.synced bytes (drop (length bytes) f.written) stays.0) ∙ synced in
    record {
      bytes = bytes;
      found = refl;
      rest = more ++ drop f.synced bytes;
      whole = sym (take-append-drop f.synced bytes) ∙ ap (λ (b : List ℕ). b ++ drop f.synced bytes) front ∙ append_assoc (run_of events) more (drop f.synced bytes);
    }

pub left_safe : (name : List ℕ) (events : List Event) (disk : Disk) (folder : Folder) → IsSafe disk name events → StopLeaves disk folder → Left (folder name) events
left_safe name events disk folder safe leaves =
    left_of safe.file (folder name) events safe.more safe.durable safe.there safe.synced (subst (λ o. MayStay o (folder name)) safe.found (leaves name))

pub begins_left : (name : List ℕ) (events : List Event) (disk : Disk) (folder : Folder) → IsSafe disk name events → StopLeaves disk folder → FileBegins folder name events
begins_left name events disk folder safe leaves =
    let l = left_safe name events disk folder safe leaves in
    (l.bytes, l.found, λ all h. first_are events l.rest l.bytes all safe.each l.whole h)

pub safe_over_stop : (name : List ℕ) (events : List Event) (disk : Disk) (folder : Folder) → IsSafe disk name events → StopLeaves disk folder → IsSafe (after_stop folder) name events
safe_over_stop name events disk folder safe leaves =
    let l = left_safe name events disk folder safe leaves in
    record {
      file = kept_file l.bytes;
      found = ap (option_map kept_file) l.found;
      durable = refl;
      there = refl;
      each = safe.each;
      more = l.rest;
      synced = take_all (length l.bytes) l.bytes (omega arith) ∙ l.whole;
    }

-- The content of a folder

file_one : (o : Option (List ℕ)) (one other : List Event) → FileHolds o one → FileHolds o other → one ≡ other
file_one None one other p q = p ∙ sym q
file_one (Some bytes) one other p q = holds_one bytes one other p q

pub to_one : (n : ℕ) (path : List ℕ) (folder : Folder) (one other : List Event) → HoldsTo path folder n one → HoldsTo path folder n other → one ≡ other
unfolding HoldsTo
to_one zero path folder one other p q = p ∙ sym q
to_one (suc n) path folder one other p q =
    let before = to_one n path folder p.0 q.0 p.2 q.2 in
    let last = file_one (folder (sink_name path (suc n))) p.1 q.1 p.3 q.3 in
    p.4 ∙ ap (λ (b : List Event). b ++ p.1) before ∙ ap (λ (l : List Event). q.0 ++ l) last ∙ sym q.4

-- events stand in a content
pub record Stands (events all : List Event) : Type 0 where
  pub before : List Event
  pub after : List Event
  pub split : all ≡ before ++ (events ++ after)

held : (o : Option (List ℕ)) (events last : List Event) → AllByRecursion IsEvent events → (l : Left o events) → FileHolds o last → (tail : List Event) × (last ≡ events ++ tail)
held o events last each l h =
    let a = after events l.rest last each (subst (λ (b : List ℕ). Holds b last) l.whole (subst (λ p. FileHolds p last) l.found h)) in
    (a.tail, a.split)

pub stands : (n m : ℕ) (path : List ℕ) (folder : Folder) (events all : List Event) → AllByRecursion IsEvent events → 1 ≤ n → n ≤ m → Left (folder (sink_name path n)) events
    → HoldsTo path folder m all → Stands events all
unfolding HoldsTo
stands n zero path folder events all each from to l h = absurd (omega (arith, from, to))
stands n (suc m) path folder events all each from to l h = ⊎_elim
    (λ own.
    let t = held (folder (sink_name path (suc m))) events h.1 each (subst (λ (k : ℕ). Left (folder (sink_name path k)) events) own l) h.3 in
    let s : Stands events all = record { before = h.0; after = t.0; split = h.4 ∙ ap (λ (x : List Event). h.0 ++ x) t.1 } in s)
    (λ other.
    let s = stands n m path folder events h.0 each from (omega (arith, to, other)) l h.2 in
    record {
      before = s.before;
      after = s.after ++ h.1;
      split = h.4 ∙ ap (λ (x : List Event). x ++ h.1) s.split ∙ append_assoc s.before (events ++ s.after) h.1
          ∙ ap (λ (x : List Event). s.before ++ x) (append_assoc events s.after h.1);
    })
    (cases_eq n (suc m))
