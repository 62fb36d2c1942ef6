-- The stop of a folder in memory.
use Rattle.std.proofs.Common.{◌≡◌, inl, inr, ℕ, zero, suc, ◌≤◌, cond, not, Bool, true, false, List, [], ◌∷◌, length, take, max, Option, Some, None, is_some, option_map, option_and_then, slice_get, slice_set, refl, sym, ◌∙◌, ap, subst, arith, length-take}
use Rattle.std.specs.Str.{bytes_eq}
use Rattle.disk_files.specs.Disk.{File, kept_file, unlinked, after_stop, SameDisk, MayStay, StopLeaves, reads, read_of}
use Rattle.disk_files.specs.Entry.{Entry}
use Rattle.disk_files.specs.Table.{disk_of, IsSound, name_of, is_open_of, ChangesAt}
use Rattle.disk_files.specs.Stopped.{stopped, cut_to, left_state, StoppedTo, those_there}
use Rattle.disk_files.specs.Stop.{left_by, left_bytes, left_of, is_named, name_at}
use Rattle.disk_files.specs.Past.{history_of}
use Rattle.disk_files.specs.Moments.{now}
use Rattle.disk_files.specs.Readable.{now_is}
use Rattle.disk_files.specs.declared.keep.Keep.{Keep}
use Rattle.std.proofs.lemmas.List.{take_all, take_min}
use Rattle.disk_files.specs.declared.keep.Keep.TheVariants.{Least, Greatest, Last}
use Rattle.disk_files.proofs.Table.{same_entry, same_name, found, disk_set}

head_or : Entry → List Entry → Entry
head_or d [] = d
head_or d (e ∷ es) = e

tail_of : List Entry → List Entry
tail_of [] = []
tail_of (e ∷ es) = es

same_head : (a e : Entry) (rest es : List Entry) → a ∷ rest ≡ e ∷ es → a ≡ e
unfolding head_or
same_head a e rest es same = ap (head_or a) same

same_tail : (a e : Entry) (rest es : List Entry) → a ∷ rest ≡ e ∷ es → rest ≡ es
unfolding tail_of
same_tail a e rest es same = ap tail_of same

take_own : (xs : List ℕ) (n : ℕ) → take (length (take n xs)) xs ≡ take n xs
take_own xs n = ap (λ k. take k xs) (length-take n xs) ∙ take_min n xs

-- one file more is stopped
pub stopped_more : (least : Bool) (k : ℕ) (before after : List Entry) (f g : Entry) → StoppedTo least k before after → slice_get after k ≡ Some f
    → g.name ≡ f.name → g.state ≡ stopped least f.state → g.is_open ≡ false → StoppedTo least (suc k) before (slice_set after k g)
stopped_more least zero [] after f g so_far got name state shut = absurd (cc (sym (ap (λ fs. slice_get fs zero) so_far) ∙ got))
stopped_more least zero (e ∷ es) [] f g so_far got name state shut = absurd (cc got)
stopped_more least zero (e ∷ es) (a ∷ after) f g so_far got name state shut =
    let first : a ≡ e = same_head a e after es so_far in
    let own : f ≡ e = sym (same_entry a f got) ∙ first in
    (name ∙ ap (λ x. x.name) own, state ∙ ap (λ x. stopped least x.state) own, same_tail a e after es so_far, shut)
stopped_more least (suc k) [] after f g so_far got name state shut = absurd (cc (sym (ap (λ fs. slice_get fs (suc k)) so_far) ∙ got))
stopped_more least (suc k) (e ∷ es) [] f g so_far got name state shut = absurd so_far
stopped_more least (suc k) (e ∷ es) (a ∷ after) f g so_far got name state shut = (so_far.0, so_far.1, stopped_more least k es after f g so_far.2 got name state shut, so_far.3)

-- none of them is open
shut_first : (b : Bool) (a : Entry) (rest : List Entry) → a.is_open ≡ false → ((j : ℕ) → is_open_of (slice_get rest j) ≡ false) → (j : ℕ) → is_open_of (slice_get (cond b (a ∷ rest) rest) j) ≡ false
shut_first true a rest shut others zero = shut
shut_first true a rest shut others (suc j) = others j
shut_first false a rest shut others j = others j

pub swept_shut : (least : Bool) (before after : List Entry) → StoppedTo least (length before) before after → (j : ℕ) → is_open_of (slice_get (those_there after) j) ≡ false
swept_shut least [] after to j = ap (λ fs. is_open_of (slice_get (those_there fs) j)) to
swept_shut least (e ∷ es) [] to j = absurd to
swept_shut least (e ∷ es) (a ∷ after) to j = shut_first (not a.state.is_removed) a (those_there after) to.3 (swept_shut least es after to.2) j

-- What is left of one file

there_by : (f : File) (r l d : Bool) → f.is_removed ≡ r
    → (cond r f (cond l (cond d (kept_file (take f.synced f.written)) (unlinked f)) (kept_file f.written))).is_removed ≡ false
    → cond r None (cond l (cond d (Some (kept_file (take f.synced f.written))) None) (Some (kept_file f.written))) ≡ Some (cond r f (cond l (cond d (kept_file (take f.synced f.written)) (unlinked f)) (kept_file f.written)))
there_by f true l d is left = absurd (cc (sym is ∙ left))
there_by f false true true is left = refl
there_by f false true false is left = absurd (cc left)
there_by f false false d is left = refl

gone_by : (f : File) (r l d : Bool) → f.is_removed ≡ r
    → (cond r f (cond l (cond d (kept_file (take f.synced f.written)) (unlinked f)) (kept_file f.written))).is_removed ≡ true
    → cond r None (cond l (cond d (Some (kept_file (take f.synced f.written))) None) (Some (kept_file f.written))) ≡ None
gone_by f true l d is left = refl
gone_by f false true true is left = absurd (cc left)
gone_by f false true false is left = refl
gone_by f false false d is left = absurd (cc left)

fits_by : (f : File) (r l d : Bool) → f.is_removed ≡ r
    → (cond r f (cond l (cond d (kept_file (take f.synced f.written)) (unlinked f)) (kept_file f.written))).is_removed ≡ false
    → (cond r f (cond l (cond d (kept_file (take f.synced f.written)) (unlinked f)) (kept_file f.written))).synced
    ≤ length (cond r f (cond l (cond d (kept_file (take f.synced f.written)) (unlinked f)) (kept_file f.written))).written
fits_by f true l d is left = absurd (cc (sym is ∙ left))
fits_by f false true true is left = omega arith
fits_by f false true false is left = absurd (cc left)
fits_by f false false d is left = omega arith

left_there : (least : Bool) (f : File) → (stopped least f).is_removed ≡ false → left_state least (Some f) ≡ Some (stopped least f)
left_there least f left = there_by f f.is_removed least f.is_durable refl left

left_gone : (least : Bool) (f : File) → (stopped least f).is_removed ≡ true → left_state least (Some f) ≡ None
left_gone least f left = gone_by f f.is_removed least f.is_durable refl left

left_fits : (least : Bool) (f : File) → (stopped least f).is_removed ≡ false → (stopped least f).synced ≤ length (stopped least f).written
left_fits least f left = fits_by f f.is_removed least f.is_durable refl left

-- The disk of what is left

swept_at : (least : Bool) (e a : Entry) (es swept : List Entry) (name : List ℕ) (b r : Bool) → bytes_eq e.name name ≡ b → a.state.is_removed ≡ r → a.name ≡ e.name
    → a.state ≡ stopped least e.state → disk_of es e.name ≡ None → disk_of swept name ≡ left_state least (disk_of es name)
    → disk_of (cond (not r) (a ∷ swept) swept) name ≡ left_state least (cond b (Some e.state) (disk_of es name))
swept_at least e a es swept name true true own gone named state none others =
    others ∙ ap (left_state least) (ap (disk_of es) (sym (same_name e.name name own)) ∙ none) ∙ sym (left_gone least e.state (ap (λ s. s.is_removed) (sym state) ∙ gone))
swept_at least e a es swept name true false own left named state none others =
    ap (λ b. cond b (Some a.state) (disk_of swept name)) (ap (λ n. bytes_eq n name) named ∙ own) ∙ ap Some state ∙ sym (left_there least e.state (ap (λ s. s.is_removed) (sym state) ∙ left))
swept_at least e a es swept name false true own gone named state none others = others
swept_at least e a es swept name false false own left named state none others =
    ap (λ b. cond b (Some a.state) (disk_of swept name)) (ap (λ n. bytes_eq n name) named ∙ own) ∙ others

pub swept_disk : (least : Bool) (before after : List Entry) → IsSound before → StoppedTo least (length before) before after
    → (name : List ℕ) → disk_of (those_there after) name ≡ left_state least (disk_of before name)
swept_disk least [] after sound to name = ap (λ fs. disk_of (those_there fs) name) to
swept_disk least (e ∷ es) [] sound to name = absurd to
swept_disk least (e ∷ es) (a ∷ after) sound to name =
    swept_at least e a es (those_there after) name (bytes_eq e.name name) a.state.is_removed refl refl to.0 to.1 sound.0 (swept_disk least es after sound.2 to.2 name)

swept_sound_at : (least : Bool) (e a : Entry) (es swept : List Entry) (r : Bool) → a.state.is_removed ≡ r → a.name ≡ e.name → a.state ≡ stopped least e.state → disk_of es e.name ≡ None
    → disk_of swept a.name ≡ left_state least (disk_of es a.name) → IsSound swept → IsSound (cond (not r) (a ∷ swept) swept)
swept_sound_at least e a es swept true gone named state none others sound = sound
swept_sound_at least e a es swept false left named state none others sound = (
  others ∙ ap (left_state least) (ap (disk_of es) named ∙ none),
  subst (λ s. s.synced ≤ length s.written) (sym state) (left_fits least e.state (ap (λ s. s.is_removed) (sym state) ∙ left)),
  sound,
)

pub swept_sound : (least : Bool) (before after : List Entry) → IsSound before → StoppedTo least (length before) before after → IsSound (those_there after)
swept_sound least [] after sound to = subst (λ fs. IsSound (those_there fs)) (sym to) tt
swept_sound least (e ∷ es) [] sound to = absurd to
swept_sound least (e ∷ es) (a ∷ after) sound to =
    swept_sound_at least e a es (those_there after) a.state.is_removed refl to.0 to.1 sound.0 (swept_disk least es after sound.2 to.2 a.name) (swept_sound least es after sound.2 to.2)

-- What the choice of how much is kept comes to

all_by : (f : File) (r : Bool) → cond r None (Some (kept_file f.written)) ≡ option_map kept_file (cond r None (Some f.written))
all_by f true = refl
all_by f false = refl

pub left_greatest : (s : Option File) (b : Bool) → left_state false s ≡ option_map kept_file (option_and_then (left_bytes Greatest b) s)
left_greatest None b = refl
left_greatest (Some f) b = all_by f f.is_removed

pub left_other : (n : ℕ) (s : Option File) → left_state false s ≡ option_map kept_file (option_and_then (left_bytes (Last n) false) s)
left_other n None = refl
left_other n (Some f) = all_by f f.is_removed

least_by : (f : File) (r d : Bool) → cond r None (cond d (Some (kept_file (take f.synced f.written))) None) ≡ option_map kept_file (cond r None (cond d (Some (take f.synced f.written)) None))
least_by f true d = refl
least_by f false true = refl
least_by f false false = refl

pub left_least : (s : Option File) (b : Bool) → left_state true s ≡ option_map kept_file (option_and_then (left_bytes Least b) s)
left_least None b = refl
left_least (Some f) b = least_by f f.is_removed f.is_durable

cut_by : (n : ℕ) (f : File) (r : Bool) → cond r None (Some (kept_file (take (max n f.synced) f.written))) ≡ option_map kept_file (cond r None (Some (take (max n f.synced) f.written)))
cut_by n f true = refl
cut_by n f false = refl

-- of a removed file nothing is left, whichever it is
removed_by : (n : ℕ) (f : File) (b r : Bool) → r ≡ true → cond r None (Some (kept_file f.written)) ≡ option_map kept_file (cond r None (Some (cond b (take (max n f.synced) f.written) f.written)))
removed_by n f b true is = refl
removed_by n f b false is = absurd (cc is)

-- where no file was written to last
pub left_none : (files : List Entry) (n : ℕ) (name : List ℕ) → left_state false (disk_of files name) ≡ option_map kept_file (left_of (Last n) None (disk_of files) name)
left_none files n name = left_other n (disk_of files name)

-- where the file written to last is there no more
gone_at : (files : List Entry) (n : ℕ) (e : Entry) (name : List ℕ) (b : Bool) → bytes_eq e.name name ≡ b → disk_of files e.name ≡ Some e.state → e.state.is_removed ≡ true
    → left_state false (disk_of files name) ≡ option_map kept_file (option_and_then (left_bytes (Last n) b) (disk_of files name))
gone_at files n e name true own here gone =
    let it : disk_of files name ≡ Some e.state = ap (disk_of files) (sym (same_name e.name name own)) ∙ here in
    ap (left_state false) it ∙ removed_by n e.state true e.state.is_removed gone ∙ ap (λ s. option_map kept_file (option_and_then (left_bytes (Last n) true) s)) (sym it)
gone_at files n e name false own here gone = left_other n (disk_of files name)

removed_if : (e : Entry) (b : Bool) → is_some (cond b None (Some e.name)) ≡ false → b ≡ true
removed_if e true is = refl
removed_if e false is = absurd (cc is)

left_gone_at : (files : List Entry) (at n : ℕ) (name : List ℕ) (o : Option Entry) → IsSound files → slice_get files at ≡ o → is_some (name_of o) ≡ false
    → left_state false (disk_of files name) ≡ option_map kept_file (left_of (Last n) (option_map (λ e. e.name) o) (disk_of files) name)
left_gone_at files at n name None sound got none = left_other n (disk_of files name)
left_gone_at files at n name (Some e) sound got none =
    gone_at files n e name (bytes_eq e.name name) refl (found files at e sound got) (removed_if e e.state.is_removed none)

pub left_not_there : (files : List Entry) (at n : ℕ) (name : List ℕ) → IsSound files → is_some (name_of (slice_get files at)) ≡ false
    → left_state false (disk_of files name) ≡ option_map kept_file (left_of (Last n) (name_at files (Some at)) (disk_of files) name)
left_not_there files at n name sound none = left_gone_at files at n name (slice_get files at) sound refl none

-- where it is cut
cut_at_name : (n : ℕ) (s : Option File) (f : File) (b : Bool) → (b ≡ true → s ≡ Some f)
    → left_state false (cond b (Some (cut_to n f)) s) ≡ option_map kept_file (option_and_then (left_bytes (Last n) b) s)
cut_at_name n s f true here = cut_by n f f.is_removed ∙ ap (λ o. option_map kept_file (option_and_then (left_bytes (Last n) true) o)) (sym (here refl))
cut_at_name n s f false here = left_other n s

pub left_cut : (files new : List Entry) (at n : ℕ) (name : List ℕ) → IsSound files → ChangesAt at (cut_to n) files new
    → left_state false (disk_of new name) ≡ option_map kept_file (left_of (Last n) (name_at files (Some at)) (disk_of files) name)
left_cut files new at n name sound change =
    let f = change.entry in
    let g : Entry = record { name = f.name; state = cut_to n f.state; room = change.room; is_open = change.is_open } in
    ap (λ fs. left_state false (disk_of fs name)) change.set
    ∙ ap (left_state false) (disk_set files at f g sound change.found refl name)
    ∙ cut_at_name n (disk_of files name) f.state (bytes_eq f.name name) (λ own. sym (ap (disk_of files) (same_name f.name name own)) ∙ found files at f sound change.found)
    ∙ ap (λ o. option_map kept_file (left_of (Last n) (option_map (λ e. e.name) o) (disk_of files) name)) (sym change.found)

pub cut_fits : (n : ℕ) (f : File) → f.synced ≤ length f.written → (cut_to n f).synced ≤ length (cut_to n f).written
cut_fits n f fits = omega (arith, fits, length-take (max n f.synced) f.written)

-- A whole stop

abbrev Fits : Option File → Type 0
Fits None = Unit {0}
Fits (Some f) = f.synced ≤ length f.written

fits_first : (d : Entry) (rest : List Entry) (name : List ℕ) (b : Bool) → d.state.synced ≤ length d.state.written → Fits (disk_of rest name) → Fits (cond b (Some d.state) (disk_of rest name))
fits_first d rest name true fits others = fits
fits_first d rest name false fits others = others

fits_at : (files : List Entry) → IsSound files → (name : List ℕ) → Fits (disk_of files name)
fits_at [] sound name = tt
fits_at (d ∷ rest) sound name = fits_first d rest name (bytes_eq d.name name) sound.1 (fits_at rest sound.2 name)

-- a beginning that holds what is synced may stay
front_stays : (f : File) (n : ℕ) → f.synced ≤ n → f.synced ≤ length f.written → MayStay (Some f) (Some (take n f.written))
front_stays f n more fits = (omega (arith, length-take n f.written, more, fits), take_own f.written n)

last_stays : (f : File) (n : ℕ) (b : Bool) → f.synced ≤ length f.written → MayStay (Some f) (Some (cond b (take (max n f.synced) f.written) f.written))
last_stays f n true fits = front_stays f (max n f.synced) (omega arith) fits
last_stays f n false fits = (fits, take_all (length f.written) f.written (omega arith))

least_stays : (f : File) (d : Bool) → f.is_durable ≡ d → f.synced ≤ length f.written → MayStay (Some f) (cond d (Some (take f.synced f.written)) None)
least_stays f true is fits = front_stays f f.synced (omega arith) fits
least_stays f false is fits = inr is

left_stays_by : (keep : Keep) (b : Bool) (f : File) (r : Bool) → f.is_removed ≡ r → f.synced ≤ length f.written → MayStay (Some f) (cond r None (left_by keep b f))
left_stays_by keep b f true is fits = inl is
left_stays_by Least b f false is fits = least_stays f f.is_durable refl fits
left_stays_by Greatest b f false is fits = (fits, take_all (length f.written) f.written (omega arith))
left_stays_by (Last n) b f false is fits = last_stays f n b fits

left_stays : (keep : Keep) (b : Bool) (s : Option File) → Fits s → MayStay s (option_and_then (left_bytes keep b) s)
left_stays keep b None fits = refl
left_stays keep b (Some f) fits = left_stays_by keep b f f.is_removed refl fits

read_kept : (o : Option (List ℕ)) → read_of (option_map kept_file o) ≡ o
read_kept None = refl
read_kept (Some bytes) = refl

module _ (files new : List Entry) (past past' : List (List Entry)) (keep : Keep) (last : Option (List ℕ)) (sound : IsSound files)
    (left : (name : List ℕ) → disk_of new name ≡ after_stop (left_of keep last (disk_of files)) name) where
  left_now : (name : List ℕ) → now (history_of new past') name ≡ after_stop (left_of keep last (disk_of files)) name
  left_now name = now_is new past' name ∙ left name

  pub stop_left : SameDisk (now (history_of new past')) (after_stop (left_of keep last (now (history_of files past))))
  stop_left name = left_now name ∙ ap (λ s. option_map kept_file (option_and_then (left_bytes keep (is_named last name)) s)) (sym (now_is files past name))

  reads_left : (name : List ℕ) → reads (now (history_of new past')) name ≡ left_of keep last (disk_of files) name
  reads_left name = ap read_of (left_now name) ∙ read_kept (left_of keep last (disk_of files) name)

  pub stop_outcome : StopLeaves (now (history_of files past)) (reads (now (history_of new past')))
  stop_outcome name =
      subst (λ s. MayStay s (reads (now (history_of new past')) name)) (sym (now_is files past name))
      (subst (MayStay (disk_of files name)) (sym (reads_left name)) (left_stays keep (is_named last name) (disk_of files name) (fits_at files sound name)))

  pub stop_settled : SameDisk (now (history_of new past')) (after_stop (reads (now (history_of new past'))))
  stop_settled name = left_now name ∙ ap (option_map kept_file) (sym (reads_left name))

-- what is left, where the file written to last is told in another way
pub left_known : (files after : List Entry) (keep : Keep) (last last' : Option ℕ) → last ≡ last' → SameDisk (disk_of after) (after_stop (left_of keep (name_at files last) (disk_of files)))
    → SameDisk (disk_of after) (after_stop (left_of keep (name_at files last') (disk_of files)))
left_known files after keep last last' same left = subst (λ l. SameDisk (disk_of after) (after_stop (left_of keep (name_at files l) (disk_of files)))) same left
