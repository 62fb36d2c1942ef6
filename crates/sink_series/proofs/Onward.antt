-- Reading on: one event more, and one file more.
use Rattle.std.proofs.Common.{ℕ, zero, suc, ◌≡◌, ◌+◌, ◌^◌, ◌<◌, ◌≤◌, ⊎_elim, List, [], ◌∷◌, ◌++◌, length, Option, Some, None, IsSome, Result, Ok, Err, refl, ap, sym, subst, ◌∙◌, arith, append_assoc}
use Rattle.std.specs.Prelude.{◌↔◌, IsTrue, MatchOption, IfOk, codes}
use Rattle.numbered_files.specs.Names.{ten_digits}
use Rattle.std.specs.List.{AllByRecursion}
use Rattle.std.specs.Ordering.{nat_cmp}
use Rattle.std.specs.BTreeSet.{BTreeSet, contains}
use Rattle.std.proofs.lemmas.List.{append-nil, length-append}
use Rattle.std.proofs.lemmas.Bool.{cases_lt, cases_eq}
use Rattle.std.proofs.lemmas.Grind.{flat_map-append}
use Rattle.disk_files.specs.Disk.{Disk, Folder, SameDisk, reads, read_of}
use Rattle.disk_files.specs.Moments.{History, now, Elapses}
use Rattle.msgpack_bytes.proofs.Walk.{all_with}
use Rattle.sink_series.specs.Events.{Event, IsEvent, item_of, run_of, BeginsNone, Holds, Counts}
use Rattle.sink_series.specs.Names.{sink_name}
use Rattle.sink_series.specs.Folders.{FileHolds, HasFile, HoldsTo}
use Rattle.sink_series.specs.Still.{IsStill}

-- the events so far, and what is behind them
pub record ReadOn (bytes : List ℕ) (events : List Event) (rest : List ℕ) : Type 0 where
  pub each : AllByRecursion IsEvent events
  pub whole : bytes ≡ run_of events ++ rest

pub read_more : (bytes rest behind : List ℕ) (events more : List Event) (event : Event) → ReadOn bytes events rest → IsEvent event → rest ≡ item_of event ++ behind → more ≡ events ++ event ∷ []
    → ReadOn bytes more behind
read_more bytes rest behind events more event so_far is first pushed = record {
  each = subst (AllByRecursion IsEvent) (sym pushed) (all_with IsEvent events event so_far.each is);
  whole = so_far.whole ∙ ap (λ (z : List ℕ). run_of events ++ z) (first ∙ ap (λ (z : List ℕ). z ++ behind) (sym (append-nil (item_of event))))
      ∙ sym (append_assoc (run_of events) (run_of (event ∷ [])) behind) ∙ ap (λ (z : List ℕ). z ++ behind) (sym (flat_map-append item_of events (event ∷ [])))
      ∙ ap (λ (es : List Event). run_of es ++ behind) (sym pushed);
}

pub read_end : (bytes rest : List ℕ) (events : List Event) → ReadOn bytes events rest → BeginsNone rest → Holds bytes events
read_end bytes rest events so_far none = record { each = so_far.each; rest = rest; whole = so_far.whole; torn = none }

-- so many events so far, and what is behind them
pub record CountOn (bytes : List ℕ) (count : ℕ) (rest : List ℕ) : Type 0 where
  pub events : List Event
  pub so_far : ReadOn bytes events rest
  pub count_is : count ≡ length events
  pub few : count + length rest ≤ length bytes

pub count_start : (bytes : List ℕ) → CountOn bytes 0 bytes
count_start bytes = record { events = []; so_far = record { each = tt; whole = refl }; count_is = refl; few = omega arith }

pub count_end : (bytes rest : List ℕ) (count : ℕ) → CountOn bytes count rest → BeginsNone rest → Counts bytes count (length rest)
unfolding read_end
count_end bytes rest count on none = record { events = on.events; holds = read_end bytes rest on.events on.so_far none; count_is = on.count_is; torn_is = refl }

item_some : (event : Event) → 1 ≤ length (item_of event)
unfolding item_of
item_some event = omega arith

pub shorter : (event : Event) (rest behind : List ℕ) → rest ≡ item_of event ++ behind → length behind < length rest
shorter event rest behind first = omega (arith, item_some event, ap length first, length-append (item_of event) behind)

pub count_more : (bytes rest behind : List ℕ) (count : ℕ) (event : Event) → CountOn bytes count rest → IsEvent event → rest ≡ item_of event ++ behind → CountOn bytes (count + 1) behind
count_more bytes rest behind count event on is first = record {
  events = on.events ++ event ∷ [];
  so_far = read_more bytes rest behind on.events (on.events ++ event ∷ []) event on.so_far is first refl;
  count_is = omega (arith, on.count_is, length-append on.events (event ∷ []));
  few = omega (arith, on.few, shorter event rest behind first);
}

-- ---- one file more

pub file_more : (n : ℕ) (path bytes : List ℕ) (folder : Folder) (events found more : List Event) → HoldsTo path folder n events → folder (sink_name path (n + 1)) ≡ Some bytes → Holds bytes found
    → more ≡ events ++ found → HoldsTo path folder (n + 1) more
unfolding HoldsTo
file_more n path bytes folder events found more so_far there held joined =
    let one : suc n ≡ n + 1 = omega arith in
    let at : folder (sink_name path (suc n)) ≡ Some bytes = ap (λ (k : ℕ). folder (sink_name path k)) one ∙ there in
    let next : HoldsTo path folder (suc n) more = (events, found, so_far, subst (λ o. FileHolds o found) (sym at) held, joined) in
    subst (λ (k : ℕ). HoldsTo path folder k more) one next

pub file_less : (n : ℕ) (path : List ℕ) (folder : Folder) (events : List Event) → HoldsTo path folder n events → folder (sink_name path (n + 1)) ≡ None → HoldsTo path folder (n + 1) events
unfolding HoldsTo
file_less n path folder events so_far none =
    let one : suc n ≡ n + 1 = omega arith in
    let at : folder (sink_name path (suc n)) ≡ None = ap (λ (k : ℕ). folder (sink_name path k)) one ∙ none in
    let next : HoldsTo path folder (suc n) events = (events, [], so_far, subst (λ o. FileHolds o []) (sym at) refl, sym (append-nil events)) in
    subst (λ (k : ℕ). HoldsTo path folder k events) one next

-- no file yet
pub from_none : (path : List ℕ) (folder : Folder) (n : ℕ) (events : List Event) → n ≡ 0 → events ≡ [] → HoldsTo path folder n events
unfolding HoldsTo
from_none path folder n events start none = subst (λ (k : ℕ). HoldsTo path folder k events) (sym start) none

-- where no file is above a number, the content to there is the content
pub no_above : (m n : ℕ) (path : List ℕ) (folder : Folder) (events : List Event) → n ≤ m → ((q : ℕ) → n < q → q ≤ m → folder (sink_name path q) ≡ None) → HoldsTo path folder n events
    → HoldsTo path folder m events
unfolding HoldsTo
no_above zero n path folder events to none held = let e : n ≡ zero = omega (arith, to) in subst (λ (k : ℕ). HoldsTo path folder k events) e held
no_above (suc m) n path folder events to none held = ⊎_elim
    (λ own. subst (λ (k : ℕ). HoldsTo path folder k events) own held)
    (λ other.
    let before = no_above m n path folder events (omega (arith, to, other)) (λ q above below. none q above (omega (arith, below))) held in
    let at = none (suc m) (omega (arith, to, other)) (omega arith) in
    let next : HoldsTo path folder (suc m) events = (events, [], before, subst (λ o. FileHolds o []) (sym at) refl, sym (append-nil events)) in next)
    (cases_eq n (suc m))

pub none_of : {X : Type 0} → (o : Option X) → (IsSome o → ⊥) → o ≡ None
none_of None empty = refl
none_of (Some x) empty = absurd (empty refl)

pub some_of : {X : Type 0} → (o : Option X) → IsSome o → (x : X) × (o ≡ Some x)
some_of None is = absurd (cc is)
some_of (Some x) is = (x, refl)

-- ---- calls that leave the disk as it was

pub still_here : (h : History) → IsStill h h
still_here h = record {
  time = record { later = omega arith; past = λ t le name. refl; since = λ t above below. absurd (omega (arith, above, below)) };
  same = λ name. refl;
}

pub still_on : (a b c : History) → IsStill a b → Elapses b c → SameDisk (now c) (now b) → IsStill a c
still_on a b c first time same = record {
  time = record {
    later = omega (arith, first.time.later, time.later);
    past = λ t le name. time.past t (omega (arith, le, first.time.later)) name ∙ first.time.past t le name;
    since = λ t above below name. ⊎_elim
        (λ after. time.since t after below name)
        (λ before. time.past t before name ∙ first.time.since t above before name ∙ sym (same name))
        (cases_lt b.moment t);
  };
  same = λ name. same name ∙ first.same name;
}

pub still_join : (a b c : History) → IsStill a b → IsStill b c → IsStill a c
still_join a b c first second = still_on a b c first second.time second.same

-- what reads stays
pub reads_same : (a b : History) (name bytes : List ℕ) → IsStill a b → reads (now a) name ≡ Some bytes → reads (now b) name ≡ Some bytes
reads_same a b name bytes still reads_so = ap read_of (still.same name) ∙ reads_so

-- ---- options

pub some_case : {X : Type 0} → (o : Option X) (x : X) (N : Type 0) (P : X → Type 0) → o ≡ Some x → MatchOption o N P → P x
some_case None x N P some m = absurd (cc some)
some_case (Some y) x N P some m = subst P (let e : y ≡ x = cc some in e) m

pub none_case : {X : Type 0} → (o : Option X) (N : Type 0) (P : X → Type 0) → o ≡ None → MatchOption o N P → N
none_case None N P none m = m
none_case (Some y) N P none m = absurd (cc none)

-- ---- the content of a folder

holds_same : (n : ℕ) (path : List ℕ) (a b : Folder) (events : List Event) → ((name : List ℕ) → a name ≡ b name) → HoldsTo path a n events → HoldsTo path b n events
unfolding HoldsTo
holds_same zero path a b events same held = held
holds_same (suc n) path a b events same held =
    (held.0, held.1, holds_same n path a b held.0 same held.2, subst (λ o. FileHolds o held.1) (same (sink_name path (suc n))) held.3, held.4)

named : (n : ℕ) (path front end : List ℕ) → front ≡ path → end ≡ codes "sink" → front ++ 46 ∷ (ten_digits n ++ 46 ∷ end) ≡ sink_name path n
named n path front end f e =
    ap (λ (p : List ℕ). p ++ 46 ∷ (ten_digits n ++ 46 ∷ end)) f ∙ ap (λ (k : List ℕ). path ++ 46 ∷ (ten_digits n ++ 46 ∷ k)) e

-- the numbers that were found are those of the sink's files
pub are_files : (old mid : Disk) (path front end : List ℕ) (found : BTreeSet ℕ) → front ≡ path → end ≡ codes "sink" → SameDisk mid old
    → ((n : ℕ) → IsTrue (contains nat_cmp found n) ↔ ((1 ≤ n) × (n < 2 ^ 32) × IsSome (reads old (front ++ 46 ∷ (ten_digits n ++ 46 ∷ end)))))
    → (n : ℕ) → IsTrue (contains nat_cmp found n) ↔ HasFile path (reads mid) n
are_files old mid path front end found f e same are n =
    let at : reads old (front ++ 46 ∷ (ten_digits n ++ 46 ∷ end)) ≡ reads mid (sink_name path n) =
    ap (reads old) (named n path front end f e) ∙ ap read_of (sym (same (sink_name path n))) in (
      (λ is. let p = (are n).0 is in (p.0, omega (arith, p.1), subst IsSome at p.2)),
      (λ p. (are n).1 (p.0, omega (arith, p.1), subst IsSome (sym at) p.2)),
    )

pub whole_content : (old mid : Disk) (path : List ℕ) (found : BTreeSet ℕ) (greatest : ℕ) (events : List Event) → ((n : ℕ) → IsTrue (contains nat_cmp found n) ↔ HasFile path (reads mid) n)
    → ((n : ℕ) → IsTrue (contains nat_cmp found n) → n ≤ greatest) → greatest ≤ 4294967295 → SameDisk mid old → HoldsTo path (reads mid) greatest events
    → HoldsTo path (reads old) 4294967295 events
whole_content old mid path found greatest events are bound fits same held =
    no_above 4294967295 greatest path (reads old) events fits
    (λ q above below. sym (ap read_of (same (sink_name path q)))
    ∙ none_of (reads mid (sink_name path q)) (λ is. let b = bound q ((are q).1 (omega (arith, above), below, is)) in absurd (omega (arith, above, b))))
    (holds_same greatest path (reads mid) (reads old) events (λ name. ap read_of (same name)) held)

pub ok_map : {T E : Type 0} → (r : Result T E) (P Q : T → Type 0) → ((t : T) → P t → Q t) → IfOk r P → IfOk r Q
ok_map (Ok t) P Q f p = f t p
ok_map (Err e) P Q f p = tt
