-- The content of bytes: there is one, and it goes by whole items.
use Rattle.std.proofs.Common.{ℕ, ◌≡◌, List, [], ◌∷◌, ◌++◌, length, take, drop, refl, ap, sym, subst, ◌∙◌, append_assoc}
use Rattle.std.specs.List.{AllByRecursion}
use Rattle.std.proofs.lemmas.List.{append-nil, take-append-drop}
use Rattle.std.proofs.Math.Seq.{take-append_seam}
use Rattle.sink_series.specs.Events.{Event, IsEvent, item_of, run_of, BeginsNone, Holds}
use Rattle.sink_series.proofs.Items.{item_one}

-- the content of bytes that begin with these events: they are the first, and what is left is the
-- content of what is behind them
pub record After (events : List Event) (more : List ℕ) (all : List Event) : Type 0 where
  pub tail : List Event
  pub split : all ≡ events ++ tail
  pub held : Holds more tail

pub after : (events : List Event) (more : List ℕ) (all : List Event) → AllByRecursion IsEvent events → Holds (run_of events ++ more) all → After events more all
after [] more all each h = record { tail = all; split = refl; held = h }
after (e ∷ es) more [] each h =
    absurd (h.torn e (run_of es ++ more) each.0 (sym h.whole ∙ append_assoc (item_of e) (run_of es) more))
after (e ∷ es) more (a ∷ rest) each h =
    let same : item_of e ++ (run_of es ++ more) ≡ item_of a ++ (run_of rest ++ h.rest) =
    sym (append_assoc (item_of e) (run_of es) more) ∙ h.whole ∙ append_assoc (item_of a) (run_of rest) h.rest in
    let one = item_one e a (run_of es ++ more) (run_of rest ++ h.rest) each.0 h.each.0 same in
    let next = after es more rest each.1 (record { each = h.each.1; rest = h.rest; whole = one.1; torn = h.torn }) in
    record {
      tail = next.tail;
      split = ap (λ (x : Event). x ∷ rest) (sym one.0) ∙ ap (λ (xs : List Event). e ∷ xs) next.split;
      held = next.held;
    }

-- bytes that begin with no item have no content
pub nothing : (bytes : List ℕ) (events : List Event) → BeginsNone bytes → Holds bytes events → events ≡ []
nothing bytes [] none h = refl
nothing bytes (e ∷ es) none h = absurd (none e (run_of es ++ h.rest) h.each.0 (h.whole ∙ append_assoc (item_of e) (run_of es) h.rest))

pub holds_one : (bytes : List ℕ) (one other : List Event) → Holds bytes one → Holds bytes other → one ≡ other
holds_one bytes one other p q =
    let a = after one p.rest other p.each (subst (λ (b : List ℕ). Holds b other) p.whole q) in
    sym (a.split ∙ ap (λ (xs : List Event). one ++ xs) (nothing p.rest a.tail p.torn a.held) ∙ append-nil one)

-- bytes that begin with the items of some events have a content that begins with them
pub first_are : (events : List Event) (more bytes : List ℕ) (all : List Event) → AllByRecursion IsEvent events → bytes ≡ run_of events ++ more → Holds bytes all
    → take (length events) all ≡ events
first_are events more bytes all each whole h =
    let a = after events more all each (subst (λ (b : List ℕ). Holds b all) whole h) in
    ap (take (length events)) a.split ∙ take-append_seam events a.tail

pub cuts_whole : (bytes : List ℕ) (n : ℕ) (all few : List Event) → Holds bytes all → Holds (take n bytes) few → few ≡ take (length few) all
cuts_whole bytes n all few h cut =
    let parts : bytes ≡ run_of few ++ (cut.rest ++ drop n bytes) =
    sym (take-append-drop n bytes) ∙ ap (λ (b : List ℕ). b ++ drop n bytes) cut.whole ∙ append_assoc (run_of few) cut.rest (drop n bytes) in
    sym (first_are few (cut.rest ++ drop n bytes) bytes all cut.each parts h)

-- the content of whole items is their events
pub no_item : BeginsNone []
unfolding item_of
no_item e rest is same = absurd cc

pub whole_run : (events : List Event) → AllByRecursion IsEvent events → Holds (run_of events) events
whole_run events each = record { each = each; rest = []; whole = sym (append-nil (run_of events)); torn = no_item }
