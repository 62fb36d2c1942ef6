-- What became of the events so far, while they are listed one after another.
use Rattle.std.proofs.Common.{Result, ◌≡◌, ◌<◌, ◌≤◌, ◌+◌, ℕ, List, [], ◌∷◌, ◌++◌, length, map, take, get_or, slice_get, option_map, Bool, true, false, cond, not, refl, sym, ap, ◌∙◌, subst, arith, add-one, append-nil}
use Rattle.std.specs.Prelude.{IfOk, IsSomeAnd, IsTrue, ◌↔◌, flat_map, count_by, codes, zip}
use Rattle.std.specs.List.{AllZip}
use Rattle.std.proofs.lemmas.Grind.{flat_map-append}
use Rattle.std.proofs.lemmas.List.{map-append}
use Rattle.std.proofs.lemmas.List.Sums.{sum_by-append}
use Rattle.std.proofs.Math.Seq.{take-suc}
use Rattle.std.proofs.lemmas.Option.{slice_get-map, slice_get_read}
use Rattle.custody_store.specs.Book.{Told, told_of, told_events}
use Rattle.custody_store.specs.declared.message.Acknowledged.{Acknowledged}
use Rattle.relay_net.specs.Network.{Network}
use Rattle.custody_steps.specs.World.{World}
use Rattle.custody_core.specs.Custody.{IsKeptAs}
use Rattle.loss_rules.specs.declared.label.Duty.{Duty}
use Rattle.plan_answers.specs.Replays.{IsWorldListing, fate_line}
use Rattle.program_text.specs.declared.status.Status.{Status}
use Rattle.hex.specs.Hex.{encode_lower}
use Rattle.program_text.specs.Lines.{line}

-- whether an event is kept as is asked
abbrev IsHeldSo : {A : Type 0} → Duty → Network A → World → Told → Bool → Type 0
IsHeldSo asked net w told is_held = IsTrue is_held ↔ IsKeptAs asked net w told

-- the lines of the first n events
pub record AreListedTo {A : Type 0} (asked : Duty) (net : Network A) (w : World) (events : List (Acknowledged A)) (n : ℕ) (lines : List ℕ) (lost : ℕ) : Type 0 where
  pub held : List Bool
  pub are_held : AllZip (IsHeldSo asked net w) (map told_of (take n events)) held
  pub lines_are : lines ≡ flat_map fate_line (zip (map told_of (take n events)) held)
  pub lost_is : lost ≡ count_by not held
  pub few : lost ≤ n

pub listed_none : {A : Type 0} (asked : Duty) (net : Network A) (w : World) (events : List (Acknowledged A)) → AreListedTo asked net w events 0 [] 0
listed_none asked net w events = record { held = []; are_held = tt; lines_are = refl; lost_is = refl; few = omega arith }

-- one pair more is so
all-push : {X Y : Type 0} (R : X → Y → Type 0) (xs : List X) (ys : List Y) (x : X) (y : Y) → AllZip R xs ys → R x y → AllZip R (xs ++ x ∷ []) (ys ++ y ∷ [])
all-push R [] [] x y h r = (r, tt)
all-push R [] (b ∷ ys) x y h r = absurd h
all-push R (a ∷ xs) [] x y h r = absurd h
all-push R (a ∷ xs) (b ∷ ys) x y h r = (h.0, all-push R xs ys x y h.1 r)

-- one pair more
zip-push : {X Y : Type 0} (R : X → Y → Type 0) (xs : List X) (ys : List Y) (x : X) (y : Y) → AllZip R xs ys → zip (xs ++ x ∷ []) (ys ++ y ∷ []) ≡ zip xs ys ++ (x, y) ∷ []
zip-push R [] [] x y h = refl
zip-push R [] (b ∷ ys) x y h = absurd h
zip-push R (a ∷ xs) [] x y h = absurd h
zip-push R (a ∷ xs) (b ∷ ys) x y h = ap (λ l. (a, b) ∷ l) (zip-push R xs ys x y h.1)

one_lost : (is_held : Bool) → 0 + cond (not is_held) 1 0 ≡ cond is_held 0 1
one_lost true = refl
one_lost false = refl

lost_more : (held : List Bool) (is_held : Bool) → count_by not (held ++ is_held ∷ []) ≡ count_by not held + cond is_held 0 1
lost_more held is_held = sum_by-append (λ b. cond (not b) 1 0) held (is_held ∷ []) ∙ ap (λ n. count_by not held + n) (one_lost is_held)

taken_more : {A : Type 0} (events : List (Acknowledged A)) (n : ℕ) (event : Acknowledged A) → n < length events → event ≡ get_or events n event
    → map told_of (take (n + 1) events) ≡ map told_of (take n events) ++ told_of event ∷ []
taken_more events n event lt is =
    ap (λ k. map told_of (take k events)) (add-one n) ∙ ap (map told_of) (take-suc events n event lt) ∙ map-append told_of (take n events) (get_or events n event ∷ [])
    ∙ ap (λ x. map told_of (take n events) ++ told_of x ∷ []) (sym is)

-- one event more
pub listed_more : {A : Type 0} (asked : Duty) (net : Network A) (w : World) (events : List (Acknowledged A)) (n : ℕ) (lines : List ℕ) (lost : ℕ) (event : Acknowledged A) (is_held : Bool) (lines' : List ℕ) (lost' : ℕ)
    → AreListedTo asked net w events n lines lost → n < length events → event ≡ get_or events n event → (IsTrue is_held ↔ IsKeptAs asked net w (told_of event))
    → lines' ≡ lines ++ (line (cond is_held (codes "held ") (codes "lost ") ++ (told_of event).event.tag ++ codes " " ++ encode_lower (told_of event).event.entry)) → lost' ≡ lost + cond is_held 0 1 → lost' ≤ n + 1
    → AreListedTo asked net w events (n + 1) lines' lost'
listed_more asked net w events n lines lost event is_held lines' lost' so_far lt is held more fewer few =
    let told = map told_of (take n events) in
    let all = so_far.held ++ is_held ∷ [] in
    let fate : Told × Bool = (told_of event, is_held) in
    let those = zip told so_far.held in
    let taken = taken_more events n event lt is in
    record {
      held = all;
      are_held = subst (λ events. AllZip (IsHeldSo asked net w) events all) (sym taken) (all-push (IsHeldSo asked net w) told so_far.held (told_of event) is_held so_far.are_held held);
      lines_are = more ∙ ap (λ l. l ++ fate_line fate) so_far.lines_are
          ∙ sym (flat_map-append fate_line those (fate ∷ []) ∙ ap (λ l. flat_map fate_line those ++ l) (append-nil (fate_line fate)))
          ∙ ap (flat_map fate_line) (sym (zip-push (IsHeldSo asked net w) told so_far.held (told_of event) is_held so_far.are_held))
          ∙ ap (λ events. flat_map fate_line (zip events all)) (sym taken);
      lost_is = fewer ∙ ap (λ n. n + cond is_held 0 1) so_far.lost_is ∙ sym (lost_more so_far.held is_held);
      few = few;
    }

-- what is answered of the event of a number, of the event
pub held_event : {A : Type 0} (asked : Duty) (net : Network A) (w : World) (events : List (Acknowledged A)) (n : ℕ) (event : Acknowledged A) (is_held : Bool) → told_events events ≡ w.acknowledged → n < length events → event ≡ get_or events n event
    → (IsTrue is_held ↔ IsSomeAnd (slice_get w.acknowledged n) (IsKeptAs asked net w)) → (IsTrue is_held ↔ IsKeptAs asked net w (told_of event))
held_event asked net w events n event is_held told lt is kept =
    subst (λ o. IsTrue is_held ↔ IsSomeAnd o (IsKeptAs asked net w))
    (ap (λ l. slice_get l n) (sym told) ∙ slice_get-map told_of events n ∙ ap (option_map told_of) (slice_get_read events (length events) n event refl lt is)) kept

-- all events
pub listed_all : {A : Type 0} (asked : Duty) (net : Network A) (w : World) (events : List (Acknowledged A)) (n : ℕ) (lines : List ℕ) (lost : ℕ) → told_events events ≡ w.acknowledged → take n events ≡ events
    → AreListedTo asked net w events n lines lost
    → (held : List Bool) × AllZip (λ told is_held. IsTrue is_held ↔ IsKeptAs asked net w told) w.acknowledged held × (lines ≡ flat_map fate_line (zip w.acknowledged held)) × (lost ≡ count_by not held)
listed_all asked net w events n lines lost told whole so_far =
    let all : map told_of (take n events) ≡ w.acknowledged = ap (map told_of) whole ∙ told in (
      so_far.held,
      subst (λ events. AllZip (IsHeldSo asked net w) events so_far.held) all so_far.are_held,
      so_far.lines_are ∙ ap (λ events. flat_map fate_line (zip events so_far.held)) all,
      so_far.lost_is,
    )

-- what is listed of a world in its network, in the network that it was run in, and so of what is
-- asked there and of how many steps there were
pub relisted : {A S E : Type 0} (asked asked' : Duty) (net net' : Network A) (steps steps' : ℕ) (listed : Result S E) (lines : S → List ℕ) (status : S → Status) (w : World)
    → asked ≡ asked' → net ≡ net' → steps ≡ steps'
    → IfOk listed (λ said. IsWorldListing asked net w steps (lines said) (status said)) → IfOk listed (λ said. IsWorldListing asked' net' w steps' (lines said) (status said))
relisted asked asked' net net' steps steps' listed lines status w same_asked same_net same_steps is =
    subst (λ a. IfOk listed (λ said. IsWorldListing a net' w steps' (lines said) (status said))) same_asked
    (subst (λ n. IfOk listed (λ said. IsWorldListing asked n w steps' (lines said) (status said))) same_net
    (subst (λ k. IfOk listed (λ said. IsWorldListing asked net w k (lines said) (status said))) same_steps is))
