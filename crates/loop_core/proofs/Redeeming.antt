-- What became of the appends that waited, at each buffer.
use Rattle.std.proofs.Common.{ℕ, ◌==◌, ◌≡◌, ◌∙◌, ◌+◌, ◌<◌, ◌≤◌, ◌⊎◌, inl, inr, arith, Bool, true, false, List, [], ◌∷◌, length, map, ap, refl, sym, subst, Option, Result, Ok, Err}
use Rattle.std.specs.Prelude.{◌≢◌, OnErr, OnOk, slice_index_or, slice_set, unwrap_or}
use Rattle.std.proofs.Math.Nat.{eq-or-lt_of_le}
use Rattle.std.proofs.lemmas.Bool.{cases_lt, eqb-true}
use Rattle.std.proofs.lemmas.List.{get_or-map, get_or-set_same, get_or-set_other, length-map, length-set, map-set}
use Rattle.std.proofs.lemmas.Option.{slice_get_past, unwrap_or-slice_get}
use Rattle.ack_receipt.specs.Terms.{Terms}
use Rattle.buffer_store.specs.declared.fault.BufferFault.{BufferFault}
use Rattle.buffer_store.specs.declared.fault.BufferFault.TheVariants.{Failed, Fault, Memory}
use Rattle.ack_receipt.specs.declared.fault.RedeemFault.{RedeemFault}
use Rattle.ack_receipt.specs.declared.fault.RedeemFault.TheVariants.{Buffer}
use Rattle.relay_conf.specs.declared.output.BufferNo.{BufferNo}
use Rattle.ack_receipt.specs.Deliveries.{Appended, Pended}
use Rattle.ack_receipt.specs.Redeeming.{AreReceiptsOf, IsUnredeemed, origin_of, origin_of_pending}
use Rattle.loop_core.specs.Lanes.{AreRedeemed, AreRedeemedAt, GetNone, HaveReceipts, IsUntouched, LaneState, LanesState, WaitOn, is_lost, later_at, listed_at}
use Rattle.loop_core.proofs.KeepingLanes.{lanes_of}
use Rattle.loop_core.proofs.Appending.{listed_is, listed_past, listed_there}

-- no appends waited, and there are no receipts
pub none_wait : {A : Type 0} (old new : LaneState A) → new.later ≡ false → old.waiting ≡ [] → new.waiting ≡ [] → new.receipts ≡ [] → HaveReceipts old new
none_wait old new later none now receipts = record {
  later = later;
  waiting = now;
  receipts = record {
    same = ap (map origin_of) receipts ∙ sym (ap (map origin_of_pending) none);
    own = subst (λ (l : List Pended). (k : ℕ) (d : Pended) → k < length l → (slice_index_or l k d).leaf ≡ old.terms.leaf) (sym none) (λ k d within. absurd (omega arith));
  };
}

-- receipts that nobody took are gone, and none is to come later
abbrev pub fresh : {A : Type 0} → LaneState A → LaneState A
fresh old = record old { receipts = []; later = false }

pub begins_fresh : {A : Type 0} (old kept inside noted now : LaneState A) (none : List Appended) → kept ≡ record old { receipts = none } → none ≡ [] → inside ≡ kept
    → noted ≡ record inside { later = false } → now ≡ noted → now ≡ fresh old
begins_fresh old kept inside noted now none keeps is view notes view' =
    view' ∙ notes ∙ ap (λ (l : LaneState _). record l { later = false }) (view ∙ keeps ∙ ap (λ (l : List Appended). record old { receipts = l }) is)

nothing : {X : Type 0} (xs : List X) (empty : Bool) (count : ℕ) → count ≡ length xs → empty ≡ (count == 0) → empty ≡ true → xs ≡ []
nothing [] empty count counted says e = refl
nothing (x ∷ xs) empty count counted says e = absurd (let none = eqb-true count 0 (sym says ∙ e) in omega arith)

-- nothing waits
pub empty_waits : {A : Type 0} (old kept inside : LaneState A) (none : List Appended) (empty : Bool) (count : ℕ) → kept ≡ record old { receipts = none } → none ≡ [] → inside ≡ kept
    → empty ≡ (count == 0) → empty ≡ true → count ≡ length inside.waiting → (old.waiting ≡ []) × (inside.waiting ≡ []) × (inside.receipts ≡ [])
empty_waits old kept inside none empty count keeps is view says t counted =
    let waits : inside.waiting ≡ [] = nothing inside.waiting empty count counted says t in
    let same : inside ≡ record old { receipts = none } = view ∙ keeps in
    (sym (ap (λ (l : LaneState _). l.waiting) same) ∙ waits, waits, ap (λ (l : LaneState _). l.receipts) same ∙ is)

-- the receipts are made of all that waited
pub have_receipts : {A V : Type 0} (items : V → List Pended) (old now new : LaneState A) (list held left made : V) (receipts : List Appended) → now ≡ fresh old
    → new ≡ record now { waiting = items left; receipts = receipts } → left ≡ made → items made ≡ [] → list ≡ held → items held ≡ now.waiting
    → (terms : Terms A) → terms ≡ now.terms → AreReceiptsOf terms.leaf (items list) receipts → HaveReceipts old new
have_receipts items old now new list held left made receipts begins is put none took all terms own done = record {
  later = ap (λ (l : LaneState _). l.later) is ∙ ap (λ (l : LaneState _). l.later) begins;
  waiting = ap (λ (l : LaneState _). l.waiting) is ∙ ap items put ∙ none;
  receipts =
      subst (λ (r : List Appended). AreReceiptsOf old.terms.leaf old.waiting r) (sym (ap (λ (l : LaneState _). l.receipts) is))
      (subst (λ (l : LaneState _). AreReceiptsOf l.terms.leaf l.waiting receipts) begins
      (subst (λ (t : Terms _). AreReceiptsOf t.leaf now.waiting receipts) own
      (subst (λ (w : List Pended). AreReceiptsOf terms.leaf w receipts) (ap items took ∙ all) done)));
}

-- they wait on, and there are no receipts
pub wait_on : {A V : Type 0} (items : V → List Pended) (old now : LaneState A) (put back list held : V) → now ≡ fresh old → put ≡ back → back ≡ list → list ≡ held → items held ≡ now.waiting
    → (items put ≡ old.waiting) × (now.receipts ≡ [])
wait_on items old now put back list held begins again same took all =
    (ap items (again ∙ same ∙ took) ∙ all ∙ ap (λ (l : LaneState _). l.waiting) begins, ap (λ (l : LaneState _). l.receipts) begins)

-- they get none, and there are no receipts
pub gets_none : {A V : Type 0} (items : V → List Pended) (old now new : LaneState A) (left made : V) → now ≡ fresh old → new ≡ record now { waiting = items left } → left ≡ made → items made ≡ []
    → (new.terms ≡ old.terms) × (new.plan ≡ old.plan) × GetNone new
gets_none {A} items old now new left made begins is put none =
    let same : new ≡ record (fresh old) { waiting = items left } = is ∙ ap (λ (l : LaneState A). record l { waiting = items left }) begins in (
      ap (λ (l : LaneState A). l.terms) same,
      ap (λ (l : LaneState A). l.plan) same,
      record {
        later = ap (λ (l : LaneState A). l.later) same;
        waiting = ap (λ (l : LaneState A). l.waiting) same ∙ ap items put ∙ none;
        receipts = ap (λ (l : LaneState A). l.receipts) same;
      },
    )

-- what refuses them is the device, but for want of memory
pub lost_unless : (given : RedeemFault) (why : BufferFault) → IsUnredeemed given → given ≡ Buffer why → (why ≡ Memory → ⊥) → is_lost why ≡ true
lost_unless given why refused is other = by (subst IsUnredeemed is refused)
  where
    by : IsUnredeemed (Buffer why) → is_lost why ≡ true
    by (inl e) = absurd (cc e)
    by (inr (inl e)) = let same : why ≡ Failed = cc e in ap is_lost same
    by (inr (inr (inl e))) = absurd (other (cc e))
    by (inr (inr (inr e))) = let same : why ≡ Fault = cc e in ap is_lost same

-- a lane's answer, as all buffers see it
lane_redeemed : {A T : Type 0} (old new : LaneState A) (answer : Result T BufferFault) → OnOk answer (HaveReceipts old new ⊎ WaitOn old new) → OnErr answer (GetNone new)
    → AreRedeemed old.waiting new.later new.waiting
lane_redeemed old new (Ok _) (inl have) err =
    subst (λ (b : Bool). AreRedeemed old.waiting b new.waiting) (sym have.later) have.waiting
lane_redeemed old new (Ok _) (inr wait) err =
    subst (λ (b : Bool). AreRedeemed old.waiting b new.waiting) (sym wait.later) wait.waiting
lane_redeemed old new (Err _) ok none =
    subst (λ (b : Bool). AreRedeemed old.waiting b new.waiting) (sym none.later) none.waiting

-- whether receipts come later of a buffer that is there
pub later_is : {L : Type 0} (f : L → Bool) (lanes : List L) (buffer : BufferNo) (one : L) → buffer.0 < length lanes → one ≡ slice_index_or lanes buffer.0 one
    → later_at (map f lanes) buffer ≡ f one
later_is f lanes buffer one within is = unwrap_or-slice_get (map f lanes) buffer.0 false ∙ get_or-map f lanes buffer.0 one false within ∙ ap f (sym is)

pub later_past : (later : List Bool) (buffer : BufferNo) → length later ≤ buffer.0 → later_at later buffer ≡ false
later_past later buffer past = ap (λ (o : Option Bool). unwrap_or o false) (slice_get_past later buffer.0 past)

-- the lane that was put at a place is what is there
put_is : {L : Type 0} (lanes : List L) (place : ℕ) (new : L) → place < length lanes → new ≡ slice_index_or (slice_set lanes place new) place new
put_is lanes place new within = sym (get_or-set_same lanes place new new within)

-- one of the buffers redeemed its appends
pub redeemed_at : {A T : Type 0} {time time' : ℕ} {short short' : Bool} (lanes : List (LaneState A)) (place : ℕ) (old new : LaneState A) (room room' : ℕ) (first first' : Option BufferFault) (answer : Result T BufferFault)
    (before after : LanesState A) (buffer : BufferNo) → place < length lanes → old ≡ slice_index_or lanes place old
    → OnOk answer (HaveReceipts old new ⊎ WaitOn old new) → OnErr answer (GetNone new)
    → lanes_of lanes room first time short ≡ before → after ≡ lanes_of (slice_set lanes place new) room' first' time' short' → buffer.0 ≡ place → AreRedeemedAt buffer before after
redeemed_at {A} {T} {time} {time'} {short} {short'} lanes place old new room room' first first' answer before after buffer within is ok err b a same =
    subst (λ (s : LanesState A). AreRedeemedAt buffer s after) b
    (subst (AreRedeemedAt buffer (lanes_of lanes room first time short)) (sym a) (by place same within is))
  where
    by : (k : ℕ) → buffer.0 ≡ k → k < length lanes → old ≡ slice_index_or lanes k old → AreRedeemedAt buffer (lanes_of lanes room first time short) (lanes_of (slice_set lanes place new) room' first' time' short')
    by k e w i =
        let here : buffer.0 < length lanes = subst (λ (n : ℕ). n < length lanes) (sym e) w in
        let there : buffer.0 < length (slice_set lanes place new) = subst (λ (n : ℕ). buffer.0 < n) (sym (length-set lanes place new)) here in
        let was : old ≡ slice_index_or lanes buffer.0 old = subst (λ (n : ℕ). old ≡ slice_index_or lanes n old) (sym e) i in
        let now : new ≡ slice_index_or (slice_set lanes place new) buffer.0 new =
        subst (λ (n : ℕ). new ≡ slice_index_or (slice_set lanes place new) n new) (sym same) (put_is lanes place new within) in
        rw (
          listed_is (λ (l : LaneState A). l.waiting) lanes buffer old here was,
          listed_is (λ (l : LaneState A). l.waiting) (slice_set lanes place new) buffer new there now,
          later_is (λ (l : LaneState A). l.later) (slice_set lanes place new) buffer new there now,
        ) (lane_redeemed old new answer ok err)

-- The others are as they were.
pub others_at : {A : Type 0} {time time' : ℕ} {short short' : Bool} (lanes : List (LaneState A)) (place : ℕ) (new : LaneState A) (room room' : ℕ) (first first' : Option BufferFault)
    (before after : LanesState A) (buffer : BufferNo) → lanes_of lanes room first time short ≡ before → after ≡ lanes_of (slice_set lanes place new) room' first' time' short' → buffer.0 ≢ place
    → IsUntouched buffer before after
others_at {A} {time} {time'} {short} {short'} lanes place new room room' first first' before after buffer b a apart =
    subst (λ (s : LanesState A). IsUntouched buffer s after) b
    (subst (IsUntouched buffer (lanes_of lanes room first time short)) (sym a)
    (record {
      waiting =
          ap (λ (l : List (List Pended)). listed_at l buffer) (map-set (λ (l : LaneState A). l.waiting) lanes place new)
          ∙ listed_there (map (λ (l : LaneState A). l.waiting) lanes) place buffer new.waiting apart;
      later =
          ap (λ (l : List Bool). later_at l buffer) (map-set (λ (l : LaneState A). l.later) lanes place new)
          ∙ unwrap_or-slice_get (slice_set (map (λ (l : LaneState A). l.later) lanes) place new.later) buffer.0 false
          ∙ get_or-set_other (map (λ (l : LaneState A). l.later) lanes) place buffer.0 new.later false apart
          ∙ sym (unwrap_or-slice_get (map (λ (l : LaneState A). l.later) lanes) buffer.0 false);
    }))

-- of a buffer that isn't there nothing waits, and there are no receipts
pub none_there : {A : Type 0} {time : ℕ} {short : Bool} (lanes : List (LaneState A)) (room : ℕ) (first : Option BufferFault) (state : LanesState A) (buffer : BufferNo)
    → lanes_of lanes room first time short ≡ state → length lanes ≤ buffer.0 → AreRedeemedAt buffer state state
none_there {A} lanes room first state buffer is past =
    subst (λ (s : LanesState A). AreRedeemedAt buffer s s) is
    (rw (
      listed_past (map (λ (l : LaneState A). l.waiting) lanes) buffer (rw (length-map {A = LaneState A}) past),
      later_past (map (λ (l : LaneState A). l.later) lanes) buffer (rw (length-map {A = LaneState A}) past),
    ) refl)

-- A buffer that nothing was done to yet redeemed its appends.
pub first_touched : {A : Type 0} (old between new : LanesState A) (buffer : BufferNo) → IsUntouched buffer old between → AreRedeemedAt buffer between new → AreRedeemedAt buffer old new
first_touched old between new buffer same redeemed =
    subst (λ (w : List Pended). AreRedeemed w (later_at new.later buffer) (listed_at new.waiting buffer)) same.waiting redeemed

-- What one redeemed stays, where another does.
pub still_redeemed : {A : Type 0} (old between new : LanesState A) (buffer : BufferNo) → AreRedeemedAt buffer old between → IsUntouched buffer between new → AreRedeemedAt buffer old new
still_redeemed old between new buffer redeemed same = rw (same.waiting, same.later) redeemed

pub untouched_on : {A : Type 0} (old between new : LanesState A) (buffer : BufferNo) → IsUntouched buffer old between → IsUntouched buffer between new → IsUntouched buffer old new
untouched_on old between new buffer first next = record {
  waiting = next.waiting ∙ first.waiting;
  later = next.later ∙ first.later;
}

-- so many of the buffers redeemed theirs, and then one more
pub redeemed_more : {A : Type 0} (old between new : LanesState A) (at : ℕ) → ((buffer : BufferNo) → buffer.0 < at → AreRedeemedAt buffer old between)
    → ((buffer : BufferNo) → at ≤ buffer.0 → IsUntouched buffer old between) → ((buffer : BufferNo) → buffer.0 ≡ at → AreRedeemedAt buffer between new)
    → ((buffer : BufferNo) → buffer.0 ≢ at → IsUntouched buffer between new) → (buffer : BufferNo) → buffer.0 < at + 1 → AreRedeemedAt buffer old new
redeemed_more old between new at done left here others buffer within = by (eq-or-lt_of_le {n = buffer.0} {m = at} (omega arith))
  where
    by : (buffer.0 ≡ at) ⊎ (buffer.0 < at) → AreRedeemedAt buffer old new
    by (inl e) = first_touched old between new buffer (left buffer (omega (arith, e))) (here buffer e)
    by (inr l) = still_redeemed old between new buffer (done buffer l) (others buffer (λ e. absurd (omega (arith, e, l))))

-- All did, and of others nothing waits.
pub all_redeemed : {A : Type 0} {time : ℕ} {short : Bool} (lanes : List (LaneState A)) (room : ℕ) (first : Option BufferFault) (old new : LanesState A) (end : ℕ) → lanes_of lanes room first time short ≡ old → length lanes ≤ end
    → ((buffer : BufferNo) → buffer.0 < end → AreRedeemedAt buffer old new) → ((buffer : BufferNo) → end ≤ buffer.0 → IsUntouched buffer old new)
    → (buffer : BufferNo) → AreRedeemedAt buffer old new
all_redeemed lanes room first old new end is past done left buffer = by (cases_lt buffer.0 end)
  where
    by : (buffer.0 < end) ⊎ (end ≤ buffer.0) → AreRedeemedAt buffer old new
    by (inl l) = done buffer l
    by (inr p) = still_redeemed old old new buffer (none_there lanes room first old buffer is (omega arith)) (left buffer p)
