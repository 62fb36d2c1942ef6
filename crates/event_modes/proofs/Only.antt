-- There is one answer to bytes.
use Rattle.std.proofs.Common.{ℕ, ◌≡◌, List, [], ◌∷◌, ◌++◌, length, take, drop, refl, ap, sym, subst, ◌∙◌, arith, append_assoc, inl, inr, Option, Some, None}
use Rattle.std.specs.Prelude.{codes}
use Rattle.std.specs.List.{AllByRecursion, concat}
use Rattle.std.proofs.lemmas.List.{take-append-drop, length-take-le}
use Rattle.msgpack_bytes.specs.declared.answers.MsgFault.{MsgFault}
use Rattle.msgpack_bytes.specs.declared.answers.Scan.TheVariants as scan
use Rattle.msgpack_bytes.specs.Item.{IsItemWithin, IsOpen}
use Rattle.msgpack_bytes.specs.Kinds.{IsNil, IsText}
use Rattle.msgpack_bytes.specs.Fault.{IsFaulty}
use Rattle.msgpack_bytes.specs.Answers.{Begins}
use Rattle.msgpack_bytes.proofs.Scanned.{one_answer}
use Rattle.event_modes.specs.declared.fault.ModeFault.{ModeFault}
use Rattle.event_modes.specs.declared.fault.ModeFault.TheVariants.{NotAMessage, BadTag, BadTime, BadRecord, BadEntry, TornPacked, Compressed, BadOption, Bytes}
use Rattle.msgpack_bytes.specs.Containers.{Pair}
use Rattle.event_modes.specs.Entry.{IsTime, IsRecord}
use Rattle.event_modes.specs.Options.{IsFit, IsOption}
use Rattle.event_modes.specs.Message.{Parts, Carrier, Single, Forward, Packed, Frame, IsTag, Carries, IsMessage}
use Rattle.event_modes.specs.Faults.{EventFault, EntryFault, IsGoodEntry, BeginsBadly, PackedEnd, PackedFault, CarriedFault, PairFault, OptionFault, FrameFault, ItemFault, StreamFault}
use Rattle.event_modes.specs.Reading.{Answer, Means, Beats, Wants, Refuses, Answers}
use Rattle.event_modes.proofs.Parting.{IsItem, same_front, same_behind, some_item, text_item, nil_item, front_nil}
use Rattle.event_modes.proofs.Collected.{good_entries}
use Rattle.event_modes.proofs.Begins.{array_one, map_one, text_one, no_array_nil, no_map_nil}
use Rattle.event_modes.proofs.Scans.{not_open, not_faulty}
use Rattle.event_modes.proofs.Aheads.{none_open}
use Rattle.event_modes.proofs.Firsts.{parted}
use Rattle.event_modes.proofs.One.{frame_one, means_one, never_both}

-- ---- no item begins with the bytes

pub fault_one : (bytes : List ℕ) (f g : MsgFault) → IsFaulty f bytes → IsFaulty g bytes → f ≡ g
fault_one bytes f g p q = let e = one_answer bytes 0 (scan.Bad f) (scan.Bad g) p q in cc

-- what is open has no fault
pub open_faultless : (bytes : List ℕ) (f : MsgFault) → IsOpen bytes → IsFaulty f bytes → ⊥
open_faultless bytes f o p =
    p.closed (p.rest ++ o.more) (subst IsItemWithin (ap (λ (z : List ℕ). z ++ o.more) p.whole ∙ append_assoc p.shortest p.rest o.more) o.ends)

-- ---- lists

-- of two faults of which neither is good, the first bad one is one
first_one : {X : Type 0} (Good One Other : X → Type 0) (b c : List X) (p q : X) (d e : List X) → ((x : X) → Good x → One x → ⊥) → ((x : X) → Good x → Other x → ⊥)
    → AllByRecursion Good b → One p → AllByRecursion Good c → Other q → b ++ p ∷ d ≡ c ++ q ∷ e → p ≡ q
first_one Good One Other [] [] p q d e n m g o h r eq = cc
first_one Good One Other [] (y ∷ c) p q d e n m g o h r eq = let s : p ≡ y = cc in absurd (n y h.0 (subst One s o))
first_one Good One Other (x ∷ b) [] p q d e n m g o h r eq = let s : x ≡ q = cc in absurd (m x g.0 (subst Other (sym s) r))
first_one Good One Other (x ∷ b) (y ∷ c) p q d e n m g o h r eq = first_one Good One Other b c p q d e n m g.1 o h.1 r (cc)

-- where all are good, none is bad
none_bad : {X : Type 0} (Good Bad : X → Type 0) (b : List X) (p : X) (d : List X) → ((x : X) → Good x → Bad x → ⊥) → AllByRecursion Good (b ++ p ∷ d) → Bad p → ⊥
none_bad Good Bad [] p d n g r = n p g.0 r
none_bad Good Bad (x ∷ b) p d n g r = none_bad Good Bad b p d n g.1 r

-- ---- events

event_one : (time fields : List ℕ) (f g : ModeFault) → EventFault time fields f → EventFault time fields g → f ≡ g
event_one time fields f g (inl p) (inl q) = p.0 ∙ sym q.0
event_one time fields f g (inl p) (inr q) = absurd (p.1 q.1)
event_one time fields f g (inr p) (inl q) = absurd (q.1 p.1)
event_one time fields f g (inr p) (inr q) = p.0 ∙ sym q.0

good_event : (time fields : List ℕ) (f : ModeFault) → IsTime time → IsRecord fields → EventFault time fields f → ⊥
good_event time fields f t r (inl p) = p.1 t
good_event time fields f t r (inr p) = p.2 r

entry_one : (bytes : List ℕ) (f g : ModeFault) → EntryFault bytes f → EntryFault bytes g → f ≡ g
entry_one bytes f g (inl a) (inl b) = a.0 ∙ sym b.0
entry_one bytes f g (inl a) (inr b) = absurd (a.1 b.0 b.1 b.2)
entry_one bytes f g (inr a) (inl b) = absurd (b.1 a.0 a.1 a.2)
entry_one bytes f g (inr a) (inr b) =
    let e = array_one (a.0 ∷ a.1 ∷ []) (b.0 ∷ b.1 ∷ []) bytes a.2 b.2 in
    let t : a.0 ≡ b.0 = cc in
    let r : a.1 ≡ b.1 = cc in
    event_one b.0 b.1 f g (subst (λ (z : List ℕ). EventFault b.0 z f) r (subst (λ (z : List ℕ). EventFault z a.1 f) t a.3)) b.3

pub good_entry : (f : ModeFault) (bytes : List ℕ) → IsGoodEntry bytes → EntryFault bytes f → ⊥
good_entry f bytes s (inl a) = a.1 s.1.time s.1.fields s.1.array
good_entry f bytes s (inr a) =
    let e = array_one (a.0 ∷ a.1 ∷ []) (s.1.time ∷ s.1.fields ∷ []) bytes a.2 s.1.array in
    let t : a.0 ≡ s.1.time = cc in
    let r : a.1 ≡ s.1.fields = cc in
    good_event a.0 a.1 f (subst IsTime (sym t) s.1.is_time) (subst IsRecord (sym r) s.1.is_record) a.3

-- ---- bytes that begin badly

-- they have one fault, where an item has one
badly_one : (ItsFault : List ℕ → ModeFault → Type 0) → ((item : List ℕ) (f g : ModeFault) → ItsFault item f → ItsFault item g → f ≡ g)
    → (bytes : List ℕ) (f g : ModeFault) → BeginsBadly ItsFault bytes f → BeginsBadly ItsFault bytes g → f ≡ g
badly_one ItsFault one bytes f g (inl p) (inl q) = p.1 ∙ ap (λ (x : MsgFault). Bytes x) (fault_one bytes p.0 q.0 p.2 q.2) ∙ sym q.1
badly_one ItsFault one bytes f g (inl p) (inr q) = absurd (not_faulty p.0 bytes (record { front = q.0; back = q.1; is = q.2; whole = q.4 }) p.2)
badly_one ItsFault one bytes f g (inr p) (inl q) = absurd (not_faulty q.0 bytes (record { front = p.0; back = p.1; is = p.2; whole = p.4 }) q.2)
badly_one ItsFault one bytes f g (inr p) (inr q) =
    let e = same_front p.0 q.0 p.1 q.1 (text_item p.0 p.2) (text_item q.0 q.2) (sym p.4 ∙ q.4) in
    one q.0 f g (subst (λ (z : List ℕ). ItsFault z f) e p.3) q.3

-- and are not open
badly_closed : (ItsFault : List ℕ → ModeFault → Type 0) (bytes : List ℕ) (f : ModeFault) → IsOpen bytes → BeginsBadly ItsFault bytes f → ⊥
badly_closed ItsFault bytes f o (inl p) = open_faultless bytes p.0 o p.2
badly_closed ItsFault bytes f o (inr p) = not_open bytes (record { front = p.0; back = p.1; is = p.2; whole = p.4 }) o

-- ---- packed entries

-- where packed bytes end so, they begin with no item
pub no_begin : (rest : List ℕ) (f : ModeFault) → PackedEnd rest f → Begins IsItemWithin rest → ⊥
no_begin rest TornPacked p b = not_open rest b p
no_begin rest (Bytes m) p b = not_faulty m rest b p
no_begin rest NotAMessage p b = p
no_begin rest BadTag p b = p
no_begin rest BadTime p b = p
no_begin rest BadRecord p b = p
no_begin rest BadEntry p b = p
no_begin rest Compressed p b = p
no_begin rest BadOption p b = p

packed_one : (rest : List ℕ) (f g : ModeFault) → PackedFault rest f → PackedFault rest g → f ≡ g
packed_one rest f g (inl p) (inl q) = p.0 ∙ sym q.0
packed_one rest f g (inl p) (inr q) = absurd (badly_closed EntryFault rest g p.2 q)
packed_one rest f g (inr p) (inl q) = absurd (badly_closed EntryFault rest f q.2 p)
packed_one rest f g (inr p) (inr q) = badly_one EntryFault entry_one rest f g p q

-- what begins with a good entry has no fault there
good_front : (rest entry more : List ℕ) (f : ModeFault) → IsItemWithin entry → IsGoodEntry entry → rest ≡ entry ++ more → PackedFault rest f → ⊥
good_front rest entry more f t g e (inl p) = not_open rest (record { front = entry; back = more; is = t; whole = e }) p.2
good_front rest entry more f t g e (inr (inl p)) = not_faulty p.0 rest (record { front = entry; back = more; is = t; whole = e }) p.2
good_front rest entry more f t g e (inr (inr p)) =
    let s = same_front p.0 entry p.1 more (text_item p.0 p.2) (text_item entry t) (sym p.4 ∙ e) in
    good_entry f entry g (subst (λ (z : List ℕ). EntryFault z f) s p.3)

-- where nothing is left there is none
nothing_left : (rest : List ℕ) (f : ModeFault) → rest ≡ [] → PackedFault rest f → ⊥
nothing_left rest f e (inl p) = p.1 e
nothing_left rest f e (inr p) = badly_closed EntryFault rest f (subst IsOpen (sym e) none_open) p

packed_rest : (xs ys : List (List ℕ)) (r s : List ℕ) (f g : ModeFault) → AllByRecursion IsItemWithin xs → AllByRecursion IsGoodEntry xs → AllByRecursion IsItemWithin ys → AllByRecursion IsGoodEntry ys
    → concat xs ++ r ≡ concat ys ++ s → PackedFault r f → PackedFault s g → r ≡ s
packed_rest [] [] r s f g t a u b e p q = e
packed_rest [] (y ∷ ys) r s f g t a u b e p q = absurd (good_front r y (concat ys ++ s) f u.0 b.0 (e ∙ append_assoc y (concat ys) s) p)
packed_rest (x ∷ xs) [] r s f g t a u b e p q = absurd (good_front s x (concat xs ++ r) g t.0 a.0 (sym e ∙ append_assoc x (concat xs) r) q)
packed_rest (x ∷ xs) (y ∷ ys) r s f g t a u b e p q =
    let d = sym (append_assoc x (concat xs) r) ∙ e ∙ append_assoc y (concat ys) s in
    packed_rest xs ys r s f g t.1 a.1 u.1 b.1 (same_behind x y (concat xs ++ r) (concat ys ++ s) (text_item x t.0) (text_item y u.0) d) p q

-- all of the content is good entries, or there is a fault behind some
packed_good : (xs ys : List (List ℕ)) (r : List ℕ) (f : ModeFault) → AllByRecursion IsItemWithin xs → AllByRecursion IsGoodEntry xs → AllByRecursion IsItemWithin ys → concat xs ≡ concat ys ++ r → PackedFault r f → ⊥
packed_good [] [] r f t g u e p = nothing_left r f (sym e) p
packed_good [] (y ∷ ys) r f t g u e p = some_item (subst IsItem (front_nil y (concat ys ++ r) (sym (e ∙ append_assoc y (concat ys) r))) (text_item y u.0))
packed_good (x ∷ xs) [] r f t g u e p = good_front r x (concat xs) f t.0 g.0 (sym e) p
packed_good (x ∷ xs) (y ∷ ys) r f t g u e p =
    packed_good xs ys r f t.1 g.1 u.1 (same_behind x y (concat xs) (concat ys ++ r) (text_item x t.0) (text_item y u.0) (e ∙ append_assoc y (concat ys) r)) p

-- ---- what carries the events

carried_one : (c : Carrier) (f g : ModeFault) → CarriedFault c f → CarriedFault c g → f ≡ g
carried_one (Single time fields) f g p q = event_one time fields f g p q
carried_one (Forward array) f g p q =
    let e = array_one p.0 q.0 array p.1 q.1 in
    let b = parted IsGoodEntry (λ (z : List ℕ). EntryFault z f) p.0 p.2 in
    let d = parted IsGoodEntry (λ (z : List ℕ). EntryFault z g) q.0 q.2 in
    let s = first_one IsGoodEntry (λ z. EntryFault z f) (λ z. EntryFault z g) b.before d.before b.first d.first b.after d.after (good_entry f) (good_entry g) b.good b.bad d.good d.bad (sym b.whole ∙ e ∙ d.whole) in
    entry_one d.first f g (subst (λ (z : List ℕ). EntryFault z f) s b.bad) d.bad
carried_one (Packed content) f g p q =
    let e = packed_rest p.0 q.0 p.1 q.1 f g p.2 p.3 q.2 q.3 (sym p.4 ∙ q.4) p.5 q.5 in
    packed_one q.1 f g (subst (λ (z : List ℕ). PackedFault z f) e p.5) q.5

good_carried : (c : Carrier) (entries : List (List ℕ)) (f : ModeFault) → Carries c entries → CarriedFault c f → ⊥
good_carried (Single time fields) entries f p q = good_event time fields f p.0 p.1 q
good_carried (Forward array) entries f p q =
    let e = array_one p.0 q.0 array p.1 q.1 in
    let b = parted IsGoodEntry (λ (z : List ℕ). EntryFault z f) q.0 q.2 in
    none_bad IsGoodEntry (λ z. EntryFault z f) b.before b.first b.after (good_entry f) (subst (AllByRecursion IsGoodEntry) (e ∙ b.whole) (good_entries p.0 entries p.2)) b.bad
good_carried (Packed content) entries f p q = packed_good p.0 q.0 q.1 f p.1 (good_entries p.0 entries p.3) q.2 (sym p.2 ∙ q.4) q.5

-- ---- the option

name_one : (key : List ℕ) → IsText key (codes "chunk") → IsText key (codes "compressed") → ⊥
name_one key p q = let e = ap length (text_one key (codes "chunk") (codes "compressed") p q) in omega arith

pair_one : (pair : Pair) (f g : ModeFault) → PairFault f pair → PairFault g pair → f ≡ g
pair_one pair f g (inl p) (inl q) = p.0 ∙ sym q.0
pair_one pair f g (inl p) (inr q) = absurd (name_one pair.key p.1 q.1)
pair_one pair f g (inr p) (inl q) = absurd (name_one pair.key q.1 p.1)
pair_one pair f g (inr p) (inr q) = p.0 ∙ sym q.0

fit_pair : (f : ModeFault) (pair : Pair) → IsFit pair → PairFault f pair → ⊥
fit_pair f pair p (inl q) = q.2 (p.chunk q.1)
fit_pair f pair p (inr q) = q.2 (p.compressed q.1)

option_one : (option : Option (List ℕ)) (f g : ModeFault) → OptionFault option f → OptionFault option g → f ≡ g
option_one None f g p q = absurd p
option_one (Some bytes) f g (inl p) (inl q) = p.0 ∙ sym q.0
option_one (Some bytes) f g (inl p) (inr q) = absurd (p.2 q.0 q.1)
option_one (Some bytes) f g (inr p) (inl q) = absurd (q.2 p.0 p.1)
option_one (Some bytes) f g (inr p) (inr q) =
    let e = map_one p.0 q.0 bytes p.1 q.1 in
    let b = parted IsFit (PairFault f) p.0 p.2 in
    let d = parted IsFit (PairFault g) q.0 q.2 in
    let s = first_one IsFit (PairFault f) (PairFault g) b.before d.before b.first d.first b.after d.after (fit_pair f) (fit_pair g) b.good b.bad d.good d.bad (sym b.whole ∙ e ∙ d.whole) in
    pair_one d.first f g (subst (PairFault f) s b.bad) d.bad

good_option : (option ack : Option (List ℕ)) (f : ModeFault) → IsOption option ack → OptionFault option f → ⊥
good_option None ack f p q = q
good_option (Some bytes) ack f (inl p) (inl q) = q.1 p.0
good_option (Some bytes) ack f (inl p) (inr q) = no_map_nil q.0 bytes q.1 p.0
good_option (Some bytes) ack f (inr p) (inl q) = q.2 p.0 p.1
good_option (Some bytes) ack f (inr p) (inr q) =
    let e = map_one p.0 q.0 bytes p.1 q.1 in
    let b = parted IsFit (PairFault f) q.0 q.2 in
    none_bad IsFit (PairFault f) b.before b.first b.after (fit_pair f) (subst (AllByRecursion IsFit) (e ∙ b.whole) p.2) b.bad

-- ---- a message's places

places_one : (frame : Frame) (f g : ModeFault) → FrameFault frame f → FrameFault frame g → f ≡ g
places_one frame f g (inl p) (inl q) = p.0 ∙ sym q.0
places_one frame f g (inl p) (inr (inl q)) = absurd (p.1 q.0 q.1)
places_one frame f g (inl p) (inr (inr q)) = absurd (p.1 q.0 q.2)
places_one frame f g (inr (inl p)) (inl q) = absurd (q.1 p.0 p.1)
places_one frame f g (inr (inr p)) (inl q) = absurd (q.1 p.0 p.2)
places_one frame f g (inr (inl p)) (inr (inl q)) = carried_one frame.carrier f g p.2 q.2
places_one frame f g (inr (inl p)) (inr (inr q)) = absurd (good_carried frame.carrier q.1 f q.3 p.2)
places_one frame f g (inr (inr p)) (inr (inl q)) = absurd (good_carried frame.carrier p.1 g p.3 q.2)
places_one frame f g (inr (inr p)) (inr (inr q)) = option_one frame.option f g p.4 q.4

item_one : (bytes : List ℕ) (f g : ModeFault) → ItemFault bytes f → ItemFault bytes g → f ≡ g
item_one bytes f g (inl p) (inl q) = p.0 ∙ sym q.0
item_one bytes f g (inl p) (inr q) = absurd (p.2 q.0 q.1)
item_one bytes f g (inr p) (inl q) = absurd (q.2 p.0 p.1)
item_one bytes f g (inr p) (inr q) =
    places_one q.0 f g (subst (λ (h : Frame). FrameFault h f) (frame_one bytes p.0 q.0 p.1 q.1) p.2) q.2

-- a message has no fault
no_frame_fault : (frame : Frame) (parts : Parts) (f : ModeFault) → IsTag frame.tag parts.tag → Carries frame.carrier parts.entries → IsOption frame.option parts.ack → FrameFault frame f → ⊥
no_frame_fault frame parts f t c o (inl p) = p.1 parts.tag t
no_frame_fault frame parts f t c o (inr (inl p)) = good_carried frame.carrier parts.entries f c p.2
no_frame_fault frame parts f t c o (inr (inr p)) = good_option frame.option parts.ack f o p.4

pub faultless : (bytes : List ℕ) (parts : Parts) (f : ModeFault) → IsMessage bytes parts → ItemFault bytes f → ⊥
faultless bytes parts f m (inl p) = p.2 m.frame m.framed
faultless bytes parts f m (inr p) =
    no_frame_fault m.frame parts f m.tag m.entries m.ack (subst (λ (h : Frame). FrameFault h f) (frame_one bytes p.0 m.frame p.1 m.framed) p.2)

-- nor has a nil
pub nil_faultless : (bytes : List ℕ) (f : ModeFault) → IsNil bytes → ItemFault bytes f → ⊥
nil_faultless bytes f n (inl p) = p.1 n
nil_faultless bytes f n (inr p) = no_array_nil p.1.elements bytes p.1.array n

-- ---- answers

begins_message : (bytes : List ℕ) (n : ℕ) (parts : Parts) → IsMessage (take n bytes) parts → Begins IsItemWithin bytes
begins_message bytes n parts m = record { front = take n bytes; back = drop n bytes; is = m.item; whole = sym (take-append-drop n bytes) }

begins_nil : (bytes rest : List ℕ) → bytes ≡ 0xc0 ∷ rest → Begins IsItemWithin bytes
begins_nil bytes rest e = record { front = 0xc0 ∷ []; back = rest; is = nil_item; whole = e }

-- two fronts that are items are one
one_front : (bytes : List ℕ) (a b : Begins IsItemWithin bytes) → a.front ≡ b.front
one_front bytes a b = same_front a.front b.front a.back b.back (text_item a.front a.is) (text_item b.front b.is) (sym a.whole ∙ b.whole)

-- a fault of bytes that begin with an item is one of the item
fault_of_item : (bytes : List ℕ) (f : ModeFault) (b : Begins IsItemWithin bytes) → StreamFault bytes f → ItemFault b.front f
fault_of_item bytes f b (inl p) = absurd (not_faulty p.0 bytes b p.2)
fault_of_item bytes f b (inr p) =
    subst (λ (z : List ℕ). ItemFault z f) (one_front bytes (record { front = p.0; back = p.1; is = p.2; whole = p.4 }) b) p.3

pub stream_one : (bytes : List ℕ) (f g : ModeFault) → StreamFault bytes f → StreamFault bytes g → f ≡ g
stream_one bytes f g p q = badly_one ItemFault item_one bytes f g p q

pub open_unfaulted : (bytes : List ℕ) (f : ModeFault) → IsOpen bytes → StreamFault bytes f → ⊥
open_unfaulted bytes f o p = badly_closed ItemFault bytes f o p

no_message_nil : (bytes rest : List ℕ) (n : ℕ) (parts : Parts) → IsMessage (take n bytes) parts → bytes ≡ 0xc0 ∷ rest → ⊥
unfolding begins_message begins_nil
no_message_nil bytes rest n parts m e = never_both (take n bytes) parts m (one_front bytes (begins_message bytes n parts m) (begins_nil bytes rest e))

-- there is one answer to bytes
pub one_answer_to : (bytes : List ℕ) (a b : Answer) → Answers bytes a → Answers bytes b → a ≡ b
unfolding begins_message begins_nil
one_answer_to bytes (Means x m) (Means y n) p q =
    let f = one_front bytes (begins_message bytes m x p.1) (begins_message bytes n y q.1) in
    let k : m ≡ n = sym (length-take-le m bytes p.0) ∙ ap length f ∙ length-take-le n bytes q.0 in
    let s = means_one (take n bytes) x y (subst (λ (z : List ℕ). IsMessage z x) f p.1) q.1 in
    cc
one_answer_to bytes (Means x m) (Beats n) p q = absurd (no_message_nil bytes q.1.0 m x p.1 q.1.1)
one_answer_to bytes (Means x m) Wants p q = absurd (not_open bytes (begins_message bytes m x p.1) q)
one_answer_to bytes (Means x m) (Refuses f) p q = absurd (faultless (take m bytes) x f p.1 (fault_of_item bytes f (begins_message bytes m x p.1) q))
one_answer_to bytes (Beats m) (Means y n) p q = absurd (no_message_nil bytes p.1.0 n y q.1 p.1.1)
one_answer_to bytes (Beats m) (Beats n) p q = ap (λ (k : ℕ). Beats k) (p.0 ∙ sym q.0)
one_answer_to bytes (Beats m) Wants p q = absurd (not_open bytes (begins_nil bytes p.1.0 p.1.1) q)
one_answer_to bytes (Beats m) (Refuses f) p q = absurd (nil_faultless (0xc0 ∷ []) f refl (fault_of_item bytes f (begins_nil bytes p.1.0 p.1.1) q))
one_answer_to bytes Wants (Means y n) p q = absurd (not_open bytes (begins_message bytes n y q.1) p)
one_answer_to bytes Wants (Beats n) p q = absurd (not_open bytes (begins_nil bytes q.1.0 q.1.1) p)
one_answer_to bytes Wants Wants p q = refl
one_answer_to bytes Wants (Refuses f) p q = absurd (open_unfaulted bytes f p q)
one_answer_to bytes (Refuses f) (Means y n) p q = absurd (faultless (take n bytes) y f q.1 (fault_of_item bytes f (begins_message bytes n y q.1) p))
one_answer_to bytes (Refuses f) (Beats n) p q = absurd (nil_faultless (0xc0 ∷ []) f refl (fault_of_item bytes f (begins_nil bytes q.1.0 q.1.1) p))
one_answer_to bytes (Refuses f) Wants p q = absurd (open_unfaulted bytes f q p)
one_answer_to bytes (Refuses f) (Refuses g) p q = ap (λ (x : ModeFault). Refuses x) (stream_one bytes f g p q)
