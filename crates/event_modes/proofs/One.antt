-- An item means at most one message, and bytes are one stream.
use Rattle.std.proofs.Common.{ℕ, ◌≡◌, List, [], ◌∷◌, ◌++◌, length, refl, ap, sym, subst, ◌∙◌, inl, inr, Option, Some, None, arith, append_assoc}
use Rattle.std.proofs.lemmas.List.{append-nil, length-append}
use Rattle.std.specs.Option.{option_to_list}
use Rattle.std.specs.List.{AllZip}
use Rattle.msgpack_bytes.specs.Item.{IsItemWithin}
use Rattle.msgpack_bytes.specs.Kinds.{IsText}
use Rattle.msgpack_bytes.specs.Containers.{IsArray}
use Rattle.event_modes.specs.Entry.{IsEntry}
use Rattle.event_modes.specs.Options.{IsOption}
use Rattle.event_modes.specs.Message.{Parts, Carrier, Single, Forward, Packed, Frame, IsLaidOut, IsFrame, Carries, IsMessage}
use Rattle.event_modes.specs.Stream.{Arrival, Sent, Heartbeat, IsArrival, IsRest, Splits}
use Rattle.event_modes.specs.Laws.{MeansOne, IsNeverBoth, ReadsOneWay}
use Rattle.event_modes.proofs.Parting.{IsItem, same_front}
use Rattle.event_modes.proofs.Parting.{same_behind, same_all_items, some_item, nil_item, front_nil, text_item, texts_items}
use Rattle.event_modes.proofs.Begins.{text_one, array_one, no_array_text, no_array_nil}
use Rattle.event_modes.proofs.Last.{option_one}

-- ---- events

pub entry_one : (bytes a b : List ℕ) → IsEntry bytes a → IsEntry bytes b → a ≡ b
entry_one bytes a b p q =
    let e = array_one (p.time ∷ p.fields ∷ []) (q.time ∷ q.fields ∷ []) bytes p.array q.array in
    let t : p.time ≡ q.time = cc in
    let f : p.fields ≡ q.fields = cc in
    let s = p.is_stored in
    let r = q.is_stored in
    cc

pub entries_one : (items ms ns : List (List ℕ)) → AllZip IsEntry items ms → AllZip IsEntry items ns → ms ≡ ns
entries_one [] [] [] p q = refl
entries_one [] [] (b ∷ ns) p q = absurd q
entries_one [] (a ∷ ms) ns p q = absurd p
entries_one (x ∷ xs) [] ns p q = absurd p
entries_one (x ∷ xs) (a ∷ ms) [] p q = absurd q
entries_one (x ∷ xs) (a ∷ ms) (b ∷ ns) p q =
    let e = entry_one x a b p.0 q.0 in
    let r = entries_one xs ms ns p.1 q.1 in
    cc

pub carries_one : (c : Carrier) (ms ns : List (List ℕ)) → Carries c ms → Carries c ns → ms ≡ ns
carries_one (Single time fields) ms ns p q = p.2 ∙ sym q.2
carries_one (Forward array) ms ns p q =
    entries_one q.0 ms ns (subst (λ (xs : List (List ℕ)). AllZip IsEntry xs ms) (array_one p.0 q.0 array p.1 q.1) p.2) q.2
carries_one (Packed content) ms ns p q =
    entries_one q.0 ms ns (subst (λ (xs : List (List ℕ)). AllZip IsEntry xs ms) (same_all_items p.0 q.0 (texts_items p.0 p.1) (texts_items q.0 q.1) (sym p.2 ∙ q.2)) p.3) q.3

-- ---- places

abbrev frame_of : List ℕ → Carrier → Option (List ℕ) → Frame
frame_of tag carrier option = record { tag = tag; carrier = carrier; option = option }

options_one : (a b : Option (List ℕ)) → option_to_list a ≡ option_to_list b → a ≡ b
options_one None None e = refl
options_one None (Some b) e = absurd cc
options_one (Some a) None e = absurd cc
options_one (Some a) (Some b) e = cc

tails_one : (t u x y : List ℕ) (o p : Option (List ℕ)) → t ∷ x ∷ option_to_list o ≡ u ∷ y ∷ option_to_list p → (t ≡ u) × (x ≡ y) × (o ≡ p)
tails_one t u x y o p e =
    let s : option_to_list o ≡ option_to_list p = cc in
    (cc, cc, options_one o p s)

laid_out_one : (t u : List ℕ) (c d : Carrier) (o p : Option (List ℕ)) (es : List (List ℕ)) → IsLaidOut t c o es → IsLaidOut u d p es → frame_of t c o ≡ frame_of u d p
laid_out_one t u (Single x f) (Single y g) o p es k l =
    let e = sym k.0 ∙ l.0 in
    let s : option_to_list o ≡ option_to_list p = cc in
    let r = options_one o p s in
    let a : t ≡ u = cc in
    let b : x ≡ y = cc in
    let c : f ≡ g = cc in
    cc
laid_out_one t u (Single x f) (Forward y) o p es k l =
    let e = sym k.0 ∙ l.0 in
    let b : x ≡ y = cc in
    absurd (k.1 l.1.0 (subst (IsArray l.1.0) (sym b) l.1.1))
laid_out_one t u (Single x f) (Packed y) o p es k l =
    let e = sym k.0 ∙ l.1 in
    let b : x ≡ l.0 = cc in
    absurd (k.2 y (subst (λ (z : List ℕ). IsText z y) (sym b) l.2))
laid_out_one t u (Forward x) (Single y g) o p es k l =
    let e = sym k.0 ∙ l.0 in
    let b : x ≡ y = cc in
    absurd (l.1 k.1.0 (subst (IsArray k.1.0) b k.1.1))
laid_out_one t u (Forward x) (Forward y) o p es k l =
    let s = tails_one t u x y o p (sym k.0 ∙ l.0) in
    let a = s.0 in
    let b = s.1 in
    let c = s.2 in
    cc
laid_out_one t u (Forward x) (Packed y) o p es k l =
    let s = tails_one t u x l.0 o p (sym k.0 ∙ l.1) in
    absurd (no_array_text k.1.0 l.0 y (subst (IsArray k.1.0) s.1 k.1.1) l.2)
laid_out_one t u (Packed x) (Single y g) o p es k l =
    let e = sym k.1 ∙ l.0 in
    let b : k.0 ≡ y = cc in
    absurd (l.2 x (subst (λ (z : List ℕ). IsText z x) b k.2))
laid_out_one t u (Packed x) (Forward y) o p es k l =
    let s = tails_one t u k.0 y o p (sym k.1 ∙ l.0) in
    absurd (no_array_text l.1.0 k.0 x (subst (IsArray l.1.0) (sym s.1) l.1.1) k.2)
laid_out_one t u (Packed x) (Packed y) o p es k l =
    let s = tails_one t u k.0 l.0 o p (sym k.1 ∙ l.1) in
    let a = s.0 in
    let b = text_one l.0 x y (subst (λ (z : List ℕ). IsText z x) s.1 k.2) l.2 in
    let c = s.2 in
    cc

-- an array has the places of one mode
pub frame_one : (bytes : List ℕ) (f g : Frame) → IsFrame bytes f → IsFrame bytes g → f ≡ g
frame_one bytes f g p q =
    let e = array_one p.elements q.elements bytes p.array q.array in
    laid_out_one f.tag g.tag f.carrier g.carrier f.option g.option q.elements
    (subst (IsLaidOut f.tag f.carrier f.option) e p.laid_out) q.laid_out

-- ---- messages

pub means_one : MeansOne
means_one bytes a b p q =
    let f = frame_one bytes p.frame q.frame p.framed q.framed in
    let t = text_one q.frame.tag a.tag b.tag (subst (λ (h : Frame). IsText h.tag a.tag) f p.tag.0) q.tag.0 in
    let e = carries_one q.frame.carrier a.entries b.entries (subst (λ (h : Frame). Carries h.carrier a.entries) f p.entries) q.entries in
    let o = option_one q.frame.option a.ack b.ack (subst (λ (h : Frame). IsOption h.option a.ack) f p.ack) q.ack in
    same_parts a b t e o
  where
    same_parts : (a b : Parts) → a.tag ≡ b.tag → a.entries ≡ b.entries → a.ack ≡ b.ack → a ≡ b
    same_parts a b t e o = ap (λ (x : List ℕ). parts x a.entries a.ack) t ∙ ap (λ (x : List (List ℕ)). parts b.tag x a.ack) e ∙ ap (λ (x : Option (List ℕ)). parts b.tag b.entries x) o
      where
        parts : List ℕ → List (List ℕ) → Option (List ℕ) → Parts
        parts t e o = record { tag = t; entries = e; ack = o }

pub never_both : IsNeverBoth
never_both bytes parts m n = no_array_nil m.framed.elements bytes m.framed.array n

-- ---- streams

-- the front of a list that two items begin
same_arrival : (front one : List ℕ) (a b : Arrival) → IsArrival front a → IsArrival one b → front ≡ one → a ≡ b
same_arrival front one (Sent m) (Sent n) p q e = ap (λ (x : Parts). Sent x) (means_one one m n (subst (λ (z : List ℕ). IsMessage z m) e p) q)
same_arrival front one (Sent m) Heartbeat p q e = absurd (never_both one m (subst (λ (z : List ℕ). IsMessage z m) e p) q)
same_arrival front one Heartbeat (Sent n) p q e = absurd (never_both front n (subst (λ (z : List ℕ). IsMessage z n) (sym e) q) p)
same_arrival front one Heartbeat Heartbeat p q e = refl

pub arrival_text : (bytes : List ℕ) (a : Arrival) → IsArrival bytes a → IsItemWithin bytes
arrival_text bytes (Sent m) p = p.item
arrival_text bytes Heartbeat p = subst IsItemWithin (sym p) nil_item

arrival_item : (bytes : List ℕ) (a : Arrival) → IsArrival bytes a → IsItem bytes
arrival_item bytes a p = text_item bytes (arrival_text bytes a p)

-- what begins with an arrival is no rest
no_rest : (front back : List ℕ) (a : Arrival) (rest : List ℕ) → IsArrival front a → rest ≡ front ++ back → IsRest rest → ⊥
no_rest front back a rest p e (inl n) = some_item (subst IsItem (front_nil front back (sym e ∙ n)) (arrival_item front a p))
no_rest front back a rest p e (inr (inl o)) =
    let m : front ++ (back ++ o.more) ≡ (rest ++ o.more) ++ [] = sym (append_assoc front back o.more) ∙ ap (λ (z : List ℕ). z ++ o.more) (sym e) ∙ sym (append-nil (rest ++ o.more)) in
    let b = same_behind front (rest ++ o.more) (back ++ o.more) [] (arrival_item front a p) (text_item (rest ++ o.more) o.ends) m in
    let l = ap length b in
    absurd (omega (arith, o.some, length-append back o.more))
no_rest front back a rest p e (inr (inr (inl o))) =
    o.neither a (subst (λ (z : List ℕ). IsArrival z a) (same_front front o.item back o.more (arrival_item front a p) (text_item o.item o.is_item) (sym e ∙ o.whole)) p)
no_rest front back a rest p e (inr (inr (inr o))) = o.has_none front back e (arrival_text front a p)

streams_one : (bytes : List ℕ) (ms ns : List Arrival) (r s : List ℕ) → Splits bytes ms r → Splits bytes ns s → IsRest r → IsRest s → (ms ≡ ns) × (r ≡ s)
streams_one bytes [] [] r s p q h k = (refl, sym p ∙ q)
streams_one bytes [] (b ∷ ns) r s p q h k = absurd (no_rest q.0 q.1 b r q.2 (sym p ∙ q.4) h)
streams_one bytes (a ∷ ms) [] r s p q h k = absurd (no_rest p.0 p.1 a s p.2 (sym q ∙ p.4) k)
streams_one bytes (a ∷ ms) (b ∷ ns) r s p q h k =
    let e = sym p.4 ∙ q.4 in
    let i = arrival_item p.0 a p.2 in
    let j = arrival_item q.0 b q.2 in
    let f = same_arrival p.0 q.0 a b p.2 q.2 (same_front p.0 q.0 p.1 q.1 i j e) in
    let t = streams_one q.1 ms ns r s (subst (λ (z : List ℕ). Splits z ms r) (same_behind p.0 q.0 p.1 q.1 i j e) p.3) q.3 h k in
    let g = t.0 in
    (cc, t.1)

pub reads_one_way : ReadsOneWay
reads_one_way bytes ms ns r s p q = streams_one bytes ms ns r s p.splits q.splits p.ends q.ends
