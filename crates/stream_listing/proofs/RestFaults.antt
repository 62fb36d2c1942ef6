-- Where messages end for another reason than that nothing or too little is left, a fault stands:
-- bytes with none of the faults are whole. Nothing but a contradiction is wanted here, so whatever
-- holds or doesn't may be told apart.
use Rattle.std.proofs.Common.{◌≡◌, ◌≤◌, inl, inr, ◌⊎◌, ℕ, zero, suc, List, [], ◌∷◌, ◌++◌, length, Option, Some, None, refl, sym, ap, ◌∙◌, subst, append_assoc, append-nil, length-append, arith}
use Rattle.std.specs.List.{AllByRecursion, AllZip, concat}
use Rattle.msgpack_bytes.specs.Containers.{Pair}
use Rattle.msgpack_bytes.specs.Item.{IsItemWithin, IsOpen}
use Rattle.msgpack_bytes.specs.Kinds.{IsNil}
use Rattle.msgpack_bytes.specs.Fault.{EndsIn, IsFaulty}
use Rattle.msgpack_bytes.specs.Names.{HasNoKey, IsLastValue}
use Rattle.msgpack_bytes.specs.declared.answers.MsgFault.{MsgFault}
use Rattle.msgpack_bytes.specs.declared.answers.MsgFault.TheVariants.{Reserved, TooDeep, TooLong}
use Rattle.event_modes.specs.declared.fault.ModeFault.{ModeFault}
use Rattle.event_modes.specs.declared.fault.ModeFault.TheVariants.{NotAMessage, BadTag, BadTime, BadRecord, BadEntry, TornPacked, Compressed, BadOption, Bytes}
use Rattle.event_modes.specs.Entry.{IsEntry, stored_entry}
use Rattle.event_modes.specs.Faults.{FirstBad, EntryFault, IsGoodEntry, PackedFault, CarriedFault, PairFault, OptionFault, FrameFault, ItemFault}
use Rattle.event_modes.specs.Message.{Parts, Carrier, Single, Forward, Packed, Frame, IsFrame, IsLaidOut, Carries, IsMessage}
use Rattle.event_modes.specs.Options.{IsFit, AsksFor, IsOption}
use Rattle.event_modes.specs.Stream.{Sent, Heartbeat, IsLost}
use Rattle.event_modes.proofs.Parting.{some_item, text_item}
use Rattle.stream_listing.proofs.FaultLaws.{longer_open}
use Rattle.stream_listing.specs.Laws.{EndsWithFault}

-- Bytes that begin no item.

-- a proper beginning of a list and one more is one of the list, or the list
beginning : (front less more : List ℕ) (last byte : ℕ) → front ++ last ∷ [] ≡ less ++ byte ∷ more → (less ≡ front) ⊎ ((rest : List ℕ) × (front ≡ less ++ byte ∷ rest))
beginning [] [] more last byte e = inl refl
beginning [] (x ∷ less) more last byte e = absurd (let l = ap length e in omega (arith, l, length-append less (byte ∷ more)))
beginning (c ∷ front) [] more last byte e = let f : c ≡ byte = cc in inr (front, ap (λ x. x ∷ front) f)
beginning (c ∷ front) (x ∷ less) more last byte e =
    let f : c ≡ x = cc in
    let t : front ++ last ∷ [] ≡ less ++ byte ∷ more = cc in
    elim (beginning front less more last byte t) [
      | inl same ↦ inl (let s = same in cc)
      | inr part ↦ inr (part.0, (let p = part.1 in cc))
    ]

-- each proper beginning is open
abbrev AreOpen : List ℕ → Type 0
AreOpen front = (less more : List ℕ) (byte : ℕ) → front ≡ less ++ byte ∷ more → IsOpen less

module _ (bytes : List ℕ) (lost : IsLost bytes) (none : (why : MsgFault) → IsFaulty why bytes → ⊥) where
  -- the shortest beginning that is not open
  closed_at : (front rest : List ℕ) → bytes ≡ front ++ rest → (IsOpen front → ⊥) → AreOpen front → ⊥
  closed_at front rest whole closed before =
      faulty Reserved (λ depth more item. faulty TooDeep (λ longer long. faulty TooLong (longer, long), (depth, more, item)))
    where
      ended : (more : List ℕ) → IsItemWithin (front ++ more) → ⊥
      ended more text = closed (longer_open front more text (lost.has_none front rest whole))

      faulty : (why : MsgFault) → EndsIn why front → ⊥
      faulty why ends = none why (record { shortest = front; rest = rest; whole = whole; closed = ended; before = before; ends = ends })

  look_on : (front rest : List ℕ) → bytes ≡ front ++ rest → AreOpen front → ⊥
  look_on front [] whole before =
      closed_at front [] whole
      (λ o. lost.begins_none o.more (subst (λ b. IsItemWithin (b ++ o.more)) (sym (whole ∙ append-nil front)) o.ends)) before
  look_on front (b ∷ rest) whole before =
      closed_at front (b ∷ rest) whole
      (λ o. look_on (front ++ b ∷ []) rest (whole ∙ sym (append_assoc front (b ∷ []) rest))
      (λ less more byte e. elim (beginning front less more b byte e) [
        | inl same ↦ subst IsOpen (sym same) o
        | inr part ↦ before less part.0 byte part.1
      ])) before

  lost_faulty : ⊥
  lost_faulty = look_on [] bytes refl (λ less more byte e. absurd (let l = ap length e in omega (arith, l, length-append less (byte ∷ more))))

-- The parts of a message.

-- all are good, or a first one is bad
first_bad : {X : Type 0} (Good : X → Type 0) (Bad : ModeFault → X → Type 0) → ((x : X) → (Good x → ⊥) → ((fault : ModeFault) → Bad fault x → ⊥) → ⊥)
    → (all : List X) → (AllByRecursion Good all → ⊥) → ((fault : ModeFault) → FirstBad Good (Bad fault) all → ⊥) → ⊥
first_bad Good Bad each [] good none = good tt
first_bad Good Bad each (x ∷ xs) good none = each x
    (λ one. first_bad Good Bad each xs (λ more. good (one, more)) (λ fault bad. none fault (suc bad.0, (one, bad.1), bad.2)))
    (λ fault bad. none fault (0, tt, bad))

entry_fault : (bytes : List ℕ) → (IsGoodEntry bytes → ⊥) → ((fault : ModeFault) → EntryFault bytes fault → ⊥) → ⊥
entry_fault bytes good none =
    none BadEntry (inl (
      refl,
      λ time fields array. none BadTime (inr (
        time,
        fields,
        array,
        inl (
          refl,
          λ is_time.
              none BadRecord (inr (
                time,
                fields,
                array,
                inr (
                  refl,
                  is_time,
                  λ is_record.
                      good (stored_entry time fields, record { time = time; fields = fields; array = array; is_time = is_time; is_record = is_record; is_stored = refl }),
                ),
              )),
        ),
      )),
    ))

stored_as : (items : List (List ℕ)) → AllByRecursion IsGoodEntry items → (entries : List (List ℕ)) × AllZip IsEntry items entries
stored_as [] good = ([], tt)
stored_as (x ∷ xs) good =
    let one : IsGoodEntry x = good.0 in
    let more : (entries : List (List ℕ)) × AllZip IsEntry xs entries = stored_as xs good.1 in
    (one.0 ∷ more.0, (one.1, more.1))

-- packed entries: good ones to the end, or what stands behind some good ones
packed_fault : (most : ℕ) (content : List ℕ) → length content ≤ most
    → ((items : List (List ℕ)) → AllByRecursion IsItemWithin items → AllByRecursion IsGoodEntry items → content ≡ concat items → ⊥)
    → ((fault : ModeFault) (items : List (List ℕ)) (rest : List ℕ) → AllByRecursion IsItemWithin items → AllByRecursion IsGoodEntry items → content ≡ concat items ++ rest → PackedFault rest fault → ⊥) → ⊥
packed_fault most [] short good none = good [] tt tt refl
packed_fault zero (b ∷ bytes) short good none = absurd (omega arith)
packed_fault (suc most) (b ∷ bytes) short good none =
    let content = b ∷ bytes in
    let some : content ≡ [] → ⊥ = λ e. absurd (let l = ap length e in omega (arith, l)) in
    let begun : (item more : List ℕ) → IsItemWithin item → content ≡ item ++ more → ⊥ = λ item more text whole.
    entry_fault item
    (λ one. packed_fault most more (shorter item more text whole)
    (λ items texts goods e. good (item ∷ items) (text, texts) (one, goods) (whole ∙ ap (λ l. item ++ l) e))
    (λ fault items rest texts goods e bad. none fault (item ∷ items) rest (text, texts) (one, goods)
    (whole ∙ ap (λ l. item ++ l) e ∙ sym (append_assoc item (concat items) rest)) bad))
    (λ fault bad. none fault [] content tt tt refl (inr (inr (item, more, text, bad, whole)))) in
    let begins : IsOpen content → ⊥ = λ o. none TornPacked [] content tt tt refl (inl (refl, some, o)) in
    lost_faulty content
    (record {
      begins_none = λ more text. begins (longer_open content more text (λ t. begun content [] t (sym (append-nil content))));
      has_none = λ front back e text. begun front back text e;
    })
    (λ why faulty. none (Bytes why) [] content tt tt refl (inr (inl (why, refl, faulty))))
  where
    shorter : (item more : List ℕ) → IsItemWithin item → b ∷ bytes ≡ item ++ more → length more ≤ most
    shorter [] more text e = absurd (some_item (text_item [] text))
    shorter (x ∷ item) more text e = let l = ap length e in omega (arith, l, length-append item more, short)

carried_fault : (tag : List ℕ) (carrier : Carrier) (option : Option (List ℕ)) (elements : List (List ℕ)) → IsLaidOut tag carrier option elements
    → ((entries : List (List ℕ)) → Carries carrier entries → ⊥) → ((fault : ModeFault) → CarriedFault carrier fault → ⊥) → ⊥
carried_fault tag (Single time fields) option elements laid good none =
    none BadTime (inl (refl, λ is_time. none BadRecord (inr (refl, is_time, λ is_record. good (stored_entry time fields ∷ []) (is_time, is_record, refl)))))
carried_fault tag (Forward array) option elements laid good none =
    first_bad IsGoodEntry (λ fault item. EntryFault item fault) entry_fault laid.1.0
    (λ goods. (let stored = stored_as laid.1.0 goods in good stored.0 (laid.1.0, laid.1.1, stored.1)))
    (λ fault bad. none fault (laid.1.0, laid.1.1, bad))
carried_fault tag (Packed content) option elements laid good none =
    packed_fault (length content) content (omega arith)
    (λ items texts goods e. (let stored = stored_as items goods in good stored.0 (items, texts, e, stored.1)))
    (λ fault items rest texts goods e bad. none fault (items, rest, texts, goods, e, bad))

-- one thing follows from another, or doesn't
follows : {A B : Type 0} → ((A → B) → ⊥) → (A → (B → ⊥) → ⊥) → ⊥
follows never step = never (λ a. absurd (step a (λ b. never (λ _. b))))

pair_fault : (pair : Pair) → (IsFit pair → ⊥) → ((fault : ModeFault) → PairFault fault pair → ⊥) → ⊥
pair_fault pair fit none =
    follows (λ chunk. follows (λ compressed. fit (record { chunk = chunk; compressed = compressed })) (λ named bad. none Compressed (inr (refl, named, bad))))
    (λ named bad. none BadOption (inl (refl, named, bad)))

last_value : (name : List ℕ) (pairs : List Pair) → (HasNoKey name pairs → ⊥) → ((value : List ℕ) → IsLastValue name pairs value → ⊥) → ⊥
last_value name [] lacks has = lacks tt
last_value name (pair ∷ pairs) lacks has =
    last_value name pairs
    (λ others. lacks ((λ named. has pair.value (record { before = []; key = pair.key; after = pairs; named = named; last = others; whole = refl })), others))
    (λ value is. has value (record { before = pair ∷ is.before; key = is.key; after = is.after; named = is.named; last = is.last; whole = ap (λ l. pair ∷ l) is.whole }))

asks_for : (pairs : List Pair) → ((ack : Option (List ℕ)) → AsksFor pairs ack → ⊥) → ⊥
asks_for pairs good =
    last_value _ pairs (λ lacks. good None (inl lacks))
    (λ value is. good (Some value) (is, λ nil. good None (inr (value, is, nil))))

option_fault : (option : Option (List ℕ)) → ((ack : Option (List ℕ)) → IsOption option ack → ⊥) → ((fault : ModeFault) → OptionFault option fault → ⊥) → ⊥
option_fault None good none = good None refl
option_fault (Some bytes) good none = none BadOption (inl (
  refl,
  λ nil. good None (inl (nil, refl)),
  λ pairs map. first_bad IsFit PairFault pair_fault pairs
      (λ fits. asks_for pairs (λ ack asks. good ack (inr (pairs, map, fits, asks))))
      (λ fault bad. none fault (inr (pairs, map, bad))),
))

frame_fault : (item : List ℕ) (frame : Frame) → IsItemWithin item → IsFrame item frame → ((parts : Parts) → IsMessage item parts → ⊥) → ((fault : ModeFault) → FrameFault frame fault → ⊥) → ⊥
frame_fault item frame text framed good none = none BadTag (inl (
  refl,
  λ tag is_tag.
      carried_fault frame.tag frame.carrier frame.option framed.elements framed.laid_out
      (λ entries carries. option_fault frame.option
      (λ ack asked. good (record { tag = tag; entries = entries; ack = ack }) (record { item = text; frame = frame; framed = framed; tag = is_tag; entries = carries; ack = asked }))
      (λ fault bad. none fault (inr (inr (tag, entries, is_tag, carries, bad)))))
      (λ fault bad. none fault (inr (inl (tag, is_tag, bad)))),
))

item_fault : (item : List ℕ) → IsItemWithin item → (IsNil item → ⊥) → ((parts : Parts) → IsMessage item parts → ⊥) → ((fault : ModeFault) → ItemFault item fault → ⊥) → ⊥
item_fault item text nil good none =
    none NotAMessage (inl (refl, nil, λ frame framed. frame_fault item frame text framed good (λ fault bad. none fault (inr (frame, framed, bad)))))

pub ends_with_fault : EndsWithFault
ends_with_fault bytes pending begins_none faultless =
    lost_faulty bytes
    (record {
      begins_none = λ more text. pending (inr (longer_open bytes more text (λ t. begun bytes [] t (sym (append-nil bytes)))));
      has_none = λ front back e text. begun front back text e;
    })
    (λ why bad. faultless (Bytes why) (inl (why, refl, bad)))
  where
    begun : (item more : List ℕ) → IsItemWithin item → bytes ≡ item ++ more → ⊥
    begun item more text e =
        item_fault item text (λ nil. begins_none item more Heartbeat nil e) (λ parts message. begins_none item more (Sent parts) message e)
        (λ fault bad. faultless fault (inr (item, more, text, bad, e)))
