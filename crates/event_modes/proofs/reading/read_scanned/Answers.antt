use Rattle.std.proofs.Common.{ℕ, ◌≡◌, ◌-◌, ◌∙◌, List, ◌++◌, length, take, drop, Result, Ok, Err, ap, sym, subst, arith, inr}
use Rattle.std.specs.Prelude.{IfOk}
use Rattle.std.proofs.lemmas.List.{take-append-drop, length-take-le}
use Rattle.msgpack_bytes.specs.declared.answers.Scan.TheVariants as scan
use Rattle.msgpack_bytes.specs.Item.{IsItemWithin}
use Rattle.msgpack_bytes.specs.Answers.{IsScanned}
use Rattle.event_modes.specs.declared.message.Read.{Read}
use Rattle.event_modes.specs.Message.{IsMessage}
use Rattle.event_modes.specs.Reading.{Answer, Means, Beats, Wants, Refuses, answer_of, Answers, AnswersItem}
use Rattle.event_modes.proofs.reading.read_scanned.Goals as goal

-- what answers the item in front answers the bytes
of_item : (bytes item : List ℕ) (end : ℕ) (a : Answer) → item ≡ take end bytes → IsScanned bytes 0 (scan.End end) → AnswersItem item a → Answers bytes a
of_item bytes item end (Means parts n) i s p =
    let within = s.1 in
    let size = ap length i ∙ length-take-le end bytes within in
    let same : n ≡ end = p.0 ∙ size in
    (omega arith, subst (λ (m : List ℕ). IsMessage m parts) (i ∙ ap (λ (k : ℕ). take k bytes) (sym same)) p.1)
of_item bytes item end (Beats n) i s p =
    let whole : bytes ≡ item ++ drop end bytes = sym (take-append-drop end bytes) ∙ ap (λ (m : List ℕ). m ++ drop end bytes) (sym i) in
    (p.0, (drop end bytes, whole ∙ ap (λ (m : List ℕ). m ++ drop end bytes) p.1))
of_item bytes item end Wants i s p = absurd p
of_item bytes item end (Refuses fault) i s p =
    let whole : bytes ≡ item ++ drop end bytes = sym (take-append-drop end bytes) ∙ ap (λ (m : List ℕ). m ++ drop end bytes) (sym i) in
    let n : end - 0 ≡ end = omega arith in
    let is_item : IsItemWithin item = subst IsItemWithin (ap (λ (k : ℕ). take k bytes) n ∙ sym i) s.2 in
    inr (item, drop end bytes, is_item, p, whole)

of_read : {A E : Type 0} (bytes item : List ℕ) (end : ℕ) (r : Result (Read A) E) → item ≡ take end bytes → IsScanned bytes 0 (scan.End end) → IfOk r (λ found. AnswersItem item (answer_of found))
    → IfOk r (λ found. Answers bytes (answer_of found))
of_read bytes item end (Ok found) i s p = of_item bytes item end (answer_of found) i s p
of_read bytes item end (Err e) i s p = tt

pub returns-in-End : goal.returns-in-End
returns-in-End g c = of_read c.args.bytes.now c.split_at.result.0.now c.in-End.end c.read_item.result c.split_at.ensures.front (subst (IsScanned c.args.bytes.now 0) c.in-End.is c.requires) c.read_item.ensures
