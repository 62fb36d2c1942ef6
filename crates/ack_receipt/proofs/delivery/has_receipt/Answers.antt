use Rattle.std.proofs.Common.{rules}
use Rattle.std.proofs.lemmas.Iterator.{cases_from_any, YieldsList-from_slice}
use Rattle.ack_receipt.specs.Deliveries.{Appended, IsReceiptOf}
use Rattle.ack_receipt.proofs.Each.{IsNot, any_decided, fact, known_not, known_so}
use Rattle.ack_receipt.proofs.delivery.has_receipt.Goals as goal

pub returns : goal.returns
returns g c =
    let P : Appended → Type 0 = IsReceiptOf c.args.number c.args.leaf in
    let none : Appended = record { delivery = 0; leaf = c.args.leaf; serial = 0; line = 0 } in
    let xs = c.args.receipts.now in
    let found = any_decided none P _ xs (cases_from_any _ _ _ P (λ r. P r → ⊥) c.any.ensures.ran (YieldsList-from_slice xs c.iter.ensures.rest)
    (λ x q k. fact {P = P x.now} (search (rules, known_so))) (λ x q k. ((λ i. (k.met.1.0 i, k.met.1.1 i)), (fact {P = IsNot (P x.now)} (search (rules, known_not))).not))) in
    (λ t. record { one = found.0 t }, λ r. found.1 r.one)
