use Rattle.std.proofs.Common.{rules}
use Rattle.std.proofs.lemmas.Iterator.{cases_from_all, YieldsList-from_slice}
use Rattle.book_audit.specs.declared.line.Leaf.{Leaf}
use Rattle.ack_receipt.specs.Deliveries.{IsReceived}
use Rattle.ack_receipt.proofs.Each.{IsNot, all_decided, fact, known_not, known_so}
use Rattle.ack_receipt.proofs.delivery.have_receipts.Goals as goal

pub returns : goal.returns
returns g c =
    let P : Leaf → Type 0 = IsReceived c.args.number c.args.receipts.now in
    let Q : Leaf → Type 0 = λ leaf. P leaf → ⊥ in
    let none : Leaf = record { relay = 0; buffer = 0 } in
    let xs = c.args.leaves.now in
    all_decided none P Q _ xs (λ leaf not is. not is)
    (cases_from_all _ _ _ P Q c.all.ensures.ran (YieldsList-from_slice xs c.iter.ensures.rest)
    (λ x q k. ((λ i. (k.met.1.0 i, k.met.1.1 i)), fact {P = P x.now} (search (rules, known_so)))) (λ x q k. (fact {P = IsNot (P x.now)} (search (rules, known_not))).not))
