use Rattle.std.proofs.Common.{rules}
use Rattle.std.proofs.lemmas.Iterator.{cases_from_all, YieldsList-from_slice}
use Rattle.ack_receipt.specs.Deliveries.{Pended}
use Rattle.ack_receipt.specs.Redeeming.{IsRedeemable}
use Rattle.ack_receipt.proofs.Each.{IsNot, all_decided, fact, known_not, known_so}
use Rattle.ack_receipt.proofs.locked.redeeming.are_waiting.Goals as goal

pub returns : goal.returns
returns g c =
    let P : Pended → Type 0 = IsRedeemable c.args.leaf c.args.booked.now.waiting in
    let Q : Pended → Type 0 = λ p. P p → ⊥ in
    let none : Pended = record { delivery = 0; leaf = record { relay = 0; buffer = 0 }; serial = 0; count = 0; place = 0 } in
    let xs = c.args.pendings.now in
    all_decided none P Q _ xs (λ p not is. not is)
    (cases_from_all _ _ _ P Q c.all.ensures.ran (YieldsList-from_slice xs c.iter.ensures.rest)
    (λ x q k. ((λ i. (k.met.1.0 i, k.met.1.1 i)), fact {P = P x.now} (search (rules, known_so)))) (λ x q k. (fact {P = IsNot (P x.now)} (search (rules, known_not))).not))
