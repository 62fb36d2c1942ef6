use Rattle.std.proofs.Common.{◌<◌, ◌≤◌, arith, rules}
use Rattle.std.proofs.lemmas.Iterator.{cases_from_all, YieldsList-from_slice}
use Rattle.ack_receipt.specs.Deliveries.{Pended}
use Rattle.ack_receipt.proofs.Each.{all_decided, fact, known_below, known_past}
use Rattle.ack_receipt.proofs.locked.redeeming.are_before.Goals as goal

pub returns : goal.returns
returns g c =
    let P : Pended → Type 0 = λ p. p.place < c.args.count in
    let Q : Pended → Type 0 = λ p. c.args.count ≤ p.place in
    let none : Pended = record { delivery = 0; leaf = record { relay = 0; buffer = 0 }; serial = 0; count = 0; place = 0 } in
    let xs = c.args.pendings.now in
    all_decided none P Q _ xs (λ p past less. omega (arith, past, less))
    (cases_from_all _ _ _ P Q c.all.ensures.ran (YieldsList-from_slice xs c.iter.ensures.rest)
    (λ x q k. ((λ i. record { 0 = k.met.1 i }), fact {P = P x.now} (search (rules, known_below)))) (λ x q k. fact {P = Q x.now} (search (rules, known_past))))
