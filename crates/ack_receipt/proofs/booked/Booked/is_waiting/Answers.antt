use Rattle.std.proofs.Common.{◌≡◌, ◌∙◌, sym, ap, subst, Some, None}
use Rattle.ack_receipt.specs.Books.{waiting_at}
use Rattle.ack_receipt.proofs.Answered.{lent_is, lent_none, same_line}
use Rattle.ack_receipt.proofs.booked.Booked.is_waiting.Goals as goal

pub returns-in-Some : goal.returns-in-Some
returns-in-Some g c =
    let at : waiting_at c.args.self.now.waiting c.args.place ≡ Some c.in-Some.append.now = subst (λ b. waiting_at b.waiting c.args.place ≡ Some c.in-Some.append.now) c.self.view_is (lent_is c.get.result (waiting_at c.self.inside.waiting.entries c.args.place) c.in-Some.append c.get.ensures.value c.in-Some.is) in
    let same = same_line c.in-Some.append.now c.args.line.now c.eq.result c.eq.ensures in
    ((λ t. at ∙ ap Some (same.0 t)), (λ is. same.1 (cc (sym at ∙ is))))

pub returns-in-None : goal.returns-in-None
returns-in-None g c =
    let at : waiting_at c.args.self.now.waiting c.args.place ≡ None = subst (λ b. waiting_at b.waiting c.args.place ≡ None) c.self.view_is (lent_none c.get.result (waiting_at c.self.inside.waiting.entries c.args.place) c.get.ensures.value c.in-None.is) in
    ((λ t. absurd (cc t)), (λ is. absurd (cc (sym at ∙ is))))
