use Rattle.std.proofs.Common.{◌≡◌, ◌∙◌, rules, ap, map, refl, subst, sym}
use Rattle.std.proofs.lemmas.Bool.{false≢true}
use Rattle.std.specs.List.{All}
use Rattle.ack_receipt.specs.Deliveries.{IsReceived, OpenDelivery, part_of}
use Rattle.loop_core.specs.Waits.{Gathers, left_of}
use Rattle.loop_core.proofs.waiting.Gathered.finish.Goals as goal

pub returns-in-Ok-clause-is : goal.returns-in-Ok-clause-is
returns-in-Ok-clause-is g c =
    let d = c.self.inside.delivery in (
      search rules,
      record {
        receipts = d.receipts;
        each = subst (λ (s : Gathers). All (IsReceived s.awaited.number d.receipts) s.awaited.leaves) c.self.view_is (c.in-Ok.ensures.when.0 refl);
        is = c.answered.ensures ∙ (λ i. record { delivery = (c.in-Ok.ensures.stub.0 ∙ ap (λ (s : Gathers). s.awaited.number) c.self.view_is) i; parts = c.in-Ok.ensures.stub.1 i });
      },
    )

pub returns-in-Ok-clause-left : goal.returns-in-Ok-clause-left
returns-in-Ok-clause-left g c =
    c.answered.ensures
    ∙ (λ i. record {
      delivery = (c.in-Ok.ensures.stub.0 ∙ ap (λ (s : Gathers). s.awaited.number) c.self.view_is) i;
      parts = (c.in-Ok.ensures.stub.1 ∙ ap (λ (s : Gathers). map part_of s.receipts) c.self.view_is) i;
    })

pub returns-in-Err-clause-is : goal.returns-in-Err-clause-is
returns-in-Err-clause-is g c =
    let d = c.self.inside.delivery in
    let same : c.in-Err.delivery ≡ d = c.in-Err.ensures.missing.1 in
    record {
      receipts = d.receipts;
      missing = λ all. absurd (false≢true (c.in-Err.ensures.when.1 (subst (λ (s : Gathers). All (IsReceived s.awaited.number d.receipts) s.awaited.leaves) (sym c.self.view_is) all)));
      is =
          c.abandoned.ensures
          ∙ ap (λ (o : OpenDelivery). left_of o.number o.receipts) same
          ∙ ap (λ (s : Gathers). left_of s.awaited.number d.receipts) c.self.view_is;
    }

pub returns-in-Err-clause-left : goal.returns-in-Err-clause-left
returns-in-Err-clause-left g c =
    let same : c.in-Err.delivery ≡ c.self.inside.delivery = c.in-Err.ensures.missing.1 in
    c.abandoned.ensures
    ∙ ap (λ (o : OpenDelivery). left_of o.number o.receipts) same
    ∙ ap (λ (s : Gathers). left_of s.awaited.number s.receipts) c.self.view_is
