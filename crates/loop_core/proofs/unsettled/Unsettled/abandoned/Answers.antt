use Rattle.loop_core.proofs.unsettled.Unsettled.abandoned.Goals as goal

pub returns : goal.returns
returns g c = λ i. record { delivery = c.abandon.ensures.number i; parts = c.abandon.ensures.parts i }
