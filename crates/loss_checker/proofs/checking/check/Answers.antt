use Rattle.loss_checker.proofs.checking.check.Goals as goal

pub returns : goal.returns
returns g c = rw (c.first_answer.ensures, c.deref.ensures.value) c.in_ok-broken.ensures.answered
