use Rattle.buffer_store.proofs.laws.recovers_what_is_durable.Goals as goal

pub returns-clause-recovers : goal.returns-clause-recovers
returns-clause-recovers c path disk t folder recovers left =
    let within = recovers folder left in (
      within,
      λ state opens. record {
        steps = within.steps;
        enough = within.enough;
        begun = within.begun;
        state_is = c.opens_one_way.ensures.one path folder state _ opens within.opens;
      },
      c.opens_one_way.ensures.undamaged path folder _ within.opens,
    )
