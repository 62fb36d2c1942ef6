use Rattle.chunk_journal.specs.Drafts.{place_of}
use Rattle.chunk_journal.proofs.Coming.{ends_unsealed, is_replayed, rest_within}
use Rattle.chunk_journal.proofs.replaying.replay.Goals as goal

pub overflow_sub-result : goal.overflow_sub-result
overflow_sub-result g c =
    rest_within c.args.bytes.now c.in_ok-rest.rest.now (place_of c.replay_on.new.draft)
    c.in_ok-rest.ensures.so_far

pub returns-clause-ok : goal.returns-clause-ok
returns-clause-ok g c =
    is_replayed c.args.bytes.now c.in_ok-rest.rest.now (place_of c.replay_on.new.draft) c.settle.new.self c.in_ok-rest.ensures.so_far c.in_ok-rest.ensures.torn c.if-not-is_sealed.false c.in_ok-settle.ensures.ok

pub returns-then-not-is_sealed-clause-not_sealed : goal.returns-then-not-is_sealed-clause-not_sealed
returns-then-not-is_sealed-clause-not_sealed g c = λ _.
    ends_unsealed c.args.bytes.now c.in_ok-rest.rest.now (place_of c.replay_on.new.draft) c.in_ok-rest.ensures.so_far c.in_ok-rest.ensures.torn c.if-not-is_sealed.true
