use Rattle.std.proofs.Common.{◌≡◌, sym, Err}
use Rattle.chunk_journal.specs.Replaying.{Advances, Advanced}
use Rattle.chunk_journal.specs.declared.fault.ReplayError.TheVariants.{BadRecord}
use Rattle.chunk_journal.specs.Drafts.{place_of}
use Rattle.chunk_journal.proofs.Coming.{comes_on, gets_shorter, is_damaged}
use Rattle.chunk_journal.proofs.replaying.replay_on.Goals as goal

went : (g : _) (c : goal.In-Some g) → Advances c.loop-behind.rest.now (place_of c.loop-behind.draft) (place_of c.advance.new.draft) c.in-Some.behind.now
went g c = rw c.in-Some.is at c.in_ok-behind.ensures

pub loop-behind-preserved : goal.loop-behind-preserved
loop-behind-preserved g c = comes_on c.args.bytes.now c.loop-behind.rest.now c.in-Some.behind.now (place_of c.loop-behind.draft) (place_of c.advance.new.draft) c.loop-behind.invariant (went g c)

pub loop-behind-smaller : goal.loop-behind-smaller
loop-behind-smaller g c = gets_shorter c.loop-behind.rest.now c.in-Some.behind.now (place_of c.loop-behind.draft) (place_of c.advance.new.draft) (went g c)

pub returns-in_err-behind-clause-bad_record : goal.returns-in_err-behind-clause-bad_record
returns-in_err-behind-clause-bad_record g c = λ e.
    let k = rw e at c.from_residual.ensures.1 in
    let f : c.in_err-behind.field-0.0 ≡ BadRecord = sym k in
    let a : Advanced c.loop-behind.rest.now (place_of c.loop-behind.draft) (place_of c.advance.new.draft) (Err c.in_err-behind.field-0.0) = c.in_err-behind.ensures in
    is_damaged c.args.bytes.now c.loop-behind.rest.now (place_of c.loop-behind.draft) c.loop-behind.invariant (rw f at a)
