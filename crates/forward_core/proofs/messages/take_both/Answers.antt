use Rattle.std.proofs.Common.{ℕ, ◌∙◌, List, ap, drop, map, subst}
use Rattle.std.proofs.Math.Seq.{drop-length}
use Rattle.std.proofs.lemmas.List.{map-append}
use Rattle.forward_core.specs.Demands.{wanted}
use Rattle.forward_core.specs.Server.{Outcome, ReadsOn, outcome_of, phase_at}
use Rattle.forward_core.proofs.Streaming.{reads_both, reads_so}
use Rattle.forward_core.proofs.messages.take_both.Goals as goal

pub returns-clause-reads : goal.returns-clause-reads
returns-clause-reads g c before =
    let front = c.args.front.now in
    let back = c.args.back.now in
    let first = c.in_ok-taken.taken in
    let second = c.in_ok-more.more in
    let one = outcome_of before front first in
    let two = outcome_of before back second in
    let reads = subst (λ (z : List ℕ). ReadsOn z front one) c.new.ensures.items (c.in_ok-taken.ensures.reads before) in
    let more = subst (λ (z : List ℕ). ReadsOn z back two) c.new-2.ensures.items (c.in_ok-more.ensures.reads before) in
    let len = c.has_read.ensures.len c.if-not-has_read.false in
    let stage = c.has_read.ensures.stage c.if-not-has_read.false in
    reads_so _ _ _ _ (map wanted first.demands.items) (map wanted second.demands.items) _ (ap (λ (o : Outcome). o.sends) reads.is)
    (ap (map wanted) c.in_ok-append.ensures.items ∙ map-append wanted first.demands.items second.demands.items)
    (reads_both front back one two reads (ap (λ (n : ℕ). drop n front) len ∙ drop-length front) (ap (phase_at before) stage) more)
