use Rattle.std.proofs.Common.{◌++◌, [], refl, append_assoc}
use Rattle.std.proofs.lemmas.List.{drop_all, append-nil}
use Rattle.relay_conf.proofs.Drops.{drop_here}
use Rattle.relay_conf.proofs.PatternWords.{before_words}
use Rattle.plan_lines.proofs.Words.{no_word, fault_among}
use Rattle.plan_lines.proofs.draft.patterns_of.Goals as goal

pub loop-word-preserved : goal.loop-word-preserved
loop-word-preserved g c =
    let here = drop_here c.args.words.now c.loop-word.word-index no_word c.loop-word-test.true in
    λ rest h. rw (c.in_ok-append-in-Ok.ensures.items, append_assoc) ((rw here at c.loop-word.invariant) (c.in-Ok.more.items ++ rest) (before_words _ _ c.in-Ok.more.items rest c.in-Ok.ensures.patterns h))

pub returns-clause-patterns : goal.returns-clause-patterns
returns-clause-patterns g c =
    let none = drop_all c.loop-word.word-index c.args.words.now c.loop-word-test.false in
    rw (append-nil c.loop-word.plains.items) at ((rw none at c.loop-word.invariant) [] ([], tt, refl))

pub returns-in-Err-clause-fault : goal.returns-in-Err-clause-fault
returns-in-Err-clause-fault g c = fault_among c.args.line c.args.words.now c.loop-word.word-index c.in-Err.error c.loop-word-test.true c.in-Err.ensures.fault
