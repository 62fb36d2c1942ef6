use Rattle.std.proofs.Common.{◌++◌, [], refl, append_assoc}
use Rattle.std.specs.Borrow.{Bor}
use Rattle.std.proofs.Common.{ℕ, List}
use Rattle.std.proofs.lemmas.List.{drop_all, append-nil}
use Rattle.relay_conf.proofs.Drops.{drop_here}
use Rattle.relay_conf.proofs.PatternWords.{before_words}
use Rattle.relay_conf.proofs.patterns.plains_of.Goals as goal

no_word : Bor (List ℕ)
no_word = record { ref_ptr = (0, 0); now = [] }

pub loop-word-preserved : goal.loop-word-preserved
unfolding no_word
loop-word-preserved g c =
    let here = drop_here c.args.words.now c.loop-word.word-index no_word c.loop-word-test.true in
    λ rest h. rw (c.in_ok-append.ensures.items, append_assoc) ((rw here at c.loop-word.invariant) (c.in_ok-more.more.items ++ rest) (before_words _ _ c.in_ok-more.more.items rest c.in_ok-more.ensures h))

pub returns : goal.returns
returns g c =
    let none = drop_all c.loop-word.word-index c.args.words.now c.loop-word-test.false in
    rw (append-nil c.loop-word.plains.items) at ((rw none at c.loop-word.invariant) [] ([], tt, refl))
