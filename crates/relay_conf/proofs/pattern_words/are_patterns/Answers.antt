use Rattle.std.proofs.Common.{ℕ, List, [], ◌∷◌, map, drop, get_or, ◌+◌, Ok, Err}
use Rattle.std.proofs.lemmas.List.{drop_all}
use Rattle.std.specs.Borrow.{Bor}
use Rattle.std.proofs.lemmas.Result.{err_from_is_err_and}
use Rattle.relay_conf.specs.Findings.{a_pattern}
use Rattle.relay_conf.proofs.Drops.{drop_here}
use Rattle.relay_conf.proofs.Findings.{continues_behind, refuses_front}
use Rattle.relay_conf.proofs.pattern_words.are_patterns.Goals as goal

no_word : Bor (List ℕ)
no_word = record { ref_ptr = (0, 0); now = [] }

pub loop-word-init : goal.loop-word-init
loop-word-init g c = λ r h. h

pub loop-word-preserved : goal.loop-word-preserved
unfolding no_word
loop-word-preserved g c =
    let here = drop_here c.args.words.now c.loop-word.word-index no_word c.loop-word-test.true in
    let all = map (λ word. a_pattern word c.args.line) (map (λ word. word.now) c.args.words.now) in
    let rest = map (λ word. a_pattern word c.args.line) (map (λ word. word.now) (drop (c.loop-word.word-index + 1) c.args.words.now)) in
    continues_behind (a_pattern (get_or c.args.words.now c.loop-word.word-index no_word).now c.args.line ∷ []) rest all c.in_ok-is_pattern.ensures (rw here at c.loop-word.invariant)

pub returns-in_err-is_pattern : goal.returns-in_err-is_pattern
unfolding no_word
returns-in_err-is_pattern g c =
    let here = drop_here c.args.words.now c.loop-word.word-index no_word c.loop-word-test.true in
    let p = err_from_is_err_and c.from_residual.result c.from_residual.ensures.1 in
    let rest = map (λ word. a_pattern word c.args.line) (map (λ word. word.now) (drop (c.loop-word.word-index + 1) c.args.words.now)) in
    rw (p.1, p.2) ((rw here at c.loop-word.invariant) (Err c.in_err-is_pattern.field-0.0) (refuses_front (a_pattern (get_or c.args.words.now c.loop-word.word-index no_word).now c.args.line ∷ []) rest _ c.in_err-is_pattern.ensures))

pub returns : goal.returns
returns g c = let none = drop_all c.loop-word.word-index c.args.words.now c.loop-word-test.false in c.loop-word.invariant (Ok tt) (rw none tt)
