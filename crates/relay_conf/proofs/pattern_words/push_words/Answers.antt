use Rattle.std.proofs.Common.{◌≡◌, ◌==◌, ◌++◌, ◌∙◌, ap, sym, map, length, arith, lit<, not, true, false, ◌≤◌}
use Rattle.std.specs.List.{slice_split}
use Rattle.std.proofs.lemmas.Iterator.Splits.{YieldsList-from_str_split}
use Rattle.std.proofs.lemmas.Iterator.Consumers.{YieldsList-turn, YieldsList-end}
use Rattle.std.proofs.lemmas.List.{length_push, drop_all, append-nil, map-append}
use Rattle.relay_conf.specs.Examined.{is_word, tab_words}
use Rattle.relay_conf.proofs.Pieces.{word_taken, word_passed}
use Rattle.relay_conf.proofs.pattern_words.push_words.Goals as goal

pub loop-word-preserved-in-Continue-1 : goal.loop-word-preserved-in-Continue-1
loop-word-preserved-in-Continue-1 g c =
    let turn = YieldsList-turn (YieldsList-from_str_split 9 c.args.part.now (lit< tt) (cc) (cc) (cc)) c.loop-word.yielded _ c.loop-word.yielded_by _ _ c.in-Some.word c.in-Some.is c.next.ensures.steps in
    let full : is_word c.in-Some.word.now ≡ true = ap not (sym c.is_empty.ensures ∙ c.if-not-is_empty.true) in
    rw (c.in_ok-push.ensures.items, map-append, length_push c.loop-word.yielded c.in-Some.word)
    (word_taken (slice_split (λ b. b == 9) c.args.part.now) (length c.loop-word.yielded) c.in-Some.word.now (map (λ word. word.now) c.loop-word.words.items) (map (λ word. word.now) c.args.words.now.items ++ tab_words c.args.part.now) turn full c.loop-word.invariant)

pub loop-word-preserved : goal.loop-word-preserved
loop-word-preserved g c =
    let turn = YieldsList-turn (YieldsList-from_str_split 9 c.args.part.now (lit< tt) (cc) (cc) (cc)) c.loop-word.yielded _ c.loop-word.yielded_by _ _ c.in-Some.word c.in-Some.is c.next.ensures.steps in
    let empty : is_word c.in-Some.word.now ≡ false = ap not (sym c.is_empty.ensures ∙ c.if-not-is_empty.false) in
    rw (length_push c.loop-word.yielded c.in-Some.word) (word_passed (slice_split (λ b. b == 9) c.args.part.now) (length c.loop-word.yielded) c.in-Some.word.now (map (λ word. word.now) c.loop-word.words.items) (map (λ word. word.now) c.args.words.now.items ++ tab_words c.args.part.now) turn empty c.loop-word.invariant)

pub returns : goal.returns
returns g c =
    let pieces = slice_split (λ b. b == 9) c.args.part.now in
    let end = YieldsList-end (YieldsList-from_str_split 9 c.args.part.now (lit< tt) (cc) (cc) (cc)) c.loop-word.yielded _ c.loop-word.yielded_by _ _ c.in-None.is c.next.ensures.steps in
    let le : length pieces ≤ length c.loop-word.yielded = omega (arith, end.1) in
    rw (drop_all (length c.loop-word.yielded) pieces le, append-nil (map (λ word. word.now) c.loop-word.words.items)) at c.loop-word.invariant
