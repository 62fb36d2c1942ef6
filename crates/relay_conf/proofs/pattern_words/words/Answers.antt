use Rattle.std.proofs.Common.{◌==◌, ◌≤◌, refl, map, length, arith, lit<}
use Rattle.std.specs.List.{slice_split}
use Rattle.std.proofs.lemmas.Iterator.Splits.{YieldsList-from_str_split}
use Rattle.std.proofs.lemmas.Iterator.Consumers.{YieldsList-turn, YieldsList-end}
use Rattle.std.proofs.lemmas.List.{length_push, drop_all, append-nil}
use Rattle.relay_conf.specs.Examined.{words_of}
use Rattle.relay_conf.proofs.Pieces.{words_taken}
use Rattle.relay_conf.proofs.pattern_words.words.Goals as goal

pub loop-part-init : goal.loop-part-init
unfolding words_of
loop-part-init g c = rw c.new-words.ensures.items refl

pub loop-part-preserved : goal.loop-part-preserved
loop-part-preserved g c =
    let turn = YieldsList-turn (YieldsList-from_str_split 32 c.args.text.now (lit< tt) (cc) (cc) (cc)) c.loop-part.yielded _ c.loop-part.yielded_by _ _ c.in-Some.part c.in-Some.is c.next.ensures.steps in
    rw (c.in_ok-push_words.ensures, length_push c.loop-part.yielded c.in-Some.part)
    (words_taken (slice_split (λ b. b == 32) c.args.text.now) (length c.loop-part.yielded) c.in-Some.part.now (map (λ word. word.now) c.loop-part.words.items) (words_of c.args.text.now) turn c.loop-part.invariant)

pub returns : goal.returns
returns g c =
    let pieces = slice_split (λ b. b == 32) c.args.text.now in
    let end = YieldsList-end (YieldsList-from_str_split 32 c.args.text.now (lit< tt) (cc) (cc) (cc)) c.loop-part.yielded _ c.loop-part.yielded_by _ _ c.in-None.is c.next.ensures.steps in
    let le : length pieces ≤ length c.loop-part.yielded = omega (arith, end.1) in
    rw (drop_all (length c.loop-part.yielded) pieces le, append-nil (map (λ word. word.now) c.loop-part.words.items)) at c.loop-part.invariant
