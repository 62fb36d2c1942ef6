use Rattle.std.proofs.Common.{◌≡◌, ◌<◌, ◌++◌, ◌∷◌, [], ℕ, List, get_or, length, map, take, subst, sym, ap, ◌∙◌}
use Rattle.std.proofs.lemmas.List.{get_or-map, length-map, map_more}
use Rattle.std.specs.Borrow.{Bor}
use Rattle.program_text.proofs.ListingSteps.{zip_push}
use Rattle.label_plan.specs.Names.{IsName}
use Rattle.label_plan.specs.declared.name.DropName.{DropName}
use Rattle.relayctl.specs.Dropping.{AreNames}
use Rattle.relayctl.proofs.drops.read_names.Goals as goal

no_word : Bor (List ℕ)
no_word = record { ref_ptr = (0, 0); now = [] }

pub returns-in-Err : goal.returns-in-Err
unfolding no_word
returns-in-Err g c =
    let words = c.args.words.now in
    let i = c.loop-word.word-index in
    let less : i < length words = c.loop-word-test.true in
    let bytes = λ (word : Bor (List ℕ)). word.now in
    let word = (get_or words i no_word).now in
    (word, (i, rw (length-map words bytes) less, get_or-map bytes words i no_word word less), c.in-Err.ensures.none)

pub loop-word-preserved : goal.loop-word-preserved
unfolding no_word
loop-word-preserved g c =
    let words = c.args.words.now in
    let i = c.loop-word.word-index in
    let before = map (λ (word : Bor (List ℕ)). word.now) (take i words) in
    let IsOne = λ (word : List ℕ) (name : DropName). IsName word name.relay name.scope.now name.index in
    subst (λ ws. AreNames ws c.push.new.self.items) (sym (map_more (λ (word : Bor (List ℕ)). word.now) words i no_word c.loop-word-test.true))
    (subst (λ ns. AreNames (before ++ (get_or words i no_word).now ∷ []) ns) (sym c.in_ok-push-in-Ok.ensures.items)
    (zip_push IsOne before c.loop-word.names.items (get_or words i no_word).now c.in-Ok.name c.loop-word.invariant c.in-Ok.ensures.name))
