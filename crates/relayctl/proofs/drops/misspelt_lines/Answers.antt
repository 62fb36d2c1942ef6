use Rattle.std.proofs.Common.{◌≡◌, ◌++◌, ◌∷◌, [], ℕ, List, get_or, map, take, rules, subst, sym}
use Rattle.std.proofs.lemmas.List.{map_more}
use Rattle.std.specs.Borrow.{Bor}
use Rattle.program_text.proofs.ListingSteps.{listed_push}
use Rattle.program_text.specs.Listings.{AreListed}
use Rattle.relayctl.specs.Dropping.{IsMisspeltLine}
use Rattle.relayctl.proofs.drops.misspelt_lines.Goals as goal

no_word : Bor (List ℕ)
no_word = record { ref_ptr = (0, 0); now = [] }

pub loop-word-preserved : goal.loop-word-preserved
unfolding no_word
loop-word-preserved g c =
    let words = c.args.words.now in
    let i = c.loop-word.word-index in
    let before = map (λ (word : Bor (List ℕ)). word.now) (take i words) in
    let more : c.extend_from_slice.new.self.items ≡ c.loop-word.lines.items ++ c.in_ok-line.line.items = search rules in
    subst (λ ws. AreListed IsMisspeltLine ws c.extend_from_slice.new.self.items) (sym (map_more (λ (word : Bor (List ℕ)). word.now) words i no_word c.loop-word-test.true))
    (listed_push IsMisspeltLine before (get_or words i no_word).now c.loop-word.lines.items c.in_ok-line.line.items c.extend_from_slice.new.self.items c.loop-word.invariant c.in_ok-line.ensures more)
