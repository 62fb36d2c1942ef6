use Rattle.std.proofs.Common.{◌≡◌, ℕ, List, [], ◌<◌, map, length, get_or, subst, Ok}
use Rattle.std.specs.Borrow.{Bor}
use Rattle.std.specs.declared.vec.Vec.{Vec}
use Rattle.std.proofs.lemmas.List.{map_more, map_push, get_or-map, length-map}
use Rattle.std.proofs.lemmas.List.Elements.{AllZip-push, AllZip-get_or}
use Rattle.hex.specs.Hex.{decode_of}
use Rattle.step_lines.proofs.lines.entries_of.Goals as goal

pub loop-word-preserved : goal.loop-word-preserved
loop-word-preserved g c =
    let words = c.args.words.now in
    let entries = c.loop-word.entries.items in
    let found = c.in_ok-entry.ensures.entry in
    let spelled = rw c.in-Some.is at found in
    rw (map_more (λ (word : Bor (List ℕ)). word.now) words c.loop-word.word-index (record { ref_ptr = (0, 0); now = [] }) c.loop-word-test.true, c.in_ok-push.ensures.items, map_push (λ (text : Vec ℕ g.row.A.Denot). text.items) entries c.in-Some.entry)
    (AllZip-push (λ word entry. decode_of word ≡ Ok entry) _ _ _ _ c.loop-word.invariant spelled)

pub returns-in_default-clause-none : goal.returns-in_default-clause-none
returns-in_default-clause-none g c =
    let words = c.args.words.now in
    let i = c.loop-word.word-index in
    let word = get_or words i (record { ref_ptr = (0, 0); now = [] }) in
    let texts = map (λ (word : Bor (List ℕ)). word.now) words in
    let within : i < length texts = simp length-map c.loop-word-test.true in
    let here : get_or texts i [] ≡ word.now = get_or-map (λ (word : Bor (List ℕ)). word.now) words i (record { ref_ptr = (0, 0); now = [] }) [] c.loop-word-test.true in
    let none = c.in_ok-entry.ensures.none in
    let no_entry = rw c.in_default.is at none in
    λ entries zip. no_entry (get_or entries i []) (subst (λ t. decode_of t ≡ Ok (get_or entries i [])) here (AllZip-get_or (λ word entry. decode_of word ≡ Ok entry) texts entries i [] [] zip within))
