use Rattle.std.proofs.Common.{◌≡◌, Ok, map, take}
use Rattle.std.specs.List.{AllZip}
use Rattle.step_lines.specs.Texts.{texts_of}
use Rattle.hex.specs.Hex.{decode_of}
use Rattle.step_lines.proofs.lines.entries_of.Given as goal

abbrev pub invariant-loop-word : goal.invariant-loop-word
invariant-loop-word g l = AllZip (λ word entry. decode_of word ≡ Ok entry) (map (λ word. word.now) (take l.word-index l.words)) (texts_of l.entries.items)
