use Rattle.std.proofs.Common.{◌≡◌, take}
use Rattle.step_lines.specs.Texts.{texts_of}
use Rattle.custody_store.proofs.event.copy_texts.Given as goal

abbrev pub invariant-loop-text : goal.invariant-loop-text
invariant-loop-text g l = texts_of l.copies.items ≡ texts_of (take l.text-index l.texts)
