use Rattle.std.proofs.Common.{◌≡◌, length, map, take}
use Rattle.std.specs.List.{AllZip}
use Rattle.plan_lines.specs.Plans.{texts as texts_of}
use Rattle.program_text.specs.Texts.{IsTextOf}
use Rattle.program_text.proofs.plan_text.read_confs.Given as goal

abbrev pub invariant-loop-name : goal.invariant-loop-name
invariant-loop-name g l = record {
  count : length l.confs.items ≡ l.name-index;
  texts : AllZip (λ name conf. IsTextOf (g.O.Open.text_of l.files name) conf) (map (λ name. name.now) (take l.name-index l.names)) (texts_of l.confs.items);
}
