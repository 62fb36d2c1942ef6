use Rattle.std.proofs.Common.{ℕ, ◌≡◌, ◌∙◌, false, List, [], ◌∷◌, length, sym, Result}
use Rattle.std.specs.Prelude.{◌==◌, OnOk}
use Rattle.folder_counts.specs.Outputs.{with_families, with_samples}
use Rattle.folder_counts.specs.Views.{OutputView}
use Rattle.folder_counts.proofs.outputs_metrics.put_outputs.Goals as goal

some_samples : {S E : Type 0} (result : Result S E) (text new : List ℕ) (outputs : List OutputView) → (length outputs == 0) ≡ false → OnOk result (new ≡ with_families text outputs)
    → OnOk result (new ≡ with_samples text outputs)
some_samples result text new [] some is = absurd (cc some)
some_samples result text new (first ∷ more) some is = is

pub returns : goal.returns
returns g c = some_samples c.put_families.result c.args.text.now.items c.put_families.new.text.items c.args.outputs.now (sym c.is_empty.ensures ∙ c.if-is_empty.false) c.put_families.ensures
