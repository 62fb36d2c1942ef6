use Rattle.std.proofs.Common.{Some, sym, ap, ◌∙◌}
use Rattle.std.specs.Option.{option_copied}
use Rattle.std.proofs.lemmas.Option.{same_Some}
use Rattle.loss_rules.proofs.paths.are_same_path.Goals as goal

pub returns-in-Some-Some : goal.returns-in-Some-Some
returns-in-Some-Some c =
    let e = c.is_same_text.ensures in (
      λ t. (c.in-Some-Some.path.now, ap option_copied c.in-Some-Some.is-0, ap option_copied c.in-Some-Some.is-1 ∙ ap Some (sym (e.0 t))),
      λ h. e.1 (same_Some c.in-Some-Some.path.now h.0 (ap option_copied (sym c.in-Some-Some.is-0) ∙ h.1) ∙ sym (same_Some c.in-Some-Some.other.now h.0 (ap option_copied (sym c.in-Some-Some.is-1) ∙ h.2))),
    )
