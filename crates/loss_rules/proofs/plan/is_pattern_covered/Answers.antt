use Rattle.std.proofs.Common.{inl, inr, sym, ◌∙◌}
use Rattle.loss_rules.proofs.Seeks.{not_true}
use Rattle.loss_rules.proofs.plan.is_pattern_covered.Goals as goal

pub returns : goal.returns
returns g c = (λ t. inr (inr (c.fits_reach.ensures.0 t)), λ h. elim h [ inl not ↦ absurd (not_true (c.if-apart.ensures.apart.1 not)) | inr e ↦ elim e [ inl l ↦ absurd (not_true (sym c.if-label_fits.false ∙ c.fits_reach-label_fits.ensures.1 l)) | inr p ↦ c.fits_reach.ensures.1 p ] ])
