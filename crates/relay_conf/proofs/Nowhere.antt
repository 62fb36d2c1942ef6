-- Outputs that lead nowhere.
use denote.Enum.Declared.{tag_of}
use Rattle.std.proofs.Common.{◌≡◌, ◌≢◌, ◌⊎◌, Bool, true, false, Option, Some, None, refl, sym, ap, ◌∙◌, inl, inr, arith}
use Rattle.std.proofs.lemmas.Bool.{false≢true}
use Rattle.relay_conf.specs.contracts.form.OutputType.{the_type}
use Rattle.relay_conf.specs.declared.form.OutputType.{OutputType}
use Rattle.relay_conf.specs.declared.form.OutputType.TheVariants as outputs
use Rattle.relay_conf.specs.Meaning.{is_buffered}

-- whether an output of this type leads nowhere
abbrev pub is_nowhere : Option OutputType → Bool
is_nowhere (Some outputs.Forward) = false
is_nowhere (Some outputs.File) = false
is_nowhere (Some outputs.Relabel) = false
is_nowhere (Some outputs.Copy) = true
is_nowhere (Some outputs.Null) = true
is_nowhere None = true

pub has_no_buffer : (kind : Option OutputType) → is_nowhere kind ≡ true → is_buffered kind ≡ false
has_no_buffer (Some outputs.Forward) h = absurd (false≢true h)
has_no_buffer (Some outputs.File) h = absurd (false≢true h)
has_no_buffer (Some outputs.Relabel) h = refl
has_no_buffer (Some outputs.Copy) h = refl
has_no_buffer (Some outputs.Null) h = refl
has_no_buffer None h = refl

pub is_no_relabel : (kind : Option OutputType) → is_nowhere kind ≡ true → kind ≢ Some outputs.Relabel
is_no_relabel kind h e = absurd (false≢true (sym (ap is_nowhere e) ∙ h))

-- the types that the code's last arm takes: the third and the fifth
pub tagged_nowhere : (kind : OutputType) → (tag_of the_type kind ≡ 2) ⊎ (tag_of the_type kind ≡ 4) → is_nowhere (Some kind) ≡ true
tagged_nowhere outputs.Forward (inl e) = absurd (omega (arith, e))
tagged_nowhere outputs.Forward (inr e) = absurd (omega (arith, e))
tagged_nowhere outputs.File (inl e) = absurd (omega (arith, e))
tagged_nowhere outputs.File (inr e) = absurd (omega (arith, e))
tagged_nowhere outputs.Copy h = refl
tagged_nowhere outputs.Relabel (inl e) = absurd (omega (arith, e))
tagged_nowhere outputs.Relabel (inr e) = absurd (omega (arith, e))
tagged_nowhere outputs.Null h = refl
