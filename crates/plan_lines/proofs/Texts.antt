-- Texts that are UTF-8, or not, and configurations at their places.
use Rattle.std.proofs.Common.{◌≡◌, ℕ, zero, suc, ◌<◌, Bool, true, false, List, [], ◌∷◌, length, get_or, slice_get, Some, refl, sym, ap, arith}
use Rattle.std.specs.Str.{IsUtf8, is_utf8}
use Rattle.std.specs.declared.vec.Vec.{Vec}
use Rattle.std.proofs.lemmas.Str.{IsUtf8-from_is_utf8}
use Rattle.plan_lines.specs.Plans.{texts}

pub not_utf8 : (text : List ℕ) → (IsUtf8 text → ⊥) → is_utf8 text ≡ false
not_utf8 text refused = by (is_utf8 text) refl
  where
    by : (b : Bool) → is_utf8 text ≡ b → is_utf8 text ≡ false
    by true e = absurd (refused (IsUtf8-from_is_utf8 text e))
    by false e = e

-- the text at the place of a configuration
pub text_there : {A : Type 0} (confs : List (Vec ℕ A)) (at : ℕ) (conf : Vec ℕ A) → at < length confs → conf ≡ get_or confs at conf → slice_get (texts confs) at ≡ Some conf.items
text_there [] at conf less e = absurd (omega (arith, less))
text_there (x ∷ confs) zero conf less e = ap (λ c. Some c.items) (sym e)
text_there (x ∷ confs) (suc at) conf less e = text_there confs at conf (omega (arith, less)) e
