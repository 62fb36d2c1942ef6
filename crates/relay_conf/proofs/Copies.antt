-- That a match is a copy where its type is this word.
use Rattle.std.proofs.Common.{◌≡◌, ℕ, Bool, true, false, List, [], ◌∷◌, codes, Option, Some, None, refl, ap, if◌then◌else◌}
use Rattle.std.specs.Prelude.{option_and_then, unwrap_or}
use Rattle.std.specs.Str.{bytes_eq}
use Rattle.conf_text.specs.Trees.{Tree}
use Rattle.relay_conf.specs.declared.form.OutputType.TheVariants as outputs
use Rattle.relay_conf.specs.Copies.{is_copy, outputs_in}
use Rattle.relay_conf.specs.Elements.{settings_of, children_of, value_of}
use Rattle.relay_conf.specs.Meaning.{numbered}
use Rattle.relay_conf.specs.Words.{store_type_of, output_type_of}

no_store_type : (text : List ℕ) → is_copy (store_type_of text) ≡ false
no_store_type text = by (bytes_eq text (codes "forward")) (bytes_eq text (codes "file")) (bytes_eq text (codes "relabel")) (bytes_eq text (codes "null"))
  where
    by : (a b c d : Bool) → is_copy (if a then Some outputs.Forward else (if b then Some outputs.File else (if c then Some outputs.Relabel else (if d then Some outputs.Null else None)))) ≡ false
    by true b c d = refl
    by false true c d = refl
    by false false true d = refl
    by false false false true = refl
    by false false false false = refl

of_text : (text : List ℕ) → is_copy (output_type_of text) ≡ bytes_eq text (codes "copy")
of_text text = by (bytes_eq text (codes "copy"))
  where
    by : (b : Bool) → is_copy (if b then Some outputs.Copy else store_type_of text) ≡ b
    by true = refl
    by false = no_store_type text

of_value : (value : Option (List ℕ)) → is_copy (option_and_then output_type_of value) ≡ bytes_eq (unwrap_or value []) (codes "copy")
of_value None = refl
of_value (Some text) = of_text text

pub outputs_are : (n : ℕ) (t : Tree)
    → outputs_in n t ≡ (if bytes_eq (unwrap_or (value_of (codes "@type") (settings_of t)) []) (codes "copy") then numbered (codes "store") n (children_of t) else (n, t) ∷ [])
outputs_are n t = ap (λ b. if b then numbered (codes "store") n (children_of t) else (n, t) ∷ []) (of_value (value_of (codes "@type") (settings_of t)))
