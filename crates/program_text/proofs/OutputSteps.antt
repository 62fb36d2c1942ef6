-- Steps of a write that goes on until all is written.
use Rattle.std.proofs.Common.{ℕ, List, [], ◌++◌, take, drop, refl, ap, ◌∙◌, append_assoc, take-append-drop}
use Rattle.std.specs.Prelude.{Option}
use Rattle.std.specs.Io.KnownBytes.{Appends, Keeps}
use Rattle.std.proofs.KnownBytes.{Appends-nil, Appends-trans, Appends-kept}
use Rattle.program_text.specs.Output.{TakesPart}

-- nothing is written yet
pub TakesPart-none : (a : Option (List ℕ)) (bytes : List ℕ) → TakesPart a a bytes bytes
TakesPart-none a bytes = record { written = []; appends = Appends-nil a; whole = refl }

-- the writer took n bytes more
pub TakesPart-more : (a b c : Option (List ℕ)) (bytes rest : List ℕ) (n : ℕ) → TakesPart a b bytes rest → Appends b c (take n rest)
    → TakesPart a c bytes (drop n rest)
TakesPart-more a b c bytes rest n h k = record {
  written = h.written ++ take n rest;
  appends = Appends-trans a b c h.written (take n rest) h.appends k;
  whole = append_assoc h.written (take n rest) (drop n rest) ∙ ap (λ l. h.written ++ l) (take-append-drop n rest) ∙ h.whole;
}

-- the writer took nothing more
pub TakesPart-kept : (a b c : Option (List ℕ)) (bytes rest : List ℕ) → TakesPart a b bytes rest → Keeps b c → TakesPart a c bytes rest
TakesPart-kept a b c bytes rest h k = record {
  written = h.written;
  appends = Appends-kept a b c h.written h.appends k;
  whole = h.whole;
}
