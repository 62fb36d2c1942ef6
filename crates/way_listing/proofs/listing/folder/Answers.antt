use Rattle.std.proofs.Common.{◌≡◌, ◌<◌, ◌≤◌, ℕ, List, [], Some, None, ap, get_or, length, refl, subst, sym, ◌∙◌}
use Rattle.std.specs.List.{slice_get}
use Rattle.std.specs.Option.{option_map_or}
use Rattle.std.specs.Prelude.{string_bytes}
use Rattle.std.proofs.lemmas.Option.{slice_get_past, slice_get_read}
use Rattle.loss_rules.specs.declared.label.RelayLine.{RelayLine}
use Rattle.way_listing.proofs.listing.folder.Goals as goal

read_of : {X : Type 0} (F : X → List ℕ) (xs ys : List X) (i : ℕ) (x : X) → xs ≡ ys → i < length xs → x ≡ get_or xs i x → F x ≡ option_map_or F (slice_get ys i) []
read_of F xs ys i x same less at =
    let there : slice_get ys i ≡ Some x = subst (λ zs. slice_get zs i ≡ Some x) same (slice_get_read xs (length xs) i x refl less at) in
    sym (ap (λ found. option_map_or F found []) there)

none_of : {X : Type 0} (F : X → List ℕ) (xs ys : List X) (i : ℕ) → xs ≡ ys → length xs ≤ i → [] ≡ option_map_or F (slice_get ys i) []
none_of F xs ys i same past =
    let none : slice_get ys i ≡ None = subst (λ zs. slice_get zs i ≡ None) same (slice_get_past xs i past) in
    sym (ap (λ found. option_map_or F found []) none)

pub returns-in-Some : goal.returns-in-Some
returns-in-Some g c =
    let found = c.in-Some.ensures.lookup in
    c.as_str.ensures.value ∙ read_of (λ (line : RelayLine g.row.A.Denot). string_bytes line.folder) c.relay_lines.result.now c.args.plan.now.relay_lines c.args.place c.in-Some.line.now c.relay_lines.ensures.lines found.3.0 found.1

pub returns-in-None : goal.returns-in-None
returns-in-None g c =
    none_of (λ (line : RelayLine g.row.A.Denot). string_bytes line.folder) c.relay_lines.result.now c.args.plan.now.relay_lines c.args.place c.relay_lines.ensures.lines c.in-None.ensures.lookup.3
