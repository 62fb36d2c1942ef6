use Rattle.std.proofs.Common.{ℕ, ◌≡◌, ◌∷◌, List, length, drop, ap, sym, subst, ◌∙◌}
use Rattle.std.specs.Int.{w32, w64, from_be_bytes}
use Rattle.event_listing.specs.Json.{IsScalarJson, Single, Double, IsSingleJson, IsDoubleJson}
use Rattle.event_listing.proofs.Scalars.{float_parts}
use Rattle.event_listing.proofs.Steps.{adds_as}
use Rattle.event_listing.proofs.numbers.put_float.Goals as goal

pub returns-then-content-eq4 : goal.returns-then-content-eq4
returns-then-content-eq4 g c =
    let f = float_parts c.args.item.now c.requires.0 c.requires.1 in
    let same : c.split_at.result.1.now ≡ c.requires.0 = c.split_at.ensures.back ∙ ap (λ (z : List ℕ). drop 1 z) f.whole in
    let four : length c.requires.0 ≡ 4 = sym (ap length same) ∙ c.if-content-eq4.true in
    let whole = f.whole ∙ ap (λ (b : ℕ). b ∷ c.requires.0) (f.four four) in
    let bits = c.number_of.ensures ∙ ap (λ (z : List ℕ). from_be_bytes w32 z) same in
    adds_as c.put_single.result (IsSingleJson c.number_of.result) (IsScalarJson c.args.item.now) c.args.writer.now c.put_single.new.writer
    (λ ts s. Single c.requires.0 four whole (subst (λ (n : ℕ). IsSingleJson n ts) bits s)) c.put_single.ensures

pub wide_number_of-requires : goal.wide_number_of-requires
wide_number_of-requires g c =
    let f = float_parts c.args.item.now c.requires.0 c.requires.1 in
    let same : c.split_at.result.1.now ≡ c.requires.0 = c.split_at.ensures.back ∙ ap (λ (z : List ℕ). drop 1 z) f.whole in
    ap length same ∙ f.eight (λ e. c.if-content-eq4.false (ap length same ∙ e))

pub returns : goal.returns
returns g c =
    let f = float_parts c.args.item.now c.requires.0 c.requires.1 in
    let same : c.split_at.result.1.now ≡ c.requires.0 = c.split_at.ensures.back ∙ ap (λ (z : List ℕ). drop 1 z) f.whole in
    let other = λ (e : length c.requires.0 ≡ 4). c.if-content-eq4.false (ap length same ∙ e) in
    let whole = f.whole ∙ ap (λ (b : ℕ). b ∷ c.requires.0) (f.other other) in
    let bits = c.wide_number_of.ensures ∙ ap (λ (z : List ℕ). from_be_bytes w64 z) same in
    adds_as c.put_double.result (IsDoubleJson c.wide_number_of.result) (IsScalarJson c.args.item.now) c.args.writer.now c.put_double.new.writer
    (λ ts s. Double c.requires.0 (f.eight other) whole (subst (λ (n : ℕ). IsDoubleJson n ts) bits s)) c.put_double.ensures
