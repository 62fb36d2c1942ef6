use Rattle.std.proofs.Common.{ℕ, ℤ, List, ◌≡◌, ◌<◌, ◌^◌, ◌++◌, IfOk, ap, arith, string_bytes, subst, sym, unsigned_abs, ◌∙◌}
use Rattle.std.specs.Fmt.{sign_text}
use Rattle.std.specs.Int.{is_negative}
use Rattle.std.proofs.lemmas.Int.{to_z-of_z}
use Rattle.std.proofs.lemmas.Result.{IfOk-weaker}
use mir.Syntax.{w128}
use Rattle.json.specs.Print.{IsNumber}
use Rattle.folder_counts.specs.Times.{size_text}
use Rattle.folder_counts.proofs.Seconds.{number_seconds}
use Rattle.folder_counts.proofs.times.seconds_text.Goals as goal

pub returns-clause-text : goal.returns-clause-text
returns-clause-text g c =
    let nanos = c.args.nanos in
    let same = to_z-of_z w128 nanos c.ranges.nanos in
    let sign : c.sign_of-sign.result.now ≡ sign_text (is_negative nanos) = c.sign_of-sign.ensures ∙ ap (λ (z : ℤ). sign_text (is_negative z)) same in
    let size : c.unsigned_abs-size.result ≡ unsigned_abs nanos = c.unsigned_abs-size.ensures.value ∙ ap (λ (z : ℤ). unsigned_abs z) same in
    subst (λ (n : ℕ). IfOk c.signed_text.result (λ text. string_bytes text ≡ sign_text (is_negative nanos) ++ size_text n)) size
    (subst (λ (s : List ℕ). IfOk c.signed_text.result (λ text. string_bytes text ≡ s ++ size_text c.unsigned_abs-size.result)) sign c.signed_text.ensures)

pub returns-clause-number : goal.returns-clause-number
returns-clause-number g c =
    let nanos = c.args.nanos in
    let same = to_z-of_z w128 nanos c.ranges.nanos in
    let sign : c.sign_of-sign.result.now ≡ sign_text (is_negative nanos) = c.sign_of-sign.ensures ∙ ap (λ (z : ℤ). sign_text (is_negative z)) same in
    let size : c.unsigned_abs-size.result ≡ unsigned_abs nanos = c.unsigned_abs-size.ensures.value ∙ ap (λ (z : ℤ). unsigned_abs z) same in
    let small : unsigned_abs nanos < 10 ^ 64 = omega (arith, size, c.unsigned_abs-size.ensures.bound) in
    let number = number_seconds nanos small in
    IfOk-weaker c.signed_text.result (λ text. string_bytes text ≡ c.sign_of-sign.result.now ++ size_text c.unsigned_abs-size.result) (λ text. IsNumber (string_bytes text))
    (λ text e. subst IsNumber (sym (e ∙ ap (λ (s : List ℕ). s ++ size_text c.unsigned_abs-size.result) sign ∙ ap (λ (n : ℕ). sign_text (is_negative nanos) ++ size_text n) size)) number)
    c.signed_text.ensures
