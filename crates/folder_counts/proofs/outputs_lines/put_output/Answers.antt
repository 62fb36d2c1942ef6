use Rattle.std.proofs.Common.{ℕ, List, ◌≡◌, ◌++◌, ◌∷◌, ◌∙◌, [], ap, append_assoc, codes}
use Rattle.output_state.specs.declared.state.OutputCounts.{OutputCounts}
use Rattle.folder_counts.specs.Lines.{time_field}
use Rattle.folder_counts.specs.Outputs.{number_field, place_field, used_of, with_deliveries}
use Rattle.folder_counts.proofs.Written.{then_more, then_text}
use Rattle.folder_counts.proofs.outputs_lines.put_output.Goals as goal

deliveries_behind : (front text : List ℕ) (counts : OutputCounts) → with_deliveries (front ++ text) counts ≡ front ++ with_deliveries text counts
deliveries_behind front text counts = simp append_assoc

pub returns : goal.returns
returns g c =
    let old = c.args.lines.now.items in
    let output = c.args.output.now in
    let counts = c.counts.result in
    let last = c.last.result in
    let word = codes " last delivery " in
    let place = place_field output.state in
    let used = number_field (codes " used ") (used_of c.args.buffers.now output.state) in
    let a = c.put_place.new.line.items in
    let b = c.put_used.new.line.items in
    let d = c.put_deliveries.new.line.items in
    let e = c.put_time.new.line.items in
    let first : b ≡ old ++ (place ++ used) = then_more old a b place used c.in_ok-put_place.ensures c.in_ok-put_used.ensures in
    let delivered : d ≡ old ++ with_deliveries (place ++ used) counts =
    c.in_ok-put_deliveries.ensures ∙ ap (λ z. with_deliveries z counts) first ∙ deliveries_behind old (place ++ used) counts in
    let timed : e ≡ old ++ (with_deliveries (place ++ used) counts ++ time_field word last) =
    then_more old d e (with_deliveries (place ++ used) counts) (time_field word last) delivered c.in_ok-put_time.ensures in
    then_text c.extend_from_slice.result old e c.extend_from_slice.new.self.items (with_deliveries (place ++ used) counts ++ time_field word last)
    (with_deliveries (place ++ used) output.state.counts ++ time_field word output.last) (10 ∷ []) timed
    (ap (λ z. with_deliveries (place ++ used) z ++ time_field word last) c.counts.ensures ∙ ap (λ z. with_deliveries (place ++ used) output.state.counts ++ time_field word z) c.last.ensures)
    c.extend_from_slice.ensures.items
