-- The text of rows, with one more.
use Rattle.std.proofs.Common.{◌≡◌, ℕ, ◌+◌, ◌<◌, List, [], ◌∷◌, ◌++◌, length, get_or, map, take, ap, ◌∙◌}
use Rattle.std.specs.List.{flat_map}
use Rattle.std.proofs.lemmas.List.{append-nil}
use Rattle.std.proofs.lemmas.List.Concat.{flat_map-append}
use Rattle.output_state.specs.Rows.{head_text, row_text}
use Rattle.output_state.specs.State.{StateView}
use Rattle.relay_places.specs.Rows.{RowView, rows_text}
use Rattle.relay_places.proofs.Growing.{grown, map_step}

pub text_more : (rows : List RowView) (n : ℕ) (row : RowView) (text text' : List ℕ) → n < length rows → row ≡ get_or rows n row
    → text ≡ rows_text (take n rows) → text' ≡ text ++ row_text row.state → text' ≡ rows_text (take (n + 1) rows)
text_more rows n row text text' h at t p =
    let state_of : RowView → StateView = λ row. row.state in
    let done = map state_of (take n rows) in
    let more = ap (flat_map row_text) (map_step state_of rows n row h at)
    ∙ flat_map-append row_text done (row.state ∷ [])
    ∙ ap (λ (z : List ℕ). flat_map row_text done ++ z) (append-nil (row_text row.state)) in
    grown head_text text (row_text row.state) text' (flat_map row_text done) (flat_map row_text (map state_of (take (n + 1) rows))) t p more
