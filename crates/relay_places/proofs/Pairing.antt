-- The rows of outputs, each with the span of its own carriers.
use Rattle.std.proofs.Common.{◌≡◌, ℕ, ◌+◌, ◌<◌, ◌≤◌, List, [], ◌∷◌, ◌++◌, length, get_or, map, take, refl, sym, ap, ◌∙◌, arith}
use Rattle.std.specs.List.{zip}
use Rattle.std.proofs.lemmas.List.{length-map, length-take-le, map_push, take_all, take_more}
use Rattle.std.proofs.lemmas.Slice.Zip.{length-zip}
use Rattle.relay_conf.specs.declared.output.Output.{Output}
use Rattle.relay_places.specs.declared.places.Carriers.{Carriers}
use Rattle.relay_places.specs.Rows.{RowView, first_row, first_rows}

module _ {X Y : Type 0} where
  zip_push : (xs : List X) (ys : List Y) (x : X) (y : Y) → length xs ≡ length ys
      → zip (xs ++ x ∷ []) (ys ++ y ∷ []) ≡ zip xs ys ++ (x, y) ∷ []
  zip_push [] [] x y e = refl
  zip_push [] (z ∷ ys) x y e = absurd (omega arith)
  zip_push (z ∷ xs) [] x y e = absurd (omega arith)
  zip_push (z ∷ xs) (w ∷ ys) x y e =
      let rest : length xs ≡ length ys = omega arith in
      ap (λ (all : List (X × Y)). (z, w) ∷ all) (zip_push xs ys x y rest)

  zip_step : (xs : List X) (ys : List Y) (n : ℕ) (x : X) (y : Y) → n < length xs → n < length ys → x ≡ get_or xs n x → y ≡ get_or ys n y
      → zip (take (n + 1) xs) (take (n + 1) ys) ≡ zip (take n xs) (take n ys) ++ (x, y) ∷ []
  zip_step xs ys n x y hx hy ex ey =
      let long : length (take n xs) ≡ length (take n ys) = omega (arith, length-take-le n xs, length-take-le n ys) in
      let one = take_more xs n x hx ∙ ap (λ (z : X). take n xs ++ z ∷ []) (sym ex) in
      let other = take_more ys n y hy ∙ ap (λ (z : Y). take n ys ++ z ∷ []) (sym ey) in
      (λ i. zip (one i) (other i)) ∙ zip_push (take n xs) (take n ys) x y long

module _ {A : Type 0} (outputs : List (Output A)) (spans : List Carriers) where
  -- the row of one output more
  pub rows_more : (n : ℕ) (found : Output A) (span : Carriers) (rows rows' : List RowView) (row : RowView)
      → n < length outputs → n < length spans → found ≡ get_or outputs n found → span ≡ get_or spans n span
      → rows ≡ first_rows (take n outputs) (take n spans) → rows' ≡ rows ++ row ∷ [] → row ≡ first_row found span
      → rows' ≡ first_rows (take (n + 1) outputs) (take (n + 1) spans)
  rows_more n found span rows rows' row ho hs eo es r p one =
      let paired : List (Output A × Carriers) = zip (take n outputs) (take n spans) in
      let row_of : Output A × Carriers → RowView = λ p. first_row p.0 p.1 in
      p
      ∙ (λ i. (r i) ++ (one i) ∷ [])
      ∙ sym (map_push row_of paired (found, span))
      ∙ ap (map row_of) (sym (zip_step outputs spans n found span ho hs eo es))

  -- those of all outputs
  pub rows_all : (n : ℕ) (rows : List RowView) → length outputs ≤ n → length spans ≤ n
      → rows ≡ first_rows (take n outputs) (take n spans) → rows ≡ first_rows outputs spans
  rows_all n rows ho hs r = r ∙ (λ i. first_rows (take_all n outputs ho i) (take_all n spans hs i))

  -- there are as many
  pub length-first_rows : (rows : List RowView) → length spans ≡ length outputs → rows ≡ first_rows outputs spans
      → length rows ≡ length outputs
  length-first_rows rows e r =
      let row_of : Output A × Carriers → RowView = λ p. first_row p.0 p.1 in
      omega (arith, e, ap length r, length-map (zip outputs spans) row_of, length-zip outputs spans)

-- the rows of the same outputs and spans
pub rows_same : {A : Type 0} (outputs outputs' : List (Output A)) (spans spans' : List Carriers) (rows : List RowView)
    → outputs ≡ outputs' → spans ≡ spans' → rows ≡ first_rows outputs spans → rows ≡ first_rows outputs' spans'
rows_same outputs outputs' spans spans' rows o s r = r ∙ (λ i. first_rows (o i) (s i))
