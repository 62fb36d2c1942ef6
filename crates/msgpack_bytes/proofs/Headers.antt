-- Headers, shape by shape.
use Rattle.std.proofs.Common.{ℕ, ◌≡◌, ◌+◌, List, [], ◌∷◌, length, refl, sym, subst, ◌∙◌, inl, inr}
use Rattle.msgpack_bytes.specs.declared.format.Kind.{Kind}
use Rattle.msgpack_bytes.specs.declared.format.Container.{Container}
use Rattle.msgpack_bytes.specs.declared.format.Shape.{Shape}
use Rattle.msgpack_bytes.specs.declared.format.Shape.TheVariants.{Fixed, Sized, Holds, Counted, Never}
use Rattle.msgpack_bytes.specs.Format.{shape_of}
use Rattle.msgpack_bytes.specs.Item.{IsScalarHeader, IsContainerHeader}
use Rattle.msgpack_bytes.specs.Sizes.{Sizes, Counts}

pub scalar_sizes : (kind : Kind) (n first : ℕ) (length_bytes : List ℕ) → IsScalarHeader kind n (first ∷ length_bytes) → Sizes (shape_of first) kind n length_bytes
scalar_sizes kind n first length_bytes (inl (e, f)) = subst (λ (s : Shape). Sizes s kind n length_bytes) (sym e) (refl, f, refl)
scalar_sizes kind n first length_bytes (inr (extra, e, f)) = subst (λ (s : Shape). Sizes s kind n length_bytes) (sym e) (refl, refl, f)

sizes_by : (s : Shape) (kind : Kind) (n first : ℕ) (length_bytes : List ℕ) → shape_of first ≡ s → Sizes s kind n length_bytes → IsScalarHeader kind n (first ∷ length_bytes)
sizes_by (Fixed k c) kind n first length_bytes q (e, f, g) = let p : Fixed k c ≡ Fixed kind n = cc in inl (q ∙ p, f)
sizes_by (Sized k w extra) kind n first length_bytes q (e, f, g) = let p : Sized k w extra ≡ Sized kind (length length_bytes) extra = cc in inr (extra, q ∙ p, g)
sizes_by (Holds container c) kind n first length_bytes q e = absurd e
sizes_by (Counted container w) kind n first length_bytes q e = absurd e
sizes_by Never kind n first length_bytes q e = absurd e

pub sizes_scalar : (kind : Kind) (n first : ℕ) (length_bytes : List ℕ) → Sizes (shape_of first) kind n length_bytes → IsScalarHeader kind n (first ∷ length_bytes)
sizes_scalar kind n first length_bytes e = sizes_by (shape_of first) kind n first length_bytes refl e

pub container_counts : (container : Container) (n first : ℕ) (count_bytes : List ℕ) → IsContainerHeader container n (first ∷ count_bytes) → Counts (shape_of first) container n count_bytes
container_counts container n first count_bytes (inl (e, f)) = subst (λ (s : Shape). Counts s container n count_bytes) (sym e) (refl, f, refl)
container_counts container n first count_bytes (inr (e, f)) = subst (λ (s : Shape). Counts s container n count_bytes) (sym e) (refl, refl, f)

counts_by : (s : Shape) (container : Container) (n first : ℕ) (count_bytes : List ℕ) → shape_of first ≡ s → Counts s container n count_bytes → IsContainerHeader container n (first ∷ count_bytes)
counts_by (Fixed k c) container n first count_bytes q e = absurd e
counts_by (Sized k w extra) container n first count_bytes q e = absurd e
counts_by (Holds own c) container n first count_bytes q (e, f, g) = let p : Holds own c ≡ Holds container n = cc in inl (q ∙ p, f)
counts_by (Counted own w) container n first count_bytes q (e, f, g) = let p : Counted own w ≡ Counted container (length count_bytes) = cc in inr (q ∙ p, g)
counts_by Never container n first count_bytes q e = absurd e

pub counts_container : (container : Container) (n first : ℕ) (count_bytes : List ℕ) → Counts (shape_of first) container n count_bytes → IsContainerHeader container n (first ∷ count_bytes)
counts_container container n first count_bytes e = counts_by (shape_of first) container n first count_bytes refl e
