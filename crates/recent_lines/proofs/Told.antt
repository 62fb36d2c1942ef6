-- Digests that a cache has.
use Rattle.std.proofs.Common.{ℕ, ◌≡◌, ◌-◌, Bool, true, false, is_some, List, [], ◌∷◌, map, take, Contains, None, nat_eq, refl, sym, ◌∙◌, ap}
use Rattle.std.specs.Cmp.Lexicographic.{same_text}
use Rattle.std.specs.Map.{lookup, lookup_entry}
use Rattle.std.proofs.lemmas.Cmp.{nat_list_eq_equiv}
use Rattle.std.proofs.lemmas.List.{take-map}
use Rattle.std.proofs.lemmas.Map.Made.{is_some-lookup}
use Rattle.std.proofs.lemmas.Map.Views.{Contains-from_any, list_any-from_Contains}
use Rattle.lru.specs.LruCache.{LruCache, lru_cache, put_entries}
use Rattle.sha2.specs.Sha256.{sha256}
use Rattle.recent_lines.specs.Recent.{remembering, Recent}
use lib.Pointwise.{pointwise}

abbrev Digests : Type 0
Digests = List (List ℕ × Unit {0})

abbrev pub keys : Digests → List (List ℕ)
keys es = map (λ e. e.0) es

-- one that is found is among them
pub found : (digest : List ℕ) (es : Digests) → is_some (lookup (pointwise nat_eq digest) es) ≡ true → Contains (keys es) digest
found digest es is = Contains-from_any (λ x y e. same_text x y (sym e)) digest (keys es) (sym (is_some-lookup (pointwise nat_eq digest) es) ∙ is)

-- one that isn't found is not
pub not_found : (digest : List ℕ) (es : Digests) → is_some (lookup (pointwise nat_eq digest) es) ≡ false → Contains (keys es) digest → ⊥
not_found digest es is has = let e = is_some-lookup (pointwise nat_eq digest) es ∙ list_any-from_Contains nat_list_eq_equiv digest (keys es) has in absurd (cc (sym e ∙ is))

no_entry : (test : List ℕ → Bool) (es : Digests) → is_some (lookup test es) ≡ false → lookup_entry test es ≡ None
no_entry test [] is = refl
no_entry test (e ∷ es) is = (elim (test e.0) as (λ b. test e.0 ≡ b → lookup_entry test (e ∷ es) ≡ None) [
  | true ↦ λ t. absurd (cc (rw t at is))
  | false ↦ λ t. rw t (no_entry test es (rw t at is))
]) refl

-- where a digest is put that wasn't found
pub put_keys : (c : LruCache (List ℕ) (Unit {0})) (digest : List ℕ) → is_some (lookup (pointwise nat_eq digest) c.entries) ≡ false
    → keys (put_entries (pointwise nat_eq) c digest tt) ≡ digest ∷ take (c.cap - 1) (keys c.entries)
put_keys c digest is = rw (no_entry (pointwise nat_eq digest) c.entries is) (ap (λ ks. digest ∷ ks) (sym (take-map (λ (e : List ℕ × Unit {0}). e.0) (c.cap - 1) c.entries)))

abbrev pub viewed : LruCache (List ℕ) (Unit {0}) → Recent
viewed c = record { most = c.cap; digests = keys c.entries }

abbrev with_digest : Recent → List ℕ → Recent
with_digest recent digest = record { most = recent.most; digests = digest ∷ take (recent.most - 1) recent.digests }

abbrev with_keys : ℕ → List (List ℕ) → Recent
with_keys most digests = record { most = most; digests = digests }

-- a line more is remembered
pub remembered : (c new : LruCache (List ℕ) (Unit {0})) (digest line : List ℕ) (recent : Recent) → viewed c ≡ recent → digest ≡ sha256 line → is_some (lookup (pointwise nat_eq digest) c.entries) ≡ false
    → new ≡ lru_cache (put_entries (pointwise nat_eq) c digest tt) c.cap → viewed new ≡ remembering recent line
remembered c new digest line recent view is none put =
    ap viewed put ∙ ap (with_keys c.cap) (put_keys c digest none) ∙ ap (λ r. with_digest r digest) view ∙ ap (with_digest recent) is
