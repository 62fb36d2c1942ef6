-- Counting the buffers in an element.
use Rattle.std.proofs.Common.{◌≡◌, ◌+◌, ◌&&◌, ℕ, List, [], ◌∷◌, Bool, true, false, map, drop, Option, refl, sym, ap, ◌∙◌, arith, if◌then◌else◌}
use Rattle.std.specs.Prelude.{◌||◌, codes}
use Rattle.std.specs.List.{count_by}
use Rattle.std.specs.Str.{bytes_eq}
use Rattle.std.proofs.lemmas.Bool.{false≢true}
use Rattle.std.proofs.lemmas.List.Sums.{sum_by-append}
use Rattle.conf_text.specs.declared.element.Element.{Element, out-Element}
use Rattle.conf_text.specs.Trees.{Heading, Setting, Tree, tree, Trees, more_trees, trees}
use Rattle.conf_text.specs.Views.{tree_of}
use Rattle.conf_text.proofs.Elements.{tree_of_out}
use Rattle.relay_conf.specs.declared.form.OutputType.{OutputType}
use Rattle.relay_conf.specs.Elements.{is_named, settings_of, tree_elements, trees_elements}
use Rattle.relay_conf.specs.Meaning.{is_buffered, kind_of, has_buffer, tree_buffers}

-- one where it holds, else none
abbrev pub one_if : Bool → ℕ
one_if b = if b then 1 else 0

-- how many outputs with a buffer are in elements one after the other
abbrev pub trees_buffers : Trees → ℕ
trees_buffers ts = count_by has_buffer (trees_elements ts)

pub first_counted : (t : Tree) (ts : List Tree) → count_by has_buffer (t ∷ ts) ≡ one_if (has_buffer t) + count_by has_buffer ts
first_counted t ts =
    let parts : count_by has_buffer (t ∷ ts) ≡ (0 + one_if (has_buffer t)) + count_by has_buffer ts = sum_by-append (λ x. one_if (has_buffer x)) (t ∷ []) ts in
    omega (arith, parts)

pub buffers_with : (t : Tree) (ts : Trees) → trees_buffers (more_trees t ts) ≡ tree_buffers t + trees_buffers ts
buffers_with t ts = sum_by-append (λ x. one_if (has_buffer x)) (tree_elements t) (trees_elements ts)

buffers_at : (t : Tree) (h : Heading) (s : List Setting) (kids : List Tree) → t ≡ tree h s (trees kids) → is_named (codes "system") t ≡ false
    → tree_buffers t ≡ one_if (has_buffer t) + trees_buffers (trees kids)
buffers_at t h s kids e b =
    let c = rw e at b in
    rw (e, c) (first_counted (tree h s (trees kids)) (trees_elements (trees kids)))

-- the buffers in an element, by its parts
pub buffers_are : {A : Type 0} (e : Element A) → is_named (codes "system") (tree_of e) ≡ false
    → tree_buffers (tree_of e) ≡ one_if (has_buffer (tree_of e)) + trees_buffers (trees (map tree_of (out-Element A e).children.items))
buffers_are {A} e b = buffers_at (tree_of e) _ _ (map tree_of (out-Element A e).children.items) (tree_of_out e) b

-- a child is counted, and those behind it are left
pub counted_on : {A : Type 0} (kids : List (Element A)) (k : ℕ) (x : Element A) (count one next whole : ℕ) → drop k kids ≡ x ∷ drop (k + 1) kids
    → one ≡ tree_buffers (tree_of x) → next ≡ count + one → count + trees_buffers (trees (map tree_of (drop k kids))) ≡ whole
    → next + trees_buffers (trees (map tree_of (drop (k + 1) kids))) ≡ whole
counted_on kids k x count one next whole here is sum so_far =
    let split = buffers_with (tree_of x) (trees (map tree_of (drop (k + 1) kids))) in
    let all : count + trees_buffers (more_trees (tree_of x) (trees (map tree_of (drop (k + 1) kids)))) ≡ whole = rw here at so_far in
    omega (arith, is, sum, split, all)

pub first_holds : (a b : Bool) → a ≡ true → (a || b) ≡ true
first_holds true b h = refl
first_holds false b h = absurd (false≢true h)

pub second_holds : (a b : Bool) → b ≡ true → (a || b) ≡ true
second_holds true b h = refl
second_holds false b h = h

one_of_both : (a b : Bool) → a ≡ true → b ≡ true → 1 ≡ one_if (a && b)
one_of_both a b h k = rw (h, k) refl

-- an output of a type that has a buffer counts as one
pub counts_itself : (t : Tree) (kind : Option OutputType) → (is_named (codes "match") t || is_named (codes "store") t) ≡ true → true ≡ is_buffered kind → kind ≡ kind_of (settings_of t) → 1 ≡ one_if (has_buffer t)
counts_itself t kind named is e = one_of_both (is_named (codes "match") t || is_named (codes "store") t) (is_buffered (kind_of (settings_of t))) named (sym (is ∙ ap is_buffered e))
