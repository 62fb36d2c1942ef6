-- Going over what a configuration says, one section after another.
use Rattle.std.proofs.Common.{◌≡◌, ℕ, ◌+◌, ◌<◌, ◌≤◌, List, [], ◌∷◌, ◌++◌, length, map, take, get_or, refl, sym, ap, subst, ◌∙◌, append-nil, append_assoc}
use Rattle.std.proofs.lemmas.List.{map_more, take_all}
use Rattle.conf_text.specs.declared.element.Element.{Element, out-Element}
use Rattle.conf_text.specs.declared.element.Pair.{Pair}
use Rattle.conf_text.specs.Trees.{Setting, Tree, trees}
use Rattle.conf_text.specs.Views.{setting, tree_of}
use Rattle.conf_text.proofs.Elements.{tree_of_out}
use Rattle.relay_conf.specs.Elements.{heading_of, settings_of}
use Rattle.conf_listing.specs.Items.{Item, all_stand_for, item_of, items_in, items_of, parameter_item, section_item, stands_for}
use Rattle.conf_listing.specs.declared.adapted.Entry.{Entry}
use Rattle.conf_listing.specs.declared.adapted.Entry.TheVariants as entry
use Rattle.conf_listing.specs.declared.adapted.Row.{Row}

items_push : (ts : List Tree) (t : Tree) → items_of (trees (ts ++ t ∷ [])) ≡ items_of (trees ts) ++ items_in t
items_push [] t = append-nil (items_in t)
items_push (s ∷ ts) t = ap (λ (l : List Item). items_in s ++ l) (items_push ts t) ∙ sym (append_assoc (items_in s) (items_of (trees ts)) (items_in t))

-- one section more
pub items_more : {A : Type 0} (es : List (Element A)) (i : ℕ) (x : Element A) → i < length es → x ≡ get_or es i x
    → items_of (trees (map tree_of (take (i + 1) es))) ≡ items_of (trees (map tree_of (take i es))) ++ items_in (tree_of x)
items_more es i x lt is =
    ap (λ (l : List Tree). items_of (trees l)) (map_more tree_of es i x lt ∙ ap (λ y. map tree_of (take i es) ++ tree_of y ∷ []) (sym is))
    ∙ items_push (map tree_of (take i es)) (tree_of x)

-- what is put behind a list comes behind its last part
pub put_behind : (old : List Item) (h : Item) (ps front more : List Item) → (old ++ (h ∷ (ps ++ front))) ++ more ≡ old ++ (h ∷ (ps ++ (front ++ more)))
put_behind old h ps front more = append_assoc old (h ∷ (ps ++ front)) more ∙ ap (λ (l : List Item). old ++ (h ∷ l)) (append_assoc ps front more)

-- what an element says, by its parts
pub items_by_parts : {A : Type 0} (e : Element A) → items_in (tree_of e) ≡ section_item (heading_of (tree_of e)) ∷ (map parameter_item (settings_of (tree_of e)) ++ items_of (trees (map tree_of (out-Element A e).children.items)))
items_by_parts {A} e =
    let kids = map tree_of (out-Element A e).children.items in
    subst (λ (t : Tree). items_in t ≡ section_item (heading_of t) ∷ (map parameter_item (settings_of t) ++ items_of (trees kids))) (sym (tree_of_out e)) refl

-- the same, once all its children were gone over
pub all_items : {A : Type 0} (e : Element A) (kids : List (Element A)) (n : ℕ) → kids ≡ (out-Element A e).children.items → length kids ≤ n
    → section_item (heading_of (tree_of e)) ∷ (map parameter_item (settings_of (tree_of e)) ++ items_of (trees (map tree_of (take n kids)))) ≡ items_in (tree_of e)
all_items e kids n are all =
    ap (λ (l : List (Element _)). section_item (heading_of (tree_of e)) ∷ (map parameter_item (settings_of (tree_of e)) ++ items_of (trees (map tree_of l)))) (take_all n kids all ∙ are)
    ∙ sym (items_by_parts e)

-- one row more
rows_push : {A : Type 0} (es : List (Entry A)) (row : Row A) → all_stand_for (es ++ entry.Of row ∷ []) ≡ all_stand_for es ++ item_of row ∷ []
rows_push [] row = refl
rows_push (e ∷ es) row = ap (λ (l : List Item). stands_for e ++ l) (rows_push es row) ∙ sym (append_assoc (stands_for e) (all_stand_for es) (item_of row ∷ []))

-- the same, by what the row stands for
pub row_more : {A : Type 0} (es new : List (Entry A)) (row : Row A) (i : Item) → item_of row ≡ i → new ≡ es ++ entry.Of row ∷ [] → all_stand_for new ≡ all_stand_for es ++ i ∷ []
row_more es new row i made put = ap all_stand_for put ∙ rows_push es row ∙ ap (λ (y : Item). all_stand_for es ++ y ∷ []) made

settings_push : (ss : List Setting) (s : Setting) → map parameter_item (ss ++ s ∷ []) ≡ map parameter_item ss ++ parameter_item s ∷ []
settings_push [] s = refl
settings_push (t ∷ ss) s = ap (λ (l : List Item). parameter_item t ∷ l) (settings_push ss s)

-- one parameter more
pub pairs_more : {A : Type 0} (old : List Item) (ps : List (Pair A)) (i : ℕ) (x : Pair A) (es new : List (Entry A)) (row : Row A) → i < length ps → x ≡ get_or ps i x
    → item_of row ≡ parameter_item (setting x) → all_stand_for es ≡ old ++ map parameter_item (map setting (take i ps)) → new ≡ es ++ entry.Of row ∷ []
    → all_stand_for new ≡ old ++ map parameter_item (map setting (take (i + 1) ps))
pairs_more old ps i x es new row lt is made before put =
    let front = map setting (take i ps) in
    ap all_stand_for put ∙ rows_push es row
    ∙ ap (λ (l : List Item). l ++ item_of row ∷ []) before
    ∙ append_assoc old (map parameter_item front) (item_of row ∷ [])
    ∙ ap (λ (y : Item). old ++ (map parameter_item front ++ y ∷ [])) made
    ∙ ap (λ (l : List Item). old ++ l) (sym (settings_push front (setting x)))
    ∙ ap (λ (l : List Setting). old ++ map parameter_item l) (sym (map_more setting ps i x lt ∙ ap (λ y. front ++ setting y ∷ []) (sym is)))
