-- That no two outputs share a buffer.
use Rattle.std.proofs.Common.{◌≡◌, ℕ, zero, suc, ◌+◌, ◌<◌, ◌≤◌, ◌||◌, Bool, true, false, eqb, List, [], ◌∷◌, ◌++◌, Option, Some, None, slice_get, refl, sym, ap, ◌∙◌, subst, arith, if◌then◌else◌}
use Rattle.std.specs.Prelude.{codes}
use Rattle.std.specs.List.{flat_map, AllZip}
use Rattle.std.specs.Option.{option_and_then}
use Rattle.std.specs.Str.{bytes_eq}
use Rattle.std.proofs.lemmas.Bool.{eq-eqb, eqb-true, false≢true}
use Rattle.std.proofs.lemmas.Slice.Eq.{bytes_eq-Decides}
use Rattle.conf_text.specs.Grammar.{top}
use Rattle.conf_text.specs.Trees.{Heading, Setting, Tree, tree, trees, Trees, no_trees, more_trees}
use Rattle.relay_conf.specs.Copies.{is_copy, outputs_in}
use Rattle.relay_conf.specs.Described.{IsOutputOf}
use Rattle.relay_conf.specs.Elements.{heading_of, settings_of, children_of, tree_list, is_named, trees_elements}
use Rattle.relay_conf.specs.declared.output.Output.{Output}
use Rattle.relay_conf.specs.declared.output.Output.TheVariants as output
use Rattle.relay_conf.specs.declared.relay.MatchRule.{MatchRule}
use Rattle.relay_conf.specs.declared.relay.Relay.{Relay}
use Rattle.relay_conf.specs.declared.relay.Scope.{Scope}
use Rattle.relay_conf.specs.Buffers.{buffer_number, output_in_relay, HaveOwnBuffers}
use Rattle.relay_conf.specs.Meaning.{kind_of, is_buffered, has_buffer, numbered, tree_buffers}
use Rattle.relay_conf.specs.Relays.{IsMatchOf, IsScopeOf, IsRelayOf}
use Rattle.relay_conf.proofs.Counting.{one_if, trees_buffers, first_counted, buffers_with}
use Rattle.relay_conf.proofs.Copies.{outputs_are}
use Rattle.relay_conf.proofs.Trees.{tree_list_trees}

-- one where the buffer is this one, else none
abbrev is_it : Option ℕ → ℕ → ℕ
is_it None b = 0
is_it (Some n) b = one_if (eqb n b)

-- the number of the buffer of an output, by its element and how many buffers stand before it
abbrev number_at : ℕ × Tree → Option ℕ
number_at p = if is_buffered (kind_of (settings_of p.1)) then Some p.0 else None

-- how many of the elements are outputs that have this buffer
abbrev said : ℕ → List (ℕ × Tree) → ℕ
said b [] = 0
said b (p ∷ ps) = is_it (number_at p) b + said b ps

-- how many of the outputs have this buffer
abbrev held : {A : Type 0} → ℕ → List (Output A) → ℕ
held b [] = 0
held b (o ∷ os) = is_it (buffer_number o) b + held b os

-- one at most, and only between the two numbers
record AtMostOne (count low high b : ℕ) : Type 0 where
  one : count ≤ 1
  above : 0 < count → low ≤ b
  below : 0 < count → b < high

none_there : (n m b : ℕ) → AtMostOne 0 n m b
none_there n m b = record { one = omega arith; above = λ h. absurd (omega (arith, h)); below = λ h. absurd (omega (arith, h)) }

wider : (c n m k l b : ℕ) → AtMostOne c n m b → k ≤ n → m ≤ l → AtMostOne c k l b
wider c n m k l b h low high = record { one = h.one; above = λ some. (let a = h.above some in omega (arith, a, low)); below = λ some. (let a = h.below some in omega (arith, a, high)) }

-- two counts, the one below the other
joined : (c d n m k b : ℕ) → AtMostOne c n m b → AtMostOne d m k b → n ≤ m → m ≤ k → AtMostOne (c + d) n k b
joined zero d n m k b h g low high = subst (λ x. AtMostOne x n k b) (omega arith) (wider d m k n k b g low (omega arith))
joined (suc c) zero n m k b h g low high = subst (λ x. AtMostOne x n k b) (omega arith) (wider (suc c) n m n k b h (omega arith) high)
joined (suc c) (suc d) n m k b h g low high = let under = h.below (omega arith) in let over = g.above (omega arith) in absurd (omega (arith, under, over))

said-append : (b : ℕ) (xs ys : List (ℕ × Tree)) → said b (xs ++ ys) ≡ said b xs + said b ys
said-append b [] ys = omega arith
said-append b (x ∷ xs) ys = let rest = said-append b xs ys in omega (arith, rest)

held-append : {A : Type 0} (b : ℕ) (xs ys : List (Output A)) → held b (xs ++ ys) ≡ held b xs + held b ys
held-append b [] ys = omega arith
held-append b (x ∷ xs) ys = let rest = held-append b xs ys in omega (arith, rest)

-- one buffer
own_number : (n b : ℕ) (t : Bool) → eqb n b ≡ t → AtMostOne (one_if t) n (n + 1) b
own_number n b true e = let same = eqb-true n b e in record { one = omega arith; above = λ some. (omega (arith, same)); below = λ some. (omega (arith, same)) }
own_number n b false e = none_there n (n + 1) b

-- an output has the buffer of its number, where its type has one
one_output : (b n : ℕ) (t : Tree) → AtMostOne (said b ((n, t) ∷ [])) n (n + one_if (is_buffered (kind_of (settings_of t)))) b
one_output b n t = by (is_buffered (kind_of (settings_of t)))
  where
    by : (x : Bool) → AtMostOne (is_it (if x then Some n else None) b + 0) n (n + one_if x) b
    by true = subst (λ c. AtMostOne c n (n + 1) b) (omega arith) (own_number n b (eqb n b) refl)
    by false = none_there n _ b

-- how many buffers are in some elements
abbrev buffers_among : List Tree → ℕ
buffers_among [] = 0
buffers_among (t ∷ ts) = tree_buffers t + buffers_among ts

among_children : (ts : Trees) → buffers_among (tree_list ts) ≡ trees_buffers ts
among_children no_trees = refl
among_children (more_trees t ts) = ap (λ n. tree_buffers t + n) (among_children ts) ∙ sym (buffers_with t ts)

named_so : (name : List ℕ) (h : Heading) → bytes_eq h.name name ≡ true → h.name ≡ name
named_so name h e = (bytes_eq-Decides h.name name).0 e

-- an element of this name, which isn't `system`, counts what is in it
counted : (name : List ℕ) (h : Heading) (s : List Setting) (kids : Trees) → bytes_eq h.name name ≡ true → bytes_eq name (codes "system") ≡ false
    → tree_buffers (tree h s kids) ≡ one_if (has_buffer (tree h s kids)) + buffers_among (tree_list kids)
counted name h s kids e other = let no : bytes_eq h.name (codes "system") ≡ false = rw (named_so name h e) other in
    rw no (first_counted (tree h s kids) (trees_elements kids) ∙ ap (λ n. one_if (has_buffer (tree h s kids)) + n) (sym (among_children kids)))

-- an output that is a match or a store
has_its : (h : Heading) (s : List Setting) (kids : Trees) → (bytes_eq h.name (codes "match") || bytes_eq h.name (codes "store")) ≡ true → has_buffer (tree h s kids) ≡ is_buffered (kind_of s)
has_its h s kids e = rw e refl

match_or : (h : Heading) → bytes_eq h.name (codes "match") ≡ true → (bytes_eq h.name (codes "match") || bytes_eq h.name (codes "store")) ≡ true
match_or h e = rw e refl

store_or : (h : Heading) → bytes_eq h.name (codes "store") ≡ true → (bytes_eq h.name (codes "match") || bytes_eq h.name (codes "store")) ≡ true
store_or h e = let same = named_so (codes "store") h e in rw same refl

-- the buffer of one output is among those of its element
in_its_tree : (b n : ℕ) (name : List ℕ) (t : Tree) → is_named name t ≡ true → bytes_eq name (codes "system") ≡ false
    → (bytes_eq name (codes "match") || bytes_eq name (codes "store")) ≡ true → AtMostOne (said b ((n, t) ∷ [])) n (n + tree_buffers t) b
in_its_tree b n name (tree h s kids) e other is =
    let full = counted name h s kids e other in
    let mine : has_buffer (tree h s kids) ≡ is_buffered (kind_of s) = has_its h s kids (rw (named_so name h e) is) in
    let at_least : one_if (is_buffered (kind_of s)) ≤ tree_buffers (tree h s kids) = rw (full, mine) (omega arith) in
    wider _ n _ n _ b (one_output b n (tree h s kids)) (omega arith) (omega (arith, at_least))

-- the buffers of stores
in_stores : (b n : ℕ) (ts : List Tree) → AtMostOne (said b (numbered (codes "store") n ts)) n (n + buffers_among ts) b
in_stores b n [] = none_there n _ b
in_stores b n (t ∷ ts) = by (wider _ _ _ _ _ b (in_stores b (n + tree_buffers t) ts) (omega arith) (omega arith)) (is_named (codes "store") t) refl
  where
    by : AtMostOne (said b (numbered (codes "store") (n + tree_buffers t) ts)) (n + tree_buffers t) (n + (tree_buffers t + buffers_among ts)) b
        → (x : Bool) → is_named (codes "store") t ≡ x
        → AtMostOne (said b (if x then (n, t) ∷ numbered (codes "store") (n + tree_buffers t) ts else numbered (codes "store") (n + tree_buffers t) ts)) n (n + (tree_buffers t + buffers_among ts)) b
    by later true e = subst (λ c. AtMostOne c n (n + (tree_buffers t + buffers_among ts)) b) (omega arith)
        (joined _ _ n (n + tree_buffers t) _ b (in_its_tree b n (codes "store") t e refl refl) later (omega arith) (omega arith))
    by later false e = wider _ _ _ _ _ b later (omega arith) (omega arith)

-- the buffers of a match
in_match : (b n : ℕ) (t : Tree) → is_named (codes "match") t ≡ true → AtMostOne (said b (outputs_in n t)) n (n + tree_buffers t) b
in_match b n (tree h s kids) e = by (is_copy (kind_of s)) refl
  where
    by : (x : Bool) → is_copy (kind_of s) ≡ x
        → AtMostOne (said b (if x then numbered (codes "store") n (tree_list kids) else (n, tree h s kids) ∷ [])) n (n + tree_buffers (tree h s kids)) b
    by true copies = let full = counted (codes "match") h s kids e refl in wider _ _ _ _ _ b (in_stores b n (tree_list kids)) (omega arith) (omega (arith, full))
    by false single = in_its_tree b n (codes "match") (tree h s kids) e refl refl

-- the outputs of the matches among some elements
abbrev match_outputs : ℕ → List Tree → List (ℕ × Tree)
match_outputs n ts = flat_map (λ p. outputs_in p.0 p.1) (numbered (codes "match") n ts)

in_matches : (b n : ℕ) (ts : List Tree) → AtMostOne (said b (match_outputs n ts)) n (n + buffers_among ts) b
in_matches b n [] = none_there n _ b
in_matches b n (t ∷ ts) = by (wider _ _ _ _ _ b (in_matches b (n + tree_buffers t) ts) (omega arith) (omega arith)) (is_named (codes "match") t) refl
  where
    by : AtMostOne (said b (match_outputs (n + tree_buffers t) ts)) (n + tree_buffers t) (n + (tree_buffers t + buffers_among ts)) b
        → (x : Bool) → is_named (codes "match") t ≡ x
        → AtMostOne (said b (flat_map (λ p. outputs_in p.0 p.1) (if x then (n, t) ∷ numbered (codes "match") (n + tree_buffers t) ts else numbered (codes "match") (n + tree_buffers t) ts))) n (n + (tree_buffers t + buffers_among ts)) b
    by later true e = rw (said-append b (outputs_in n t) (match_outputs (n + tree_buffers t) ts))
        (joined _ _ n (n + tree_buffers t) _ b (in_match b n t e) later (omega arith) (omega arith))
    by later false e = wider _ _ _ _ _ b later (omega arith) (omega arith)

-- those of the labels among some elements
abbrev label_outputs : ℕ → List Tree → List (ℕ × Tree)
label_outputs n ts = flat_map (λ p. match_outputs p.0 (children_of p.1)) (numbered (codes "label") n ts)

in_label : (b n : ℕ) (t : Tree) → is_named (codes "label") t ≡ true → AtMostOne (said b (match_outputs n (children_of t))) n (n + tree_buffers t) b
in_label b n (tree h s kids) e = let full = counted (codes "label") h s kids e refl in wider _ _ _ _ _ b (in_matches b n (tree_list kids)) (omega arith) (omega (arith, full))

-- matches inside and outside labels share no buffer
in_all : (b n : ℕ) (ts : List Tree) → AtMostOne (said b (match_outputs n ts) + said b (label_outputs n ts)) n (n + buffers_among ts) b
in_all b n [] = none_there n _ b
in_all b n (t ∷ ts) = by (wider _ _ _ _ _ b (in_all b (n + tree_buffers t) ts) (omega arith) (omega arith)) (is_named (codes "match") t) (is_named (codes "label") t) refl refl
  where
    by : AtMostOne (said b (match_outputs (n + tree_buffers t) ts) + said b (label_outputs (n + tree_buffers t) ts)) (n + tree_buffers t) (n + (tree_buffers t + buffers_among ts)) b
        → (x y : Bool) → is_named (codes "match") t ≡ x → is_named (codes "label") t ≡ y
        → AtMostOne (said b (flat_map (λ p. outputs_in p.0 p.1) (if x then (n, t) ∷ numbered (codes "match") (n + tree_buffers t) ts else numbered (codes "match") (n + tree_buffers t) ts))
        + said b (flat_map (λ p. match_outputs p.0 (children_of p.1)) (if y then (n, t) ∷ numbered (codes "label") (n + tree_buffers t) ts else numbered (codes "label") (n + tree_buffers t) ts)))
        n (n + (tree_buffers t + buffers_among ts)) b
    by later true true e f = absurd (false≢true (subst (λ name. bytes_eq name (codes "label") ≡ true) (named_so (codes "match") (heading_of t) e) f))
    by later true false e f = rw (said-append b (outputs_in n t) (match_outputs (n + tree_buffers t) ts))
        (subst (λ c. AtMostOne c n (n + (tree_buffers t + buffers_among ts)) b) (omega arith) (joined _ _ n (n + tree_buffers t) _ b (in_match b n t e) later (omega arith) (omega arith)))
    by later false true e f = rw (said-append b (match_outputs n (children_of t)) (label_outputs (n + tree_buffers t) ts))
        (subst (λ c. AtMostOne c n (n + (tree_buffers t + buffers_among ts)) b) (omega arith) (joined _ _ n (n + tree_buffers t) _ b (in_label b n t f) later (omega arith) (omega arith)))
    by later false false e f = wider _ _ _ _ _ b later (omega arith) (omega arith)

-- what is held is what is said
same_number : {A : Type 0} (all : List Tree) (p : ℕ × Tree) (o : Output A) → IsOutputOf all p.0 p.1 o → buffer_number o ≡ number_at p
same_number all p (output.Null line) h = rw h.0 refl
same_number all p (output.Relabel target line) h = rw h.0 refl
same_number all p (output.Forward settings line) h = rw h.0 (ap Some h.1.number)
same_number all p (output.File settings line) h = rw h.0 (ap Some h.1.number)

held_said : {A : Type 0} (b : ℕ) (all : List Tree) (ps : List (ℕ × Tree)) (os : List (Output A)) → AllZip (λ p o. IsOutputOf all p.0 p.1 o) ps os → held b os ≡ said b ps
held_said b all [] [] h = refl
held_said b all [] (o ∷ os) h = absurd h
held_said b all (p ∷ ps) [] h = absurd h
held_said b all (p ∷ ps) (o ∷ os) h = let rest = held_said b all ps os h.1 in let one = ap (λ n. is_it n b) (same_number all p o h.0) in omega (arith, rest, one)

held_matches : {A : Type 0} (b : ℕ) (all : List Tree) (ps : List (ℕ × Tree)) (rules : List (MatchRule A)) → AllZip (λ p rule. IsMatchOf all p.0 p.1 rule) ps rules
    → held b (flat_map (λ rule. rule.outputs.items) rules) ≡ said b (flat_map (λ p. outputs_in p.0 p.1) ps)
held_matches b all [] [] h = refl
held_matches b all [] (rule ∷ rules) h = absurd h
held_matches b all (p ∷ ps) [] h = absurd h
held_matches b all (p ∷ ps) (rule ∷ rules) h =
    let first = held_said b all (outputs_in p.0 p.1) rule.outputs.items (rw (outputs_are p.0 p.1) h.0.outputs) in
    let rest = held_matches b all ps rules h.1 in
    rw (held-append b rule.outputs.items (flat_map (λ rule. rule.outputs.items) rules), said-append b (outputs_in p.0 p.1) (flat_map (λ p. outputs_in p.0 p.1) ps)) (omega (arith, first, rest))

-- the outputs of a scope, in the order of its matches
abbrev scope_outputs : {A : Type 0} → Scope A → List (Output A)
scope_outputs scope = flat_map (λ rule. rule.outputs.items) scope.matches.items

held_scopes : {A : Type 0} (b : ℕ) (all : List Tree) (ps : List (ℕ × Tree)) (scopes : List (Scope A)) → AllZip (λ p scope. IsScopeOf all p.0 p.1 scope) ps scopes
    → held b (flat_map scope_outputs scopes) ≡ said b (flat_map (λ p. match_outputs p.0 (children_of p.1)) ps)
held_scopes b all [] [] h = refl
held_scopes b all [] (scope ∷ scopes) h = absurd h
held_scopes b all (p ∷ ps) [] h = absurd h
held_scopes b all (p ∷ ps) (scope ∷ scopes) h =
    let first = held_matches b all (numbered (codes "match") p.0 (children_of p.1)) scope.matches.items h.0.matches in
    let rest = held_scopes b all ps scopes h.1 in
    rw (held-append b (scope_outputs scope) (flat_map scope_outputs scopes), said-append b (match_outputs p.0 (children_of p.1)) (flat_map (λ p. match_outputs p.0 (children_of p.1)) ps)) (omega (arith, first, rest))

-- the outputs of a relay, in the order of its scopes
abbrev all_outputs : {A : Type 0} → Relay A → List (Output A)
all_outputs relay = flat_map scope_outputs relay.scopes.items

held_once : {A : Type 0} (b : ℕ) (all : List Tree) (relay : Relay A) → IsRelayOf all relay → held b (all_outputs relay) ≤ 1
held_once b all relay h =
    let same = held_scopes b all ((0, tree top [] (trees all)) ∷ numbered (codes "label") 0 all) relay.scopes.items h.scopes in
    let main_and_labels : held b (all_outputs relay) ≡ said b (match_outputs 0 all ++ label_outputs 0 all) = rw (tree_list_trees all) at same in
    let parts = said-append b (match_outputs 0 all) (label_outputs 0 all) in
    let few = (in_all b 0 all).one in
    omega (arith, main_and_labels, parts, few)

-- Where one of many counts, and so does another, they stand at one place.

-- what all of them count
abbrev whole : {X : Type 0} → (X → ℕ) → List X → ℕ
whole f [] = 0
whole f (x ∷ xs) = f x + whole f xs

part_of : {X : Type 0} (f : X → ℕ) (xs : List X) (i : ℕ) (x : X) → slice_get xs i ≡ Some x → f x ≤ whole f xs
part_of f [] i x at = absurd (cc)
part_of f (y ∷ xs) zero x at = let same : y ≡ x = cc in rw same (omega arith)
part_of f (y ∷ xs) (suc i) x at = let more = part_of f xs i x at in omega (arith, more)

one_place : {X : Type 0} (f : X → ℕ) (xs : List X) (i j : ℕ) (x y : X) → whole f xs ≤ 1 → slice_get xs i ≡ Some x → slice_get xs j ≡ Some y → 1 ≤ f x → 1 ≤ f y → i ≡ j
one_place f [] i j x y few at to one other = absurd (cc)
one_place f (z ∷ xs) zero zero x y few at to one other = refl
one_place f (z ∷ xs) zero (suc j) x y few at to one other =
    let same : z ≡ x = cc in let own = ap f same in let more = part_of f xs j y to in absurd (omega (arith, own, more, one, other, few))
one_place f (z ∷ xs) (suc i) zero x y few at to one other =
    let same : z ≡ y = cc in let own = ap f same in let more = part_of f xs i x at in absurd (omega (arith, own, more, one, other, few))
one_place f (z ∷ xs) (suc i) (suc j) x y few at to one other = ap suc (one_place f xs i j x y (omega (arith, few)) at to one other)

held_pieces : {A X : Type 0} (b : ℕ) (f : X → List (Output A)) (xs : List X) → held b (flat_map f xs) ≡ whole (λ x. held b (f x)) xs
held_pieces b f [] = refl
held_pieces b f (x ∷ xs) = let parts = held-append b (f x) (flat_map f xs) in let rest = held_pieces b f xs in omega (arith, parts, rest)

held_whole : {A : Type 0} (b : ℕ) (os : List (Output A)) → held b os ≡ whole (λ o. is_it (buffer_number o) b) os
held_whole b [] = refl
held_whole b (o ∷ os) = ap (λ n. is_it (buffer_number o) b + n) (held_whole b os)

-- one that has the buffer is counted
counts_one : {A : Type 0} (o : Output A) (b : ℕ) → buffer_number o ≡ Some b → 1 ≤ is_it (buffer_number o) b
counts_one o b e = rw (e, eq-eqb b b refl) (omega arith)

-- where an output stands
record Stands {A : Type 0} (relay : Relay A) (scope rule output : ℕ) (found : Output A) : Type 0 where
  s : Scope A
  s_is : slice_get relay.scopes.items scope ≡ Some s
  r : MatchRule A
  r_is : slice_get s.matches.items rule ≡ Some r
  o_is : slice_get r.outputs.items output ≡ Some found

stands : {A : Type 0} (relay : Relay A) (scope rule output : ℕ) (found : Output A) → output_in_relay relay scope rule output ≡ Some found → Stands relay scope rule output found
stands {A} relay scope rule output found e = by (slice_get relay.scopes.items scope) refl e
  where
    inner : (s : Scope A) → slice_get relay.scopes.items scope ≡ Some s → (m : Option (MatchRule A)) → slice_get s.matches.items rule ≡ m
        → option_and_then (λ r. slice_get r.outputs.items output) m ≡ Some found → Stands relay scope rule output found
    inner s at None is e = absurd (cc)
    inner s at (Some r) is e = record { s = s; s_is = at; r = r; r_is = is; o_is = e }

    by : (m : Option (Scope A)) → slice_get relay.scopes.items scope ≡ m
        → option_and_then (λ r. slice_get r.outputs.items output) (option_and_then (λ s. slice_get s.matches.items rule) m) ≡ Some found → Stands relay scope rule output found
    by None is e = absurd (cc)
    by (Some s) is e = inner s is (slice_get s.matches.items rule) refl e

-- what a match holds, and a scope
abbrev held_rule : {A : Type 0} → ℕ → MatchRule A → ℕ
held_rule b r = held b r.outputs.items

abbrev held_scope : {A : Type 0} → ℕ → Scope A → ℕ
held_scope b s = held b (scope_outputs s)

output_counts : {A : Type 0} (b : ℕ) (r : MatchRule A) (i : ℕ) (o : Output A) → slice_get r.outputs.items i ≡ Some o → buffer_number o ≡ Some b → 1 ≤ held_rule b r
output_counts b r i o at e = let part = part_of (λ o. is_it (buffer_number o) b) r.outputs.items i o at in let one = counts_one o b e in let all = held_whole b r.outputs.items in omega (arith, part, one, all)

rule_counts : {A : Type 0} (b : ℕ) (s : Scope A) (i : ℕ) (r : MatchRule A) → slice_get s.matches.items i ≡ Some r → 1 ≤ held_rule b r → 1 ≤ held_scope b s
rule_counts b s i r at one = let part = part_of (held_rule b) s.matches.items i r at in let all = held_pieces b (λ rule. rule.outputs.items) s.matches.items in omega (arith, part, one, all)

-- no two outputs of a relay that was read share a buffer
pub own_buffers : {A : Type 0} (all : List Tree) (relay : Relay A) → IsRelayOf all relay → HaveOwnBuffers relay
own_buffers {A} all relay h scope rule output found at s r o other to b e f =
    by (stands relay scope rule output found at) (stands relay s r o other to)
  where
    few : whole (held_scope b) relay.scopes.items ≤ 1
    few = let one = held_once b all relay h in let parts = held_pieces b scope_outputs relay.scopes.items in omega (arith, one, parts)

    few_rules : (x : Scope A) (i : ℕ) → slice_get relay.scopes.items i ≡ Some x → whole (held_rule b) x.matches.items ≤ 1
    few_rules x i is = let part = part_of (held_scope b) relay.scopes.items i x is in let parts = held_pieces b (λ rule. rule.outputs.items) x.matches.items in omega (arith, part, parts, few)

    few_outputs : (x : Scope A) (i : ℕ) (y : MatchRule A) (k : ℕ) → slice_get relay.scopes.items i ≡ Some x → slice_get x.matches.items k ≡ Some y → whole (λ o. is_it (buffer_number o) b) y.outputs.items ≤ 1
    few_outputs x i y k is there = let part = part_of (held_rule b) x.matches.items k y there in let all = held_whole b y.outputs.items in let less = few_rules x i is in omega (arith, part, all, less)

    by : Stands relay scope rule output found → Stands relay s r o other → (s ≡ scope) × (r ≡ rule) × (o ≡ output)
    by a z =
        let a_counts = output_counts b a.r output found a.o_is e in
        let z_counts = output_counts b z.r o other z.o_is f in
        let s_same : s ≡ scope = one_place (held_scope b) relay.scopes.items s scope z.s a.s few z.s_is a.s_is (rule_counts b z.s r z.r z.r_is z_counts) (rule_counts b a.s rule a.r a.r_is a_counts) in
        let here : slice_get relay.scopes.items scope ≡ Some z.s = rw s_same at z.s_is in
        let same_scope : z.s ≡ a.s = cc in
        let z_rule : slice_get a.s.matches.items r ≡ Some z.r = rw same_scope at z.r_is in
        let r_same : r ≡ rule = one_place (held_rule b) a.s.matches.items r rule z.r a.r (few_rules a.s scope a.s_is) z_rule a.r_is z_counts a_counts in
        let there : slice_get a.s.matches.items rule ≡ Some z.r = rw r_same at z_rule in
        let same_rule : z.r ≡ a.r = cc in
        let z_output : slice_get a.r.outputs.items o ≡ Some other = rw same_rule at z.o_is in
        (s_same, r_same, one_place (λ o. is_it (buffer_number o) b) a.r.outputs.items o output other found (few_outputs a.s scope a.r rule a.s_is a.r_is) z_output a.o_is (counts_one other b f) (counts_one found b e))
