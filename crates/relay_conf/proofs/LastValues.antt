-- The value in the last line of a name, line by line.
use Rattle.std.proofs.Common.{◌≡◌, ℕ, ◌+◌, ◌<◌, ◌≤◌, Bool, true, false, List, [], ◌∷◌, length, get_or, drop, map, reverse, option_map, refl, sym, ap, ◌∙◌, Option, Some, None, if◌then◌else◌}
use Rattle.std.specs.List.{find}
use Rattle.std.specs.Option.{option_or}
use Rattle.std.specs.Str.{bytes_eq}
use Rattle.std.proofs.lemmas.Grind.{reverse_onto}
use Rattle.std.proofs.lemmas.List.{drop_all}
use Rattle.std.proofs.lemmas.List.Folds.{find-append}
use Rattle.conf_text.specs.Trees.{Setting}
use Rattle.conf_text.specs.Views.{setting}
use Rattle.conf_text.specs.declared.element.Pair.{Pair}
use Rattle.relay_conf.specs.Elements.{value_of}
use Rattle.relay_conf.proofs.Drops.{drop_is}

-- the value in a parameter's line, if it has this name
abbrev pub value_in : List ℕ → Setting → Option (List ℕ)
value_in name s = if bytes_eq s.name name then Some s.value else None

-- what passes last is found behind the first of some, else there
pub last_found : {X : Type 0} (p : X → Bool) (x : X) (xs : List X) → find p (reverse (x ∷ xs)) ≡ option_or (find p (reverse xs)) (if p x then Some x else None)
last_found p x xs = ap (find p) (reverse_onto xs x []) ∙ find-append p (reverse xs) (x ∷ [])

value_of_either : (a b : Option Setting) → option_map (λ s. s.value) (option_or a b) ≡ option_or (option_map (λ s. s.value) a) (option_map (λ s. s.value) b)
value_of_either None b = refl
value_of_either (Some s) b = refl

value_if : (b : Bool) (s : Setting) → option_map (λ s. s.value) (if b then Some s else None) ≡ (if b then Some s.value else None)
value_if true s = refl
value_if false s = refl

-- the value of a line stands where no later one has its name
value_next : (name : List ℕ) (s : Setting) (rest : List Setting) → value_of name (s ∷ rest) ≡ option_or (value_of name rest) (value_in name s)
value_next name s rest =
    ap (λ o. option_map (λ s. s.value) o) (last_found (λ s. bytes_eq s.name name) s rest)
    ∙ value_of_either (find (λ s. bytes_eq s.name name) (reverse rest)) _
    ∙ ap (λ o. option_or (value_of name rest) o) (value_if (bytes_eq s.name name) s)

option_or-option_or : {X : Type 0} (a b c : Option X) → option_or a (option_or b c) ≡ option_or (option_or a b) c
option_or-option_or (Some x) b c = refl
option_or-option_or None b c = refl

-- a line of the name has its value, whatever was found before
pub value_here : (name read value : List ℕ) (s : Setting) (same : Bool) (before : Option (List ℕ)) → same ≡ bytes_eq read name → read ≡ s.name → same ≡ true → value ≡ s.value → Some value ≡ option_or (value_in name s) before
value_here name read value s same before is r yes_same v =
    let here : bytes_eq s.name name ≡ true = ap (λ (t : List ℕ). bytes_eq t name) (sym r) ∙ sym is ∙ yes_same in
    rw here (ap (λ (t : List ℕ). Some t) v)

-- any other line leaves what was found
pub value_before : (name read : List ℕ) (s : Setting) (same : Bool) (before : Option (List ℕ)) → same ≡ bytes_eq read name → read ≡ s.name → same ≡ false → before ≡ option_or (value_in name s) before
value_before name read s same before is r not_same =
    let here : bytes_eq s.name name ≡ false = ap (λ (t : List ℕ). bytes_eq t name) (sym r) ∙ sym is ∙ not_same in
    rw here refl

pub next_value : {A : Type 0} (name : List ℕ) (pairs : List (Pair A)) (k : ℕ) (pair : Pair A) (before after whole : Option (List ℕ)) → k < length pairs → pair ≡ get_or pairs k pair → after ≡ option_or (value_in name (setting pair)) before
    → option_or (value_of name (map setting (drop k pairs))) before ≡ whole → option_or (value_of name (map setting (drop (k + 1) pairs))) after ≡ whole
next_value {A} name pairs k pair before after whole lt is made so_far =
    let rest = value_of name (map setting (drop (k + 1) pairs)) in
    ap (λ (o : Option (List ℕ)). option_or rest o) made ∙ option_or-option_or rest (value_in name (setting pair)) before
    ∙ ap (λ o. option_or o before) (sym (value_next name (setting pair) (map setting (drop (k + 1) pairs))))
    ∙ ap (λ (ps : List (Pair A)). option_or (value_of name (map setting ps)) before) (sym (drop_is pairs k pair lt is)) ∙ so_far

pub last_value : {A : Type 0} (name : List ℕ) (pairs : List (Pair A)) (k : ℕ) (found whole : Option (List ℕ)) → length pairs ≤ k → option_or (value_of name (map setting (drop k pairs))) found ≡ whole → found ≡ whole
last_value {A} name pairs k found whole past so_far = ap (λ (ps : List (Pair A)). option_or (value_of name (map setting ps)) found) (sym (drop_all k pairs past)) ∙ so_far
