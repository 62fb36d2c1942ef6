-- Stacks of open sections, as code holds them.
use Rattle.std.proofs.Common.{◌≡◌, ℕ, ◌<◌, Bool, true, false, List, [], ◌∷◌, ◌++◌, length, map, reverse, Result, Ok, refl, sym, ap, ◌∙◌, arith}
use Rattle.std.specs.Str.{bytes_eq}
use Rattle.std.specs.Prelude.{not, nat_lt}
use Rattle.std.proofs.lemmas.Bool.Decides.{nat_tests}
use Rattle.std.proofs.lemmas.List.{map-append, reverse-append, length-reverse, length-map, nil_from_length}
use Rattle.std.proofs.lemmas.Bool.{false≢true}
use Rattle.conf_text.specs.declared.fault.FaultKind.TheVariants as kinds
use Rattle.conf_text.specs.declared.fault.ConfFault.{ConfFault}
use Rattle.conf_text.specs.Trees.{Heading, Setting, Tree, tree, no_trees}
use Rattle.conf_text.specs.Grammar.{most_open}
use Rattle.conf_text.specs.Reading.{stack, open_one, faulty, with_element, closed, close_in, close_one, first_and, end_in, end_of, headed, Frame, frame}

-- what is pushed last is the innermost
pub outer_push : {X Y : Type 0} (f : X → Y) (xs : List X) (x : X) → reverse (map f (xs ++ (x ∷ []))) ≡ f x ∷ reverse (map f xs)
outer_push f xs x = ap reverse (map-append f xs (x ∷ [])) ∙ reverse-append (map f xs) (f x ∷ [])

pub outer_length : {X Y : Type 0} (f : X → Y) (xs : List X) → length (reverse (map f xs)) ≡ length xs
outer_length f xs = length-reverse (map f xs) ∙ length-map xs f

pub outer_none : {X Y : Type 0} (f : X → Y) (xs : List X) → length xs ≡ 0 → reverse (map f xs) ≡ []
outer_none f xs e = nil_from_length (reverse (map f xs)) (outer_length f xs ∙ e)

abbrev pub done : {A : Type 0} → A → Result A ConfFault
done x = Ok x

pub ok_is : {A : Type 0} (x y : A) → done x ≡ done y → x ≡ y
ok_is x y e = cc

-- a section that opens stands round those that are open
pub open_gives : {X : Type 0} (f : X → Frame) (line : ℕ) (name argument : List ℕ) (old next : X) (outer pushed : List X) → length outer < most_open → f next ≡ frame (headed name argument line) [] []
    → pushed ≡ outer ++ (old ∷ []) → open_one line name argument (stack (f old) (reverse (map f outer))) ≡ Ok (stack (f next) (reverse (map f pushed)))
unfolding open_one
open_gives f line name argument old next outer pushed few made all =
    let same = outer_length f outer in
    let room : nat_lt (length (reverse (map f outer))) most_open ≡ true = grind (arith, nat_tests) in
    rw room
    (ap (λ (g : Frame). done (stack g (f old ∷ reverse (map f outer)))) (sym made) ∙ ap (λ (fs : List Frame). done (stack (f next) fs)) (sym (ap (λ (xs : List _). reverse (map f xs)) all ∙ outer_push f outer old)))

-- a section that ends becomes an element of its parent
pub close_gives : (line : ℕ) (name : List ℕ) (innermost : Frame) (around : List Frame) (parent : Frame) (outer : List Frame) (t : Tree) (p f : Frame)
    → around ≡ parent ∷ outer → bytes_eq innermost.heading.name name ≡ true → t ≡ closed innermost → p ≡ parent → done (with_element p t) ≡ done f
    → close_one line name (stack innermost around) ≡ Ok (stack f outer)
unfolding close_one
close_gives line name innermost around parent outer t p f is same made kept added =
    let here : close_in line name innermost (parent ∷ outer) ≡ Ok (stack (with_element parent (closed innermost)) outer) = rw same refl in
    let whole : close_in line name innermost around ≡ close_in line name innermost (parent ∷ outer) = ap (λ (fs : List Frame). close_in line name innermost fs) is in
    whole ∙ here ∙ ap (λ (x : Tree). Ok (stack (with_element parent x) outer)) (sym made) ∙ ap (λ (q : Frame). Ok (stack (with_element q t) outer)) (sym kept) ∙ ap (λ (g : Frame). Ok (stack g outer)) (ok_is _ _ added)

-- at the end a section is open, or none is
end_some : (innermost : Frame) (outer : List Frame) → 0 < length outer → end_in innermost outer ≡ faulty kinds.OpenSection innermost.heading.line
end_some innermost [] lt = absurd (omega arith)
end_some innermost (parent ∷ outer) lt = refl

pub ends_open : {X : Type 0} (f : X → Frame) (innermost : Frame) (xs : List X) → 0 < length xs → end_of (stack innermost (reverse (map f xs))) ≡ faulty kinds.OpenSection innermost.heading.line
unfolding end_of
ends_open f innermost xs lt = end_some innermost (reverse (map f xs)) (omega (arith, outer_length f xs))

pub ends_whole : {X : Type 0} (f : X → Frame) (innermost : Frame) (xs : List X) → length xs ≡ 0 → end_of (stack innermost (reverse (map f xs))) ≡ Ok (first_and innermost.heading innermost.settings innermost.elements)
unfolding end_of
ends_whole f innermost xs e = ap (λ (fs : List Frame). end_in innermost fs) (outer_none f xs e)

pub first_some : {X : Type 0} (f : X → Setting) (heading : Heading) (xs : List X) (elements : List Tree) → 0 < length xs → first_and heading (map f xs) elements ≡ tree heading (map f xs) no_trees ∷ elements
first_some f heading [] elements lt = absurd (omega arith)
first_some f heading (x ∷ xs) elements lt = refl

pub same_text : (b e : Bool) → e ≡ not b → e ≡ false → b ≡ true
same_text true e h k = refl
same_text false e h k = absurd (false≢true (sym k ∙ h))
