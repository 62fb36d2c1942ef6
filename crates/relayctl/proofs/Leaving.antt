-- From what is blank of a plan's texts to the faults that are left of it.
use Rattle.std.proofs.Common.{◌≡◌, ◌+◌, ◌<◌, ℕ, List, [], ◌∷◌, ◌++◌, length, get_or, take, sym, ap, subst, ◌∙◌}
use Rattle.std.proofs.lemmas.List.{get_or_default, map_more, map_push, take_all}
use Rattle.std.proofs.lemmas.List.Elements.{all_zip_more}
use Rattle.std.specs.declared.vec.Vec.{Vec}
use Rattle.plan_lines.specs.Plans.{texts}
use Rattle.relayctl.specs.Faults.{AreLeft, gone, kept, none, IsBlanked, IsByteOrBlank}

-- one byte more
pub byte_more : (text : List ℕ) (i : ℕ) (before : List ℕ) (byte : ℕ) (after : List ℕ) → i < length text → IsBlanked (take i text) before → IsByteOrBlank (get_or text i 0) byte → after ≡ before ++ byte ∷ []
    → IsBlanked (take (i + 1) text) after
byte_more text i before byte after less are is after_is =
    subst (λ (a : List ℕ). IsBlanked (take (i + 1) text) a) (sym after_is)
    (all_zip_more IsByteOrBlank text before i (get_or text i 0) byte less (get_or_default text i 0 (get_or text i 0) less) are is)

-- where there are no texts
pub none_left : {A : Type 0} (all : List (Vec ℕ A)) → all ≡ [] → AreLeft [] (texts all)
none_left {A} all is = subst (λ (vs : List (Vec ℕ A)). AreLeft [] (texts vs)) (sym is) none

-- one text more is left
pub one_kept : {A : Type 0} (before : List (List ℕ)) (text : List ℕ) (all : List (Vec ℕ A)) (one : Vec ℕ A) (after : List (Vec ℕ A)) → AreLeft before (texts all) → IsBlanked text one.items → after ≡ all ++ one ∷ []
    → AreLeft (before ++ text ∷ []) (texts after)
one_kept {A} before text all one after are is after_is =
    subst (λ (ts : List (List ℕ)). AreLeft (before ++ text ∷ []) ts) (sym (ap texts after_is ∙ map_push (λ (v : Vec ℕ A). v.items) all one)) (kept text one.items are is)

-- what is left of the texts up to this place, and of the one there
pub left_more : {A : Type 0} (confs : List (Vec ℕ A)) (place : ℕ) (conf : Vec ℕ A) (text : List ℕ) (after : List (List ℕ)) → place < length confs → conf ≡ get_or confs place conf → text ≡ conf.items
    → AreLeft (texts (take place confs) ++ text ∷ []) after → AreLeft (texts (take (place + 1) confs)) after
left_more {A} confs place conf text after less at text_is are =
    let whole : texts (take (place + 1) confs) ≡ texts (take place confs) ++ text ∷ [] =
    map_more (λ (v : Vec ℕ A). v.items) confs place conf less ∙ ap (λ (v : Vec ℕ A). texts (take place confs) ++ v.items ∷ []) (sym at) ∙ ap (λ (t : List ℕ). texts (take place confs) ++ t ∷ []) (sym text_is) in
    subst (λ (ts : List (List ℕ)). AreLeft ts after) (sym whole) are
