-- Going over the configurations of a plan.
use Rattle.std.proofs.Common.{◌≡◌, ◌⊎◌, inl, inr, ◌+◌, ◌<◌, ◌≤◌, true, ℕ, List, [], ◌∷◌, ◌++◌, length, map, take, get_or, refl, sym, ap, subst, ◌∙◌, append-nil, arith}
use Rattle.std.specs.List.{AllZip, list_any}
use Rattle.std.proofs.lemmas.List.{length-map, map_more, map_push, take_all, take_more}
use Rattle.std.proofs.lemmas.Slice.Zip.{AllZip-long}
use Rattle.std.proofs.lemmas.List.Folds.{list_any_at}
use Rattle.std.specs.Borrow.{Bor}
use Rattle.std.specs.declared.vec.Vec.{Vec}
use Rattle.plan_lines.specs.Plans.{texts}
use Rattle.program_text.proofs.ListingSteps.{zip_push}
use Rattle.program_text.specs.declared.relay_text.ConfStop.{ConfStop}
use Rattle.conf_listing.specs.Answers.{IsAdapted}
use Rattle.conf_listing.specs.Confs.{IsAdaptedConf}
use Rattle.conf_listing.specs.Networks.{is_stopped, AddsListing, AreAdaptedTexts, AreListed, none, one_more, AreOutcomes, AreTextsOf, IsTextIn}
use Rattle.conf_listing.specs.declared.outcome.AdaptedConf.{AdaptedConf}
use Rattle.conf_listing.specs.declared.outcome.AdaptedConf.TheVariants as outcome
use Rattle.conf_listing.specs.declared.outcome.ConfText.{ConfText}

-- what becomes of one configuration more
pub outcomes_more : {A : Type 0} (accepted : List (List ℕ)) (confs : List (Vec ℕ A)) (i : ℕ) (conf : Vec ℕ A) (text : List ℕ) (before after : List (AdaptedConf A)) (found : AdaptedConf A)
    → i < length confs → conf ≡ get_or confs i conf → text ≡ conf.items → AreOutcomes A (texts (take i confs)) accepted before → IsAdaptedConf A text accepted found → after ≡ before ++ found ∷ []
    → AreOutcomes A (texts (take (i + 1) confs)) accepted after
outcomes_more {A} accepted confs i conf text before after found less at text_is are is after_is =
    let whole : texts (take (i + 1) confs) ≡ texts (take i confs) ++ text ∷ [] =
    map_more (λ (v : Vec ℕ A). v.items) confs i conf less ∙ ap (λ (v : Vec ℕ A). texts (take i confs) ++ v.items ∷ []) (sym at) ∙ ap (λ (t : List ℕ). texts (take i confs) ++ t ∷ []) (sym text_is) in
    subst (λ (o : List (AdaptedConf A)). AreOutcomes A (texts (take (i + 1) confs)) accepted o) (sym after_is)
    (subst (λ (ts : List (List ℕ)). AreOutcomes A ts accepted (before ++ found ∷ [])) (sym whole)
    (zip_push (λ (t : List ℕ) (o : AdaptedConf A). IsAdaptedConf A t accepted o) (texts (take i confs)) before text found are is))

-- the text of one more
pub texts_more : {A : Type 0} (outcomes : List (AdaptedConf A)) (i : ℕ) (found : AdaptedConf A) (before after : List (Vec ℕ A)) (text : Vec ℕ A)
    → i < length outcomes → found ≡ get_or outcomes i found → AreTextsOf (take i outcomes) (texts before) → IsTextIn found text.items → after ≡ before ++ text ∷ []
    → AreTextsOf (take (i + 1) outcomes) (texts after)
texts_more {A} outcomes i found before after text less at are is after_is =
    let whole : take (i + 1) outcomes ≡ take i outcomes ++ found ∷ [] = take_more outcomes i found less ∙ ap (λ (o : AdaptedConf A). take i outcomes ++ o ∷ []) (sym at) in
    let all : texts after ≡ texts before ++ text.items ∷ [] = ap texts after_is ∙ map_push (λ (v : Vec ℕ A). v.items) before text in
    subst (λ (ts : List (List ℕ)). AreTextsOf (take (i + 1) outcomes) ts) (sym all)
    (subst (λ (os : List (AdaptedConf A)). AreTextsOf os (texts before ++ text.items ∷ [])) (sym whole)
    (zip_push IsTextIn (take i outcomes) (texts before) found text.items are is))

-- one that isn't accepted, or has a fault, has no text
pub has_no_text : {A : Type 0} (found : AdaptedConf A) → ((text : ConfText A) × (found ≡ outcome.Undecided text)) ⊎ ((stopped : ConfStop) × (found ≡ outcome.Faulty stopped))
    → is_stopped found ≡ true
has_no_text found (inl is) = ap is_stopped is.1
has_no_text found (inr is) = ap is_stopped is.1

-- where one has no text
pub stopped_at : {A : Type 0} (outcomes : List (AdaptedConf A)) (i : ℕ) (found : AdaptedConf A) → i < length outcomes → found ≡ get_or outcomes i found → is_stopped found ≡ true
    → list_any is_stopped outcomes ≡ true
stopped_at {A} outcomes i found less at is = list_any_at is_stopped outcomes i found less (subst (λ (o : AdaptedConf A). is_stopped o ≡ true) at is)

-- what is said of one more
pub listed_more : {A : Type 0} (names : List (Bor (List ℕ))) (outcomes : List (AdaptedConf A)) (i : ℕ) (name d : Bor (List ℕ)) (found : AdaptedConf A) (before after : List ℕ)
    → i < length names → i < length outcomes → name ≡ get_or names i d → found ≡ get_or outcomes i found → AreListed (map (λ n. n.now) (take i names)) (take i outcomes) before → AddsListing name.now found before after
    → AreListed (map (λ n. n.now) (take (i + 1) names)) (take (i + 1) outcomes) after
listed_more {A} names outcomes i name d found before after less_names less at_name at are adds =
    let named : map (λ (n : Bor (List ℕ)). n.now) (take (i + 1) names) ≡ map (λ (n : Bor (List ℕ)). n.now) (take i names) ++ name.now ∷ [] =
    map_more (λ (n : Bor (List ℕ)). n.now) names i d less_names ∙ ap (λ (n : Bor (List ℕ)). map (λ (m : Bor (List ℕ)). m.now) (take i names) ++ n.now ∷ []) (sym at_name) in
    let whole : take (i + 1) outcomes ≡ take i outcomes ++ found ∷ [] = take_more outcomes i found less ∙ ap (λ (o : AdaptedConf A). take i outcomes ++ o ∷ []) (sym at) in
    subst (λ (ns : List (List ℕ)). AreListed ns (take (i + 1) outcomes) after) (sym named)
    (subst (λ (os : List (AdaptedConf A)). AreListed (map (λ (n : Bor (List ℕ)). n.now) (take i names) ++ name.now ∷ []) os after) (sym whole)
    (one_more name.now found are adds))

-- from what becomes of a configuration, and its text, to what stands for it
adapted_of : {A : Type 0} (accepted : List (List ℕ)) (conf : List ℕ) (found : AdaptedConf A) (text : List ℕ) → IsAdaptedConf A conf accepted found → IsTextIn found text → IsAdapted A conf accepted text
adapted_of {A} accepted conf (outcome.Text found) text is text_is = subst (λ (t : List ℕ). IsAdapted A conf accepted t) (sym text_is) is
adapted_of {A} accepted conf (outcome.Undecided found) text is text_is = absurd text_is
adapted_of {A} accepted conf (outcome.Faulty stopped) text is text_is = absurd text_is

-- the same of all
pub all_adapted : {A : Type 0} (accepted : List (List ℕ)) (confs : List (List ℕ)) (outcomes : List (AdaptedConf A)) (found : List (List ℕ)) → AreOutcomes A confs accepted outcomes → AreTextsOf outcomes found
    → AreAdaptedTexts A confs accepted found
all_adapted accepted [] [] [] are texts_are = tt
all_adapted accepted [] [] (t ∷ ts) are texts_are = absurd texts_are
all_adapted accepted [] (o ∷ os) ts are texts_are = absurd are
all_adapted accepted (c ∷ cs) [] ts are texts_are = absurd are
all_adapted accepted (c ∷ cs) (o ∷ os) [] are texts_are = absurd texts_are
all_adapted accepted (c ∷ cs) (o ∷ os) (t ∷ ts) are texts_are = (adapted_of accepted c o t are.0 texts_are.0, all_adapted accepted cs os ts are.1 texts_are.1)

-- there are as many outcomes as configurations
pub as_many : {A : Type 0} (accepted : List (List ℕ)) (confs : List (Vec ℕ A)) (outcomes : List (AdaptedConf A)) → AreOutcomes A (texts confs) accepted outcomes → length outcomes ≡ length confs
as_many {A} accepted confs outcomes are =
    AllZip-long (λ (t : List ℕ) (o : AdaptedConf A). IsAdaptedConf A t accepted o) (texts confs) outcomes are ∙ length-map confs (λ (v : Vec ℕ A). v.items)

-- the text of one that has a text
pub text_in : {A : Type 0} (found : AdaptedConf A) (conf : ConfText A) (text : List ℕ) → found ≡ outcome.Text conf → text ≡ conf.text.items → IsTextIn found text
text_in {A} found conf text is text_is = subst (λ (o : AdaptedConf A). IsTextIn o text) (sym is) text_is

-- nothing is said of one that has a text
pub lists_text : {A : Type 0} (name : List ℕ) (found : AdaptedConf A) (conf : ConfText A) (lines : List ℕ) → found ≡ outcome.Text conf → AddsListing name found lines lines
lists_text {A} name found conf lines is = subst (λ (o : AdaptedConf A). AddsListing name o lines lines) (sym is) ([], refl, sym (append-nil lines))

-- nothing is said of none
pub listed_none : {A : Type 0} (names : List (Bor (List ℕ))) (outcomes : List (AdaptedConf A)) (lines : List ℕ) → lines ≡ [] → AreListed (map (λ n. n.now) (take 0 names)) (take 0 outcomes) lines
listed_none {A} names outcomes lines is = subst (λ (l : List ℕ). AreListed {A = A} [] [] l) (sym is) none

-- all were gone over
pub listed_all : {A : Type 0} (names : List (Bor (List ℕ))) (outcomes : List (AdaptedConf A)) (i : ℕ) (lines : List ℕ) → length names ≡ length outcomes → length outcomes ≤ i
    → AreListed (map (λ n. n.now) (take i names)) (take i outcomes) lines → AreListed (map (λ n. n.now) names) outcomes lines
listed_all {A} names outcomes i lines same all are =
    let named : length names ≤ i = omega arith in
    subst (λ (os : List (AdaptedConf A)). AreListed (map (λ (n : Bor (List ℕ)). n.now) names) os lines) (take_all i outcomes all)
    (subst (λ (ns : List (Bor (List ℕ))). AreListed (map (λ (n : Bor (List ℕ)). n.now) ns) (take i outcomes) lines) (take_all i names named) are)
