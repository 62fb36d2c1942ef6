-- A plan that is said by more lines, of which the last are labels and reaches.
use Rattle.std.proofs.Common.{◌≡◌, ◌∙◌, ℕ, ◌+◌, Bool, true, false, List, [], ◌∷◌, ◌++◌, length, refl, sym, ap, subst, codes, arith}
use Rattle.std.specs.Prelude.{All, ◌||◌}
use Rattle.std.specs.Str.{bytes_eq}
use Rattle.std.proofs.lemmas.List.{append-nil, append_assoc, length-append}
use Rattle.std.proofs.lemmas.Slice.Eq.{bytes_eq-Decides}
use Rattle.std.proofs.lemmas.List.Elements.{All-head, All-tail}
use Rattle.loss_rules.specs.Breaks.{Subject}
use Rattle.plan_lines.specs.Forms.{LineForm, nothing, a_relay, a_client, a_label, a_reach, a_duty, no_form, form_of, line_form, label_form, reach_form}
use Rattle.plan_lines.specs.Plans.{Adds, Say, none, one_more}
use Rattle.relay_conf.specs.Examined.{words_of}
use Rattle.label_plan.specs.Labelling.{Extends}
use Rattle.label_plan.specs.Lines.{are_label_words, IsLabelLine}

-- each plan extends itself
pub extends_itself : {A : Type 0} (plan : Subject A) → Extends plan plan
extends_itself plan = record { net_is = refl; relay_lines_are = refl; client_lines_are = refl; duty_is = refl; labels = []; labels_are = sym (append-nil plan.labels); reaches = []; reaches_are = sym (append-nil plan.reaches) }

further : {X : Type 0} (xs ys zs us vs : List X) → ys ≡ xs ++ us → zs ≡ ys ++ vs → zs ≡ xs ++ (us ++ vs)
further xs ys zs us vs e f = f ∙ ap (λ front. front ++ vs) e ∙ append_assoc xs us vs

-- a plan that extends one that extends another extends that one
pub extends_further : {A : Type 0} (one two three : Subject A) → Extends one two → Extends two three → Extends one three
extends_further one two three e f = record {
  net_is = f.net_is ∙ e.net_is;
  relay_lines_are = f.relay_lines_are ∙ e.relay_lines_are;
  client_lines_are = f.client_lines_are ∙ e.client_lines_are;
  duty_is = f.duty_is ∙ e.duty_is;
  labels = e.labels ++ f.labels;
  labels_are = further one.labels two.labels three.labels e.labels f.labels e.labels_are f.labels_are;
  reaches = e.reaches ++ f.reaches;
  reaches_are = further one.reaches two.reaches three.reaches e.reaches f.reaches e.reaches_are f.reaches_are;
}

-- What a line is that is a label's, a reach's or empty.

-- the forms of such lines
abbrev AddsTags : LineForm → Type 0
AddsTags nothing = Unit {0}
AddsTags (a_relay number host folder conf) = ⊥
AddsTags (a_client number port patterns) = ⊥
AddsTags (a_label number scope patterns) = Unit {0}
AddsTags (a_reach number scope index patterns) = Unit {0}
AddsTags (a_duty asked) = ⊥
AddsTags no_form = Unit {0}

label_adds : (fields : List (List ℕ)) → AddsTags (label_form fields)
label_adds [] = tt
label_adds (a ∷ []) = tt
label_adds (a ∷ b ∷ []) = tt
label_adds (a ∷ b ∷ c ∷ more) = tt

reach_adds : (fields : List (List ℕ)) → AddsTags (reach_form fields)
reach_adds [] = tt
reach_adds (a ∷ []) = tt
reach_adds (a ∷ b ∷ []) = tt
reach_adds (a ∷ b ∷ c ∷ []) = tt
reach_adds (a ∷ b ∷ c ∷ d ∷ more) = tt

first_adds : (word : List ℕ) (fields : List (List ℕ)) (a b : Bool) → bytes_eq word (codes "label") ≡ a → bytes_eq word (codes "reach") ≡ b → (a || b) ≡ true → AddsTags (form_of (word ∷ fields))
first_adds word fields true b e f h = subst (λ w. AddsTags (form_of (w ∷ fields))) (sym ((bytes_eq-Decides word (codes "label")).0 e)) (label_adds fields)
first_adds word fields false true e f h = subst (λ w. AddsTags (form_of (w ∷ fields))) (sym ((bytes_eq-Decides word (codes "reach")).0 f)) (reach_adds fields)
first_adds word fields false false e f h = absurd (cc h)

words_add : (words : List (List ℕ)) → are_label_words words ≡ true → AddsTags (form_of words)
words_add [] h = tt
words_add (word ∷ fields) h = first_adds word fields (bytes_eq word (codes "label")) (bytes_eq word (codes "reach")) refl refl h

line_adds : (line : List ℕ) → IsLabelLine line → AddsTags (line_form line)
line_adds line h = rw h.readable (words_add (words_of line) h.words)

-- such a line extends the plan before it
form_extends : {A : Type 0} (confs : List (List ℕ)) (line : ℕ) (form : LineForm) (before after : Subject A) → AddsTags form → Adds confs line form before after → Extends before after
form_extends confs line nothing before after own adds = subst (Extends before) (sym adds) (extends_itself before)
form_extends confs line (a_relay number host folder conf) before after own adds = absurd own
form_extends confs line (a_client number port patterns) before after own adds = absurd own
form_extends {A} confs line (a_label number scope patterns) before after own adds = subst (Extends before) (sym adds.after_is)
    (record { net_is = refl; relay_lines_are = refl; client_lines_are = refl; duty_is = refl; labels = adds.label ∷ []; labels_are = refl; reaches = []; reaches_are = sym (append-nil before.reaches) })
form_extends {A} confs line (a_reach number scope index patterns) before after own adds = subst (Extends before) (sym adds.after_is)
    (record { net_is = refl; relay_lines_are = refl; client_lines_are = refl; duty_is = refl; labels = []; labels_are = sym (append-nil before.labels); reaches = adds.reach ∷ []; reaches_are = refl })
form_extends confs line (a_duty asked) before after own adds = absurd own
form_extends confs line no_form before after own adds = absurd adds

-- Lines that are taken off again.

none_longer : {X : Type 0} (xs : List X) (x : X) → [] ≡ xs ++ x ∷ [] → ⊥
none_longer xs x e = let n = length-append xs (x ∷ []) in let m = ap length e in absurd (omega (arith, n, m))

same_last : {X : Type 0} (xs ys : List X) (x y : X) → xs ++ x ∷ [] ≡ ys ++ y ∷ [] → (xs ≡ ys) × (x ≡ y)
same_last [] [] x y e = (refl, cc)
same_last {X} [] (b ∷ ys) x y e = absurd (none_longer ys y (cc))
same_last {X} (a ∷ xs) [] x y e = absurd (none_longer xs x (cc))
same_last {X} (a ∷ xs) (b ∷ ys) x y e =
    let rest : xs ++ x ∷ [] ≡ ys ++ y ∷ [] = cc in
    let head : a ≡ b = cc in
    let both = same_last xs ys x y rest in
    let tail = both.0 in (cc, both.1)

-- The first of the lines say a plan that this one extends.
pub record Peeled {A : Type 0} (confs lines : List (List ℕ)) (after : Subject A) : Type 0 where
  pub before : Subject A
  pub was : Say confs lines before
  pub extends : Extends before after

last_off : {A : Type 0} {confs all : List (List ℕ)} {after : Subject A} → Say confs all after → (front : List (List ℕ)) (line : List ℕ) → all ≡ front ++ line ∷ [] → IsLabelLine line → Peeled confs front after
last_off none front line e own = absurd (none_longer front line e)
last_off {A} {confs} (one_more {lines} {before} {after} last said adds) front line e own =
    let both = same_last lines front last line e in
    record {
      before = before;
      was = subst (λ ls. Say confs ls before) both.0 said;
      extends = form_extends confs (length lines + 1) (line_form last) before after (line_adds last (subst IsLabelLine (sym both.1) own)) adds;
    }

-- the lines behind these taken off
pub all_off : {A : Type 0} {confs : List (List ℕ)} {after : Subject A} (lines more : List (List ℕ)) → Say confs (lines ++ more) after → All IsLabelLine more → Peeled confs lines after
all_off {A} {confs} {after} lines [] said own = record { before = after; was = subst (λ ls. Say confs ls after) (append-nil lines) said; extends = extends_itself after }
all_off {A} {confs} {after} lines (line ∷ more) said own =
    let inner = all_off (lines ++ line ∷ []) more (subst (λ ls. Say confs ls after) (sym (append_assoc lines (line ∷ []) more)) said) (All-tail IsLabelLine line more own) in
    let outer = last_off inner.was lines line refl (All-head IsLabelLine line more own) in
    record { before = outer.before; was = outer.was; extends = extends_further outer.before inner.before after outer.extends inner.extends }
