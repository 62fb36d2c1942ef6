-- Going through an element: its front, its children, what is missing.
use Rattle.std.proofs.Common.{◌≡◌, List, ◌++◌, map, refl, subst, Result, Option}
use Rattle.std.specs.Prelude.{codes}
use Rattle.conf_text.specs.declared.element.Element.{Element, out-Element}
use Rattle.conf_text.specs.Trees.{Heading, Setting, Tree, tree, trees}
use Rattle.conf_text.specs.Views.{tree_of}
use Rattle.conf_text.proofs.Elements.{tree_of_out}
use Rattle.relay_conf.specs.declared.section.Section.{Section}
use Rattle.relay_conf.specs.declared.section.Opening.{Opening}
use Rattle.relay_conf.specs.declared.fault.RelayError.{RelayError}
use Rattle.relay_conf.specs.declared.fault.RelayFaultKind.TheVariants as kinds
use Rattle.relay_conf.specs.Elements.{heading_of, settings_of, children_of, value_of}
use Rattle.relay_conf.specs.Sections.{profile_of}
use Rattle.relay_conf.specs.Findings.{Finding, AllPass, Refuses, Examines}
use Rattle.relay_conf.specs.Examined.{front_found, section_of, section_in, trees_found, found_if, tree_found}
use Rattle.relay_conf.proofs.Findings.{refuses_front, refuses_behind, examines_behind}

-- what is missing in a section
abbrev pub missing_found : Section → Heading → List Setting → List Tree → List Finding
missing_found section h settings children = found_if ((profile_of section).lacks settings children) kinds.Missing h.line

-- what is found at an element, by its parts
parts_found : (parent : Section) (t : Tree) (h : Heading) (s : List Setting) (kids : List Tree) → t ≡ tree h s (trees kids)
    → tree_found parent t ≡ front_found ((profile_of parent).sections (heading_of t).name) (heading_of t) (settings_of t) ++ (trees_found (section_in parent (heading_of t) (settings_of t)) (trees kids) ++ missing_found (section_in parent (heading_of t) (settings_of t)) (heading_of t) (settings_of t) (children_of t))
parts_found parent t h s kids e = rw e refl

found_is : {A : Type 0} (parent : Section) (e : Element A)
    → tree_found parent (tree_of e) ≡ front_found ((profile_of parent).sections (heading_of (tree_of e)).name) (heading_of (tree_of e)) (settings_of (tree_of e)) ++ (trees_found (section_in parent (heading_of (tree_of e)) (settings_of (tree_of e))) (trees (map tree_of (out-Element A e).children.items)) ++ missing_found (section_in parent (heading_of (tree_of e)) (settings_of (tree_of e))) (heading_of (tree_of e)) (settings_of (tree_of e)) (children_of (tree_of e)))
found_is {A} parent e = parts_found parent (tree_of e) _ _ (map tree_of (out-Element A e).children.items) (tree_of_out e)

-- an error in front of the children
pub refused_in_front : {A : Type 0} (parent : Section) (e : Element A) (o : Option Opening) (err : RelayError) → o ≡ (profile_of parent).sections (heading_of (tree_of e)).name
    → Refuses (front_found o (heading_of (tree_of e)) (settings_of (tree_of e))) err → Refuses (tree_found parent (tree_of e)) err
refused_in_front parent e o err is h = rw (found_is parent e, ← is) (refuses_front _ _ err h)

-- an error in the children
pub refused_within : {A : Type 0} (parent : Section) (e : Element A) (o : Option Opening) (section : Section) (kids : List (Element A)) (err : RelayError) → o ≡ (profile_of parent).sections (heading_of (tree_of e)).name
    → section ≡ section_of o (value_of (codes "@type") (settings_of (tree_of e))) → kids ≡ (out-Element A e).children.items
    → AllPass (front_found o (heading_of (tree_of e)) (settings_of (tree_of e))) → Refuses (trees_found section (trees (map tree_of kids))) err → Refuses (tree_found parent (tree_of e)) err
refused_within parent e o section kids err is is_section are front h =
    let inside = subst (λ (s : Section). Refuses (trees_found s (trees (map tree_of kids))) err) is_section h in
    rw (found_is parent e, ← is, ← are) (refuses_behind _ _ err front (refuses_front _ _ err inside))

-- what is missing comes last
pub examined_last : {A X : Type 0} (parent : Section) (e : Element A) (o : Option Opening) (section : Section) (kids : List (Element A)) (r : Result X RelayError) → o ≡ (profile_of parent).sections (heading_of (tree_of e)).name
    → section ≡ section_of o (value_of (codes "@type") (settings_of (tree_of e))) → kids ≡ (out-Element A e).children.items
    → AllPass (front_found o (heading_of (tree_of e)) (settings_of (tree_of e))) → AllPass (trees_found section (trees (map tree_of kids)))
    → Examines (missing_found section (heading_of (tree_of e)) (settings_of (tree_of e)) (children_of (tree_of e))) r → Examines (tree_found parent (tree_of e)) r
examined_last parent e o section kids r is is_section are front within h =
    let inside = subst (λ (s : Section). AllPass (trees_found s (trees (map tree_of kids)))) is_section within in
    let last = subst (λ (s : Section). Examines (missing_found s (heading_of (tree_of e)) (settings_of (tree_of e)) (children_of (tree_of e))) r) is_section h in
    rw (found_is parent e, ← is, ← are) (examines_behind _ _ r front (examines_behind _ _ r inside last))
