-- One more match is let go.
use Rattle.std.proofs.Common.{◌≡◌, inl, inr, ℕ, zero, suc, [], ◌∷◌, slice_get, option_map, Some, refl, sym, ap, subst, ◌∙◌}
use Rattle.std.specs.Option.{option_and_then}
use Rattle.std.proofs.lemmas.Option.{same_Some}
use Rattle.relay_conf.specs.Buffers.{buffer_number, output_in_relay}
use Rattle.relay_conf.specs.declared.output.Output.{Output}
use Rattle.relay_conf.specs.declared.relay.MatchRule.{MatchRule}
use Rattle.relay_conf.specs.declared.relay.Relay.{Relay}
use Rattle.relay_net.specs.Network.{Network, relay_at}
use Rattle.loss_rules.specs.Breaks.{Subject}
use Rattle.loss_rules.specs.Rules.{SharePath, PathsAreDistinct}
use Rattle.loss_rules.specs.Sites.{rule_at, output_in_rule, BuffersAreDistinct}
use Rattle.label_plan.specs.declared.name.DropName.{DropName}
use Rattle.label_plan.specs.OneByOne.{LetsOneGo}
use Rattle.label_plan.specs.Sinks.{Clash, IsKeepingSink, IsOwn, EndsInSink}
use Rattle.label_plan.proofs.Putting.{SameSite, same_site_or_not, match_was, match_is, put_is, others_stay}

-- ---- outputs that clash

pub turned : {A : Type 0} (one two : Output A) → Clash one two → Clash two one
turned one two (inl (buffer, e, f)) = inl (buffer, f, e)
turned one two (inr (path, inl (e, f))) = inr (path, inl (f, e))
turned one two (inr (path, inr (e, f))) = inr (path, inr (f, e))

-- ---- the only one of a list

pub only_one : {X : Type 0} (x y : X) (i : ℕ) → slice_get (x ∷ []) i ≡ Some y → (i ≡ 0) × (x ≡ y)
only_one x y zero at = (refl, same_Some x y at)
only_one x y (suc i) at = absurd (cc)

-- the outputs of a match that is there
outputs_of_match : {A : Type 0} (net : Network A) (place scope rule output : ℕ) (found : MatchRule A) → rule_at net place scope rule ≡ Some found → output_in_rule net place scope rule output ≡ slice_get found.outputs.items output
outputs_of_match net place scope rule output found is = ap (option_and_then (λ m. slice_get m.outputs.items output)) is

-- the outputs of a relay that is there
outputs_of_relay : {A : Type 0} (net : Network A) (place scope rule output : ℕ) (relay : Relay A) → relay_at net place ≡ Some relay → output_in_rule net place scope rule output ≡ output_in_relay relay scope rule output
outputs_of_relay net place scope rule output relay is =
    ap (λ r. option_and_then (λ m. slice_get m.outputs.items output) (option_and_then (λ s. slice_get s.matches.items rule) (option_and_then (λ r. slice_get r.scopes.items scope) r))) is

-- ---- one more

module _ {A : Type 0} (mid after : Subject A) (name : DropName) (h : LetsOneGo mid name after) where
  abbrev IsSite : ℕ → ℕ → ℕ → Type 0
  IsSite = SameSite h.at.place h.at.scope h.at.rule

  abbrev rule_is : MatchRule A
  rule_is = h.puts.changes.relay.scopes.changes.matches.is

  is_there : rule_at after.net h.at.place h.at.scope h.at.rule ≡ Some rule_is
  is_there = match_is h.outputs h.at.place h.at.scope h.at.rule mid.net.relays after.net.relays h.puts

  outputs_are : rule_is.outputs.items ≡ h.own.sink ∷ []
  outputs_are = (put_is h.outputs h.at.place h.at.scope h.at.rule mid.net.relays after.net.relays h.puts).outputs_are ∙ h.own.outputs_are

  elsewhere : (p s r : ℕ) → ¬ IsSite p s r → rule_at after.net p s r ≡ rule_at mid.net p s r
  elsewhere p s r apart = others_stay h.outputs h.at.place h.at.scope h.at.rule mid.net.relays after.net.relays h.puts p s r apart

  output_elsewhere : (p s r o : ℕ) → ¬ IsSite p s r → output_in_rule after.net p s r o ≡ output_in_rule mid.net p s r o
  output_elsewhere p s r o apart = ap (option_and_then (λ m. slice_get m.outputs.items o)) (elsewhere p s r apart)

  -- the one output there
  one_there : (p s r o : ℕ) (found : Output A) → IsSite p s r → output_in_rule after.net p s r o ≡ Some found → (o ≡ 0) × (h.own.sink ≡ found)
  one_there p s r o found site there =
      let here : output_in_rule after.net h.at.place h.at.scope h.at.rule o ≡ Some found = (λ i. output_in_rule after.net (sym site.0 i) (sym site.1 i) (sym site.2 i) o) ∙ there in
      only_one h.own.sink found o (ap (λ l. slice_get l o) (sym outputs_are) ∙ sym (outputs_of_match after.net h.at.place h.at.scope h.at.rule o rule_is is_there) ∙ here)

  -- it clashes with no output of the relay as it was
  no_clash : (s r o : ℕ) (other : Output A) → output_in_rule mid.net h.at.place s r o ≡ Some other → ¬ Clash other h.own.sink
  no_clash s r o other there = h.own.free s r o other (sym (outputs_of_relay mid.net h.at.place s r o h.relay h.relay_is) ∙ there)

  line_is : h.at.line ≡ rule_is.line
  line_is =
      let was = h.puts.changes.relay.scopes.changes.matches.was in
      let was_there = match_was h.outputs h.at.place h.at.scope h.at.rule mid.net.relays after.net.relays h.puts in
      let line : Some was.line ≡ Some h.at.line = sym (ap (option_map (λ (m : MatchRule A). m.line)) was_there) ∙ h.meant.line_is in
      sym (same_Some was.line h.at.line line) ∙ sym (put_is h.outputs h.at.place h.at.scope h.at.rule mid.net.relays after.net.relays h.puts).line_is

  -- what is put is a sink of its own
  pub ends_here : EndsInSink after.net h.at.place h.at.scope h.at.rule
  ends_here = record {
    found = rule_is;
    is_found = is_there;
    sink = h.own.sink;
    outputs_are = outputs_are;
    keeps = subst (λ line. IsKeepingSink line h.own.sink) line_is h.own.keeps;
    own = own;
  }
    where
      own : IsOwn after.net h.at.place h.at.scope h.at.rule 0 h.own.sink
      own s r o other there clash = elim (same_site_or_not h.at.place h.at.scope h.at.rule h.at.place s r) [
        | inl site ↦ (site.1, site.2, (one_there h.at.place s r o other site there).0)
        | inr apart ↦ absurd (no_clash s r o other (sym (output_elsewhere h.at.place s r o apart) ∙ there) clash)
      ]

  -- a sink that was put elsewhere stays one
  pub ends_still : (p s r : ℕ) → ¬ IsSite p s r → EndsInSink mid.net p s r → EndsInSink after.net p s r
  ends_still p s r apart e = record {
    found = e.found;
    is_found = elsewhere p s r apart ∙ e.is_found;
    sink = e.sink;
    outputs_are = e.outputs_are;
    keeps = e.keeps;
    own = own;
  }
    where
      sink_there : output_in_rule mid.net p s r 0 ≡ Some e.sink
      sink_there = outputs_of_match mid.net p s r 0 e.found e.is_found ∙ ap (λ l. slice_get l 0) e.outputs_are

      own : IsOwn after.net p s r 0 e.sink
      own t q o other there clash = elim (same_site_or_not h.at.place h.at.scope h.at.rule p t q) [
        | inl site ↦ absurd (no_clash s r 0 e.sink (ap (λ place. output_in_rule mid.net place s r 0) (sym site.0) ∙ sink_there)
            (turned h.own.sink e.sink (subst (λ x. Clash x e.sink) (sym (one_there p t q o other site there).1) clash)))
        | inr other_site ↦ e.own t q o other (sym (output_elsewhere p t q o other_site) ∙ there) clash
      ]

  -- buffers stay distinct
  pub distinct_still : BuffersAreDistinct mid.net → BuffersAreDistinct after.net
  distinct_still distinct place s r o t q u buffer found other first second e f = elim (same_site_or_not h.at.place h.at.scope h.at.rule place s r) [
    | inl site ↦ elim (same_site_or_not h.at.place h.at.scope h.at.rule place t q) [
      | inl again ↦ (again.1 ∙ sym site.1, again.2 ∙ sym site.2, (one_there place t q u other again second).0 ∙ sym (one_there place s r o found site first).0)
      | inr apart ↦ absurd (clashing place t q u s r o other found apart site second first buffer f e)
    ]
    | inr apart ↦ elim (same_site_or_not h.at.place h.at.scope h.at.rule place t q) [
      | inl site ↦ absurd (clashing place s r o t q u found other apart site first second buffer e f)
      | inr other_site ↦ both place s r o t q u found other apart other_site first second buffer e f
    ]
  ]
    where
      clashing : (place s r o t q u : ℕ) (found other : Output A) → ¬ IsSite place s r → IsSite place t q → output_in_rule after.net place s r o ≡ Some found → output_in_rule after.net place t q u ≡ Some other
          → (buffer : ℕ) → buffer_number found ≡ Some buffer → buffer_number other ≡ Some buffer → ⊥
      clashing place s r o t q u found other apart site first second buffer e f =
          no_clash s r o found (ap (λ p. output_in_rule mid.net p s r o) (sym site.0) ∙ sym (output_elsewhere place s r o apart) ∙ first)
          (inl (buffer, e, ap buffer_number (one_there place t q u other site second).1 ∙ f))

      both : (place s r o t q u : ℕ) (found other : Output A) → ¬ IsSite place s r → ¬ IsSite place t q → output_in_rule after.net place s r o ≡ Some found → output_in_rule after.net place t q u ≡ Some other
          → (buffer : ℕ) → buffer_number found ≡ Some buffer → buffer_number other ≡ Some buffer → (t ≡ s) × (q ≡ r) × (u ≡ o)
      both place s r o t q u found other apart other_site first second buffer e f =
          distinct place s r o t q u buffer found other (sym (output_elsewhere place s r o apart) ∙ first) (sym (output_elsewhere place t q u other_site) ∙ second) e f

  -- paths stay distinct
  pub paths_still : PathsAreDistinct mid.net → PathsAreDistinct after.net
  paths_still distinct place s r o found first t q u other second share = elim (same_site_or_not h.at.place h.at.scope h.at.rule place s r) [
    | inl site ↦ elim (same_site_or_not h.at.place h.at.scope h.at.rule place t q) [
      | inl again ↦ (again.1 ∙ sym site.1, again.2 ∙ sym site.2, (one_there place t q u other again second).0 ∙ sym (one_there place s r o found site first).0)
      | inr apart ↦ absurd (sharing place t q u s r o other found apart site second first share)
    ]
    | inr apart ↦ elim (same_site_or_not h.at.place h.at.scope h.at.rule place t q) [
      | inl site ↦ absurd (sharing place s r o t q u found other apart site first second (turned_path other found share))
      | inr other_site ↦ distinct place s r o found (sym (output_elsewhere place s r o apart) ∙ first) t q u other (sym (output_elsewhere place t q u other_site) ∙ second) share
    ]
  ]
    where
      turned_path : (one two : Output A) → SharePath one two → SharePath two one
      turned_path one two (path, inl (e, f)) = (path, inl (f, e))
      turned_path one two (path, inr (e, f)) = (path, inr (f, e))

      sharing : (place s r o t q u : ℕ) (found other : Output A) → ¬ IsSite place s r → IsSite place t q → output_in_rule after.net place s r o ≡ Some found → output_in_rule after.net place t q u ≡ Some other
          → SharePath found other → ⊥
      sharing place s r o t q u found other apart site first second share =
          no_clash s r o found (ap (λ p. output_in_rule mid.net p s r o) (sym site.0) ∙ sym (output_elsewhere place s r o apart) ∙ first)
          (inr (subst (SharePath found) (sym (one_there place t q u other site second).1) share))
