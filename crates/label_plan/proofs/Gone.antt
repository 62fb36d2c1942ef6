-- Names that are gone through one by one.
use Rattle.std.proofs.Common.{◌≡◌, ◌<◌, ◌≤◌, ◌+◌, ◌⊎◌, inl, inr, ℕ, false, List, length, slice_get, Option, Some, None, is_some, refl, sym, ap, subst, ◌∙◌, arith}
use Rattle.std.specs.Str.{bytes_eq}
use Rattle.std.proofs.lemmas.List.{length-map}
use Rattle.std.proofs.lemmas.Option.{same_Some, slice_get_within}
use Rattle.relay_net.specs.Network.{Network, all_enter, place_among}
use Rattle.relay_net.specs.declared.node.Node.{Node}
use Rattle.loss_rules.specs.Breaks.{Subject}
use Rattle.loss_rules.specs.Sites.{rule_at}
use Rattle.plan_lines.specs.Parts.{IsWhole}
use Rattle.plan_lines.specs.Plans.{network, scope_at, scope_name}
use Rattle.label_plan.specs.declared.error.DropError.{DropError}
use Rattle.label_plan.specs.declared.error.DropError.TheVariants as error
use Rattle.label_plan.specs.declared.name.DropName.{DropName}
use Rattle.label_plan.specs.Drops.{Means, IsNamed, AreLetGo, LetsGo, IsRefused}
use Rattle.label_plan.specs.OneByOne.{LetsOneGo, IsNamedBefore, LetsSoManyGo, IsRefusedAt}
use Rattle.label_plan.specs.Outlines.{relay_outline, outline}
use Rattle.label_plan.specs.Sinks.{EndsInSink}
use Rattle.label_plan.proofs.Dropping.{ends_here, ends_still, distinct_still}
use Rattle.label_plan.proofs.Outlining.{place_stays, scope_stays, is_there_still, enter_still}
use Rattle.label_plan.proofs.Putting.{SameSite, same_or_not, same_site_or_not, others_stay, outline_stays}

-- ---- what a name means

-- under one outline a name means one match
place_moves : {A : Type 0} (one two : Network A) (number : ℕ) → outline one.relays ≡ outline two.relays → place_among two.relays number ≡ place_among one.relays number
place_moves one two number same = place_stays one.relays two.relays number (sym same)

scope_moves : {A : Type 0} (one two : Network A) (word : List ℕ) (place : ℕ) → outline one.relays ≡ outline two.relays → scope_at two.relays place word ≡ scope_at one.relays place word
scope_moves one two word place same = scope_stays (λ name. bytes_eq name (scope_name word)) one.relays two.relays place (sym same)

there_moves : {A : Type 0} (one two : Network A) (place scope rule : ℕ) → outline one.relays ≡ outline two.relays → is_some (rule_at two place scope rule) ≡ is_some (rule_at one place scope rule)
there_moves one two place scope rule same = is_there_still one.relays two.relays place scope rule (sym same)

means_moves : {A : Type 0} (one two : Network A) (name : DropName) (place scope rule : ℕ) → outline one.relays ≡ outline two.relays → Means one name place scope rule → Means two name place scope rule
means_moves one two name place scope rule same m = record {
  relay_is = place_moves one two name.relay same ∙ m.relay_is;
  scope_is = scope_moves one two name.scope.now place same ∙ m.scope_is;
  rule_is = m.rule_is;
  there = there_moves one two place scope rule same ∙ m.there;
}

one_meaning : {A : Type 0} (net : Network A) (name : DropName) (place scope rule p s r : ℕ) → Means net name place scope rule → Means net name p s r → SameSite place scope rule p s r
one_meaning net name place scope rule p s r m n =
    let place_same : p ≡ place = same_Some p place (sym n.relay_is ∙ m.relay_is) in
    let scope_same : s ≡ scope = same_Some s scope (sym n.scope_is ∙ ap (λ q. scope_at net.relays q name.scope.now) place_same ∙ m.scope_is) in
    (place_same, scope_same, sym n.rule_is ∙ m.rule_is)

means_there : {A : Type 0} (net : Network A) (name : DropName) (place scope rule p s r : ℕ) → SameSite place scope rule p s r → Means net name place scope rule → Means net name p s r
means_there net name place scope rule p s r site m =
    subst (λ x. Means net name x s r) (sym site.0) (subst (λ x. Means net name place x r) (sym site.1) (subst (λ x. Means net name place scope x) (sym site.2) m))

-- ---- one more

module _ {A : Type 0} (before mid after : Subject A) (name : DropName) (h : LetsOneGo mid name after) (P Q : ℕ → ℕ → ℕ → Type 0) (so : AreLetGo before P mid)
    (to : (p s r : ℕ) → Q p s r → P p s r ⊎ SameSite h.at.place h.at.scope h.at.rule p s r) (kept : (p s r : ℕ) → P p s r → Q p s r)
    (site : (p s r : ℕ) → SameSite h.at.place h.at.scope h.at.rule p s r → Q p s r) where
  ends_there : (p s r : ℕ) → SameSite h.at.place h.at.scope h.at.rule p s r → EndsInSink after.net p s r
  ends_there p s r same =
      subst (λ x. EndsInSink after.net x s r) (sym same.0) (subst (λ x. EndsInSink after.net h.at.place x r) (sym same.1)
      (subst (λ x. EndsInSink after.net h.at.place h.at.scope x) (sym same.2) (ends_here mid after name h)))

  ends : (p s r : ℕ) → Q p s r → EndsInSink after.net p s r
  ends p s r is = elim (same_site_or_not h.at.place h.at.scope h.at.rule p s r) [
    | inl same ↦ ends_there p s r same
    | inr apart ↦ elim (to p s r is) [
      | inl was ↦ ends_still mid after name h p s r apart (so.end_in_sinks p s r was)
      | inr same ↦ absurd (apart same)
    ]
  ]

  pub one_more : AreLetGo before Q after
  one_more = record {
    outline_stays = outline_stays h.outputs h.at.place h.at.scope h.at.rule mid.net.relays after.net.relays h.puts ∙ so.outline_stays;
    clients_stay = ap (λ (s : Subject A). s.net.clients) h.rest ∙ so.clients_stay;
    rest_stays = h.rest ∙ (λ i. record (so.rest_stays i) { net = network after.net.relays mid.net.clients }) ∙ (λ i. record before { net = sym (ap (λ (s : Subject A). s.net) h.rest) i });
    others_stay = λ p s r none. others_stay h.outputs h.at.place h.at.scope h.at.rule mid.net.relays after.net.relays h.puts p s r (λ same. none (site p s r same)) ∙ so.others_stay p s r (λ was. none (kept p s r was));
    end_in_sinks = ends;
  }

-- the same, of other words for the matches
same_gone : {A : Type 0} (before after : Subject A) (P Q : ℕ → ℕ → ℕ → Type 0) → ((p s r : ℕ) → P p s r → Q p s r) → ((p s r : ℕ) → Q p s r → P p s r) → AreLetGo before P after → AreLetGo before Q after
same_gone before after P Q to back h = record {
  outline_stays = h.outline_stays;
  clients_stay = h.clients_stay;
  rest_stays = h.rest_stays;
  others_stay = λ p s r none. h.others_stay p s r (λ is. none (to p s r is));
  end_in_sinks = λ p s r is. h.end_in_sinks p s r (back p s r is);
}

-- ---- all names

pub none_gone : {A : Type 0} (plan : Subject A) (names : List DropName) → LetsSoManyGo plan names 0 plan
none_gone plan names = record {
  are_there = λ at name less. absurd (omega (arith, less));
  are_let_go = record {
    outline_stays = refl;
    clients_stay = refl;
    rest_stays = refl;
    others_stay = λ p s r none. refl;
    end_in_sinks = λ p s r (at, name, less, is, means). absurd (omega (arith, less));
  };
}

last_or_before : (at count : ℕ) → at < count + 1 → (at < count) ⊎ (at ≡ count)
last_or_before at count less = elim (same_or_not at count) [
  | inl same ↦ inr same
  | inr apart ↦ inl (omega (arith, less, apart))
]

pub more_gone : {A : Type 0} (before mid after : Subject A) (names : List DropName) (count : ℕ) (name : DropName) → slice_get names count ≡ Some name
    → LetsSoManyGo before names count mid → LetsOneGo mid name after → LetsSoManyGo before names (count + 1) after
more_gone {A} before mid after names count name is so h = record {
  are_there = λ at other less found. elim (last_or_before at count less) [
    | inl early ↦ so.are_there at other early found
    | inr last ↦ (h.at.place, h.at.scope, h.at.rule, subst (λ n. Means before.net n h.at.place h.at.scope h.at.rule) (same_name at other last found) meant)
  ];
  are_let_go = one_more before mid after name h (IsNamedBefore before.net names count) (IsNamedBefore before.net names (count + 1)) so.are_let_go to kept site;
}
  where
    same : outline mid.net.relays ≡ outline before.net.relays
    same = so.are_let_go.outline_stays

    meant : Means before.net name h.at.place h.at.scope h.at.rule
    meant = means_moves mid.net before.net name h.at.place h.at.scope h.at.rule same h.meant.means

    same_name : (at : ℕ) (other : DropName) → at ≡ count → slice_get names at ≡ Some other → name ≡ other
    same_name at other last found = same_Some name other (sym is ∙ ap (slice_get names) (sym last) ∙ found)

    to : (p s r : ℕ) → IsNamedBefore before.net names (count + 1) p s r → IsNamedBefore before.net names count p s r ⊎ SameSite h.at.place h.at.scope h.at.rule p s r
    to p s r (at, other, less, found, means) = elim (last_or_before at count less) [
      | inl early ↦ inl (at, other, early, found, means)
      | inr last ↦ inr (one_meaning before.net name h.at.place h.at.scope h.at.rule p s r meant (subst (λ n. Means before.net n p s r) (sym (same_name at other last found)) means))
    ]

    kept : (p s r : ℕ) → IsNamedBefore before.net names count p s r → IsNamedBefore before.net names (count + 1) p s r
    kept p s r (at, other, less, found, means) = (at, other, omega (arith, less), found, means)

    site : (p s r : ℕ) → SameSite h.at.place h.at.scope h.at.rule p s r → IsNamedBefore before.net names (count + 1) p s r
    site p s r there = (count, name, omega arith, is, means_there before.net name h.at.place h.at.scope h.at.rule p s r there meant)

pub all_gone : {A : Type 0} (before after : Subject A) (names : List DropName) (count : ℕ) → length names ≤ count → LetsSoManyGo before names count after → LetsGo before names after
all_gone before after names count long so = record {
  are_there = λ at name found. so.are_there at name (within at name found) found;
  are_let_go = same_gone before after (IsNamedBefore before.net names count) (IsNamed before.net names)
      (λ p s r (at, name, less, found, means). (at, name, found, means)) (λ p s r (at, name, found, means). (at, name, within at name found, found, means)) so.are_let_go;
}
  where
    within : (at : ℕ) (name : DropName) → slice_get names at ≡ Some name → at < count
    within at name found = let less = slice_get_within names at name found in omega (arith, less, long)

-- ---- the plan stays whole

same_count : {A : Type 0} (before after : List (Node A)) → outline after ≡ outline before → length after ≡ length before
same_count before after same = sym (length-map after relay_outline) ∙ ap length same ∙ length-map before relay_outline

pub whole_still : {A : Type 0} (mid after : Subject A) (name : DropName) → LetsOneGo mid name after → IsWhole mid → IsWhole after
whole_still {A} mid after name h w = record {
  enter = ap (all_enter after.net.relays) (ap (λ (s : Subject A). s.net.clients) h.rest) ∙ enter_still mid.net.relays after.net.relays mid.net.clients same ∙ w.enter;
  relay_lines = ap (λ (s : Subject A). length s.relay_lines) h.rest ∙ w.relay_lines ∙ sym (same_count mid.net.relays after.net.relays same);
  client_lines = ap (λ (s : Subject A). length s.client_lines) h.rest ∙ w.client_lines ∙ sym (ap (λ (s : Subject A). length s.net.clients) h.rest);
  distinct = distinct_still mid after name h w.distinct;
}
  where
    same : outline after.net.relays ≡ outline mid.net.relays
    same = outline_stays h.outputs h.at.place h.at.scope h.at.rule mid.net.relays after.net.relays h.puts

-- ---- a name that means no match

none_of : {X : Type 0} (o : Option X) → is_some o ≡ false → o ≡ None
none_of None e = refl
none_of (Some x) e = absurd (cc)

pub refused_before : {A : Type 0} (before mid : Network A) (names : List DropName) (name : DropName) (at : ℕ) (e : DropError) → outline mid.relays ≡ outline before.relays → slice_get names at ≡ Some name
    → IsRefusedAt mid name at e → IsRefused before names e
refused_before before mid names name at (error.NoRelay n) same found r = (name, ap (slice_get names) r.0 ∙ found, place_moves mid before name.relay same ∙ r.1)
refused_before before mid names name at (error.NoScope n) same found (is, (place, relay_is, none)) =
    (name, ap (slice_get names) is ∙ found, (place, place_moves mid before name.relay same ∙ relay_is, scope_moves mid before name.scope.now place same ∙ none))
refused_before before mid names name at (error.NoMatch n) same found (is, (place, scope, relay_is, scope_is, none)) = (
  name,
  ap (slice_get names) is ∙ found,
  (
    place,
    scope,
    place_moves mid before name.relay same ∙ relay_is,
    scope_moves mid before name.scope.now place same ∙ scope_is,
    none_of (rule_at before place scope name.index) (there_moves mid before place scope name.index same ∙ ap is_some none),
  ),
)
refused_before before mid names name at error.Memory same found r = tt
