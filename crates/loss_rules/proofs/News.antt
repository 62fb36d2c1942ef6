-- What is new among relays and sources.
use Rattle.std.proofs.Common.{◌≡◌, ℕ, ◌+◌, ◌<◌, ◌≤◌, List, [], ◌∷◌, Some, slice_get, get_or, length, refl, sym, ap, subst, ◌∙◌, arith, ◌⊎◌, inl, inr, string_bytes, ◌↔◌, IsTrue, true, false}
use Rattle.std.specs.Option.{option_and_then}
use Rattle.std.proofs.lemmas.Bool.{cases_lt}
use Rattle.std.proofs.lemmas.Option.{slice_get_within, slice_get_read, get_or_from_slice_get, same_Some, option_and_then_some}
use Rattle.relay_conf.specs.declared.relay.Source.{Source}
use Rattle.relay_net.specs.Network.{Network}
use Rattle.relay_net.specs.declared.node.Node.{Node}
use Rattle.loss_rules.specs.Addresses.{HasAddress}
use Rattle.loss_rules.specs.Breaks.{AreNewBefore, BreaksAtSource}
use Rattle.loss_rules.specs.Everywhere.{AreLines, IsOwnPlace}
use Rattle.loss_rules.specs.Lines.{Adds, HoldsBefore, KeptInList, BrokenInList}
use Rattle.loss_rules.specs.Rules.{RelayIsNew, source_in, SourceIsNew, AddressesAreDistinct}
use Rattle.loss_rules.specs.declared.answer.Place.{Place}
use Rattle.loss_rules.specs.declared.answer.Place.TheVariants as variant
use Rattle.loss_rules.specs.declared.label.RelayLine.{RelayLine}
use Rattle.loss_rules.proofs.Lines.{KeptBelow, none_broken, same_adds}
use Rattle.loss_rules.proofs.Seeks.{not_true}

-- what holds of the elements at two places holds of any that stand there
pub of_pair : {X : Type 0} (xs : List X) (i j : ℕ) (a b : X) (P : X → X → Type 0) → slice_get xs i ≡ Some a → slice_get xs j ≡ Some b → P a b
    → (one two : X) → slice_get xs i ≡ Some one → slice_get xs j ≡ Some two → P one two
of_pair {X} xs i j a b P a_is b_is p one two one_is two_is =
    let Q : X → Type 0 = λ x. P x b in
    subst (P one) (same_Some b two (sym b_is ∙ two_is)) (subst Q (same_Some a one (sym a_is ∙ one_is)) p)

-- What a slice of the list gives at a place within it.

pub before_too : (a b n : ℕ) → a < b → b < n → a < n
before_too a b n less h = omega arith

module _ {X : Type 0} (xs ys : List X) (same : ys ≡ xs) (place : ℕ) (within : place < length xs) where
  pub shown_within : place < length ys
  shown_within = subst (λ (l : List X). place < length l) (sym same) within

  pub read_there : (x : X) → x ≡ get_or ys place x → slice_get xs place ≡ Some x
  read_there x is = subst (λ (l : List X). slice_get l place ≡ Some x) same (slice_get_read ys _ place x refl shown_within is)

-- Searches before a place.

pub found_before : {X : Type 0} (P : X → Type 0) (xs : List X) (n place : ℕ) (x : X) → place < n → slice_get xs place ≡ Some x → P x → IsTrue true ↔ HoldsBefore P xs n
found_before P xs n place x less is p = (λ _. (place, x, less, is, p), λ _. refl)

pub none_before : {X : Type 0} (P : X → Type 0) (xs : List X) (n : ℕ) → KeptBelow (λ place x. ¬ P x) xs n → IsTrue false ↔ HoldsBefore P xs n
none_before P xs n none = (λ e. absurd (not_true e), λ h. absurd (none h.0 h.1 h.2 h.3 h.4))

module _ {A : Type 0} (net : Network A) where
  -- the source of a relay, by the relay
  pub source_of : (place number : ℕ) (node : Node A) (source : Source A) → slice_get net.relays place ≡ Some node → source_in net place number ≡ Some source → slice_get node.relay.sources.items number ≡ Some source
  source_of place number node source is h = ap (option_and_then (λ n. slice_get n.relay.sources.items number)) (sym is) ∙ h

  pub source_there : (place number : ℕ) (node : Node A) (source : Source A) → slice_get net.relays place ≡ Some node → slice_get node.relay.sources.items number ≡ Some source → source_in net place number ≡ Some source
  source_there place number node source is h = ap (option_and_then (λ n. slice_get n.relay.sources.items number)) is ∙ h

  pub place_within : (place number : ℕ) (source : Source A) → source_in net place number ≡ Some source → place < length net.relays
  place_within place number source h = option_and_then_some (λ (n : Node A). slice_get n.relay.sources.items number) (slice_get net.relays place) source h (λ node is at. slice_get_within net.relays place node is)

  module _ (place number : ℕ) (node : Node A) (source : Source A) (node_is : slice_get net.relays place ≡ Some node) (source_is : slice_get node.relay.sources.items number ≡ Some source) where
    abbrev Taken : Type 0
    Taken = HoldsBefore (HasAddress (string_bytes node.host) source.port) net.relays place

    abbrev PortTaken : Type 0
    PortTaken = HoldsBefore (λ (s : Source A). s.port ≡ source.port) node.relay.sources.items number

    pub not_new : Taken → ¬ SourceIsNew net place number
    not_new (p, before, less, is, (host, (s, one, within, got, port))) new =
        new p s (inl less) one source before node
        (source_there p s before one is (slice_get_read before.relay.sources.items _ s one refl within (sym got)))
        (source_there place number node source node_is source_is) is node_is port host

    pub port_not_new : PortTaken → ¬ SourceIsNew net place number
    port_not_new (s, one, less, is, port) new =
        new place s (inr (refl, less)) one source node node (source_there place s node one node_is is) (source_there place number node source node_is source_is) node_is node_is port refl

    pub is_new : ¬ Taken → ¬ PortTaken → SourceIsNew net place number
    is_new free port_free p s before one two first second one_is two_is first_is second_is ports hosts =
        let same : node ≡ second = same_Some node second (sym node_is ∙ second_is) in
        let two_same : source ≡ two = same_Some source two (sym (source_there place number node source node_is source_is) ∙ two_is) in
        let port : one.port ≡ source.port = ports ∙ ap (λ (x : Source A). x.port) (sym two_same) in
        by before same port
      where
        by : ((p < place) ⊎ ((p ≡ place) × (s < number))) → node ≡ second → one.port ≡ source.port → ⊥
        by (inl less) same port =
            let got : slice_get first.relay.sources.items s ≡ Some one = source_of p s first one first_is one_is in
            free (
              p,
              first,
              less,
              first_is,
              (
                hosts ∙ ap (λ (x : Node A). string_bytes x.host) (sym same),
                (s, one, slice_get_within first.relay.sources.items s one got, get_or_from_slice_get first.relay.sources.items s one one got, port),
              ),
            )
        by (inr (e, less)) same port =
            port_free (s, one, less, source_of place s node one node_is (ap (λ q. source_in net q s) (sym e) ∙ one_is), port)

  -- the sources of a relay that aren't new
  pub source_adds : (place : ℕ) (node : Node A) (xs ys : List ℕ) → slice_get net.relays place ≡ Some node
      → Adds (KeptInList (λ number source. SourceIsNew net place number) node.relay.sources.items)
      (BrokenInList (λ number source line. (source.line ≡ line) × ¬ SourceIsNew net place number) node.relay.sources.items) xs ys
      → Adds ((source : ℕ) → SourceIsNew net place source) (BreaksAtSource net place) xs ys
  source_adds place node xs ys is h = same_adds (KeptInList (λ number source. SourceIsNew net place number) node.relay.sources.items) ((source : ℕ) → SourceIsNew net place source)
      (BrokenInList (λ number source line. (source.line ≡ line) × ¬ SourceIsNew net place number) node.relay.sources.items) (BreaksAtSource net place) xs ys
      (λ kept number p s before one two a b one_is two_is. kept number two (source_of place number node two is two_is) p s before one two a b one_is two_is)
      (λ line b. (b.0, b.1, source_there place b.0 node b.1 is b.2, b.3.0, b.3.1))
      (λ line b. (b.0, b.1, source_of place b.0 node b.1 is b.2, (b.3, b.4))) h

  -- sources that nowhere aren't new are new
  pub sources_new : (at : ℕ) → AreLines (BreaksAtSource net at) [] → (source : ℕ) → SourceIsNew net at source
  sources_new at none source p s before one two a b one_is two_is a_is b_is port host =
      none_broken (BreaksAtSource net at) none two.line (source, two, two_is, refl, λ new. new p s before one two a b one_is two_is a_is b_is port host)

  module _ (lines : List (RelayLine A)) where
    -- one more relay whose number, folder and addresses are new
    pub new_more : (place : ℕ) → AreNewBefore net lines place → RelayIsNew net lines place → ((source : ℕ) → SourceIsNew net place source) → AreNewBefore net lines (place + 1)
    new_more place before relay sources = record {
      relays = λ b less. relay_at b less (cases_lt b place);
      sources = λ b s less. source_at b s less (cases_lt b place);
    }
      where
        relay_at : (b : ℕ) → b < place + 1 → (b < place) ⊎ (place ≤ b) → RelayIsNew net lines b
        relay_at b less (inl early) = before.relays b early
        relay_at b less (inr past) = let same : place ≡ b = omega arith in subst (RelayIsNew net lines) same relay

        source_at : (b s : ℕ) → b < place + 1 → (b < place) ⊎ (place ≤ b) → SourceIsNew net b s
        source_at b s less (inl early) = before.sources b s early
        source_at b s less (inr past) = let same : place ≡ b = omega arith in let P : ℕ → Type 0 = λ q. SourceIsNew net q s in subst P same (sources s)

    -- a relay whose own line isn't listed is new
    pub own_is_new : (place : ℕ) (own : List Place) → IsOwnPlace net lines place own → own ≡ [] → RelayIsNew net lines place
    own_is_new place own (inl (new, none)) empty = new
    own_is_new place own (inr (found, is, not, some)) empty = (let clash : variant.Plan found.line ∷ [] ≡ [] = sym some ∙ empty in absurd (cc))

    pub all_new : (place : ℕ) → length net.relays ≤ place → length lines ≡ length net.relays → AreNewBefore net lines place → AddressesAreDistinct net lines
    all_new place end same new = record {
      relays = λ p before less. (
        λ one two one_is two_is. let within : p < length net.relays = slice_get_within net.relays p two two_is in (new.relays p (omega arith) before less).0 one two one_is two_is,
        λ one two one_is two_is. let within : p < length lines = slice_get_within lines p two two_is in (new.relays p (omega arith) before less).1 one two one_is two_is,
      );
      sources = λ p source q s before one two first second one_is two_is first_is second_is.
          let within : p < length net.relays = slice_get_within net.relays p second second_is in new.sources p source (omega arith) q s before one two first second one_is two_is first_is second_is;
    }
