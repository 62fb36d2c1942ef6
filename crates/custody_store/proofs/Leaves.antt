-- The buffers that an event comes to are the leaves of its way.
use Rattle.std.proofs.Common.{◌≡◌, ◌≢◌, ℕ, ◌≤◌, Bool, List, [], ◌∷◌, length, get_or, Some, None, refl, sym, ap, subst, ◌∙◌, ◌↔◌, arith, Contains, All, IsTrue}
use Rattle.std.proofs.lemmas.Option.{same_Some}
use Rattle.std.proofs.lemmas.List.Elements.{All-contains, All-contains_itself}
use Rattle.custody_store.specs.Buffers.{BufferState}
use Rattle.custody_store.specs.Book.{Message}
use Rattle.relay_conf.specs.declared.output.BufferNo.{BufferNo}
use Rattle.relay_net.specs.Addresses.{Address}
use Rattle.relay_net.specs.Network.{Network, entrance, tag_at}
use Rattle.relay_net.specs.Ways.{table_at}
use Rattle.relay_net.specs.declared.address.Entrance.{Entrance}
use Rattle.route_graph.specs.Listing.{numbers_of}
use Rattle.route_graph.specs.Ways.{IsLeaf, IsLoop}
use Rattle.relay_net.specs.Routed.{ComesTo}
use Rattle.relay_net.proofs.Sending.{number_in, leaf_of}
use Rattle.custody_store.specs.Branches.{Reaches}
use Rattle.custody_store.specs.Searches.{KeepsSoFar, EachSoFar}
use Rattle.tag_pattern.specs.Parts.{most_tag_bytes}

first_of : (leaves : List BufferNo) → leaves ≢ [] → (leaf : BufferNo) × Contains leaves leaf
first_of [] some = absurd (some refl)
first_of (leaf ∷ leaves) some = (leaf, (0, omega arith, refl))

module _ {A : Type 0} (net : Network A) (address : Address) (tag : List ℕ) where
  -- to an address that is no source's it comes nowhere
  pub nowhere : entrance net address ≡ None → (p b : ℕ) (t : List ℕ) → Reaches net address tag p b t → ⊥
  nowhere none p b t r = let e = sym none ∙ r.enters in absurd (cc)

  module _ (at : Entrance) (enters : entrance net address ≡ Some at) (borne : List ℕ) (borne_is : borne ≡ tag_at net address tag) where
    comes_there : (p b : ℕ) (t : List ℕ) → Reaches net address tag p b t → ComesTo net at borne b
    comes_there p b t r =
        let same : r.at ≡ at = same_Some r.at at (sym r.enters ∙ enters) in
        let is : t ≡ borne = r.borne_is ∙ sym borne_is in
        subst (λ (x : Entrance). ComesTo net x borne b) same (subst (λ (y : List ℕ). ComesTo net r.at y b) is r.comes)

    -- where the way is a loop it comes nowhere
    pub never_looped : IsLoop (table_at net at.relay) borne at.scope → (p b : ℕ) (t : List ℕ) → Reaches net address tag p b t → ⊥
    never_looped loop p b t r = (comes_there p b t r).ends loop

    module _ (short : length borne ≤ most_tag_bytes) (leaves : List BufferNo) (ends : ¬ IsLoop (table_at net at.relay) borne at.scope) (are : (buffer : ℕ) → Contains (numbers_of leaves) buffer ↔ IsLeaf (table_at net at.relay) borne at.scope buffer) where
      pub leaf_reached : (leaf : BufferNo) → Contains leaves leaf → Reaches net address tag at.relay leaf.0 borne
      leaf_reached leaf inside = record {
        at = at;
        enters = enters;
        place_is = refl;
        borne_is = borne_is;
        short = short;
        comes = record { ends = ends; leaf = (are leaf.0).0 (number_in leaves leaf inside) };
      }

      pub reached_leaf : (p b : ℕ) (t : List ℕ) → Reaches net address tag p b t → (leaf : BufferNo) × Contains leaves leaf × (leaf.0 ≡ b) × (p ≡ at.relay) × (t ≡ borne)
      reached_leaf p b t r =
          let same : r.at ≡ at = same_Some r.at at (sym r.enters ∙ enters) in
          let l = leaf_of leaves b ((are b).1 (comes_there p b t r).leaf) in
          (l.0, l.1, l.2, r.place_is ∙ ap (λ (x : Entrance). x.relay) same, r.borne_is ∙ sym borne_is)

      -- what holds of each leaf holds of each buffer that it comes to
      pub each_reached : (P : ℕ → ℕ → List ℕ → Type 0) → All (λ (leaf : BufferNo). P at.relay leaf.0 borne) leaves → (p b : ℕ) (t : List ℕ) → Reaches net address tag p b t → P p b t
      each_reached P all p b t r =
          let l = reached_leaf p b t r in
          let here : P at.relay l.0.0 borne = All-contains (λ (leaf : BufferNo). P at.relay leaf.0 borne) leaves l.0 all l.1 in
          subst (λ q. P q b t) (sym l.3) (subst (λ (y : List ℕ). P at.relay b y) (sym l.4) (subst (λ n. P at.relay n borne) l.2 here))

      pub each_leaf : (P : ℕ → ℕ → List ℕ → Type 0) → ((p b : ℕ) (t : List ℕ) → Reaches net address tag p b t → P p b t) → (leaf : BufferNo) → Contains leaves leaf → P at.relay leaf.0 borne
      each_leaf P each leaf inside = each at.relay leaf.0 borne (leaf_reached leaf inside)

      -- so each buffer that it comes to keeps the entry, as far as is known, exactly where there is
      -- a leaf, and each does
      pub leaves_iff : (buffers : ℕ → ℕ → BufferState) (messages : List Message) (entry kept : List ℕ) (answer : Bool)
          → IsTrue answer ↔ ((leaves ≢ []) × All (λ (leaf : BufferNo). KeepsSoFar buffers messages entry kept at.relay leaf.0 borne) leaves) → IsTrue answer ↔ EachSoFar net buffers messages entry kept address tag
      leaves_iff buffers messages entry kept answer iff = (
        λ t. (let h = iff.0 t in
            let f = first_of leaves h.0 in
            record { place = at.relay; buffer = f.0.0; borne = borne; leaf = leaf_reached f.0 f.1; each = each_reached (KeepsSoFar buffers messages entry kept) h.1 }),
        λ e. iff.1 (
          λ none. (let l = reached_leaf e.place e.buffer e.borne e.leaf in let c : Contains [] l.0 = subst (λ (ls : List BufferNo). Contains ls l.0) none l.1 in let less = c.1 in omega arith),
          λ k d less. each_leaf (KeepsSoFar buffers messages entry kept) e.each (get_or leaves k d) (All-contains_itself leaves k d less),
        ),
      )
