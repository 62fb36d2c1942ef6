-- A search that goes on from each arrival that it found reaches each tag that the events may bear.
use Rattle.std.proofs.Common.{◌≡◌, ℕ, zero, suc, ◌+◌, ◌<◌, ◌≤◌, List, [], ◌∷◌, ◌++◌, length, drop, Option, Some, None, slice_get, refl, sym, ap, ◌∙◌, subst, ◌⊎◌, inl, inr, arith, Contains, length-drop}
use Rattle.std.proofs.lemmas.Bool.{cases_lt}
use Rattle.std.proofs.lemmas.List.{drop-drop}
use Rattle.std.proofs.lemmas.Option.{same_Some}
use Rattle.tag_pattern.specs.Parts.{dot, most_tag_bytes}
use Rattle.tag_pattern.specs.Prefixes.{entered_tag}
use Rattle.relay_net.specs.Addresses.{Address}
use Rattle.relay_net.specs.Network.{Network, entrance, prefix_at, tag_at}
use Rattle.relay_net.specs.Arrivals.{IsArrival, IsNext, Grows}
use Rattle.relay_net.specs.Routed.{ComesTo, LeadsOn, Follows, sent, onward, IsRoutedTag}
use Rattle.relay_net.specs.declared.arrival.Arrival.{Arrival}
use Rattle.relay_net.proofs.Growing.{still, either}

-- how many bytes a prefix, if there is one, puts in front
front : Option (List ℕ) → ℕ
front None = 0
front (Some prefix) = length prefix + 1

-- behind them is the tag
drop-all_of : (xs ys : List ℕ) → drop (length xs) (xs ++ ys) ≡ ys
drop-all_of [] ys = refl
drop-all_of (x ∷ xs) ys = drop-all_of xs ys

behind_front : (prefix : Option (List ℕ)) (tag : List ℕ) → (n : ℕ) × (drop n (entered_tag prefix tag) ≡ tag) × (n ≤ length (entered_tag prefix tag))
behind_front None tag = (0, refl, omega arith)
behind_front (Some prefix) tag = go prefix
  where
    go : (p : List ℕ) → (n : ℕ) × (drop n (p ++ dot ∷ tag) ≡ tag) × (n ≤ length (p ++ dot ∷ tag))
    go [] = (1, refl, omega arith)
    go (b ∷ p) = let rest = go p in (suc rest.0, rest.1, (let less = rest.2 in omega arith))

module _ {A : Type 0} (net : Network A) (address : Address) (tag wanted : List ℕ) where
  -- The events may come in there.
  pub record IsReached (a : Arrival) : Type 0 where
    pub last : Address
    pub before : List ℕ
    pub follows : Follows net address tag last before
    pub arrives : IsArrival net wanted last before a

  -- What is known of a search that has gone on from so many of the arrivals that it found.
  pub record IsSearched (found : List Arrival) (next : ℕ) : Type 0 where
    pub sound : (a : Arrival) → Contains found a → IsReached a
    pub start : (a : Arrival) → IsArrival net wanted address tag a → Contains found a
    pub closed : (k : ℕ) (a : Arrival) → k < next → slice_get found k ≡ Some a → (s : Arrival) → IsNext net wanted a s → Contains found s

  -- the first arrival, if there is one, was added
  pub searched_none : (o : Option Arrival) → ((a : Arrival) → (o ≡ Some a → IsArrival net wanted address tag a) × (IsArrival net wanted address tag a → o ≡ Some a)) → (found : List Arrival) → Grows (λ other. o ≡ Some other) [] found → IsSearched found 0
  searched_none o is found g = record {
    sound = λ a c. elim (either (λ other. o ≡ Some other) [] found g a c) [
      | inl before ↦ absurd (let less = before.1 in omega arith)
      | inr added ↦ record { last = address; before = tag; follows = sent; arrives = (is a).0 added }
    ];
    start = λ a h. g.all a ((is a).1 h);
    closed = λ k a less. absurd (omega arith);
  }

  next_reached : (here s : Arrival) → IsReached here → IsNext net wanted here s → IsReached s
  next_reached here s r n =
      let o = n.onward in
      let leads : LeadsOn net r.last r.before o.address (drop here.offset wanted) =
      record { at = here.at; buffer = n.buffer; enters = r.arrives.enters; comes = subst (λ (t : List ℕ). ComesTo net here.at t n.buffer) r.arrives.borne n.comes; sends = o.sends; borne_is = r.arrives.borne } in
      record { last = o.address; before = drop here.offset wanted; follows = onward r.follows leads; arrives = o.arrives }

  get_front : (xs ys : List Arrival) (k : ℕ) (a : Arrival) → k < length xs → slice_get (xs ++ ys) k ≡ Some a → slice_get xs k ≡ Some a
  get_front [] ys k a less e = absurd (omega arith)
  get_front (x ∷ xs) ys zero a less e = e
  get_front (x ∷ xs) ys (suc k) a less e = get_front xs ys k a (omega arith) e

  pub contains_get : (xs : List Arrival) (k : ℕ) (a : Arrival) → slice_get xs k ≡ Some a → Contains xs a
  contains_get [] k a e = absurd (cc)
  contains_get (x ∷ xs) zero a e = (0, omega arith, same_Some x a e)
  contains_get (x ∷ xs) (suc k) a e = let c = contains_get xs k a e in (suc c.0, (let less = c.1 in omega arith), c.2)

  -- the search went on from one more
  pub searched_more : (old new : List Arrival) (next : ℕ) (here : Arrival) → next < length old → slice_get old next ≡ Some here → Grows (IsNext net wanted here) old new → IsSearched old next → IsSearched new (next + 1)
  searched_more old new next here less at g s = record {
    sound = λ a c. elim (either (IsNext net wanted here) old new g a c) [
      | inl before ↦ s.sound a before
      | inr added ↦ next_reached here a (s.sound here (contains_get old next here at)) added
    ];
    start = λ a h. still (IsNext net wanted here) old new g a (s.start a h);
    closed = λ k a below e t n. (
        let there : slice_get old k ≡ Some a = get_front old g.more k a (omega arith) (rw g.new_is at e) in
        elim (cases_lt k next) [
          | inl earlier ↦ still (IsNext net wanted here) old new g t (s.closed k a earlier there t n)
          | inr later ↦ (let same_place : k ≡ next = omega arith in
              let same : a ≡ here = same_Some a here (sym there ∙ ap (slice_get old) same_place ∙ at) in
              g.all t (subst (λ x. IsNext net wanted x t) same n))
        ]);
  }

  -- A search that has gone on from all that it found found each arrival that may be.
  all_found : (found : List Arrival) → IsSearched found (length found) → {last : Address} {before : List ℕ} → Follows net address tag last before → (a : Arrival) → IsArrival net wanted last before a → Contains found a
  all_found found s sent a h = s.start a h
  all_found found s (onward {last = last} {next = next} {before = before} {borne = borne} f leads) a h =
      let cut = behind_front (prefix_at net next) borne in
      let rest : drop (a.offset + cut.0) wanted ≡ borne = sym (drop-drop cut.0 a.offset wanted) ∙ ap (drop cut.0) h.borne ∙ cut.1 in
      let long : length (drop a.offset wanted) ≡ length (tag_at net next borne) = ap length h.borne in
      let size = length-drop a.offset wanted in
      let here : Arrival = record { at = leads.at; offset = a.offset + cut.0 } in
      let is : IsArrival net wanted last before here = record { enters = leads.enters; within = (let w = h.within in let m = cut.2 in omega (arith, long, size)); borne = rest ∙ leads.borne_is } in
      let c = all_found found s f here is in
      let at = get_of found here c in
      let goes : IsNext net wanted here a = record {
        buffer = leads.buffer;
        comes = subst (λ (t : List ℕ). ComesTo net leads.at t leads.buffer) (sym (rest ∙ leads.borne_is)) leads.comes;
        onward = record { address = next; sends = leads.sends; arrives = subst (λ (t : List ℕ). IsArrival net wanted next t a) (sym rest) h };
      } in
      s.closed at.0 here at.1 at.2 a goes
    where
      get_of : (xs : List Arrival) (x : Arrival) → Contains xs x → (k : ℕ) × (k < length xs) × (slice_get xs k ≡ Some x)
      get_of [] x c = absurd (let less = c.1 in omega arith)
      get_of (y ∷ xs) x (zero, less, is) = (0, omega arith, ap Some is)
      get_of (y ∷ xs) x (suc k, less, is) = let r = get_of xs x (k, omega arith, is) in (suc r.0, (let l = r.1 in omega arith), r.2)

  -- whether one of them bears the whole tag
  pub searched_all : (found : List Arrival) → IsSearched found (length found) → length wanted ≤ most_tag_bytes → (((a : Arrival) × Contains found a × (a.offset ≡ 0)) → IsRoutedTag net address tag wanted) × (IsRoutedTag net address tag wanted → (a : Arrival) × Contains found a × (a.offset ≡ 0))
  searched_all found s short = (
    λ h. (let r = s.sound h.0 h.1 in record {
      last = r.last;
      before = r.before;
      follows = r.follows;
      at = h.0.at;
      enters = r.arrives.enters;
      routed_is = ap (λ n. drop n wanted) (sym h.2) ∙ r.arrives.borne;
      short = short;
    }),
    λ r. (let a : Arrival = record { at = r.at; offset = 0 } in (a, all_found found s r.follows a (record { enters = r.enters; within = omega arith; borne = r.routed_is }), refl)),
  )

-- Tags only grow.

pub entered_longer : (prefix : Option (List ℕ)) (tag : List ℕ) → length tag ≤ length (entered_tag prefix tag)
entered_longer None tag = omega arith
entered_longer (Some prefix) tag = go prefix
  where
    go : (p : List ℕ) → length tag ≤ length (p ++ dot ∷ tag)
    go [] = omega arith
    go (b ∷ p) = let rest = go p in omega arith

grown : {A : Type 0} (net : Network A) (address : Address) (tag : List ℕ) {last : Address} {before : List ℕ} → Follows net address tag last before → length tag ≤ length before
grown net address tag sent = omega arith
grown net address tag (onward {last = last} {before = before} f leads) =
    let less = grown net address tag f in
    let more = entered_longer (prefix_at net last) before in
    let same = ap length leads.borne_is in
    omega arith

-- a tag of more than 1,024 bytes is and has no routed tag
pub too_long : {A : Type 0} (net : Network A) (address : Address) (tag wanted : List ℕ) → (most_tag_bytes < length tag) ⊎ (most_tag_bytes < length wanted) → IsRoutedTag net address tag wanted → ⊥
too_long net address tag wanted long r =
    let less = grown net address tag r.follows in
    let more = entered_longer (prefix_at net r.last) r.before in
    let same = ap length r.routed_is in
    let short = r.short in
    elim long [ inl h ↦ absurd (omega arith) | inr h ↦ absurd (omega arith) ]
