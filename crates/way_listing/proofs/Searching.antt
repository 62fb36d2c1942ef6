-- A search that goes on from each message that it found finds all that are on their way.
use Rattle.std.proofs.Common.{◌≡◌, ◌≢◌, ◌+◌, ◌<◌, ◌≤◌, ℕ, List, [], ◌∷◌, ◌++◌, length, length-append, take, get_or, sym, ap, ◌∙◌, ◌⊎◌, inl, inr, subst, arith, AllPairs, Contains}
use Rattle.std.proofs.lemmas.List.{take-append-le, take_all}
use Rattle.std.proofs.lemmas.List.Elements.{Contains-append_cases}
use Rattle.relay_net.proofs.Pairing.{taken_more}
use Rattle.relay_net.specs.Network.{Network}
use Rattle.relay_net.proofs.Growing.{only_in}
use Rattle.way_listing.specs.Sendings.{Adds, GoesOn, IsOnItsWay, begun, goes_on, Sending}
use Rattle.way_listing.proofs.Adding.{still, either}

module _ {A : Type 0} (net : Network A) (starts : List Sending) where
  -- What is known of a search that has gone on from so many of the messages that it found.
  pub record IsSearched (sent : List Sending) (next : ℕ) : Type 0 where
    pub begin : (one : Sending) → Contains starts one → Contains sent one
    pub only : (one : Sending) → Contains sent one → IsOnItsWay net starts one
    pub closed : (here onward : Sending) → Contains (take next sent) here → GoesOn net here onward → Contains sent onward
    pub once : AllPairs (λ one other. one ≢ other) sent

  -- nothing was looked at yet
  pub searched_none : AllPairs (λ one other. one ≢ other) starts → IsSearched starts 0
  searched_none once = record {
    begin = λ one c. c;
    only = λ one c. begun c;
    closed = λ here onward c. absurd (let less = c.1 in omega arith);
    once = once;
  }

  -- the search went on from one more
  pub searched_more : (old new : List Sending) (next : ℕ) (here : Sending) → next < length old → here ≡ get_or old next here → Adds (GoesOn net here) old new → IsSearched old next → IsSearched new (next + 1)
  searched_more old new next here less at adds s = record {
    begin = λ one c. still (GoesOn net here) old new adds one (s.begin one c);
    only = λ one c. elim (either (GoesOn net here) old new adds one c) [
      | inl before ↦ s.only one before
      | inr added ↦ goes_on (s.only here (next, less, sym at)) added
    ];
    closed = λ one onward c on. elim (Contains-append_cases (take next old) (here ∷ []) one (subst (λ xs. Contains xs one) taken c)) [
      | inl earlier ↦ still (GoesOn net here) old new adds onward (s.closed one onward earlier on)
      | inr last ↦ adds.all onward (subst (λ x. GoesOn net x onward) (only_in here one last) on)
    ];
    once = adds.once s.once;
  }
    where
      within : next + 1 ≤ length old
      within = omega arith

      taken : take (next + 1) new ≡ take next old ++ here ∷ []
      taken = ap (take (next + 1)) adds.new_is ∙ take-append-le (next + 1) old adds.more within ∙ taken_more old next here less at

  -- a search that has gone on from all that it found found all
  pub all_found : (sent : List Sending) (next : ℕ) → length sent ≤ next → IsSearched sent next → (one : Sending) → IsOnItsWay net starts one → Contains sent one
  all_found sent next last s one (begun c) = s.begin one c
  all_found sent next last s one (goes_on {here = here} way on) =
      let there = all_found sent next last s here way in
      s.closed here one (subst (λ xs. Contains xs here) (sym (take_all next sent last)) there) on
