-- That the messages that are found to be settled are those that passed the entry on to where it is
-- kept.
use Rattle.std.proofs.Common.{◌≡◌, ℕ, List, [], ◌∷◌, ◌++◌, Some, slice_get, sym, subst, ◌∙◌, inl, inr}
use Rattle.std.proofs.lemmas.List.Elements.{Contains-append_cases}
use Rattle.std.proofs.lemmas.Option.{same_Some}
use Rattle.custody_store.specs.Buffers.{BufferState}
use Rattle.custody_store.proofs.Covering.{only_in}
use Rattle.custody_store.proofs.Members.{contains-get, get-contains}
use Rattle.custody_store.specs.Book.{Message}
use Rattle.relay_net.specs.Addresses.{Address}
use Rattle.relay_net.specs.Network.{Network}
use Rattle.custody_store.specs.Branches.{IsPassedOn, KeepsAlong, has, passed, EachKeeps}
use Rattle.custody_store.specs.Searches.{KeepsSoFar, EachSoFar, IsNew, IsDone, AreSettled}
use Rattle.custody_store.proofs.Lists.{some_and}

module _ {A : Type 0} (net : Network A) (buffers : ℕ → ℕ → BufferState) (messages : List Message) (entry : List ℕ) (kept : List ℕ) where
  -- what is kept as far as is known is kept
  pub each_kept : AreSettled net buffers messages entry kept → (address : Address) (tag : List ℕ) → EachSoFar net buffers messages entry kept address tag → EachKeeps net buffers messages address tag entry
  each_kept settled address tag e = record {
    place = e.place;
    buffer = e.buffer;
    borne = e.borne;
    leaf = e.leaf;
    each = λ p b t r. elim (e.each p b t r) [
      | inl holds ↦ has holds
      | inr any ↦ (let m = some_and (slice_get messages any.1) (IsPassedOn entry p b t) any.4 in
          let k = settled any.1 (any.0, any.2, any.3) m.0 m.1 in
          passed m.0 (get-contains messages m.0 any.1 m.1) m.2 k.place k.buffer k.borne k.leaf k.each)
    ];
  }

  -- where all are done, what is kept is known to be
  pub known : ((number : ℕ) → IsDone net buffers messages entry kept number) → {place buffer : ℕ} {tag : List ℕ} → KeepsAlong net buffers messages entry place buffer tag → KeepsSoFar buffers messages entry kept place buffer tag
  known all (has holds) = inl holds
  known all (passed message inside on p b t first each) =
      let k = contains-get messages message inside in
      let among = all k.0 message k.1 (record { answered = on.answered; inside = on.inside; each = record { place = p; buffer = b; borne = t; leaf = first; each = λ q c s r. known all (each q c s r) } }) in
      inr (among.0, k.0, among.1, among.2, rw k.1 on)

  pub each_known : ((number : ℕ) → IsDone net buffers messages entry kept number) → (address : Address) (tag : List ℕ) → EachKeeps net buffers messages address tag entry → EachSoFar net buffers messages entry kept address tag
  each_known all address tag e = record { place = e.place; buffer = e.buffer; borne = e.borne; leaf = e.leaf; each = λ p b t r. known all (e.each p b t r) }

  -- one more is settled
  pub one_more : AreSettled net buffers messages entry kept → (number : ℕ) → IsNew net buffers messages entry kept number → AreSettled net buffers messages entry (kept ++ number ∷ [])
  one_more settled number new other inside message at = elim (Contains-append_cases kept (number ∷ []) other inside) [
    | inl old ↦ settled other old message at
    | inr last ↦ (let same = only_in number other last in
        let is : new.message ≡ message = same_Some new.message message (sym new.there ∙ subst (λ n. slice_get messages n ≡ Some message) (sym same) at) in
        subst (λ (m : Message). EachKeeps net buffers messages m.address m.tag entry) is (each_kept settled new.message.address new.message.tag new.settled.each))
  ]
