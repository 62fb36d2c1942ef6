-- Chains: each is followed by the next, by a relation that is given.

-- A chain leads from the one to the last: it is that one, or it is followed by one from which a
-- chain leads on to the last.
pub data Chain {A : Type 0} (IsFollowed : A → A → Type 0) : A → A → Type 0 where
  here : {last : A} → Chain IsFollowed last last
  onward : {start next last : A} → IsFollowed start next → Chain IsFollowed next last
      → Chain IsFollowed start last
