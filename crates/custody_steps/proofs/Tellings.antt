-- What is answered of an event that was acknowledged to a client.
use Rattle.std.proofs.Common.{◌≡◌, ◌↔◌, ℕ, Bool, false, List, Option, Some, None, IsTrue, IsSomeAnd, slice_get, sym, subst}
use Rattle.std.proofs.lemmas.Bool.{false≢true}
use Rattle.custody_store.specs.Book.{Told}
use Rattle.relay_net.specs.Addresses.{Address}
use Rattle.relay_net.specs.Network.{Network, address_of_client}
use Rattle.relay_net.specs.declared.node.Client.{Client}

-- What holds of the event and of the address of its client is the answer on the event of this
-- number.
pub told_answer : {A : Type 0} (net : Network A) (acknowledged : List Told) (number : ℕ) (told : Told) (client : Client A) (host : List ℕ) (answer : Bool) (P : Address → Told → Type 0)
    → slice_get acknowledged number ≡ Some told → slice_get net.clients told.client ≡ Some client → host ≡ (address_of_client net client).host → IsTrue answer ↔ P (record { host = host; port = client.port }) told
    → IsSomeAnd (slice_get acknowledged number) (λ t. IsTrue answer ↔ IsSomeAnd (slice_get net.clients t.client) (λ x. P (address_of_client net x) t))
told_answer {A} net acknowledged number told client host answer P at there is iff =
    subst (λ (o : Option Told). IsSomeAnd o (λ t. IsTrue answer ↔ IsSomeAnd (slice_get net.clients t.client) (λ x. P (address_of_client net x) t))) (sym at)
    (subst (λ (o : Option (Client A)). IsTrue answer ↔ IsSomeAnd o (λ x. P (address_of_client net x) told)) (sym there)
    (subst (λ (h : List ℕ). IsTrue answer ↔ P (record { host = h; port = client.port }) told) is iff))

-- Where the client isn't there, the answer is no.
pub told_by_none : {A : Type 0} (net : Network A) (acknowledged : List Told) (number : ℕ) (told : Told) (P : Address → Told → Type 0) → slice_get acknowledged number ≡ Some told → slice_get net.clients told.client ≡ None
    → IsSomeAnd (slice_get acknowledged number) (λ t. IsTrue false ↔ IsSomeAnd (slice_get net.clients t.client) (λ x. P (address_of_client net x) t))
told_by_none {A} net acknowledged number told P at none =
    subst (λ (o : Option Told). IsSomeAnd o (λ t. IsTrue false ↔ IsSomeAnd (slice_get net.clients t.client) (λ x. P (address_of_client net x) t))) (sym at)
    (subst (λ (o : Option (Client A)). IsTrue false ↔ IsSomeAnd o (λ x. P (address_of_client net x) told)) (sym none)
    (λ e. absurd (false≢true e), λ h. absurd h))

pub none_is_some : {X : Type 0} (x : X) → None ≡ Some x → ⊥
none_is_some x e = absurd (cc)
