-- Events, and the tags that they bear in the buffers that they come to.
use Rattle.std.proofs.Common.{◌≡◌, ◌≤◌, ℕ, List, length, Some, refl, sym, subst}
use Rattle.relay_net.specs.Addresses.{Address}
use Rattle.relay_net.specs.Network.{Network, entrance, tag_at}
use Rattle.relay_net.specs.declared.address.Entrance.{Entrance}
use Rattle.relay_net.specs.Routed.{ComesTo, SendsTo, Follows, sent, onward, IsRoutedTag}
use Rattle.tag_pattern.specs.Parts.{most_tag_bytes}

-- an event of a message with this tag that was sent to this address
pub record Origin : Type 0 where
  pub address : Address
  pub tag : List ℕ
  pub entry : List ℕ

-- An event of such a message may bear the tag in this buffer.
pub record IsBorne {A : Type 0} (net : Network A) (address : Address) (tag : List ℕ) (place buffer : ℕ) (borne : List ℕ) : Type 0 where
  pub last : Address
  pub before : List ℕ
  pub follows : Follows net address tag last before
  pub at : Entrance
  pub enters : entrance net last ≡ Some at
  pub place_is : at.relay ≡ place
  pub comes : ComesTo net at (tag_at net last before) buffer
  pub borne_is : borne ≡ tag_at net last before
  pub short : length borne ≤ most_tag_bytes

-- So the origin's event may.
abbrev pub Bears : {A : Type 0} → Network A → Origin → ℕ → ℕ → List ℕ → Type 0
Bears net origin place buffer borne = IsBorne net origin.address origin.tag place buffer borne

pub borne_routed : {A : Type 0} (net : Network A) (address : Address) (tag : List ℕ) (place buffer : ℕ) (borne : List ℕ) → IsBorne net address tag place buffer borne → IsRoutedTag net address tag borne
borne_routed net address tag place buffer borne b = record { last = b.last; before = b.before; follows = b.follows; at = b.at; enters = b.enters; routed_is = b.borne_is; short = b.short }

-- from a buffer it goes on to where the buffer's output sends
pub borne_onward : {A : Type 0} (net : Network A) (address : Address) (tag : List ℕ) (place buffer : ℕ) (borne : List ℕ) (next : Address) → IsBorne net address tag place buffer borne → SendsTo net place buffer next → Follows net address tag next borne
borne_onward net address tag place buffer borne next b sends =
    onward b.follows (record { at = b.at; buffer = buffer; enters = b.enters; comes = b.comes; sends = subst (λ p. SendsTo net p buffer next) (sym b.place_is) sends; borne_is = b.borne_is })

follows_on : {A : Type 0} (net : Network A) (address : Address) (tag : List ℕ) (mid : Address) (mid_tag : List ℕ) {last : Address} {before : List ℕ} → Follows net address tag mid mid_tag → Follows net mid mid_tag last before → Follows net address tag last before
follows_on net address tag mid mid_tag f sent = f
follows_on net address tag mid mid_tag f (onward g leads) = onward (follows_on net address tag mid mid_tag f g) leads

-- what an event of the later message may bear, one of the first may
pub borne_on : {A : Type 0} (net : Network A) (address : Address) (tag : List ℕ) (mid : Address) (mid_tag : List ℕ) (place buffer : ℕ) (borne : List ℕ) → Follows net address tag mid mid_tag → IsBorne net mid mid_tag place buffer borne → IsBorne net address tag place buffer borne
borne_on net address tag mid mid_tag place buffer borne f b = record {
  last = b.last;
  before = b.before;
  follows = follows_on net address tag mid mid_tag f b.follows;
  at = b.at;
  enters = b.enters;
  place_is = b.place_is;
  comes = b.comes;
  borne_is = b.borne_is;
  short = b.short;
}

-- where the message itself comes in
pub borne_first : {A : Type 0} (net : Network A) (address : Address) (tag : List ℕ) (at : Entrance) (buffer : ℕ) (borne : List ℕ) → entrance net address ≡ Some at → borne ≡ tag_at net address tag → length borne ≤ most_tag_bytes → ComesTo net at borne buffer → IsBorne net address tag at.relay buffer borne
borne_first net address tag at buffer borne enters is short comes = record {
  last = address;
  before = tag;
  follows = sent;
  at = at;
  enters = enters;
  place_is = refl;
  comes = subst (λ (t : List ℕ). ComesTo net at t buffer) is comes;
  borne_is = is;
  short = short;
}
