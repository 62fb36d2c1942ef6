-- What is outgoing is written from its beginning on.
use Rattle.std.proofs.Common.{ℕ, ◌≡◌, ◌∙◌, List, [], ◌++◌, ap, refl, sym, append_assoc}
use Rattle.std.specs.Prelude.{take, drop}
use Rattle.std.proofs.KnownBytes.{Appends-nil, Appends-trans}
use Rattle.std.proofs.lemmas.List.{take-append-drop}
use Rattle.relay_sockets.specs.Traffics.{Conveys}
use Rattle.mio_relay.specs.Connections.{ConnectionState, IsWrittenOn}

-- nothing is written
pub written_none : (a : ConnectionState) → IsWrittenOn a a
written_none a = ([], refl, (Appends-nil a.traffic.taken, Appends-nil a.traffic.given))

-- so many bytes of it are
pub written_some : (a b : ConnectionState) (n : ℕ) → b.peer.session.outgoing ≡ drop n a.peer.session.outgoing
    → Conveys a.traffic b.traffic (take n a.peer.session.outgoing) [] → IsWrittenOn a b
written_some a b n e p =
    let out = a.peer.session.outgoing in
    (take n out, sym (take-append-drop n out) ∙ ap (λ (l : List ℕ). take n out ++ l) (sym e), p)

-- none of it is
pub written_nothing : (a b : ConnectionState) → b.peer ≡ a.peer → Conveys a.traffic b.traffic [] [] → IsWrittenOn a b
written_nothing a b e p = ([], sym (ap (λ q. q.session.outgoing) e), p)

-- and more behind that
pub written_more : (a b c : ConnectionState) → IsWrittenOn a b → IsWrittenOn b c → IsWrittenOn a c
written_more a b c p q = (
  p.0 ++ q.0,
  p.1 ∙ ap (λ (l : List ℕ). p.0 ++ l) q.1 ∙ sym (append_assoc p.0 q.0 c.peer.session.outgoing),
  (Appends-trans a.traffic.taken b.traffic.taken c.traffic.taken p.0 q.0 p.2.0 q.2.0, Appends-trans a.traffic.given b.traffic.given c.traffic.given [] [] p.2.1 q.2.1),
)
