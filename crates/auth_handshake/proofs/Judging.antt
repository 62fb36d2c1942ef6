-- That an item has one answer.
use Rattle.std.proofs.Common.{ℕ, ◌≡◌, ◌+◌, ◌<◌, List, length, refl, ap, sym, subst, ◌∙◌, Bool, true, false, Result, Ok, Err, OnErr}
use Rattle.auth_handshake.specs.declared.answers.HandshakeFault.{HandshakeFault}
use Rattle.auth_handshake.specs.declared.answers.HandshakeFault.TheVariants.{NotPing, WrongDigest, NotHelo, NotPong, RefusedByServer}
use Rattle.auth_handshake.specs.declared.answers.Ping.{Ping}
use Rattle.auth_handshake.specs.declared.answers.Ping.TheVariants.{Passed, Refused}
use Rattle.auth_handshake.specs.Digest.{digest_of}
use Rattle.auth_handshake.specs.Messages.{Asked, IsPing, Told, IsPong}
use Rattle.auth_handshake.specs.Written.{pong_bytes}
use Rattle.auth_handshake.specs.Ends.{ServerEnd, ClientEnd, ShowsKey, KnowsKey, IsAnswer, IsVerdict}

-- ---- the server

-- the digest that is expected, in terms of the server's own
pub expected_by : (server : ServerEnd) (salt host nonce key expected : List ℕ) → expected ≡ digest_of salt host nonce key → nonce ≡ server.nonce → key ≡ server.key
    → expected ≡ digest_of salt host server.nonce server.key
expected_by server salt host nonce key expected e n k = e ∙ ap (λ (x : List ℕ). digest_of salt host x key) n ∙ ap (λ (x : List ℕ). digest_of salt host server.nonce x) k

-- the item is a PING that says this and nothing else
pub record SaysOnly (item : List ℕ) (says : Asked) : Type 0 where
  pub is : IsPing item says
  pub one : (other : Asked) → IsPing item other → says ≡ other

pub says_only : (item : List ℕ) (says : Asked) → IsPing item says → ((other : Asked) → IsPing item other → says ≡ other) → SaysOnly item says
says_only item says p one = record { is = p; one = one }

pub not_ping_only : (server : ServerEnd) (item : List ℕ) → ((says : Asked) → IsPing item says → ⊥) → (other : Ping) (pong : List ℕ) → IsAnswer server item other pong → other ≡ Refused NotPing
not_ping_only server item none Passed pong a = absurd (none a.0 a.1)
not_ping_only server item none (Refused NotPing) pong a = refl
not_ping_only server item none (Refused WrongDigest) pong a = absurd (none a.0 a.1)
not_ping_only server item none (Refused NotHelo) pong a = absurd a
not_ping_only server item none (Refused NotPong) pong a = absurd a
not_ping_only server item none (Refused RefusedByServer) pong a = absurd a

pub wrong_only : (server : ServerEnd) (item : List ℕ) (says : Asked) → SaysOnly item says → (ShowsKey server says → ⊥) → (other : Ping) (pong : List ℕ) → IsAnswer server item other pong → other ≡ Refused WrongDigest
wrong_only server item says p wrong Passed pong a = absurd (wrong (subst (ShowsKey server) (sym (p.one a.0 a.1)) a.2))
wrong_only server item says p wrong (Refused NotPing) pong a = absurd (a.0 says p.is)
wrong_only server item says p wrong (Refused WrongDigest) pong a = refl
wrong_only server item says p wrong (Refused NotHelo) pong a = absurd a
wrong_only server item says p wrong (Refused NotPong) pong a = absurd a
wrong_only server item says p wrong (Refused RefusedByServer) pong a = absurd a

pub passed_only : (server : ServerEnd) (item : List ℕ) (says : Asked) → SaysOnly item says → ShowsKey server says → (other : Ping) (pong : List ℕ) → IsAnswer server item other pong → other ≡ Passed
passed_only server item says p right Passed pong a = refl
passed_only server item says p right (Refused NotPing) pong a = absurd (a.0 says p.is)
passed_only server item says p right (Refused WrongDigest) pong a = absurd (a.2 (subst (ShowsKey server) (p.one a.0 a.1) right))
passed_only server item says p right (Refused NotHelo) pong a = absurd a
passed_only server item says p right (Refused NotPong) pong a = absurd a
passed_only server item says p right (Refused RefusedByServer) pong a = absurd a

pub on_err_of : {P : Type 0} {X E : Type 0} (r : Result X E) → P → OnErr r P
on_err_of (Ok x) p = tt
on_err_of (Err e) p = p

-- ---- the client

-- the item is a PONG that says this and nothing else
pub record TellsOnly (item : List ℕ) (says : Told) : Type 0 where
  pub is : IsPong item says
  pub one : (other : Told) → IsPong item other → says ≡ other

pub tells_only : (item : List ℕ) (says : Told) → IsPong item says → ((other : Told) → IsPong item other → says ≡ other) → TellsOnly item says
tells_only item says p one = record { is = p; one = one }

apart : (v : Bool) → v ≡ true → v ≡ false → ⊥
apart v t f = let e = sym t ∙ f in absurd cc

pub not_pong_only : (client : ClientEnd) (item : List ℕ) → ((says : Told) → IsPong item says → ⊥) → (other : Result Unit HandshakeFault) → IsVerdict client item other → other ≡ Err NotPong
not_pong_only client item none (Ok x) a = absurd (none a.0 a.1)
not_pong_only client item none (Err NotPing) a = absurd a
not_pong_only client item none (Err WrongDigest) a = absurd (none a.0 a.1)
not_pong_only client item none (Err NotHelo) a = absurd a
not_pong_only client item none (Err NotPong) a = refl
not_pong_only client item none (Err RefusedByServer) a = absurd (none a.0 a.1)

pub refused_only : (client : ClientEnd) (item : List ℕ) (says : Told) → TellsOnly item says → says.accepted ≡ false → (other : Result Unit HandshakeFault) → IsVerdict client item other → other ≡ Err RefusedByServer
refused_only client item says p off (Ok x) a = absurd (apart a.0.accepted a.2 (ap (λ (t : Told). t.accepted) (sym (p.one a.0 a.1)) ∙ off))
refused_only client item says p off (Err NotPing) a = absurd a
refused_only client item says p off (Err WrongDigest) a = absurd (apart a.0.accepted a.2 (ap (λ (t : Told). t.accepted) (sym (p.one a.0 a.1)) ∙ off))
refused_only client item says p off (Err NotHelo) a = absurd a
refused_only client item says p off (Err NotPong) a = absurd (a says p.is)
refused_only client item says p off (Err RefusedByServer) a = refl

pub right_only : (client : ClientEnd) (item : List ℕ) (says : Told) → TellsOnly item says → says.accepted ≡ true → KnowsKey client says → (other : Result Unit HandshakeFault) → IsVerdict client item other → other ≡ Ok tt
right_only client item says p on right (Ok x) a = refl
right_only client item says p on right (Err NotPing) a = absurd a
right_only client item says p on right (Err WrongDigest) a = absurd (a.3 (subst (KnowsKey client) (p.one a.0 a.1) right))
right_only client item says p on right (Err NotHelo) a = absurd a
right_only client item says p on right (Err NotPong) a = absurd (a says p.is)
right_only client item says p on right (Err RefusedByServer) a = absurd (apart says.accepted on (ap (λ (t : Told). t.accepted) (p.one a.0 a.1) ∙ a.2))

pub differs_only : (client : ClientEnd) (item : List ℕ) (says : Told) → TellsOnly item says → says.accepted ≡ true → (KnowsKey client says → ⊥) → (other : Result Unit HandshakeFault) → IsVerdict client item other → other ≡ Err WrongDigest
differs_only client item says p on wrong (Ok x) a = absurd (wrong (subst (KnowsKey client) (sym (p.one a.0 a.1)) a.3))
differs_only client item says p on wrong (Err NotPing) a = absurd a
differs_only client item says p on wrong (Err WrongDigest) a = refl
differs_only client item says p on wrong (Err NotHelo) a = absurd a
differs_only client item says p on wrong (Err NotPong) a = absurd (a says p.is)
differs_only client item says p on wrong (Err RefusedByServer) a = absurd (apart says.accepted on (ap (λ (t : Told). t.accepted) (p.one a.0 a.1) ∙ a.2))

-- equal parts make equal PONGs
pub pong_full : (capacity len : ℕ) (host own digest expected : List ℕ) → host ≡ own → digest ≡ expected
    → capacity < len + length (pong_bytes host digest) → capacity < len + length (pong_bytes own expected)
pong_full capacity len host own digest expected h d full =
    subst (λ (x : List ℕ). capacity < len + length (pong_bytes own x)) d (subst (λ (x : List ℕ). capacity < len + length (pong_bytes x digest)) h full)
