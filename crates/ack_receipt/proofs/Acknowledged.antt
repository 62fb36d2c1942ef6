-- What is read of bytes that are an acknowledgement, and nothing else.
use Rattle.std.proofs.Common.{ℕ, ◌≡◌, ◌-◌, ◌↔◌, ◌⊎◌, inl, inr, List, Bool, length, take, refl, ap, sym, subst, ◌∙◌, arith}
use Rattle.std.specs.Prelude.{codes, slice_range, IsTrue}
use Rattle.std.specs.Bool.{Decides}
use Rattle.std.specs.List.{concat}
use Rattle.std.proofs.lemmas.List.{take_all}
use Rattle.event_modes.specs.declared.acks.AckRead.{AckRead}
use Rattle.event_modes.specs.declared.acks.AckRead.TheVariants as ack
use Rattle.event_modes.specs.declared.fault.ModeFault.{ModeFault}
use Rattle.msgpack_bytes.specs.Containers.{pair_items}
use Rattle.event_modes.specs.Acks.{IsAckAt, AnswersAck}
use Rattle.event_modes.specs.Acknowledgement.{IsAcknowledgement}
use Rattle.event_modes.proofs.Acked.{placed, spanned, acknowledged_at}

-- the content lies somewhere in the acknowledgement, which is all of the bytes
pub record Lies (bytes content : List ℕ) : Type 0 where
  pub start : ℕ
  pub end : ℕ
  pub at : IsAckAt bytes start end (length bytes)
  pub span : slice_range bytes start end ≡ content

lies : (bytes content : List ℕ) → IsAcknowledgement bytes content → Lies bytes content
lies bytes content a =
    let behind : ℕ = length (concat (pair_items a.last.after)) in
    let s = spanned bytes content behind (placed bytes (codes "ack") a.value content a.pairs behind a.last a.map refl a.text) in
    record {
      start = length bytes - behind - length content;
      end = length bytes - behind;
      at = acknowledged_at bytes content a.value behind a.pairs a.item a.map a.last refl a.text s;
      span = s.span;
    }

-- the only answer to bytes
abbrev pub IsOnly : List ℕ → AckRead → Type 0
IsOnly bytes read = (other : AckRead) → AnswersAck bytes other → other ≡ read

-- where the answer takes all of the bytes, they are an acknowledgement of what lies where it says
pub takes_all : (bytes chunk : List ℕ) (start end next : ℕ) (same : Bool) → IsAckAt bytes start end next → IsOnly bytes (ack.Value start end next) → next ≡ length bytes
    → Decides same (slice_range bytes start end ≡ chunk) → IsTrue same ↔ IsAcknowledgement bytes chunk
takes_all bytes chunk start end next same at only all tells = (there, back)
  where
    there : IsTrue same → IsAcknowledgement bytes chunk
    there t =
        let e : take next bytes ≡ bytes = take_all next bytes (omega arith) in
        subst (IsAcknowledgement bytes) (tells.0 t) (subst (λ (z : List ℕ). IsAcknowledgement z (slice_range bytes start end)) e at.is)

    back : IsAcknowledgement bytes chunk → IsTrue same
    back a =
        let l = lies bytes chunk a in
        let e : ack.Value l.start l.end (length bytes) ≡ ack.Value start end next = only (ack.Value l.start l.end (length bytes)) l.at in
        let s : l.start ≡ start = cc in
        let t : l.end ≡ end = cc in
        tells.1 (sym (ap (λ (k : ℕ). slice_range bytes k l.end) s ∙ ap (λ (k : ℕ). slice_range bytes start k) t) ∙ l.span)

-- where it leaves bytes behind, they are none
pub leaves_some : (bytes chunk : List ℕ) (start end next : ℕ) → IsOnly bytes (ack.Value start end next) → (next ≡ length bytes → ⊥) → IsAcknowledgement bytes chunk → ⊥
leaves_some bytes chunk start end next only some a =
    let l = lies bytes chunk a in
    let e : ack.Value l.start l.end (length bytes) ≡ ack.Value start end next = only (ack.Value l.start l.end (length bytes)) l.at in
    some (cc)

-- where nothing is read of them, they are none
pub is_none : (bytes chunk : List ℕ) (read : AckRead) → (read ≡ ack.Need) ⊎ ((fault : ModeFault) × (read ≡ ack.Bad fault)) → IsOnly bytes read → IsAcknowledgement bytes chunk → ⊥
is_none bytes chunk read how only a =
    let l = lies bytes chunk a in
    other how (only (ack.Value l.start l.end (length bytes)) l.at)
  where
    other : {start end next : ℕ} → (read ≡ ack.Need) ⊎ ((fault : ModeFault) × (read ≡ ack.Bad fault)) → ack.Value start end next ≡ read → ⊥
    other (inl e) f = cc
    other (inr e) f = let g = e.1 in cc
