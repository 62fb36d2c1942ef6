-- What a call on a buffer leaves alone doesn't depend on what it gives.
use Rattle.std.proofs.Common.{◌≡◌, ◌∙◌, true, false, Result, Ok, Err, refl, sym, ap, subst}
use Rattle.std.specs.Prelude.{◌↔◌}
use Rattle.std.proofs.lemmas.Bool.{false≢true}
use Rattle.buffer_store.specs.Buffers.{Held}
use Rattle.buffer_store.specs.declared.fault.BufferFault.{BufferFault}
use Rattle.buffer_store.specs.declared.fault.BufferFault.TheVariants.{Failed, Fault, Memory}
use Rattle.ack_receipt.specs.Books.{Steady}

pub steady_ok : {D T U : Type 0} (old new : Held D) (one : T) (other : U) → Steady old new (Ok one) → Steady old new (Ok other)
steady_ok old new one other s = record {
  failed = ((λ e. absurd (cc e)), (λ f. absurd (cc (s.failed.1 f))));
  flags = record { fails = λ e. absurd (cc e); stays = λ ne. s.flags.stays (λ e. absurd (cc e)) };
  limits = s.limits;
}

same_fault : {T U : Type 0} (a b : BufferFault) → ◌≡◌ {A = Result T BufferFault} (Err a) (Err b) → ◌≡◌ {A = Result U BufferFault} (Err a) (Err b)
same_fault {T} {U} a b e = ap {B = Result U BufferFault} (λ (f : BufferFault). Err f) (let same : a ≡ b = cc in same)

steady_err : {D T U : Type 0} (old new : Held D) (why : BufferFault) → Steady {T = U} old new (Err why) → Steady {T = T} old new (Err why)
steady_err {D} {T} {U} old new why s = record {
  failed = ((λ e. s.failed.0 (same_fault why Failed e)), (λ f. same_fault why Failed (s.failed.1 f)));
  flags = record { fails = λ e. s.flags.fails (same_fault why Fault e); stays = λ ne. s.flags.stays (λ e. ne (same_fault why Fault e)) };
  limits = s.limits;
}

-- so where a refusal is passed on
pub steady_refused : {D T U : Type 0} (old now new : Held D) (why given : BufferFault) (result : Result T BufferFault) → old ≡ now → result ≡ Err given → given ≡ why
    → Steady {T = U} old new (Err why) → Steady now new result
steady_refused {D} {T} {U} old now new why given result there is same s =
    subst (λ (h : Held D). Steady h new result) there
    (subst (λ (r : Result T BufferFault). Steady old new r) (sym (is ∙ ap {B = Result T BufferFault} (λ (f : BufferFault). Err f) same)) (steady_err {T = T} {U = U} old new why s))

-- or nothing was asked of the device
pub steady_unasked : {D T U : Type 0} (old now : Held D) (why given : BufferFault) (result : Result T BufferFault) → old ≡ now → result ≡ Err given → given ≡ why
    → (◌≡◌ {A = Result U BufferFault} (Err why) (Err Failed)) ↔ (old.failed ≡ true) → (◌≡◌ {A = Result U BufferFault} (Err why) (Err Fault) → ⊥) → Steady now now result
steady_unasked {D} {T} {U} old now why given result there is same failed quiet =
    subst (λ (h : Held D). Steady h h result) there
    (steady_refused {T = T} {U = U} old old old why given result refl is same
    (record { failed = failed; flags = record { fails = λ e. absurd (quiet e); stays = λ _. refl }; limits = refl }))

-- nor where there was no memory
pub steady_memory : {D T : Type 0} (old now : Held D) (given : BufferFault) (result : Result T BufferFault) → old ≡ now → result ≡ Err given → given ≡ Memory → old.failed ≡ false
    → Steady now now result
steady_memory {D} {T} old now given result there is same going =
    steady_unasked {T = T} {U = T} old now Memory given result there is same
    ((λ (e : ◌≡◌ {A = Result T BufferFault} (Err Memory) (Err Failed)). absurd (cc)), (λ f. absurd (false≢true (sym going ∙ f))))
    (λ (e : ◌≡◌ {A = Result T BufferFault} (Err Memory) (Err Fault)). cc)
