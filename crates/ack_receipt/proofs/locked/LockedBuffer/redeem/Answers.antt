use Rattle.std.proofs.Common.{ℕ, ◌≡◌, ◌⊎◌, inl, inr, Bool, true, false, List, length, Result, Err, refl, ap, subst, sym, ◌∙◌}
use Rattle.std.specs.Prelude.{All, ◌↔◌}
use Rattle.std.proofs.lemmas.Bool.{false≢true}
use Rattle.book_audit.specs.declared.line.Leaf.{Leaf}
use Rattle.book_audit.specs.declared.line.Line.{Line}
use Rattle.ack_receipt.specs.Books.{Book, Syncs}
use Rattle.ack_receipt.specs.declared.past.Written.{Written}
use Rattle.buffer_store.specs.declared.fault.BufferFault.{BufferFault}
use Rattle.buffer_store.specs.declared.fault.BufferFault.TheVariants.{Failed, Fault, Memory}
use Rattle.ack_receipt.specs.Deliveries.{Pended}
use Rattle.ack_receipt.specs.declared.fault.RedeemFault.TheVariants.{Buffer, Stranger}
use Rattle.ack_receipt.specs.Redeeming.{AreApart, AreBefore, AreReceiptsOf, AreWritten, CanRedeem, IsRedeemable, IsUnredeemed}
use Rattle.ack_receipt.specs.Terms.{Terms}
use Rattle.ack_receipt.proofs.locked.LockedBuffer.redeem.Goals.{then-not-are_waiting-via-then-not-are_waiting, then-not-are_waiting-via-else-not-are_waiting+then-not-are_apart}
use Rattle.ack_receipt.proofs.locked.LockedBuffer.redeem.Goals as goal

-- the device isn't touched where all of them are synced
quiet_so : {D : Type 0} (R : Type 0) (old now new : Book D) (seen all : List Pended) → old ≡ now → seen ≡ all → (AreBefore old.synced seen → R × (new ≡ old)) → AreBefore now.synced all → new.buffer ≡ now.buffer
quiet_so R old now new seen all same is quiet before =
    let there = subst (λ (n : ℕ). AreBefore n seen) (sym (ap (λ b. b.synced) same)) (subst (λ (pendings : List Pended). AreBefore now.synced pendings) (sym is) before) in
    ap (λ b. b.buffer) ((quiet there).1 ∙ same)

-- receipts can be made of all of them
may : {D A : Type 0} (terms : Terms A) (leaf : Leaf) (old now : Book D) (first second all : List Pended) → leaf ≡ terms.leaf → old ≡ now → first ≡ all → second ≡ all
    → All (IsRedeemable leaf old.waiting) first → AreApart second → CanRedeem terms.leaf now.waiting all
may terms leaf old now first second all named same one other waits apart = (
  subst (λ (l : Leaf). All (IsRedeemable l now.waiting) all) named
      (subst (λ (b : Book _). All (IsRedeemable leaf b.waiting) all) same (subst (All (IsRedeemable leaf old.waiting)) one waits)),
  subst AreApart other apart,
)

-- nor can they where one of them doesn't wait, or is named twice
not_waiting : {D A : Type 0} (terms : Terms A) (leaf : Leaf) (old now : Book D) (seen all : List Pended) (answer : Bool) → leaf ≡ terms.leaf → old ≡ now → seen ≡ all
    → answer ≡ false → (All (IsRedeemable leaf old.waiting) seen → answer ≡ true) → CanRedeem terms.leaf now.waiting all → ⊥
not_waiting terms leaf old now seen all answer named same is wrong tells can =
    false≢true (sym wrong ∙ tells
    (subst (λ (l : Leaf). All (IsRedeemable l old.waiting) seen) (sym named)
    (subst (λ (b : Book _). All (IsRedeemable terms.leaf b.waiting) seen) (sym same) (subst (All (IsRedeemable terms.leaf now.waiting)) (sym is) can.0))))

not_apart : (seen all : List Pended) (answer : Bool) → seen ≡ all → answer ≡ false → (AreApart seen → answer ≡ true) → AreApart all → ⊥
not_apart seen all answer is wrong tells apart = false≢true (sym wrong ∙ tells (subst AreApart (sym is) apart))

-- then it is no stranger that was met
met_none : (fault : BufferFault) (P : Type 0) → P → (Buffer fault ≡ Stranger) ↔ (P → ⊥)
met_none fault P p = ((λ (e : Buffer fault ≡ Stranger). absurd (cc)), (λ no. absurd (no p)))

-- what was synced before the receipts were made
syncs_on : {D : Type 0} (old now between new : Book D) → old ≡ now → Syncs old between → new.buffer ≡ between.buffer → new.appends ≡ between.appends → new.synced ≡ between.synced → Syncs now new
syncs_on old now between new same (inl stays) buffer appends synced = inl (synced ∙ stays ∙ ap (λ b. b.synced) same)
syncs_on old now between new same (inr all) buffer appends synced =
    inr (synced ∙ all.0 ∙ sym (ap (λ (xs : List Line). length xs) appends), ap (λ b. b.staged) buffer ∙ all.1)

-- why the device gave none
unmet : (why : BufferFault) → (◌≡◌ {A = Result (Unit {0}) BufferFault} (Err why) (Err Failed)) ⊎ (◌≡◌ {A = Result (Unit {0}) BufferFault} (Err why) (Err Fault)) → IsUnredeemed (Buffer why)
unmet why (inl e) = inr (inl (ap (λ (f : BufferFault). Buffer f) (let z = e in cc)))
unmet why (inr e) = inr (inr (inr (ap (λ (f : BufferFault). Buffer f) (let z = e in cc))))

-- a fault that is the buffer's own is the device's
own_fault : (fault : BufferFault) (P : Type 0) → (◌≡◌ {A = Result (Unit {0}) BufferFault} (Err fault) (Err Failed) → P) → Buffer fault ≡ Buffer Failed → P
own_fault fault P tells e = tells (ap {B = Result (Unit {0}) BufferFault} (λ (f : BufferFault). Err f) (let same : fault ≡ Failed = cc in same))

pub made-requires-clause-can : goal.made-requires-clause-can
made-requires-clause-can g c =
    let waiting = ap (λ b. b.waiting) c.sync_for.ensures.rest in
    let waits = subst (λ (pendings : List Pended). All (IsRedeemable c.terms.inside.leaf c.self.inside.booked.waiting) pendings) c.deref.ensures.value (c.are_waiting.ensures.0 c.if-not-are_waiting.false) in (
      subst (λ (w : List (ℕ × Line)). All (IsRedeemable c.terms.inside.leaf w) c.args.pendings.items) (sym waiting) waits,
      subst (λ (pendings : List Pended). AreApart pendings) c.deref-else-not-are_waiting.ensures.value (c.are_apart.ensures.0 c.if-not-are_apart.false),
    )

pub made-requires-clause-synced : goal.made-requires-clause-synced
made-requires-clause-synced g c = subst (λ (pendings : List Pended). AreBefore c.sync_for.new.booked.synced pendings) c.deref-2.ensures.value c.in-Ok-sync_for.ensures.synced

pub returns-in-Ok-sync_for-clause-synced : goal.returns-in-Ok-sync_for-clause-synced
returns-in-Ok-sync_for-clause-synced g c =
    subst (λ (n : ℕ). AreBefore n c.args.pendings.items) (sym c.made.ensures.synced)
    (subst (λ (pendings : List Pended). AreBefore c.sync_for.new.booked.synced pendings) c.deref-2.ensures.value c.in-Ok-sync_for.ensures.synced)

pub returns-in-Ok-sync_for-clause-quiet : goal.returns-in-Ok-sync_for-clause-quiet
returns-in-Ok-sync_for-clause-quiet g c =
    λ before. c.made.ensures.buffer
    ∙ quiet_so _ c.self.inside.booked c.args.self.now c.sync_for.new.booked c.deref-2.result.now c.args.pendings.items c.self.view_is c.deref-2.ensures.value c.sync_for.ensures.quiet before

pub returns-in-Err-clause-quiet : goal.returns-in-Err-clause-quiet
returns-in-Err-clause-quiet g c =
    λ before. quiet_so _ c.self.inside.booked c.args.self.now c.sync_for.new.booked c.deref-2.result.now c.args.pendings.items c.self.view_is c.deref-2.ensures.value c.sync_for.ensures.quiet before

pub sync_for-requires : goal.sync_for-requires
sync_for-requires g c =
    subst (λ (pendings : List Pended). All (IsRedeemable c.terms.inside.leaf c.self.inside.booked.waiting) pendings) (c.deref.ensures.value ∙ sym c.deref-2.ensures.value)
    (c.are_waiting.ensures.0 c.if-not-are_waiting.false)

pub returns-then-has_failed-clause-stranger : goal.returns-then-has_failed-clause-stranger
returns-then-has_failed-clause-stranger g c =
    met_none Failed _ (may c.args.terms.now c.terms.inside.leaf c.self.inside.booked c.args.self.now c.deref.result.now c.deref-else-not-are_waiting.result.now c.args.pendings.items
    (ap (λ t. t.leaf) c.terms.view_is) c.self.view_is c.deref.ensures.value c.deref-else-not-are_waiting.ensures.value
    (c.are_waiting.ensures.0 c.if-not-are_waiting.false) (c.are_apart.ensures.0 c.if-not-are_apart.false))

pub returns-in_default-clause-stranger : goal.returns-in_default-clause-stranger
returns-in_default-clause-stranger g c =
    met_none Memory _ (may c.args.terms.now c.terms.inside.leaf c.self.inside.booked c.args.self.now c.deref.result.now c.deref-else-not-are_waiting.result.now c.args.pendings.items
    (ap (λ t. t.leaf) c.terms.view_is) c.self.view_is c.deref.ensures.value c.deref-else-not-are_waiting.ensures.value
    (c.are_waiting.ensures.0 c.if-not-are_waiting.false) (c.are_apart.ensures.0 c.if-not-are_apart.false))

pub returns-in-Err-clause-stranger : goal.returns-in-Err-clause-stranger
returns-in-Err-clause-stranger g c =
    met_none c.in-Err.fault _ (may c.args.terms.now c.terms.inside.leaf c.self.inside.booked c.args.self.now c.deref.result.now c.deref-else-not-are_waiting.result.now c.args.pendings.items
    (ap (λ t. t.leaf) c.terms.view_is) c.self.view_is c.deref.ensures.value c.deref-else-not-are_waiting.ensures.value
    (c.are_waiting.ensures.0 c.if-not-are_waiting.false) (c.are_apart.ensures.0 c.if-not-are_apart.false))

pub returns-in-Ok-sync_for-clause-ok : goal.returns-in-Ok-sync_for-clause-ok
returns-in-Ok-sync_for-clause-ok g c =
    subst (λ (t : Terms _). AreReceiptsOf t.leaf c.args.pendings.items c.made.result.items) c.terms.view_is c.made.ensures.made

pub returns-in-Ok-sync_for-clause-written : goal.returns-in-Ok-sync_for-clause-written
returns-in-Ok-sync_for-clause-written g c =
    subst (λ (lines : List Written). AreWritten c.args.pendings.items c.made.result.items lines c.made.new.booked.lines)
    (ap (λ b. b.lines) c.sync_for.ensures.rest ∙ ap (λ b. b.lines) c.self.view_is) c.made.ensures.written

pub returns-in-Ok-sync_for-clause-syncs : goal.returns-in-Ok-sync_for-clause-syncs
returns-in-Ok-sync_for-clause-syncs g c =
    syncs_on c.self.inside.booked c.args.self.now c.sync_for.new.booked c.made.new.booked c.self.view_is c.sync_for.ensures.syncs c.made.ensures.buffer c.made.ensures.appends c.made.ensures.synced

pub returns-in-Ok-sync_for-clause-chunks : goal.returns-in-Ok-sync_for-clause-chunks
returns-in-Ok-sync_for-clause-chunks g c =
    ap (λ h. h.chunks) c.made.ensures.buffer ∙ c.sync_for.ensures.chunks ∙ ap (λ b. b.buffer.chunks) c.self.view_is

pub returns-in-Ok-sync_for-clause-appends : goal.returns-in-Ok-sync_for-clause-appends
returns-in-Ok-sync_for-clause-appends g c =
    c.made.ensures.appends ∙ ap (λ b. b.appends) c.sync_for.ensures.rest ∙ ap (λ b. b.appends) c.self.view_is

pub returns-in-Err-clause-syncs : goal.returns-in-Err-clause-syncs
returns-in-Err-clause-syncs g c = subst (λ (b : Book _). Syncs b c.sync_for.new.booked) c.self.view_is c.sync_for.ensures.syncs

pub returns-in-Err-clause-only : goal.returns-in-Err-clause-only
returns-in-Err-clause-only g c = unmet c.in-Err.fault c.in-Err.ensures.only

pub returns-in-Err-clause-failed : goal.returns-in-Err-clause-failed
returns-in-Err-clause-failed g c = λ e. sym (ap (λ b. b.buffer.failed) c.self.view_is) ∙ own_fault c.in-Err.fault _ c.in-Err.ensures.failed e

pub returns-then-not-are_waiting-clause-stranger : goal.returns-then-not-are_waiting-clause-stranger
returns-then-not-are_waiting-clause-stranger g c = (
  (λ _ can. elim c.then-not-are_waiting.branch [
    | then-not-are_waiting-via-then-not-are_waiting w ↦ not_waiting c.args.terms.now c.terms.inside.leaf c.self.inside.booked c.args.self.now c.deref.result.now c.args.pendings.items c.are_waiting.result
        (ap (λ t. t.leaf) c.terms.view_is) c.self.view_is c.deref.ensures.value w.if-not-are_waiting.true c.are_waiting.ensures.1 can
    | then-not-are_waiting-via-else-not-are_waiting+then-not-are_apart w ↦ not_apart w.deref-else-not-are_waiting.result.now c.args.pendings.items w.are_apart.result
        w.deref-else-not-are_waiting.ensures.value w.if-not-are_apart.true w.are_apart.ensures.1 can.1
  ]),
  (λ _. refl),
)

pub returns-then-not-are_waiting-clause-quiet : goal.returns-then-not-are_waiting-clause-quiet
returns-then-not-are_waiting-clause-quiet g c = λ _. refl

pub returns-then-has_failed-clause-failed : goal.returns-then-has_failed-clause-failed
returns-then-has_failed-clause-failed g c = λ _. sym (ap (λ b. b.buffer.failed) c.self.view_is) ∙ sym c.has_failed.ensures ∙ c.if-has_failed.true

pub returns-in-Err-clause-chunks : goal.returns-in-Err-clause-chunks
returns-in-Err-clause-chunks g c = c.sync_for.ensures.chunks ∙ ap (λ b. b.buffer.chunks) c.self.view_is

pub returns-in-Err-clause-appends : goal.returns-in-Err-clause-appends
returns-in-Err-clause-appends g c = ap (λ b. b.appends) c.sync_for.ensures.rest ∙ ap (λ b. b.appends) c.self.view_is

pub returns-in-Err-clause-lines : goal.returns-in-Err-clause-lines
returns-in-Err-clause-lines g c = ap (λ b. b.lines) c.sync_for.ensures.rest ∙ ap (λ b. b.lines) c.self.view_is

pub returns-in-Err-clause-count : goal.returns-in-Err-clause-count
returns-in-Err-clause-count g c = c.in-Err.ensures.count ∙ ap (λ b. b.synced) c.self.view_is
