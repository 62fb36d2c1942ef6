-- What a call's answer says of its plan.
use Rattle.std.proofs.Common.{Bor, nat_eq, ◌+◌, ◌≡◌, ◌≢◌, ◌⊎◌, inl, inr, ◌↔◌, ℕ, ◌<◌, ◌≤◌, Bool, true, false, List, length, Option, Some, None, IsSome, refl, sym, ap, subst, ◌∙◌, arith}
use Rattle.std.specs.Prelude.{Result, Ok, Err, IsSomeAnd, OnOk, IfOk, is_err, IsTrue, is_some, option_copied, ◌&&◌, if◌then◌else◌}
use Rattle.std.proofs.lemmas.Bool.{false≢true, eq-eqb, eqb-true}
use Rattle.book_audit.specs.declared.line.Line.{Line}
use Rattle.sink_series.specs.Views.{StoredView}
use Rattle.buffer_state.specs.State.{State, Chunk, chunk_at}
use Rattle.buffer_state.specs.Steps.{CanAppend}
use Rattle.buffer_state.specs.declared.limits.AppendFault.{AppendFault}
use Rattle.buffer_store.specs.Refusals.{of_plan}
use Rattle.buffer_store.proofs.Plans.{never_fault}
use Rattle.buffer_store.specs.declared.fault.BufferFault.{BufferFault}
use Rattle.buffer_store.specs.declared.fault.BufferFault.TheVariants as fault

-- an error that both answer
pub err_of : {T U : Type 0} (r : Result T BufferFault) (s : Result U BufferFault) (e x : BufferFault) → r ≡ Err e → s ≡ Err e → r ≡ Err x → s ≡ Err x
err_of r s e x one other q = (let same : e ≡ x = cc (sym one ∙ q) in other ∙ ap Err same)

-- a plan's refusal isn't the device's in this call
pub plan_quiet : (failed : Bool) (p : Result ℕ AppendFault) (r : Result ℕ BufferFault) → (r ≡ Err fault.Failed) ↔ (failed ≡ true)
    → (failed ≡ false → (f : AppendFault) → p ≡ Err f → r ≡ Err (of_plan f)) → (failed ≡ false → (s : ℕ) → p ≡ Ok s → r ≡ Ok s) → r ≡ Err fault.Fault → ⊥
plan_quiet true p r failed refused accepted q = cc (sym (failed.1 refl) ∙ q)
plan_quiet false (Ok s) r failed refused accepted q = cc (sym (accepted refl s refl) ∙ q)
plan_quiet false (Err f) r failed refused accepted q = never_fault f r (refused refl f refl) q

-- where an append goes

is_some_of : {X : Type 0} (o : Option X) (P : X → Type 0) → IsSomeAnd o P → IsSome o
is_some_of None P h = absurd h
is_some_of (Some x) P h = refl

pub place_of_plan : (c : State) (s : ℕ) (tag : List ℕ) (entries : List (List ℕ)) → CanAppend c s tag entries → IsSome (chunk_at c s) ⊎ (c.next ≤ s)
place_of_plan c s tag entries can = elim can.place [ inl here ↦ inl (is_some_of (chunk_at c s) _ here) | inr new ↦ inr new.0 ]

pub below_of_plan : (c : State) (s : ℕ) → s ≤ c.next → chunk_at c c.next ≡ None → IsSome (chunk_at c s) → s < c.next
below_of_plan c s near free live =
    let ne : s ≢ c.next = λ e. false≢true (subst (λ (o : Option Chunk). IsSome o) (subst (λ (t : ℕ). chunk_at c t ≡ None) (sym e) free) live) in
    omega arith

-- two lines are the same where all that they say is
pub same_line : (a l : Line) (b : Bool) → b ≡ (nat_eq a.delivery l.delivery && (nat_eq a.serial l.serial && nat_eq a.count l.count)) → IsTrue b ↔ (a ≡ l)
same_line a l b e = (there, back)
  where
    there : IsTrue b → a ≡ l
    there t = by (nat_eq a.delivery l.delivery) refl (nat_eq a.serial l.serial) refl (nat_eq a.count l.count) refl (sym e ∙ t)
      where
        by : (x : Bool) → nat_eq a.delivery l.delivery ≡ x → (y : Bool) → nat_eq a.serial l.serial ≡ y → (z : Bool) → nat_eq a.count l.count ≡ z → (x && (y && z)) ≡ true → a ≡ l
        by true p true q true r h = λ i. record { delivery = eqb-true a.delivery l.delivery p i; serial = eqb-true a.serial l.serial q i; count = eqb-true a.count l.count r i }
        by true p true q false r h = absurd (false≢true h)
        by true p false q z r h = absurd (false≢true h)
        by false p y q z r h = absurd (false≢true h)

    back : a ≡ l → IsTrue b
    back same = e ∙ ap (λ (k : Line). nat_eq k.delivery l.delivery && (nat_eq k.serial l.serial && nat_eq k.count l.count)) same
        ∙ ap (λ (x : Bool). x && (nat_eq l.serial l.serial && nat_eq l.count l.count)) (eq-eqb l.delivery l.delivery refl) ∙ ap (λ (x : Bool). x && nat_eq l.count l.count) (eq-eqb l.serial l.serial refl) ∙ eq-eqb l.count l.count refl

-- what is lent is what is there
pub lent_is : (lent : Option (Bor Line)) (o : Option Line) (x : Bor Line) → option_copied lent ≡ o → lent ≡ Some x → o ≡ Some x.now
lent_is lent o x e at = sym e ∙ ap option_copied at

pub lent_none : (lent : Option (Bor Line)) (o : Option Line) → option_copied lent ≡ o → lent ≡ None → o ≡ None
lent_none lent o e at = sym e ∙ ap option_copied at

pub some_long : {X : Type 0} (o : Option X) (x : X) (n m : ℕ) → o ≡ Some x → n + (if is_some o then 1 else 0) ≡ m → n + 1 ≡ m
some_long o x n m is e = subst (λ (p : Option _). n + (if is_some p then 1 else 0) ≡ m) is e

pub some_short : {X : Type 0} (o : Option X) (n m : ℕ) → n ≡ m + (if is_some o then 0 else 1) → n ≤ m + 1
some_short None n m e = omega arith
some_short (Some x) n m e = omega arith

pub if_ok : {T E : Type 0} (r : Result T E) (P Q : T → Type 0) → ((x : T) → P x → Q x) → IfOk r P → IfOk r Q
if_ok (Ok x) P Q f h = f x h
if_ok (Err e) P Q f h = h

pub put_at : {E : Type 0} (r : Result (Option Line) E) (P : Type 0) (n m : ℕ) → is_err r ≡ false → OnOk r P → IfOk r (λ old. n ≡ m + (if is_some old then 0 else 1)) → P × (n ≤ m + 1)
put_at (Ok old) P n m e p len = (p, some_short old n m len)
put_at (Err x) P n m e p len = absurd (cc e)

-- entries that were read are those in a sink exactly where the chunk is, whose tag is looked at
-- before
pub whole_of_like : (o : Option Chunk) (stored : StoredView) (read : List (List ℕ)) (b : Bool) → IsSomeAnd o (λ chunk. read ≡ chunk.entries) → IsTrue b ↔ (read ≡ stored.entries)
    → (IsTrue b → IsSomeAnd o (λ chunk. (chunk.tag ≡ stored.tag) × (length stored.entries ≡ length chunk.entries)))
    → IsTrue b ↔ IsSomeAnd o (λ chunk. (chunk.tag ≡ stored.tag) × (chunk.entries ≡ stored.entries))
whole_of_like None stored read b is same like = absurd is
whole_of_like (Some chunk) stored read b is same like = ((λ t. ((like t).0, sym is ∙ same.0 t)), (λ whole. same.1 (is ∙ whole.1)))
