use Rattle.std.proofs.Common.{rules, inl, false, Bool, List, ◌≡◌, ◌∙◌, ◌++◌, ◌∷◌, [], ◌+◌, ◌<◌, ◌≤◌, cond, Some, None, ℕ, refl, sym, ap, subst, length, arith}
use Rattle.std.specs.Prelude.{Ok, Err}
use Rattle.std.specs.Ordering.{nat_cmp}
use Rattle.std.specs.BTreeMap.{is_at}
use Rattle.std.proofs.lemmas.List.{length_push}
use Rattle.book_audit.specs.declared.line.Line.{Line}
use Rattle.buffer_state.specs.State.{State, chunk_at}
use Rattle.buffer_state.specs.Steps.{CanAppend, appended, planned}
use Rattle.ack_receipt.specs.Told.{ToldPast}
use Rattle.ack_receipt.specs.Books.{Book, IsAccounted, IsSound, book_of, waiting_at}
use Rattle.book_audit.specs.Audits.{SameLines}
use Rattle.ack_receipt.specs.Books.{Appends, Steady, Unchanged}
use Rattle.buffer_store.specs.declared.fault.BufferFault.TheVariants as fault
use Rattle.buffer_state.proofs.Serials.{at_itself}
use Rattle.buffer_store.proofs.Told.{flags_of}
use Rattle.ack_receipt.proofs.Ends.{told, on_err, kept_at, refuses_as, refuses_after, refuses_none, steady_as, steady_err, steady_ok, steady_memory, unchanged, unchanged_parts, sound_again, sound_roomy, none_behind, gone_again}
use Rattle.ack_receipt.proofs.Accounts.{accounted_appended}
use Rattle.ack_receipt.proofs.Answered.{below_of_plan, place_of_plan, put_at}
use Rattle.ack_receipt.proofs.Sound.{sound_pending}
use Rattle.ack_receipt.proofs.booked.Booked.append_pending.Goals as goal

pub overflow_add-self : goal.overflow_add-self
overflow_add-self g c = let n = subst (λ (b : Book g.row.D.Denot). length b.appends < 18446744073709551615) (sym c.self.view_is) c.in_ok-serial.ensures.number in let y = c.self.invariant.0 in search (rules, arith)

pub invariant_of-self-2 : goal.invariant_of-self-2
invariant_of-self-2 g c =
    let i = c.self.inside in
    let h = c.self.invariant.2 in
    let s = c.in_ok-serial.serial in
    let can = subst (λ (b : Book g.row.D.Denot). CanAppend b.buffer.chunks s c.args.tag.now c.args.entries.now) (sym c.self.view_is) c.in_ok-serial.ensures.can in
    let near = subst (λ (b : Book g.row.D.Denot). s ≤ b.buffer.chunks.next) (sym c.self.view_is) c.in_ok-serial.ensures.near in
    let free = subst (λ (b : Book g.row.D.Denot). chunk_at b.buffer.chunks b.buffer.chunks.next ≡ None) (sym c.self.view_is) c.in_ok-serial.ensures.free in
    let x : Line = record { delivery = c.args.delivery; serial = s; count = c.count.result } in
    let t = c.in_default.field-0.serial in
    let planned_at : planned i.buffer.limits i.buffer.chunks c.args.tag.now c.args.entries.now ≡ Ok s = subst (λ (b : Book g.row.D.Denot). planned b.buffer.limits b.buffer.chunks c.args.tag.now c.args.entries.now ≡ Ok s) (sym c.self.view_is) c.in_ok-serial.ensures.place in
    let same : t ≡ s = cc (sym c.in_default.ensures.place ∙ planned_at) in
    let account : IsAccounted c.stage.new.self.chunks i.past.first (i.past.appends ++ x ∷ []) i.past.removed =
    subst (λ (z : State). IsAccounted z i.past.first (i.past.appends ++ x ∷ []) i.past.removed) (sym (c.in_default.ensures.ok ∙ ap (λ (k : ℕ). appended k c.args.tag.now c.args.entries.now i.buffer.chunks) same))
    (accounted_appended i.buffer.chunks i.past.first i.past.appends i.past.removed h.accounted s c.args.tag.now c.args.entries.now x refl c.count.ensures (place_of_plan i.buffer.chunks s c.args.tag.now c.args.entries.now can) (below_of_plan i.buffer.chunks s near free)) in
    let y : length i.past.appends ≡ i.count = sym c.self.invariant.0 in
    let put : ((n : ℕ) → waiting_at c.insert.new.self.entries n ≡ cond (is_at (nat_cmp i.count) n) (Some x) (waiting_at i.waiting.entries n)) × (length c.insert.new.self.entries ≤ length i.waiting.entries + 1) = (let p = put_at c.insert.result _ _ _ (sym c.is_err.ensures.value ∙ c.if-is_err.false) c.insert.ensures.updates c.insert.ensures.len in (p.0.0, p.1)) in
    subst (λ (t : ToldPast). (i.count + 1 ≡ length t.appends) × (i.synced ≡ t.synced) × IsSound (book_of c.stage.new.self t.first t.appends t.lines c.reserve.new.self c.insert.new.self.entries t.synced t.removed)) (sym c.then_append.ensures) (
      ap (λ (n : ℕ). n + 1) c.self.invariant.0 ∙ sym (length_push i.past.appends x),
      c.self.invariant.1,
      sound_pending i.buffer i.past.first i.past.appends i.past.lines i.lines i.waiting.entries i.past.synced i.past.removed h c.stage.new.self x c.reserve.new.self c.insert.new.self.entries account c.in_ok-reserve.ensures.same (let r = c.in_ok-reserve.ensures.room in let n = c.len.ensures.len in omega arith)
          (subst (λ (k : ℕ). (n : ℕ) → waiting_at c.insert.new.self.entries n ≡ cond (is_at (nat_cmp k) n) (Some x) (waiting_at i.waiting.entries n)) (sym y) put.0) put.1,
    )

pub returns-in_err-serial-clause-same : goal.returns-in_err-serial-clause-same
returns-in_err-serial-clause-same g c = on_err c.from_residual.result (Unchanged c.args.self.now c.args.self.now) (unchanged c.args.self.now)

pub returns-in_err-serial-clause-refused : goal.returns-in_err-serial-clause-refused
returns-in_err-serial-clause-refused g c = refuses_as c.args.tag.now c.args.entries.now c.args.self.now c.in_err-serial.field-0.0 (Err c.in_err-serial.field-0.0) c.from_residual.result refl (told c.in_err-serial.field-0.0 c.from_residual.result c.from_residual.ensures.1) c.in_err-serial.ensures.refused

pub returns-in_err-serial-clause-steady : goal.returns-in_err-serial-clause-steady
returns-in_err-serial-clause-steady g c = steady_as c.args.self.now.buffer c.in_err-serial.field-0.0 (Err c.in_err-serial.field-0.0) c.from_residual.result refl (told c.in_err-serial.field-0.0 c.from_residual.result c.from_residual.ensures.1) c.in_err-serial.ensures.failed c.in_err-serial.ensures.quiet

pub returns-in_err-reserve-clause-lines : goal.returns-in_err-reserve-clause-lines
returns-in_err-reserve-clause-lines g c = (ap (λ (b : Book g.row.D.Denot). b.lines) c.self.view_is, subst (λ (b : Book g.row.D.Denot). SameLines b.pages c.reserve.new.self) c.self.view_is c.in_err-reserve.ensures.same)

pub returns-in_err-reserve-clause-syncs : goal.returns-in_err-reserve-clause-syncs
returns-in_err-reserve-clause-syncs g c = inl (ap (λ (b : Book g.row.D.Denot). b.synced) c.self.view_is)

pub returns-in_err-reserve-clause-same : goal.returns-in_err-reserve-clause-same
returns-in_err-reserve-clause-same g c = let i = c.self.inside in on_err c.from_residual-in_err-reserve.result _ (subst (λ (b : Book g.row.D.Denot). Unchanged b (book_of i.buffer i.past.first i.past.appends i.past.lines c.reserve.new.self i.waiting.entries i.past.synced i.past.removed)) c.self.view_is (unchanged_parts i.buffer i.past.first i.past.appends i.past.lines i.lines i.waiting.entries i.past.synced i.past.removed i.buffer c.reserve.new.self i.waiting.entries refl c.in_err-reserve.ensures.same (λ n. refl)))

pub returns-in_err-reserve-clause-refused : goal.returns-in_err-reserve-clause-refused
returns-in_err-reserve-clause-refused g c = refuses_after c.args.tag.now c.args.entries.now c.args.self.now c.in_ok-serial.serial c.from_residual-in_err-reserve.result (inl (told fault.Memory c.from_residual-in_err-reserve.result c.from_residual-in_err-reserve.ensures.1)) c.in_ok-serial.ensures.refused

pub returns-in_err-reserve-clause-steady : goal.returns-in_err-reserve-clause-steady
returns-in_err-reserve-clause-steady g c = subst (λ (b : Book g.row.D.Denot). Steady b.buffer c.self.inside.buffer c.from_residual-in_err-reserve.result) c.self.view_is (steady_memory c.self.inside.buffer c.from_residual-in_err-reserve.result (told fault.Memory c.from_residual-in_err-reserve.result c.from_residual-in_err-reserve.ensures.1) (subst (λ (b : Book g.row.D.Denot). b.buffer.failed ≡ false) (sym c.self.view_is) c.in_ok-serial.ensures.going))

pub invariant_of-self : goal.invariant_of-self
invariant_of-self g c = let i = c.self.inside in (c.self.invariant.0, c.self.invariant.1, sound_roomy i.buffer i.past.first i.past.appends i.past.lines i.lines i.waiting.entries i.past.synced i.past.removed c.reserve.new.self c.in_err-reserve.ensures.same c.reserve.ensures.kept c.self.invariant.2)

pub returns-then-is_err-clause-lines : goal.returns-then-is_err-clause-lines
returns-then-is_err-clause-lines g c = (ap (λ (b : Book g.row.D.Denot). b.lines) c.self.view_is, subst (λ (b : Book g.row.D.Denot). SameLines b.pages c.reserve.new.self) c.self.view_is c.in_ok-reserve.ensures.same)

pub returns-then-is_err-clause-syncs : goal.returns-then-is_err-clause-syncs
returns-then-is_err-clause-syncs g c = inl (ap (λ (b : Book g.row.D.Denot). b.synced) c.self.view_is)

pub returns-then-is_err-clause-same : goal.returns-then-is_err-clause-same
returns-then-is_err-clause-same g c = let i = c.self.inside in subst (λ (b : Book g.row.D.Denot). Unchanged b (book_of i.buffer i.past.first i.past.appends i.past.lines c.reserve.new.self c.insert.new.self.entries i.past.synced i.past.removed)) c.self.view_is (unchanged_parts i.buffer i.past.first i.past.appends i.past.lines i.lines i.waiting.entries i.past.synced i.past.removed i.buffer c.reserve.new.self c.insert.new.self.entries refl c.in_ok-reserve.ensures.same (λ n. ap (λ (w : List (ℕ × Line)). waiting_at w n) (kept_at c.insert.result _ (sym c.is_err.ensures.value ∙ c.if-is_err.true) c.insert.ensures.err)))

pub returns-then-is_err-clause-refused : goal.returns-then-is_err-clause-refused
returns-then-is_err-clause-refused g c = refuses_after c.args.tag.now c.args.entries.now c.args.self.now c.in_ok-serial.serial (Err fault.Memory) (inl refl) c.in_ok-serial.ensures.refused

pub returns-then-is_err-clause-steady : goal.returns-then-is_err-clause-steady
returns-then-is_err-clause-steady g c = subst (λ (b : Book g.row.D.Denot). Steady b.buffer c.self.inside.buffer (Err fault.Memory)) c.self.view_is (steady_memory c.self.inside.buffer (Err fault.Memory) refl (subst (λ (b : Book g.row.D.Denot). b.buffer.failed ≡ false) (sym c.self.view_is) c.in_ok-serial.ensures.going))

pub returns-in-Err-clause-lines : goal.returns-in-Err-clause-lines
returns-in-Err-clause-lines g c = (ap (λ (b : Book g.row.D.Denot). b.lines) c.self.view_is, subst (λ (b : Book g.row.D.Denot). SameLines b.pages c.reserve.new.self) c.self.view_is c.in_ok-reserve.ensures.same)

pub returns-in-Err-clause-syncs : goal.returns-in-Err-clause-syncs
returns-in-Err-clause-syncs g c = inl (ap (λ (b : Book g.row.D.Denot). b.synced) c.self.view_is)

pub returns-in-Err-clause-same : goal.returns-in-Err-clause-same
returns-in-Err-clause-same g c = let i = c.self.inside in subst (λ (b : Book g.row.D.Denot). Unchanged b (book_of c.stage.new.self i.past.first i.past.appends i.past.lines c.reserve.new.self c.remove.new.self.entries i.past.synced i.past.removed)) c.self.view_is (unchanged_parts i.buffer i.past.first i.past.appends i.past.lines i.lines i.waiting.entries i.past.synced i.past.removed c.stage.new.self c.reserve.new.self c.remove.new.self.entries c.in-Err.ensures.rest.rest.err c.in_ok-reserve.ensures.same (gone_again i.waiting.entries c.insert.new.self.entries c.remove.new.self.entries i.count (record { delivery = c.args.delivery; serial = c.in_ok-serial.serial; count = c.count.result }) (put_at c.insert.result _ _ _ (sym c.is_err.ensures.value ∙ c.if-is_err.false) c.insert.ensures.updates c.insert.ensures.len).0.0 c.remove.ensures.updates.0 (subst (λ (k : ℕ). waiting_at i.waiting.entries k ≡ None) (sym c.self.invariant.0) (none_behind i.buffer i.past.first i.past.appends i.past.lines i.lines i.waiting.entries i.past.synced i.past.removed c.self.invariant.2))))

pub returns-in-Err-clause-refused : goal.returns-in-Err-clause-refused
returns-in-Err-clause-refused g c = refuses_as c.args.tag.now c.args.entries.now c.args.self.now c.in-Err.fault (Err c.in-Err.fault) (Err c.in-Err.fault) refl refl (refuses_after c.args.tag.now c.args.entries.now c.args.self.now c.in_ok-serial.serial (Err c.in-Err.fault) (c.in-Err.ensures.accepted (subst (λ (b : Book g.row.D.Denot). b.buffer.failed ≡ false) (sym c.self.view_is) c.in_ok-serial.ensures.going) c.in_ok-serial.serial (subst (λ (b : Book g.row.D.Denot). planned b.buffer.limits b.buffer.chunks c.args.tag.now c.args.entries.now ≡ Ok c.in_ok-serial.serial) (sym c.self.view_is) c.in_ok-serial.ensures.place)) c.in_ok-serial.ensures.refused)

pub returns-in-Err-clause-steady : goal.returns-in-Err-clause-steady
returns-in-Err-clause-steady g c = let s = c.in-Err.ensures.rest.rest in subst (λ (b : Book g.row.D.Denot). Steady b.buffer c.stage.new.self (Err c.in-Err.fault)) c.self.view_is (steady_err c.self.inside.buffer c.stage.new.self c.in-Err.fault (Err c.in-Err.fault) (Err c.in-Err.fault) refl refl s.failed (flags_of c.self.inside.buffer.failed c.stage.new.self.failed (Err c.in-Err.fault) s.flags) s.limits)

pub returns-clause-noted : goal.returns-clause-noted
returns-clause-noted g c =
    let i = c.self.inside in
    let s = c.in_ok-serial.serial in
    let x : Line = record { delivery = c.args.delivery; serial = c.in_ok-serial.serial; count = c.count.result } in
    let planned_at : planned i.buffer.limits i.buffer.chunks c.args.tag.now c.args.entries.now ≡ Ok s = (subst (λ (b : Book g.row.D.Denot). planned b.buffer.limits b.buffer.chunks c.args.tag.now c.args.entries.now ≡ Ok c.in_ok-serial.serial) (sym c.self.view_is) c.in_ok-serial.ensures.place) in
    let same : c.in_default.field-0.serial ≡ s = cc (sym c.in_default.ensures.place ∙ planned_at) in
    subst (λ (t : ToldPast). Appends c.args.delivery s c.args.tag.now c.args.entries.now c.args.self.now (book_of c.stage.new.self t.first t.appends t.lines c.reserve.new.self c.insert.new.self.entries t.synced t.removed)) (sym c.then_append.ensures) (subst (λ (b : Book g.row.D.Denot). Appends c.args.delivery s c.args.tag.now c.args.entries.now b (book_of c.stage.new.self i.past.first (i.past.appends ++ x ∷ []) i.past.lines c.reserve.new.self c.insert.new.self.entries i.past.synced i.past.removed)) c.self.view_is (record {
      place = planned_at;
      chunks = c.in_default.ensures.ok ∙ ap (λ (k : ℕ). appended k c.args.tag.now c.args.entries.now i.buffer.chunks) same;
      appends = ap (λ (n : ℕ). i.past.appends ++ record { delivery = c.args.delivery; serial = s; count = n } ∷ []) c.count.ensures;
      first = refl;
      removed = refl;
    }))

pub returns-clause-waits : goal.returns-clause-waits
returns-clause-waits g c =
    let i = c.self.inside in
    let x : Line = record { delivery = c.args.delivery; serial = c.in_ok-serial.serial; count = c.count.result } in
    (put_at c.insert.result _ _ _ (sym c.is_err.ensures.value ∙ c.if-is_err.false) c.insert.ensures.updates c.insert.ensures.len).0.0 i.count ∙ ap (λ (t : Bool). cond t (Some x) (waiting_at i.waiting.entries i.count)) (at_itself i.count) ∙ ap (λ (n : ℕ). Some (record { delivery = c.args.delivery; serial = c.in_ok-serial.serial; count = n })) c.count.ensures

pub returns-clause-lines : goal.returns-clause-lines
returns-clause-lines g c = (ap (λ (t : ToldPast). t.lines) c.then_append.ensures ∙ ap (λ (b : Book g.row.D.Denot). b.lines) c.self.view_is, subst (λ (b : Book g.row.D.Denot). SameLines b.pages c.reserve.new.self) c.self.view_is c.in_ok-reserve.ensures.same)

pub returns-clause-syncs : goal.returns-clause-syncs
returns-clause-syncs g c = inl (ap (λ (t : ToldPast). t.synced) c.then_append.ensures ∙ ap (λ (b : Book g.row.D.Denot). b.synced) c.self.view_is)

pub returns-clause-refused : goal.returns-clause-refused
returns-clause-refused g c = refuses_none c.args.tag.now c.args.entries.now c.args.self.now c.in_ok-serial.serial (record { serial = c.in_ok-serial.serial; place = c.self.inside.count }) c.in_ok-serial.ensures.refused

pub returns-clause-steady : goal.returns-clause-steady
returns-clause-steady g c = let s = c.in_default.ensures.rest.rest in subst (λ (b : Book g.row.D.Denot). Steady b.buffer c.stage.new.self (Ok (record { serial = c.in_ok-serial.serial; place = c.self.inside.count }))) c.self.view_is (steady_ok c.self.inside.buffer c.stage.new.self c.in_default.field-0 (Ok c.in_default.field-0) (record { serial = c.in_ok-serial.serial; place = c.self.inside.count }) refl s.failed (flags_of c.self.inside.buffer.failed c.stage.new.self.failed (Ok c.in_default.field-0) s.flags) s.limits)

pub invariant_of-self-then-is_err : goal.invariant_of-self-then-is_err
invariant_of-self-then-is_err g c =
    let i = c.self.inside in (
      c.self.invariant.0,
      c.self.invariant.1,
      subst (λ (w : List (ℕ × Line)). IsSound (book_of i.buffer i.past.first i.past.appends i.past.lines c.reserve.new.self w i.past.synced i.past.removed))
          (sym (kept_at c.insert.result _ (sym c.is_err.ensures.value ∙ c.if-is_err.true) c.insert.ensures.err))
          (sound_roomy i.buffer i.past.first i.past.appends i.past.lines i.lines i.waiting.entries i.past.synced i.past.removed c.reserve.new.self c.in_ok-reserve.ensures.same c.reserve.ensures.kept c.self.invariant.2),
    )

pub invariant_of-self-in-Err : goal.invariant_of-self-in-Err
invariant_of-self-in-Err g c =
    let i = c.self.inside in
    let x : Line = record { delivery = c.args.delivery; serial = c.in_ok-serial.serial; count = c.count.result } in
    let put = put_at c.insert.result _ _ _ (sym c.is_err.ensures.value ∙ c.if-is_err.false) c.insert.ensures.updates c.insert.ensures.len in (
      c.self.invariant.0,
      c.self.invariant.1,
      sound_again i.buffer i.past.first i.past.appends i.past.lines i.lines i.waiting.entries i.past.synced i.past.removed c.self.invariant.2
          c.stage.new.self c.reserve.new.self c.insert.new.self.entries c.remove.new.self.entries i.count x c.remove.result c.in-Err.ensures.rest.rest.err c.in_ok-reserve.ensures.same c.reserve.ensures.kept
          c.self.invariant.0 put.0.0 put.1 c.remove.ensures.value c.remove.ensures.updates.0 c.remove.ensures.len,
    )
