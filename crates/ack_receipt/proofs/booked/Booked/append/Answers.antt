use Rattle.std.proofs.Common.{rules, inl, false, ◌≡◌, ◌∙◌, ◌++◌, ◌∷◌, [], ◌+◌, ◌<◌, ◌≤◌, None, ℕ, List, refl, sym, ap, subst, length, arith}
use Rattle.std.specs.Prelude.{Ok, Err}
use Rattle.book_audit.specs.declared.line.Line.{Line}
use Rattle.ack_receipt.specs.declared.past.Written.{Written}
use Rattle.buffer_state.specs.State.{State, chunk_at}
use Rattle.buffer_state.specs.Steps.{CanAppend, appended, planned}
use Rattle.ack_receipt.specs.Told.{ToldPast}
use Rattle.ack_receipt.specs.Books.{Book, IsAccounted, IsSound, book_of}
use Rattle.book_audit.specs.Audits.{Writes}
use Rattle.ack_receipt.specs.Books.{Steady, Unchanged}
use Rattle.buffer_store.specs.declared.fault.BufferFault.TheVariants as fault
use Rattle.buffer_store.proofs.Told.{flags_of}
use Rattle.ack_receipt.proofs.Ends.{told, on_err, refuses_as, refuses_after, refuses_none, steady_as, steady_err, steady_ok, steady_memory, unchanged, unchanged_parts, writes_on}
use Rattle.ack_receipt.proofs.Accounts.{accounted_appended}
use Rattle.ack_receipt.proofs.Answered.{below_of_plan, place_of_plan}
use Rattle.std.proofs.lemmas.List.{length_push}
use Rattle.ack_receipt.proofs.Sound.{sound_append}
use Rattle.ack_receipt.proofs.booked.Booked.append.Goals as goal

pub overflow_add-self : goal.overflow_add-self
overflow_add-self g c = let n = subst (λ (b : Book g.row.D.Denot). length b.appends < 18446744073709551615) (sym c.self.view_is) c.in_ok-serial.ensures.number in let y = c.self.invariant.0 in search (rules, arith)

pub write_reserved-line-requires-clause-room : goal.write_reserved-line-requires-clause-room
write_reserved-line-requires-clause-room g c = let r = c.in_ok-reserve.ensures.room in omega arith

pub write_reserved-line-requires-clause-number : goal.write_reserved-line-requires-clause-number
write_reserved-line-requires-clause-number g c =
    let n = subst (λ (b : Book g.row.D.Denot). length b.appends < 18446744073709551615) (sym c.self.view_is) c.in_ok-serial.ensures.number in
    let same = c.in_ok-reserve.ensures.same.count in
    let pages = c.self.invariant.2.on_pages.count in
    let few = c.self.invariant.2.waits.few in
    omega arith

pub invariant_of-self-2 : goal.invariant_of-self-2
invariant_of-self-2 g c =
    let i = c.self.inside in
    let h = c.self.invariant.2 in
    let s = c.in_ok-serial.serial in
    let can = subst (λ (b : Book g.row.D.Denot). CanAppend b.buffer.chunks s c.args.tag.now c.args.entries.now) (sym c.self.view_is) c.in_ok-serial.ensures.can in
    let near = subst (λ (b : Book g.row.D.Denot). s ≤ b.buffer.chunks.next) (sym c.self.view_is) c.in_ok-serial.ensures.near in
    let free = subst (λ (b : Book g.row.D.Denot). chunk_at b.buffer.chunks b.buffer.chunks.next ≡ None) (sym c.self.view_is) c.in_ok-serial.ensures.free in
    let x : Line = record { delivery = c.args.delivery; serial = s; count = c.count.result } in
    let t = c.in_ok-append.field-0.serial in
    let planned_at : planned i.buffer.limits i.buffer.chunks c.args.tag.now c.args.entries.now ≡ Ok s = subst (λ (b : Book g.row.D.Denot). planned b.buffer.limits b.buffer.chunks c.args.tag.now c.args.entries.now ≡ Ok s) (sym c.self.view_is) c.in_ok-serial.ensures.place in
    let same : t ≡ s = cc (sym c.in_ok-append.ensures.place ∙ planned_at) in
    let account : IsAccounted c.append.new.self.chunks i.past.first (i.past.appends ++ x ∷ []) i.past.removed =
    subst (λ (z : State). IsAccounted z i.past.first (i.past.appends ++ x ∷ []) i.past.removed) (sym (c.in_ok-append.ensures.ok ∙ ap (λ (k : ℕ). appended k c.args.tag.now c.args.entries.now i.buffer.chunks) same))
    (accounted_appended i.buffer.chunks i.past.first i.past.appends i.past.removed h.accounted s c.args.tag.now c.args.entries.now x refl c.count.ensures (place_of_plan i.buffer.chunks s c.args.tag.now c.args.entries.now can) (below_of_plan i.buffer.chunks s near free)) in
    let y : length i.past.appends ≡ i.count = sym c.self.invariant.0 in
    let Kept : ToldPast → ℕ → List Written → Type 0 = λ t n ls. (i.count + 1 ≡ length t.appends) × (i.count + 1 ≡ n) × IsSound (book_of c.append.new.self t.first t.appends ls c.write_reserved-line.new.self i.waiting.entries n t.removed) in
    let more : i.count + 1 ≡ length (i.past.appends ++ x ∷ []) = ap (λ (n : ℕ). n + 1) c.self.invariant.0 ∙ sym (length_push i.past.appends x) in
    subst (λ (t : ToldPast). Kept t t.synced t.lines) (sym c.then_synced.ensures)
    (subst (λ (t : ToldPast). Kept t (length t.appends) t.lines) (sym c.then_line.ensures)
    (subst (λ (t : ToldPast). Kept t (length t.appends) (t.lines ++ record { place = i.count; line = x } ∷ [])) (sym c.then_append.ensures) (
      more,
      more,
      subst (λ (n : ℕ). IsSound (book_of c.append.new.self i.past.first (i.past.appends ++ x ∷ []) (i.past.lines ++ record { place = n; line = x } ∷ []) c.write_reserved-line.new.self i.waiting.entries (length (i.past.appends ++ x ∷ [])) i.past.removed)) y
          (subst (λ (n : ℕ). IsSound (book_of c.append.new.self i.past.first (i.past.appends ++ x ∷ []) (i.past.lines ++ record { place = length i.past.appends; line = x } ∷ []) c.write_reserved-line.new.self i.waiting.entries n i.past.removed)) (sym (length_push i.past.appends x))
          (sound_append i.buffer i.past.first i.past.appends i.past.lines i.lines i.waiting.entries i.past.synced i.past.removed h c.append.new.self x c.reserve.new.self c.write_reserved-line.new.self account c.in_ok-reserve.ensures.same c.write_reserved-line.ensures.written (let r = c.in_ok-reserve.ensures.room in let n = c.len.ensures.len in omega arith) c.write_reserved-line.ensures.room)),
    )))

pub returns-in_err-serial-clause-same : goal.returns-in_err-serial-clause-same
returns-in_err-serial-clause-same g c = on_err c.from_residual.result (Unchanged c.args.self.now c.args.self.now) (unchanged c.args.self.now)

pub returns-in_err-serial-clause-refused : goal.returns-in_err-serial-clause-refused
returns-in_err-serial-clause-refused g c = refuses_as c.args.tag.now c.args.entries.now c.args.self.now c.in_err-serial.field-0.0 (Err c.in_err-serial.field-0.0) c.from_residual.result refl (told c.in_err-serial.field-0.0 c.from_residual.result c.from_residual.ensures.1) c.in_err-serial.ensures.refused

pub returns-in_err-serial-clause-steady : goal.returns-in_err-serial-clause-steady
returns-in_err-serial-clause-steady g c = steady_as c.args.self.now.buffer c.in_err-serial.field-0.0 (Err c.in_err-serial.field-0.0) c.from_residual.result refl (told c.in_err-serial.field-0.0 c.from_residual.result c.from_residual.ensures.1) c.in_err-serial.ensures.failed c.in_err-serial.ensures.quiet

pub returns-in_err-reserve-clause-same : goal.returns-in_err-reserve-clause-same
returns-in_err-reserve-clause-same g c = let i = c.self.inside in on_err c.from_residual-in_err-reserve.result _ (subst (λ (b : Book g.row.D.Denot). Unchanged b (book_of i.buffer i.past.first i.past.appends i.past.lines c.reserve.new.self i.waiting.entries i.past.synced i.past.removed)) c.self.view_is (unchanged_parts i.buffer i.past.first i.past.appends i.past.lines i.lines i.waiting.entries i.past.synced i.past.removed i.buffer c.reserve.new.self i.waiting.entries refl c.in_err-reserve.ensures.same (λ n. refl)))

pub returns-in_err-reserve-clause-refused : goal.returns-in_err-reserve-clause-refused
returns-in_err-reserve-clause-refused g c = refuses_after c.args.tag.now c.args.entries.now c.args.self.now c.in_ok-serial.serial c.from_residual-in_err-reserve.result (inl (told fault.Memory c.from_residual-in_err-reserve.result c.from_residual-in_err-reserve.ensures.1)) c.in_ok-serial.ensures.refused

pub returns-in_err-reserve-clause-steady : goal.returns-in_err-reserve-clause-steady
returns-in_err-reserve-clause-steady g c = subst (λ (b : Book g.row.D.Denot). Steady b.buffer c.self.inside.buffer c.from_residual-in_err-reserve.result) c.self.view_is (steady_memory c.self.inside.buffer c.from_residual-in_err-reserve.result (told fault.Memory c.from_residual-in_err-reserve.result c.from_residual-in_err-reserve.ensures.1) (subst (λ (b : Book g.row.D.Denot). b.buffer.failed ≡ false) (sym c.self.view_is) c.in_ok-serial.ensures.going))

pub returns-in_err-append-clause-same : goal.returns-in_err-append-clause-same
returns-in_err-append-clause-same g c = let i = c.self.inside in on_err c.from_residual-in_err-append.result _ (subst (λ (b : Book g.row.D.Denot). Unchanged b (book_of c.append.new.self i.past.first i.past.appends i.past.lines c.reserve.new.self i.waiting.entries i.past.synced i.past.removed)) c.self.view_is (unchanged_parts i.buffer i.past.first i.past.appends i.past.lines i.lines i.waiting.entries i.past.synced i.past.removed c.append.new.self c.reserve.new.self i.waiting.entries c.in_err-append.ensures.rest.rest.err c.in_ok-reserve.ensures.same (λ n. refl)))

pub returns-in_err-append-clause-refused : goal.returns-in_err-append-clause-refused
returns-in_err-append-clause-refused g c = refuses_as c.args.tag.now c.args.entries.now c.args.self.now c.in_err-append.field-0.0 (Err c.in_err-append.field-0.0) c.from_residual-in_err-append.result refl (told c.in_err-append.field-0.0 c.from_residual-in_err-append.result c.from_residual-in_err-append.ensures.1) (refuses_after c.args.tag.now c.args.entries.now c.args.self.now c.in_ok-serial.serial (Err c.in_err-append.field-0.0) (c.in_err-append.ensures.accepted (subst (λ (b : Book g.row.D.Denot). b.buffer.failed ≡ false) (sym c.self.view_is) c.in_ok-serial.ensures.going) c.in_ok-serial.serial (subst (λ (b : Book g.row.D.Denot). planned b.buffer.limits b.buffer.chunks c.args.tag.now c.args.entries.now ≡ Ok c.in_ok-serial.serial) (sym c.self.view_is) c.in_ok-serial.ensures.place)) c.in_ok-serial.ensures.refused)

pub returns-in_err-append-clause-steady : goal.returns-in_err-append-clause-steady
returns-in_err-append-clause-steady g c = let s = c.in_err-append.ensures.rest.rest in subst (λ (b : Book g.row.D.Denot). Steady b.buffer c.append.new.self c.from_residual-in_err-append.result) c.self.view_is (steady_err c.self.inside.buffer c.append.new.self c.in_err-append.field-0.0 (Err c.in_err-append.field-0.0) c.from_residual-in_err-append.result refl (told c.in_err-append.field-0.0 c.from_residual-in_err-append.result c.from_residual-in_err-append.ensures.1) s.failed (flags_of c.self.inside.buffer.failed c.append.new.self.failed (Err c.in_err-append.field-0.0) s.flags) s.limits)

pub returns-clause-noted : goal.returns-clause-noted
returns-clause-noted g c =
    let i = c.self.inside in
    let s = c.in_ok-serial.serial in
    let planned_at : planned i.buffer.limits i.buffer.chunks c.args.tag.now c.args.entries.now ≡ Ok s = (subst (λ (b : Book g.row.D.Denot). planned b.buffer.limits b.buffer.chunks c.args.tag.now c.args.entries.now ≡ Ok c.in_ok-serial.serial) (sym c.self.view_is) c.in_ok-serial.ensures.place) in
    let same : c.in_ok-append.field-0.serial ≡ s = cc (sym c.in_ok-append.ensures.place ∙ planned_at) in record {
      place = c.in_ok-serial.ensures.place;
      chunks = c.in_ok-append.ensures.ok ∙ (ap (λ (k : ℕ). appended k c.args.tag.now c.args.entries.now i.buffer.chunks) same ∙ ap (λ (b : Book g.row.D.Denot). appended s c.args.tag.now c.args.entries.now b.buffer.chunks) c.self.view_is);
      appends = ap (λ (t : ToldPast). t.appends) c.then_synced.ensures ∙ (ap (λ (t : ToldPast). t.appends) c.then_line.ensures ∙ ap (λ (t : ToldPast). t.appends) c.then_append.ensures) ∙ (ap (λ (n : ℕ). i.past.appends ++ record { delivery = c.args.delivery; serial = s; count = n } ∷ []) c.count.ensures ∙ ap (λ (b : Book g.row.D.Denot). b.appends ++ record { delivery = c.args.delivery; serial = s; count = length c.args.entries.now } ∷ []) c.self.view_is);
      first = ap (λ (t : ToldPast). t.first) c.then_synced.ensures ∙ (ap (λ (t : ToldPast). t.first) c.then_line.ensures ∙ ap (λ (t : ToldPast). t.first) c.then_append.ensures) ∙ ap (λ (b : Book g.row.D.Denot). b.first) c.self.view_is;
      removed = ap (λ (t : ToldPast). t.removed) c.then_synced.ensures ∙ (ap (λ (t : ToldPast). t.removed) c.then_line.ensures ∙ ap (λ (t : ToldPast). t.removed) c.then_append.ensures) ∙ ap (λ (b : Book g.row.D.Denot). b.removed) c.self.view_is;
    }

pub returns-clause-line : goal.returns-clause-line
returns-clause-line g c = c.write_reserved-line.ensures.number ∙ (c.in_ok-reserve.ensures.same.count ∙ (c.self.invariant.2.on_pages.count ∙ ap (λ (b : Book g.row.D.Denot). length b.lines) c.self.view_is))

pub returns-clause-written : goal.returns-clause-written
returns-clause-written g c =
    let i = c.self.inside in
    let x : Line = record { delivery = c.args.delivery; serial = c.in_ok-serial.serial; count = c.count.result } in
    let Of : ℕ → Line = λ n. record { delivery = c.args.delivery; serial = c.in_ok-serial.serial; count = n } in
    let wrote : Writes x i.lines c.write_reserved-line.new.self = writes_on x i.lines c.reserve.new.self c.write_reserved-line.new.self c.in_ok-reserve.ensures.same c.write_reserved-line.ensures.written in
    let place : i.count ≡ length c.args.self.now.appends = c.self.invariant.0 ∙ ap (λ (b : Book g.row.D.Denot). length b.appends) c.self.view_is in record {
      lines = ap (λ (t : ToldPast). t.lines) c.then_synced.ensures ∙ (ap (λ (t : ToldPast). t.lines) c.then_line.ensures ∙ (ap (λ (t : ToldPast). t.lines ++ record { place = i.count; line = x } ∷ []) c.then_append.ensures
          ∙ (ap (λ (k : ℕ). i.past.lines ++ record { place = k; line = x } ∷ []) place ∙ (ap (λ (n : ℕ). i.past.lines ++ record { place = length c.args.self.now.appends; line = Of n } ∷ []) c.count.ensures
          ∙ ap (λ (b : Book g.row.D.Denot). b.lines ++ record { place = length c.args.self.now.appends; line = Of (length c.args.entries.now) } ∷ []) c.self.view_is))));
      pages = subst (λ (b : Book g.row.D.Denot). Writes (Of (length c.args.entries.now)) b.pages c.write_reserved-line.new.self) c.self.view_is (subst (λ (n : ℕ). Writes (Of n) i.lines c.write_reserved-line.new.self) c.count.ensures wrote);
    }

pub returns-clause-waiting : goal.returns-clause-waiting
returns-clause-waiting g c = ap (λ (b : Book g.row.D.Denot). b.waiting) c.self.view_is

pub returns-clause-synced : goal.returns-clause-synced
returns-clause-synced g c = (ap (λ (t : ToldPast). t.synced) c.then_synced.ensures ∙ sym (ap (λ (t : ToldPast). length t.appends) c.then_synced.ensures), c.in_ok-append.ensures.staged)

pub returns-clause-refused : goal.returns-clause-refused
returns-clause-refused g c = refuses_none c.args.tag.now c.args.entries.now c.args.self.now c.in_ok-serial.serial (record { serial = c.in_ok-serial.serial; line = c.write_reserved-line.result }) c.in_ok-serial.ensures.refused

pub returns-clause-steady : goal.returns-clause-steady
returns-clause-steady g c = let s = c.in_ok-append.ensures.rest.rest in subst (λ (b : Book g.row.D.Denot). Steady b.buffer c.append.new.self (Ok (record { serial = c.in_ok-serial.serial; line = c.write_reserved-line.result }))) c.self.view_is (steady_ok c.self.inside.buffer c.append.new.self c.in_ok-append.field-0 (Ok c.in_ok-append.field-0) (record { serial = c.in_ok-serial.serial; line = c.write_reserved-line.result }) refl s.failed (flags_of c.self.inside.buffer.failed c.append.new.self.failed (Ok c.in_ok-append.field-0) s.flags) s.limits)
