use Rattle.std.proofs.Common.{ap, sym, ◌∙◌, ◌≡◌, subst, Some, None, option_map, arith}
use Rattle.event_modes.specs.Rows.{AreEntries}
use Rattle.chunk_journal.specs.Fields.{Fields, parts_of, parts_from}
use Rattle.chunk_journal.proofs.Numbers.{is_some}
use Rattle.chunk_journal.proofs.Appends.{append_back, append_found}
use Rattle.chunk_journal.proofs.reading.append.Goals as goal

pub returns-in_default-clause-only : goal.returns-in_default-clause-only
returns-in_default-clause-only g c = λ item is.
    let b = append_back item c.args.fields.now c.requires is in
    let k : Some b.fields ≡ None = sym b.found ∙ sym c.split_fields.ensures ∙ ap (option_map parts_of) c.in_default.is in
    absurd cc

pub returns-in_default-2-clause-only : goal.returns-in_default-2-clause-only
returns-in_default-2-clause-only g c = λ item is.
    let b = append_back item c.args.fields.now c.requires is in
    let f : parts_of c.in-Some.parts ≡ b.fields = is_some (parts_of c.in-Some.parts) b.fields (sym (ap (option_map parts_of) c.in-Some.is) ∙ c.split_fields.ensures ∙ b.found) in
    let m : AreEntries b.entries c.in-Some.parts.count c.in-Some.parts.stored.now = subst (λ (x : Fields). AreEntries b.entries x.count x.stored) (sym f) b.stored in
    let k = c.in_ok-entries.ensures.only b.entries m in
    let n = c.in_default-2.is in
    absurd cc

pub returns-clause-found : goal.returns-clause-found
returns-clause-found g c =
    let e : parts_from c.args.fields.now ≡ Some (parts_of c.in-Some.parts) = sym c.split_fields.ensures ∙ ap (option_map parts_of) c.in-Some.is in
    append_found c.args.fields.now (parts_of c.in-Some.parts) c.in-Some-2.entries (λ i. omega (arith, c.type_inv.fields i)) e (rw c.in-Some-2.is at c.in_ok-entries.ensures.found)

pub returns-clause-only : goal.returns-clause-only
returns-clause-only g c = λ item is.
    let b = append_back item c.args.fields.now c.requires is in
    let f : parts_of c.in-Some.parts ≡ b.fields = is_some (parts_of c.in-Some.parts) b.fields (sym (ap (option_map parts_of) c.in-Some.is) ∙ c.split_fields.ensures ∙ b.found) in
    let m : AreEntries b.entries c.in-Some.parts.count c.in-Some.parts.stored.now = subst (λ (x : Fields). AreEntries b.entries x.count x.stored) (sym f) b.stored in
    let k = c.in_ok-entries.ensures.only b.entries m in
    let s : c.in-Some.parts.serial ≡ b.fields.serial = ap (λ (x : Fields). x.serial) f in
    let t : c.in-Some.parts.tag.now ≡ b.fields.tag = ap (λ (x : Fields). x.tag) f in
    let n = c.in-Some-2.is in
    let i = b.is in
    cc
