use Rattle.std.proofs.Common.{◌≡◌, ◌≤◌, ◌<◌, ◌^◌, ◌++◌, ◌∷◌, [], ℕ, List, length, sym, ap, ◌∙◌, arith}
use Rattle.std.specs.Map.{remove_entry, keys_of}
use Rattle.std.specs.BTreeMap.{is_at}
use Rattle.std.specs.Ordering.{nat_cmp}
use Rattle.buffer_state.specs.State.{size}
use Rattle.buffer_state.specs.Steps.{greatest_size}
use Rattle.buffer_state.specs.Slots.{Slot, slot_size, fresh, AreBelow}
use Rattle.buffer_state.proofs.Serials.{on_err_at, on_ok_at, insert_last, removed_last}
use Rattle.buffer_state.proofs.Tables.{below_staged, added_fits, same_index, total_small}
use Rattle.buffer_state.proofs.table.Table.add.Goals as goal

pub invariant_of-self-then-is_err : goal.invariant_of-self-then-is_err
invariant_of-self-then-is_err g c =
    let last : AreBelow c.args.serial (keys_of c.self.inside.chunks.entries) = rw c.self.view_is c.requires.last in
    let same = c.remove.ensures.entries ∙ ap (remove_entry (is_at (nat_cmp c.args.serial))) (c.in_ok-insert.ensures.entries ∙ insert_last _ c.args.serial c.in_ok-chunk.chunk last) ∙ removed_last _ c.args.serial c.in_ok-chunk.chunk last in
    same_index _ _ c.self.inside.tags c.add.new.self c.self.inside.total c.self.invariant same
    (on_err_at _ c.add.ensures.err (sym c.is_err.ensures.value ∙ c.if-is_err.true))

pub returns-then-is_err-clause-err : goal.returns-then-is_err-clause-err
returns-then-is_err-clause-err g c =
    let last : AreBelow c.args.serial (keys_of c.self.inside.chunks.entries) = rw c.self.view_is c.requires.last in
    (c.remove.ensures.entries ∙ ap (remove_entry (is_at (nat_cmp c.args.serial))) (c.in_ok-insert.ensures.entries ∙ insert_last _ c.args.serial c.in_ok-chunk.chunk last) ∙ removed_last _ c.args.serial c.in_ok-chunk.chunk last) ∙ c.self.view_is

pub overflow_add-self : goal.overflow_add-self
overflow_add-self g c =
    let t = total_small _ c.self.inside.tags c.self.inside.total c.self.invariant in
    let l : length c.as_bytes.result.now ≡ size c.args.entries.now = ap length c.as_bytes.ensures.all in
    let m = c.requires.small in
    omega (arith, t, m, l)

pub invariant_of-self-2 : goal.invariant_of-self-2
invariant_of-self-2 g c =
    let last : AreBelow c.args.serial (keys_of c.self.inside.chunks.entries) = rw c.self.view_is c.requires.last in
    let is : c.in_ok-chunk.chunk ≡ fresh c.args.tag.now c.args.entries.now = c.in_ok-chunk.ensures in
    let new : c.insert.new.self.entries ≡ c.self.inside.chunks.entries ++ (c.args.serial, c.in_ok-chunk.chunk) ∷ [] = c.in_ok-insert.ensures.entries ∙ insert_last _ c.args.serial c.in_ok-chunk.chunk last in
    let len = c.len-count.ensures.len in
    let short = c.len-count.ensures.small in
    let few : length c.insert.new.self.entries < 2 ^ 63 = omega (arith, len, short) in
    let small : slot_size c.in_ok-chunk.chunk ≤ greatest_size = rw is c.requires.small in
    let size : length c.as_bytes.result.now ≡ slot_size c.in_ok-chunk.chunk = rw is (ap length c.as_bytes.ensures.all) in
    let added = on_ok_at _ c.add.ensures.ok (sym c.is_err.ensures.value ∙ c.if-is_err.false) in
    rw new (added_fits _ c.self.inside.tags c.add.new.self c.self.inside.total c.args.serial _ c.in_ok-chunk.chunk c.self.invariant
    (rw new at c.in_ok-insert.ensures.ordered) (rw new at few) small size
    (λ tag. rw is (added tag)))

pub returns-clause-ok : goal.returns-clause-ok
returns-clause-ok g c =
    let last : AreBelow c.args.serial (keys_of c.self.inside.chunks.entries) = rw c.self.view_is c.requires.last in
    let is : c.in_ok-chunk.chunk ≡ fresh c.args.tag.now c.args.entries.now = c.in_ok-chunk.ensures in
    c.in_ok-insert.ensures.entries ∙ insert_last _ c.args.serial c.in_ok-chunk.chunk last ∙ ap (λ (w : Slot). c.self.inside.chunks.entries ++ (c.args.serial, w) ∷ []) is
    ∙ ap (λ (es : List (ℕ × Slot)). es ++ (c.args.serial, fresh c.args.tag.now c.args.entries.now) ∷ []) c.self.view_is

pub add-requires : goal.add-requires
add-requires g c = record { last = below_staged c.self.inside.chunks.entries c.self.inside.tags c.self.inside.total c.args.serial c.args.tag.now c.self.invariant (rw c.self.view_is c.requires.last) }
