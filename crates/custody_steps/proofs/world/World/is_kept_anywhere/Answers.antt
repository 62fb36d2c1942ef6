use Rattle.std.proofs.Common.{◌≡◌, ℕ, List, length, get_or, subst, sym, ap, ◌∙◌, arith, below_more, refl}
use Rattle.std.specs.declared.vec.Vec.{Vec}
use Rattle.std.proofs.lemmas.Bool.{both_ways}
use Rattle.std.proofs.lemmas.List.{get_or_read}
use Rattle.custody_store.proofs.Members.{shown_contains}
use Rattle.relay_net.specs.Addresses.{Address}
use Rattle.relay_net.specs.Routed.{IsRoutedTag}
use Rattle.custody_steps.specs.Held.{Held}
use Rattle.custody_steps.specs.WorldOf.{world_of, net_of}
use Rattle.custody_steps.proofs.world.World.is_kept_anywhere.Goals as goal

pub returns-then-branch : goal.returns-then-branch
returns-then-branch g c =
    let both = (rw c.as_slice.ensures.value at c.in_ok-is_kept_under.ensures).0 c.if-branch.true in
    (λ _. (c.tag-item.result.items, both.0, both.1), λ _. refl)

pub loop-tag-preserved : goal.loop-tag-preserved
loop-tag-preserved g c =
    let to : Address = record { host = c.args.host.now; port = c.args.port } in
    let P : Vec ℕ g.row.A.Denot → Type 0 = λ x. IsRoutedTag (net_of c.args.self.now) to c.args.event.now.tag.items x.items × Held (world_of c.args.self.now) (record { tag = x.items; entry = c.args.event.now.entry.items }) in
    let items = c.deref-tag-items.result.now in
    let i = c.loop-tag.tag-index in
    let under = rw c.as_slice.ensures.value at c.in_ok-is_kept_under.ensures in
    λ k x h. below_more (λ k. (x : Vec ℕ g.row.A.Denot) → get_or c.deref-tag-items.result.now k x ≡ x → P x → ⊥) i
    (λ k h x at. c.loop-tag.invariant k x h at)
    (λ x at has.
    let same : c.tag-item.result ≡ x = get_or_read c.deref-tag-items.result.now i c.tag-item.result c.loop-tag-test.true c.tag-item.is x ∙ at in
    both_ways c.in_ok-is_kept_under.field-0 c.if-branch.false (under.1 (subst P (sym same) has)))
    k h x

pub returns : goal.returns
returns g c =
    let to : Address = record { host = c.args.host.now; port = c.args.port } in
    let Q : List ℕ → Type 0 = λ t. IsRoutedTag (net_of c.args.self.now) to c.args.event.now.tag.items t × Held (world_of c.args.self.now) (record { tag = t; entry = c.args.event.now.entry.items }) in
    let passed = rw c.deref-tag-items.ensures.value at c.loop-tag.invariant in (
      λ e. absurd (cc),
      λ h. (let there = c.in_ok-tags.ensures (record { tag = h.0; entry = c.args.event.now.entry.items }) h.2 in
          let w = shown_contains (λ (x : Vec ℕ g.row.A.Denot). x.items) c.in_ok-tags.tags.items h.0 there in
          let same = ap length c.deref-tag-items.ensures.value in
          let less = w.2 in
          absurd (passed w.0 w.1 (omega arith) w.3 (subst Q (sym w.4) (h.1, h.2)))),
    )
