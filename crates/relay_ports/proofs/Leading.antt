-- Where messages go.
use Rattle.std.proofs.Common.{ℕ, zero, suc, ◌≡◌, ◌<◌, List, map, Option, None, Some, Result, Ok, Err, refl, subst, sym, inr, arith}
use Rattle.std.specs.Prelude.{IfOk, IfSome}
use Rattle.book_audit.specs.declared.line.Leaf.{Leaf}
use Rattle.ack_receipt.specs.Reservations.{Asked}
use Rattle.tag_pattern.specs.Prefixes.{entered_tag}
use Rattle.relay_conf.specs.declared.output.BufferNo.{BufferNo}
use Rattle.route_graph.specs.Ways.{IsLoop}
use Rattle.route_graph.specs.Listing.{AreFirstReached, numbers_of}
use Rattle.relay_ports.specs.Leaves.{Entry, leaf_of, IsRoutedTo}

-- what holds of all that is found holds of what else is said of it
pub found_too : {X E : Type 0} (P Q : X → Type 0) (r : Result (Option X) E) → ((x : X) → P x → Q x)
    → IfOk r (λ found. IfSome found P) → IfOk r (λ found. IfSome found Q)
found_too P Q (Ok (Some x)) f p = f x p
found_too P Q (Ok None) f p = tt
found_too P Q (Err e) f p = tt

pub some_entries : (n count : ℕ) → n ≡ count → (n ≡ 0 → ⊥) → 0 < count
some_entries zero count e f = absurd (f refl)
some_entries (suc n) count e f = omega arith

-- a message with entries goes to the buffers that its way lists
pub leaves_for : (entry : Entry) (asked : Asked) (tag : List ℕ) (buffers : List BufferNo) (named : List ℕ) (leaves : List Leaf)
    → 0 < asked.count → tag ≡ entered_tag entry.prefix asked.tag
    → (IsLoop entry.table tag entry.scope → ⊥) × AreFirstReached entry.table tag entry.scope (numbers_of buffers)
    → named ≡ tag → leaves ≡ map (leaf_of entry.number) buffers → IsRoutedTo entry asked named leaves
leaves_for entry asked tag buffers named leaves n e w t l = subst (λ (x : List ℕ). IsRoutedTo entry asked x leaves) (sym t) (record {
  entered = e;
  reached = inr (n, (w.0, (buffers, w.1, l)));
})
