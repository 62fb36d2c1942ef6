use Rattle.std.proofs.Common.{◌≡◌, ◌∙◌, ◌++◌, ◌∷◌, [], List, map, sym, ap, arith, append_assoc, append-nil}
use Rattle.std.specs.Vec.Iter.{into_iter_items}
use Rattle.std.proofs.lemmas.List.{nil_from_length}
use Rattle.book_audit.specs.declared.line.Part.{Part}
use Rattle.ack_receipt.specs.Deliveries.{Appended, part_of}
use Rattle.ack_receipt.proofs.delivery.spend.Goals as goal

-- one more part, of the first receipt
one_part : (old new whole : List Part) (part : Part) (receipt : Appended) (rest all : List Appended) → new ≡ old ++ part ∷ [] → part ≡ part_of receipt → all ≡ receipt ∷ rest
    → old ++ map part_of all ≡ whole → new ++ map part_of rest ≡ whole
one_part old new whole part receipt rest all pushed is first before =
    ap (λ (ps : List Part). ps ++ map part_of rest) pushed ∙ append_assoc old (part ∷ []) (map part_of rest)
    ∙ ap (λ (p : Part). old ++ p ∷ map part_of rest) is ∙ ap (λ (rs : List Appended). old ++ map part_of rs) (sym first) ∙ before

-- all parts
all_parts : (parts whole : List Part) (rest : List Appended) → rest ≡ [] → parts ++ map part_of rest ≡ whole → parts ≡ whole
all_parts parts whole rest none before = sym (append-nil parts) ∙ ap (λ (rs : List Appended). parts ++ map part_of rs) (sym none) ∙ before

pub loop-receipt-preserved : goal.loop-receipt-preserved
loop-receipt-preserved g c =
    record {
      parts = one_part c.loop-receipt.parts.items c.push_reserved.new.self.items _ c.into_part.result c.in-Some.receipt (into_iter_items c.next.new.self) (into_iter_items c.loop-receipt.rest)
          c.push_reserved.ensures.items c.into_part.ensures c.in-Some.ensures.items c.loop-receipt.invariant.parts;
      room = omega (arith, c.loop-receipt.invariant.room, c.push_reserved.ensures.len, c.push_reserved.ensures.capacity, c.in-Some.ensures.len);
    }

pub returns : goal.returns
returns g c =
    all_parts c.loop-receipt.parts.items _ (into_iter_items c.loop-receipt.rest)
    (nil_from_length (into_iter_items c.loop-receipt.rest) (sym c.loop-receipt.rest.rest.ok.0 ∙ c.in_default.ensures.cases.0)) c.loop-receipt.invariant.parts
