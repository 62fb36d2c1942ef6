use Rattle.std.proofs.Common.{◌≡◌, ◌∙◌, ◌++◌, ◌∷◌, [], ◌<◌, ◌+◌, ℕ, List, length, map, refl, sym, ap, subst, arith, append_assoc}
use Rattle.std.specs.Prelude.{All}
use Rattle.std.specs.Vec.Iter.{into_iter_items}
use Rattle.std.proofs.lemmas.List.{length-append, map-append, nil_from_length}
use Rattle.std.proofs.lemmas.List.Elements.{All-head, All-tail}
use Rattle.ack_receipt.specs.Books.{Book}
use Rattle.ack_receipt.specs.declared.past.Written.{Written}
use Rattle.ack_receipt.specs.Deliveries.{Appended, Pended}
use Rattle.ack_receipt.specs.Redeeming.{AreApart, AreBefore, IsRedeemable, Origin, numbers_from, origin_of, origin_of_pending, written_of}
use Rattle.ack_receipt.proofs.Redeem.{all_made, all_written, apart_head, apart_tail, room_first, waits_on}
use Rattle.ack_receipt.proofs.locked.redeeming.made.Goals as goal

pub receipt_of-requires-clause-waits : goal.receipt_of-requires-clause-waits
receipt_of-requires-clause-waits g c =
    let rest : List Pended = into_iter_items c.next.new.self in
    let waits = subst (All (IsRedeemable c.args.leaf c.loop-pending.booked.waiting)) c.in-Some.ensures.items c.loop-pending.invariant.waits in
    (All-head (IsRedeemable c.args.leaf c.loop-pending.booked.waiting) c.in-Some.pending rest waits).waits

pub receipt_of-requires-clause-synced : goal.receipt_of-requires-clause-synced
receipt_of-requires-clause-synced g c =
    let rest : List Pended = into_iter_items c.next.new.self in
    let before = subst (AreBefore c.loop-pending.booked.synced) c.in-Some.ensures.items c.loop-pending.invariant.before in
    All-head (λ (p : Pended). p.place < c.loop-pending.booked.synced) c.in-Some.pending rest before

pub loop-pending-preserved : goal.loop-pending-preserved
unfolding numbers_from
loop-pending-preserved g c =
    let leaf = c.args.leaf in
    let b = c.loop-pending.booked in
    let rest : List Pended = into_iter_items c.next.new.self in
    let p = c.in-Some.pending in
    let waits = subst (All (IsRedeemable leaf b.waiting)) c.in-Some.ensures.items c.loop-pending.invariant.waits in
    let apart = subst AreApart c.in-Some.ensures.items c.loop-pending.invariant.apart in
    let before = subst (AreBefore b.synced) c.in-Some.ensures.items c.loop-pending.invariant.before in
    let r = c.receipt_of.ensures.rest in
    let made : map origin_of c.push_reserved.new.self.items ++ map origin_of_pending rest ≡ map origin_of c.loop-pending.receipts.items ++ map origin_of_pending (p ∷ rest) =
    ap (λ (rs : List Appended). map origin_of rs ++ map origin_of_pending rest) c.push_reserved.ensures.items
    ∙ ap (λ (os : List Origin). os ++ map origin_of_pending rest) (map-append origin_of c.loop-pending.receipts.items (c.receipt_of.result ∷ []))
    ∙ append_assoc (map origin_of c.loop-pending.receipts.items) (origin_of c.receipt_of.result ∷ []) (map origin_of_pending rest)
    ∙ ap (λ (o : Origin). map origin_of c.loop-pending.receipts.items ++ o ∷ map origin_of_pending rest) c.receipt_of.ensures.origin in
    let w = c.receipt_of.ensures.written.lines in
    let lines : c.receipt_of.new.booked.lines ++ map written_of rest ≡ b.lines ++ map written_of (p ∷ rest) =
    ap (λ (ls : List Written). ls ++ map written_of rest) w ∙ append_assoc b.lines (written_of p ∷ []) (map written_of rest) in
    let next : length c.receipt_of.new.booked.lines ≡ length b.lines + 1 = ap (λ (ls : List Written). length ls) w ∙ length-append b.lines (written_of p ∷ []) in
    let names = λ (rs : List Appended). map (λ (r : Appended). r.line) rs in
    let named : names c.push_reserved.new.self.items ++ numbers_from (length c.receipt_of.new.booked.lines) rest ≡ names c.loop-pending.receipts.items ++ numbers_from (length b.lines) (p ∷ rest) =
    ap (λ (rs : List Appended). names rs ++ numbers_from (length c.receipt_of.new.booked.lines) rest) c.push_reserved.ensures.items
    ∙ ap (λ (ns : List ℕ). ns ++ numbers_from (length c.receipt_of.new.booked.lines) rest) (map-append (λ (r : Appended). r.line) c.loop-pending.receipts.items (c.receipt_of.result ∷ []))
    ∙ append_assoc (names c.loop-pending.receipts.items) (c.receipt_of.result.line ∷ []) (numbers_from (length c.receipt_of.new.booked.lines) rest)
    ∙ ap (λ (n : ℕ). names c.loop-pending.receipts.items ++ n ∷ numbers_from (length c.receipt_of.new.booked.lines) rest) c.receipt_of.ensures.line
    ∙ ap (λ (n : ℕ). names c.loop-pending.receipts.items ++ length b.lines ∷ numbers_from n rest) next in
    record {
      made = made ∙ ap (λ (ps : List Pended). map origin_of c.loop-pending.receipts.items ++ map origin_of_pending ps) (sym c.in-Some.ensures.items) ∙ c.loop-pending.invariant.made;
      lines = lines ∙ ap (λ (ps : List Pended). b.lines ++ map written_of ps) (sym c.in-Some.ensures.items) ∙ c.loop-pending.invariant.lines;
      named = named ∙ ap (λ (ps : List Pended). names c.loop-pending.receipts.items ++ numbers_from (length b.lines) ps) (sym c.in-Some.ensures.items) ∙ c.loop-pending.invariant.named;
      room = omega (arith, c.loop-pending.invariant.room, c.push_reserved.ensures.len, c.push_reserved.ensures.capacity, c.in-Some.ensures.len);
      waits = waits_on leaf b.waiting c.receipt_of.new.booked.waiting p rest c.receipt_of.ensures.waiting (apart_head p rest apart) (All-tail (IsRedeemable leaf b.waiting) p rest waits);
      apart = apart_tail p rest apart;
      before = subst (λ (n : ℕ). AreBefore n rest) (sym (ap (λ (k : Book g.row.D.Denot). k.synced) r)) (All-tail (λ (q : Pended). q.place < b.synced) p rest before);
      buffer = ap (λ (k : Book g.row.D.Denot). k.buffer) r ∙ c.loop-pending.invariant.buffer;
      appends = ap (λ (k : Book g.row.D.Denot). k.appends) r ∙ c.loop-pending.invariant.appends;
      synced = ap (λ (k : Book g.row.D.Denot). k.synced) r ∙ c.loop-pending.invariant.synced;
    }

pub loop-pending-init : goal.loop-pending-init
loop-pending-init g c =
    let rest : List Pended = into_iter_items c.into_iter-rest.result in
    let is : rest ≡ c.args.pendings.items = c.into_iter-rest.ensures.rest in
    let lines = c.args.booked.now.lines in
    record {
      made = ap (λ (rs : List Appended). map origin_of rs ++ map origin_of_pending rest) c.requires.empty ∙ ap (λ (ps : List Pended). map origin_of_pending ps) is;
      lines = ap (λ (ps : List Pended). lines ++ map written_of ps) is;
      named = ap (λ (rs : List Appended). map (λ (r : Appended). r.line) rs ++ numbers_from (length lines) rest) c.requires.empty ∙ ap (λ (ps : List Pended). numbers_from (length lines) ps) is;
      room = room_first c.args.receipts.items _ _ _ _ c.args.receipts.ok.0 c.requires.empty c.into_iter-rest.ensures.len c.requires.room;
      waits = subst (All (IsRedeemable c.args.leaf c.args.booked.now.waiting)) (sym is) c.requires.can.0;
      apart = subst AreApart (sym is) c.requires.can.1;
      before = subst (AreBefore c.args.booked.now.synced) (sym is) c.requires.synced;
      buffer = refl;
      appends = refl;
      synced = refl;
    }

pub returns-clause-made : goal.returns-clause-made
returns-clause-made g c =
    all_made c.args.leaf c.args.booked.now.waiting c.args.pendings.items (into_iter_items c.loop-pending.rest) c.loop-pending.receipts.items
    (nil_from_length (into_iter_items c.loop-pending.rest) (sym c.loop-pending.rest.rest.ok.0 ∙ c.in_default.ensures.cases.0)) c.loop-pending.invariant.made c.requires.can.0

pub returns-clause-written : goal.returns-clause-written
returns-clause-written g c =
    all_written c.args.booked.now.lines c.loop-pending.booked.lines c.args.pendings.items (into_iter_items c.loop-pending.rest) c.loop-pending.receipts.items
    (nil_from_length (into_iter_items c.loop-pending.rest) (sym c.loop-pending.rest.rest.ok.0 ∙ c.in_default.ensures.cases.0)) c.loop-pending.invariant.lines c.loop-pending.invariant.named
