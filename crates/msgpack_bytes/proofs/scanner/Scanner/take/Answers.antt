use Rattle.std.proofs.Common.{◌≡◌, ◌+◌, length, Option, Some, None, refl, arith}
use Rattle.msgpack_bytes.specs.declared.answers.PieceScan.{PieceScan}
use Rattle.msgpack_bytes.specs.declared.answers.PieceScan.TheVariants as taken
use Rattle.msgpack_bytes.specs.Pieces.{Scanning}
use Rattle.msgpack_bytes.proofs.Standing.{place_of, scanning, Tells, clauses, seen_of, tells_kept, stands_some, tells_ended, tells_bad, cut_within, tells_cut}
use Rattle.msgpack_bytes.proofs.scanner.Scanner.take.Goals as goal

-- where nothing is answered from now on
not_over : (o : Option PieceScan) → ((answer : PieceScan) → o ≡ Some answer → ⊥) → o ≡ None
not_over None h = refl
not_over (Some answer) h = absurd (h answer refl)

pub returns-in-Some : goal.returns-in-Some
returns-in-Some c = clauses _ _ _ _ _ c.self.view_is (tells_kept (scanning c.self.inside) c.args.self.now c.args.piece.now _ c.self.view_is c.in-Some.is)

pub go_on-requires : goal.go_on-requires
go_on-requires c = stands_some (scanning c.self.inside) c.args.piece.now _ (not_over _ c.in_default.not-Some) c.fill.ensures c.self.invariant

-- the scanner is left so where the item ended, where none begins so, and where the piece is cut
abbrev ended : goal.After-self-1 → Scanning
ended c = record (scanning c.self.inside) { missing = c.go_on.new.missing; front = c.fill.new.front; over = Some (taken.End 0) }

abbrev faulty : goal.After-self-in-Bad-1 → Scanning
faulty c = record (scanning c.self.inside) { missing = c.go_on.new.missing; front = c.fill.new.front; over = Some (taken.Bad c.in-Bad.fault) }

abbrev cut : goal.After-self-in-Cut-2-1 → Scanning
cut c = record (scanning c.self.inside) {
  missing = c.go_on.new.missing;
  place = place_of c.in-Cut.place.levels c.in-Cut.place.room (c.in-Cut.place.came + length c.split_at.result.1.now);
  front = c.kept-self-inside.result;
}

-- and what is answered there is right
ended_tells : (c : goal.After-self-1) → Tells (scanning c.self.inside) (ended c) c.args.piece.now (taken.End c.in-Ended.n)
ended_tells c = tells_ended (scanning c.self.inside) c.args.piece.now c.fill.new.front (not_over _ c.in_default.not-Some) c.fill.ensures (ended c) c.in-Ended.n refl c.in-Ended.ensures

faulty_tells : (c : goal.After-self-in-Bad-1) → Tells (scanning c.self.inside) (faulty c) c.args.piece.now (taken.Bad c.in-Bad.fault)
faulty_tells c = tells_bad (scanning c.self.inside) c.args.piece.now c.fill.new.front (not_over _ c.in_default.not-Some) c.fill.ensures (faulty c) c.in-Bad.fault refl c.in-Bad.ensures

cut_tells : (c : goal.After-self-in-Cut-2-1) → Tells (scanning c.self.inside) (cut c) c.args.piece.now taken.Need
cut_tells c =
    let none = not_over _ c.in_default.not-Some in
    tells_cut (scanning c.self.inside) c.args.piece.now c.fill.new.front none c.fill.ensures (cut c) c.split_at.result.1.now c.in-Cut.place c.in-Cut.at c.in-Cut.ensures
    c.split_at.ensures.back refl c.kept-self-inside.ensures none

pub split_at-requires : goal.split_at-requires
split_at-requires c = (cut_within (scanning c.self.inside) c.args.piece.now c.fill.new.front (not_over _ c.in_default.not-Some) c.fill.ensures _ _ _ c.self.invariant c.in-Cut.ensures).0

pub overflow_add-self : goal.overflow_add-self
overflow_add-self c =
    let few = (cut_within (scanning c.self.inside) c.args.piece.now c.fill.new.front (not_over _ c.in_default.not-Some) c.fill.ensures _ _ _ c.self.invariant c.in-Cut.ensures).1 in
    let size = c.split_at.ensures.back_len in
    omega arith

pub invariant_of-self : goal.invariant_of-self
invariant_of-self c = seen_of _ _ _ _ _ refl (ended_tells c) c.self.invariant

pub invariant_of-self-in-Bad : goal.invariant_of-self-in-Bad
invariant_of-self-in-Bad c = seen_of _ _ _ _ _ refl (faulty_tells c) c.self.invariant

pub invariant_of-self-in-Cut : goal.invariant_of-self-in-Cut
invariant_of-self-in-Cut c = seen_of _ _ _ _ _ refl (cut_tells c) c.self.invariant

pub returns-in-Ended : goal.returns-in-Ended
returns-in-Ended c = clauses _ _ _ _ _ c.self.view_is (ended_tells c)

pub returns-in-Bad : goal.returns-in-Bad
returns-in-Bad c = clauses _ _ _ _ _ c.self.view_is (faulty_tells c)

pub returns-in-Cut : goal.returns-in-Cut
returns-in-Cut c = clauses _ _ _ _ _ c.self.view_is (cut_tells c)
