use Rattle.std.proofs.Common.{ℕ, ◌≡◌, ◌*◌, ◌+◌, ◌≤◌, List, [], ◌∷◌, ◌++◌, length}
use Rattle.std.specs.Prelude.{codes}
use Rattle.std.specs.List.{AllByRecursion}
use Rattle.json.specs.Token.{Token, begin_array, begin_object, key}
use Rattle.event_modes.specs.Rows.{items_of, AreItems}
use Rattle.event_listing.specs.Json.{IsJsonWithin, IsNamed, AreJson, AreMembers, ArePairs}
use Rattle.event_listing.specs.Walking.{pairs_of}
use Rattle.event_listing.proofs.Members.{GoesOn}
use Rattle.event_listing.proofs.item.+item.Given as goal

abbrev pub decreases-put_item : goal.decreases-put_item
decreases-put_item g l = 4 * length l.item.now

abbrev pub decreases-put_array : goal.decreases-put_array
decreases-put_array g l = 4 * length l.items.now + 3

abbrev pub decreases-put_map : goal.decreases-put_map
decreases-put_map g l = 4 * length l.pairs.now + 3

abbrev pub decreases-put_object : goal.decreases-put_object
decreases-put_object g l = 4 * length l.pairs.now + 2

abbrev pub decreases-put_pairs : goal.decreases-put_pairs
decreases-put_pairs g l = 4 * length l.pairs.now + 2

abbrev pub decreases-put_pair : goal.decreases-put_pair
decreases-put_pair g l = 4 * (length l.key.now + length l.value.now) + 1

abbrev pub invariant-put_array-loop-left : goal.invariant-put_array-loop-left
invariant-put_array-loop-left g l = record {
  fewer : l.left ≤ l.fn.count;
  items : AreItems l.left l.rest;
  shorter : length l.rest ≤ length l.fn.items;
  before : l.writer.before ≡ l.fn.writer.before;
  values : List Token;
  tokens : l.writer.tokens ≡ l.fn.writer.tokens ++ (begin_array ∷ values);
  goes : GoesOn (AreJson (IsJsonWithin (length l.fn.items))) (items_of l.fn.count l.fn.items) (items_of l.left l.rest) values;
}

abbrev pub invariant-put_object-loop-left : goal.invariant-put_object-loop-left
invariant-put_object-loop-left g l = record {
  fewer : l.left ≤ l.fn.count;
  items : AreItems (2 * l.left) l.rest;
  named : AllByRecursion IsNamed (pairs_of l.left l.rest);
  shorter : length l.rest ≤ length l.fn.pairs;
  before : l.writer.before ≡ l.fn.writer.before;
  values : List Token;
  tokens : l.writer.tokens ≡ l.fn.writer.tokens ++ (begin_object ∷ values);
  goes : GoesOn (AreMembers (IsJsonWithin (length l.fn.pairs))) (pairs_of l.fn.count l.fn.pairs) (pairs_of l.left l.rest) values;
}

abbrev pub invariant-put_pairs-loop-left : goal.invariant-put_pairs-loop-left
invariant-put_pairs-loop-left g l = record {
  fewer : l.left ≤ l.fn.count;
  items : AreItems (2 * l.left) l.rest;
  shorter : length l.rest ≤ length l.fn.pairs;
  before : l.writer.before ≡ l.fn.writer.before;
  values : List Token;
  tokens : l.writer.tokens ≡ l.fn.writer.tokens ++ (begin_object ∷ key (codes "$map") ∷ begin_array ∷ values);
  goes : GoesOn (ArePairs (IsJsonWithin (length l.fn.pairs))) (pairs_of l.fn.count l.fn.pairs) (pairs_of l.left l.rest) values;
}

abbrev pub decreases-put_array-loop-left : goal.decreases-put_array-loop-left
decreases-put_array-loop-left g l = l.left

abbrev pub decreases-put_object-loop-left : goal.decreases-put_object-loop-left
decreases-put_object-loop-left g l = l.left

abbrev pub decreases-put_pairs-loop-left : goal.decreases-put_pairs-loop-left
decreases-put_pairs-loop-left g l = l.left
