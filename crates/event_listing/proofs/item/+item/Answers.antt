use Rattle.std.proofs.Common.{ℕ, suc, ◌≡◌, ◌-◌, ◌≤◌, List, [], ◌∷◌, ◌++◌, length, refl, ap, sym, subst, ◌∙◌, arith, append_assoc, length-append}
use Rattle.std.specs.Prelude.{codes}
use Rattle.std.specs.List.{AllByRecursion}
use Rattle.json.specs.Token.{begin_array, begin_object, end_array, end_object, key}
use Rattle.msgpack_bytes.specs.Answers.{IsHead}
use Rattle.event_modes.specs.Rows.{items_of}
use Rattle.event_modes.proofs.Heads.{has_head}
use Rattle.event_listing.specs.Json.{AreJson, AreMembers, ArePairs, IsJsonWithin, IsNamed, IsScalarJson}
use Rattle.event_listing.specs.Walking.{pairs_of, IsArrayOf, IsMapOf, IsObjectOf, IsPairOf, IsPairsOf, Object, Pairs}
use Rattle.event_listing.proofs.Deeper.{deeper, scalar_within, array_within, map_within}
use Rattle.event_listing.proofs.Members.{behind_all, ended, goes_to, map_json, member_more, no_items_left, pair_more, value_more}
use Rattle.event_listing.proofs.Naming.{named_first, none_left, not_true}
use Rattle.event_listing.proofs.Steps.{adds_as}
use Rattle.event_listing.proofs.item.+item.Goals as goal

pub put_item-unreachable-requires : goal.put_item-unreachable-requires
put_item-unreachable-requires g t c = has_head c.args.item.now c.requires (subst (IsHead c.args.item.now 0) c.in-None.is c.head.ensures.right)

pub put_item-returns-in-Some-Array : goal.put_item-returns-in-Some-Array
put_item-returns-in-Some-Array g t c =
    let item = c.args.item.now in
    let inner = c.array_items-items.result.now in
    let found = c.array_items-items.ensures in
    let within : suc (length inner) ≤ length item = omega (arith, found.shorter) in
    adds_as c.put_array.result (IsArrayOf (IsJsonWithin (length inner)) (items_of c.in-Some-Array.count inner)) (IsJsonWithin (length item) item) c.args.writer.now c.put_array.new.writer
    (λ ts a. array_within (length inner) (length item) item ts within (record { items = items_of c.in-Some-Array.count inner; array = found.array; values = a.values; each = a.each; whole = a.whole }))
    c.put_array.ensures

pub put_item-returns-in-Some-Map : goal.put_item-returns-in-Some-Map
put_item-returns-in-Some-Map g t c =
    let item = c.args.item.now in
    let inner = c.map_pairs-pairs.result.now in
    let found = c.map_pairs-pairs.ensures in
    let within : suc (length inner) ≤ length item = omega (arith, found.shorter) in
    adds_as c.put_map.result (IsMapOf (IsJsonWithin (length inner)) (pairs_of c.in-Some-Map.count inner)) (IsJsonWithin (length item) item) c.args.writer.now c.put_map.new.writer
    (λ ts m. map_within (length inner) (length item) item ts within (map_json (IsJsonWithin (length inner)) (pairs_of c.in-Some-Map.count inner) item ts found.map m)) c.put_map.ensures

pub put_item-returns-in-Some : goal.put_item-returns-in-Some
put_item-returns-in-Some g t c =
    adds_as c.put_scalar.result (IsScalarJson c.args.item.now) (IsJsonWithin (length c.args.item.now) c.args.item.now) c.args.writer.now c.put_scalar.new.writer
    (λ ts s. scalar_within (length c.args.item.now) c.args.item.now ts s) c.put_scalar.ensures

pub put_array-loop-left-preserved : goal.put_array-loop-left-preserved
put_array-loop-left-preserved g t c =
    let so_far = c.loop-left.invariant in
    let first = c.first_item-first in
    let item = first.result.item.now in
    let rest = first.result.rest.now in
    let all = length c.args.items.now in
    let put = c.in_ok-put_item.ensures in
    let lengths = length-append item rest in
    let taken = ap length first.ensures.whole in
    let fits : length item ≤ all = omega (arith, so_far.shorter, taken, lengths) in
    record {
      fewer = omega (arith, so_far.fewer);
      items = first.ensures.left;
      shorter = omega (arith, so_far.shorter, taken, lengths);
      before = put.appends.before ∙ so_far.before;
      values = so_far.values ++ put.tokens;
      tokens = behind_all c.args.writer.now.tokens (begin_array ∷ []) so_far.values put.tokens c.put_item.new.writer.tokens (put.appends.tokens_are ∙ ap (λ z. z ++ put.tokens) so_far.tokens);
      goes = value_more (IsJsonWithin all) (items_of c.args.count c.args.items.now) (items_of c.loop-left.left c.loop-left.rest.now) (items_of (c.loop-left.left - 1) rest) item so_far.values put.tokens
          first.ensures.first (deeper (length item) all fits item put.tokens put.is) so_far.goes;
    }

pub put_array-returns : goal.put_array-returns
put_array-returns g t c =
    let so_far = c.loop-left.invariant in
    let Is = IsJsonWithin (length c.args.items.now) in
    let all = items_of c.args.count c.args.items.now in
    ended c.end_array.result (IsArrayOf Is all) c.args.writer.now c.loop-left.writer c.end_array.new.self (begin_array ∷ []) so_far.values end_array so_far.tokens so_far.before
    c.end_array.ensures.ok c.end_array.ensures.room.0
    (record {
      values = so_far.values;
      each = goes_to (AreJson Is) all (items_of c.loop-left.left c.loop-left.rest.now) so_far.values (no_items_left c.loop-left.left c.loop-left.rest.now c.loop-left-test.false) refl so_far.goes;
      whole = refl;
    })

pub put_map-returns-then-have_names : goal.put_map-returns-then-have_names
put_map-returns-then-have_names g t c =
    let Is = IsJsonWithin (length c.args.pairs.now) in
    let all = pairs_of c.args.count c.args.pairs.now in
    adds_as c.put_object.result (IsObjectOf Is all) (IsMapOf Is all) c.args.writer.now c.put_object.new.writer (λ ts object. Object object) c.put_object.ensures

pub put_map-returns-else-have_names : goal.put_map-returns-else-have_names
put_map-returns-else-have_names g t c =
    let Is = IsJsonWithin (length c.args.pairs.now) in
    let all = pairs_of c.args.count c.args.pairs.now in
    adds_as c.put_pairs.result (IsPairsOf Is all) (IsMapOf Is all) c.args.writer.now c.put_pairs.new.writer (λ ts pairs. Pairs (λ named. not_true (c.if-have_names.ensures.1 named)) pairs) c.put_pairs.ensures

pub put_object-unreachable-requires : goal.put_object-unreachable-requires
put_object-unreachable-requires g t c =
    let named = named_first _ _ _ c.first_pair-first.ensures.first c.loop-left.invariant.named in
    c.in_default.ensures named.name named.is

pub put_object-loop-left-preserved : goal.put_object-loop-left-preserved
put_object-loop-left-preserved g t c =
    let so_far = c.loop-left.invariant in
    let first = c.first_pair-first in
    let name = c.in-Some.name.now in
    let value = first.result.value.now in
    let behind = first.result.value.now ++ first.result.rest.now in
    let all = length c.args.pairs.now in
    let put = c.in_ok-put_item.ensures in
    let taken = ap length first.ensures.whole in
    let front_lengths = length-append first.result.key.now behind in
    let lengths = length-append value first.result.rest.now in
    let fits : length value ≤ all = omega (arith, so_far.shorter, taken, front_lengths, lengths) in
    let pairs = pairs_of c.loop-left.left c.loop-left.rest.now in
    let others = pairs_of (c.loop-left.left - 1) first.result.rest.now in
    record {
      fewer = omega (arith, so_far.fewer);
      items = first.ensures.left;
      named = (subst (AllByRecursion IsNamed) first.ensures.first so_far.named).1;
      shorter = omega (arith, so_far.shorter, taken, front_lengths, lengths);
      before = put.appends.before ∙ c.in_ok-key.ensures.room.0 ∙ so_far.before;
      values = so_far.values ++ key name ∷ put.tokens;
      tokens = behind_all c.args.writer.now.tokens (begin_object ∷ []) so_far.values (key name ∷ put.tokens) c.put_item.new.writer.tokens
          (put.appends.tokens_are ∙ ap (λ z. z ++ put.tokens) c.in_ok-key.ensures.ok ∙ append_assoc c.loop-left.writer.tokens (key name ∷ []) put.tokens ∙ ap (λ z. z ++ key name ∷ put.tokens) so_far.tokens);
      goes = member_more (IsJsonWithin all) (pairs_of c.args.count c.args.pairs.now) pairs others (record { key = first.result.key.now; value = value }) name so_far.values put.tokens
          first.ensures.first c.in-Some.ensures (deeper (length value) all fits value put.tokens put.is) so_far.goes;
    }

pub put_object-returns : goal.put_object-returns
put_object-returns g t c =
    let so_far = c.loop-left.invariant in
    let Is = IsJsonWithin (length c.args.pairs.now) in
    let all = pairs_of c.args.count c.args.pairs.now in
    ended c.end_object.result (IsObjectOf Is all) c.args.writer.now c.loop-left.writer c.end_object.new.self (begin_object ∷ []) so_far.values end_object so_far.tokens so_far.before
    c.end_object.ensures.ok c.end_object.ensures.room.0
    (record {
      members = so_far.values;
      each = goes_to (AreMembers Is) all (pairs_of c.loop-left.left c.loop-left.rest.now) so_far.values (none_left c.loop-left.left c.loop-left.rest.now c.loop-left-test.false) refl so_far.goes;
      whole = refl;
    })

pub put_pairs-loop-left-preserved : goal.put_pairs-loop-left-preserved
put_pairs-loop-left-preserved g t c =
    let so_far = c.loop-left.invariant in
    let first = c.first_pair-first in
    let one = first.result.key.now in
    let value = first.result.value.now in
    let behind = first.result.value.now ++ first.result.rest.now in
    let all = length c.args.pairs.now in
    let put = c.in_ok-put_pair.ensures in
    let pair = put.is in
    let taken = ap length first.ensures.whole in
    let front_lengths = length-append one behind in
    let lengths = length-append value first.result.rest.now in
    let key_fits : length one ≤ all = omega (arith, so_far.shorter, taken, front_lengths, lengths) in
    let value_fits : length value ≤ all = omega (arith, so_far.shorter, taken, front_lengths, lengths) in
    let pairs = pairs_of c.loop-left.left c.loop-left.rest.now in
    let others = pairs_of (c.loop-left.left - 1) first.result.rest.now in
    let more = begin_array ∷ (pair.first ++ (pair.second ++ end_array ∷ [])) in
    record {
      fewer = omega (arith, so_far.fewer);
      items = first.ensures.left;
      shorter = omega (arith, so_far.shorter, taken, front_lengths, lengths);
      before = put.appends.before ∙ so_far.before;
      values = so_far.values ++ more;
      tokens = behind_all c.args.writer.now.tokens (begin_object ∷ key (codes "$map") ∷ begin_array ∷ []) so_far.values more c.put_pair.new.writer.tokens
          (put.appends.tokens_are ∙ ap (λ z. c.loop-left.writer.tokens ++ z) pair.whole ∙ ap (λ z. z ++ more) so_far.tokens);
      goes = pair_more (IsJsonWithin all) (pairs_of c.args.count c.args.pairs.now) pairs others (record { key = one; value = value }) so_far.values pair.first pair.second
          first.ensures.first (deeper (length one) all key_fits one pair.first pair.first_is) (deeper (length value) all value_fits value pair.second pair.second_is) so_far.goes;
    }

pub put_pairs-returns : goal.put_pairs-returns
put_pairs-returns g t c =
    let so_far = c.loop-left.invariant in
    let Is = IsJsonWithin (length c.args.pairs.now) in
    let all = pairs_of c.args.count c.args.pairs.now in
    let front = begin_object ∷ key (codes "$map") ∷ begin_array ∷ [] in
    ended c.end_object.result (IsPairsOf Is all) c.args.writer.now c.end_array.new.self c.end_object.new.self front (so_far.values ++ end_array ∷ []) end_object
    (behind_all c.args.writer.now.tokens front so_far.values (end_array ∷ []) c.end_array.new.self.tokens (c.in_ok-end_array.ensures.ok ∙ ap (λ z. z ++ end_array ∷ []) so_far.tokens))
    (c.in_ok-end_array.ensures.room.0 ∙ so_far.before) c.end_object.ensures.ok c.end_object.ensures.room.0
    (record {
      values = so_far.values;
      each = goes_to (ArePairs Is) all (pairs_of c.loop-left.left c.loop-left.rest.now) so_far.values (none_left c.loop-left.left c.loop-left.rest.now c.loop-left-test.false) refl so_far.goes;
      whole = refl;
    })

pub put_pair-returns : goal.put_pair-returns
put_pair-returns g t c =
    let one = c.in_ok-put_item.ensures in
    let two = c.in_ok-put_item-2.ensures in
    let KeyIs = IsJsonWithin (length c.args.key.now) in
    let ValueIs = IsJsonWithin (length c.args.value.now) in
    let old = c.args.writer.now.tokens in
    ended c.end_array.result (IsPairOf KeyIs ValueIs c.args.key.now c.args.value.now) c.args.writer.now c.put_item-2.new.writer c.end_array.new.self (begin_array ∷ []) (one.tokens ++ two.tokens) end_array
    (two.appends.tokens_are ∙ ap (λ z. z ++ two.tokens) (one.appends.tokens_are ∙ ap (λ z. z ++ one.tokens) c.in_ok-begin_array.ensures.ok)
    ∙ append_assoc (old ++ begin_array ∷ []) one.tokens two.tokens ∙ append_assoc old (begin_array ∷ []) (one.tokens ++ two.tokens))
    (two.appends.before ∙ one.appends.before ∙ c.in_ok-begin_array.ensures.room.0) c.end_array.ensures.ok c.end_array.ensures.room.0
    (record {
      first = one.tokens;
      second = two.tokens;
      first_is = one.is;
      second_is = two.is;
      whole = ap (λ z. begin_array ∷ z) (append_assoc one.tokens two.tokens (end_array ∷ []));
    })
