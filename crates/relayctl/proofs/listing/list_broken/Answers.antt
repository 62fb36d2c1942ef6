use Rattle.std.proofs.Common.{rules, ◌++◌, ◌∙◌, ap, flat_map, length}
use Rattle.std.proofs.lemmas.List.Sorted.{IsNonDecreasingBy-from_sort_by_key}
use Rattle.relayctl.specs.Checking.{all_no_lines, bytes_of}
use Rattle.relayctl.proofs.Explanations.{explained_sorted}
use Rattle.relayctl.proofs.listing.list_broken.Goals as goal

pub returns : goal.returns
returns g c =
    let sorted = c.sort_by_key.new.self.items in
    record {
      explained = sorted;
      are = explained_sorted c.args.plan.now (length c.args.broken.now) c.in_ok-explained.explained.items sorted c.in_ok-explained.ensures c.in_ok-sort_by_key.ensures.permutation;
      shortest_first = IsNonDecreasingBy-from_sort_by_key (λ said. length said.items) sorted c.in_ok-sort_by_key.ensures.sorted (λ a r f' k. search rules);
      lines_are = c.in_ok-put_texts.ensures ∙ ap (λ t. c.put_all_places.new.lines.items ++ flat_map bytes_of t) c.deref.ensures.value
          ∙ ap (λ l. l ++ flat_map bytes_of sorted) (c.in_ok-put_all_places.ensures ∙ ap (λ l. l ++ all_no_lines c.args.broken.now) c.new-lines.ensures.items);
    }
