use Rattle.std.proofs.Common.{◌≡◌, ◌∙◌, arith}
use Rattle.std.proofs.lemmas.Result.{IfOk-weaker}
use Rattle.way_listing.specs.Lines.{last_note}
use Rattle.way_listing.proofs.Joining.{three}
use Rattle.way_listing.proofs.listing.list_ways.Goals as goal

pub returns : goal.returns
returns g c =
    let listed = c.in_ok-lines.lines.items in
    let unsent = c.in_ok-unsent.unsent.items in
    let found = c.in_ok-found.found in
    IfOk-weaker c.joined.result _ _ (λ lines is. record {
      starts = c.in_ok-begun.begun.items;
      start = rw c.net.ensures.net at c.in_ok-begun.ensures;
      sent = found.sent.items;
      are_all = found.are_all;
      on_way = rw c.net-2.ensures.net at c.in_ok-found.ensures;
      listed = listed;
      are_listed = rw c.deref-2.ensures.value at c.in_ok-lines.ensures;
      unsent = unsent;
      are_unsent = rw c.deref.ensures.value at c.in_ok-unsent.ensures;
      lines_are = three listed unsent (last_note found.are_all) _ _ _ lines.items c.deref-3.ensures.value c.deref-4.ensures.value (c.as_bytes.ensures.value ∙ c.last_note-note.ensures) is;
    }) c.joined.ensures

pub search-requires : goal.search-requires
search-requires g c = c.in_ok-begun.ensures.once (λ i j d less end. absurd (omega (arith, end)))
