use Rattle.std.proofs.Common.{◌≡◌, length, map, sym, arith}
use Rattle.std.specs.Borrow.{Bor}
use Rattle.std.specs.Prelude.{string_bytes}
use Rattle.std.proofs.lemmas.List.{length-map}
use Rattle.relay_conf.specs.declared.output.Output.{Output}
use Rattle.relay_places.proofs.Naming.{are_places}
use Rattle.relay_places.proofs.places.places_of.Goals as goal

pub returns-clause-places : goal.returns-clause-places
returns-clause-places g c =
    let read = λ (found : Bor (Output g.row.A.Denot)). found.now in
    let relay = c.args.relay.now in
    let names = map string_bytes c.in_ok-names.names.items in
    let first = length c.in_ok-names.names.items in
    let named = rw (c.deref.ensures.value, c.deref-2.ensures.value) at c.in_ok-names.ensures in
    let spans = rw c.deref-3.ensures.value at c.in_ok-carriers.ensures.spans in
    let sources : c.len-sources.result ≡ length relay.sources.items = omega (arith, c.len-sources.ensures, relay.sources.ok.0) in
    are_places relay c.args.folder.now (record { sources = c.len-sources.result; spans = c.in_ok-carriers.carriers.items }) (map read c.in_ok-outputs.outputs.items) names first
    c.in_ok-outputs.ensures sources named (sym (length-map c.in_ok-names.names.items (string_bytes {Z = g.row.A.Denot}))) spans
