use Rattle.std.proofs.Common.{◌≡◌, ◌++◌, get_or, rules, subst, sym, take}
use Rattle.std.proofs.lemmas.List.{take_more}
use Rattle.program_text.proofs.ListingSteps.{listed_push}
use Rattle.program_text.specs.Listings.{AreListed}
use Rattle.relayctl.proofs.Dropping.{no_name}
use Rattle.relayctl.specs.Dropping.{IsMissingLine}
use Rattle.relayctl.proofs.drops.missing_lines.Goals as goal

pub loop-name-preserved : goal.loop-name-preserved
unfolding no_name
loop-name-preserved g c =
    let P = IsMissingLine c.args.plan.now in
    let names = c.args.names.now in
    let i = c.loop-name.name-index in
    let more : c.extend_from_slice.new.self.items ≡ c.loop-name.lines.items ++ c.in_ok-line.line.items = search rules in
    subst (λ ns. AreListed P ns c.extend_from_slice.new.self.items) (sym (take_more names i no_name c.loop-name-test.true))
    (listed_push P (take i names) (get_or names i no_name) c.loop-name.lines.items c.in_ok-line.line.items c.extend_from_slice.new.self.items c.loop-name.invariant c.in_ok-line.ensures more)
