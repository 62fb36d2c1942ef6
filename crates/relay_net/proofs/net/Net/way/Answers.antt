use Rattle.std.proofs.Common.{◌≡◌, [], sym, ap, ◌∙◌}
use Rattle.std.specs.Option.{option_copied, option_map_or}
use Rattle.relay_net.specs.Ways.{table_at}
use Rattle.relay_net.proofs.Gets.{got}
use Rattle.relay_net.proofs.Nowhere.{no_loop, nothing_reached, no_leaves}
use Rattle.relay_net.proofs.Pairing.{tables_are}
use Rattle.relay_net.proofs.net.Net.way.Goals as goal
use Rattle.relay_net.proofs.net.Net.way.Goals.{After-way, After-new}

abbrev table_some : (g : _) (c : After-way g) → table_at c.args.self.now c.args.at.relay ≡ c.in-Some.lookup.now.routes
table_some g c = ap (λ net. table_at net c.args.at.relay) (sym c.self.view_is) ∙ tables_are _ _ c.self.inside.clients.items c.self.invariant.1 c.args.at.relay
    ∙ ap (λ o. option_map_or (λ l. l.routes) o []) (sym (got _ _ c.args.at.relay _ c.deref.ensures.value c.get.ensures.lookup) ∙ ap option_copied c.in-Some.is)

pub returns-in-Some-clause-way : goal.returns-in-Some-clause-way
returns-in-Some-clause-way g c = rw (table_some g c) c.way.ensures.way

pub returns-in-Some-clause-leaves : goal.returns-in-Some-clause-leaves
returns-in-Some-clause-leaves g c = rw (table_some g c) c.way.ensures.leaves

abbrev table_none : (g : _) (c : After-new g) → table_at c.args.self.now c.args.at.relay ≡ []
table_none g c = ap (λ net. table_at net c.args.at.relay) (sym c.self.view_is) ∙ tables_are _ _ c.self.inside.clients.items c.self.invariant.1 c.args.at.relay
    ∙ ap (λ o. option_map_or (λ l. l.routes) o []) (sym (got _ _ c.args.at.relay _ c.deref.ensures.value c.get.ensures.lookup) ∙ ap option_copied c.in-None.is)

pub returns-in-None-clause-way : goal.returns-in-None-clause-way
returns-in-None-clause-way g c = rw (table_none g c, c.new.ensures.items) (no_loop c.args.tag.now c.args.at.scope, nothing_reached c.args.tag.now c.args.at.scope)

pub returns-in-None-clause-leaves : goal.returns-in-None-clause-leaves
returns-in-None-clause-leaves g c = rw (table_none g c, c.new.ensures.items) (λ buffer. no_leaves c.args.tag.now c.args.at.scope buffer)
