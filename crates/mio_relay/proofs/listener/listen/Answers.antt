use Rattle.std.proofs.Common.{◌∙◌, ◌++◌, List, ap, map, sym}
use Rattle.std.specs.Arc.{arc_value}
use Rattle.std.specs.Vec.Iter.{into_iter_items}
use Rattle.std.proofs.lemmas.List.{nil_from_length}
use Rattle.mio_relay.specs.Connections.{Hosted, Served, served_as, sources_in}
use Rattle.mio_relay.proofs.Listening.{none_listens, one_more, moved, moved_all}
use Rattle.mio_relay.proofs.listener.listen.Goals as goal

pub loop-source-init : goal.loop-source-init
loop-source-init g c = record {
  listening = none_listens (g.N.Network.bound c.args.network.now) c.in_ok-listeners.listeners.items c.requires c.in_ok-listeners.ensures.items;
  sources =
      ap (λ (l : List Hosted). sources_in l ++ map (served_as c.args.number (arc_value c.args.routes.now)) (into_iter_items c.into_iter-rest.result)) c.in_ok-listeners.ensures.items
      ∙ ap (map (served_as c.args.number (arc_value c.args.routes.now))) c.into_iter-rest.ensures.rest;
}

pub loop-source-preserved : goal.loop-source-preserved
loop-source-preserved g c =
    let served = served_as c.args.number (arc_value c.args.routes.now) in
    record {
      listening =
          one_more (g.N.Network.bound c.loop-source.network) (g.N.Network.bound c.listen_at.new.network) c.loop-source.listeners.items c.push.new.self.items c.in_ok-listener.listener
          (served c.in-Some.source).endpoint c.loop-source.invariant.listening c.in_ok-listener.ensures.bound (sym (ap (λ (s : Served). s.endpoint) c.in_ok-listener.ensures.source))
          c.in_ok-listener.ensures.number c.in_ok-push.ensures.items;
      sources =
          moved (λ h. h.source) served c.loop-source.listeners.items c.push.new.self.items c.in_ok-listener.listener (into_iter_items c.loop-source.rest) (into_iter_items c.next.new.self)
          c.in-Some.source (map served c.args.sources.items) c.in_ok-push.ensures.items c.in-Some.ensures.items c.in_ok-listener.ensures.source c.loop-source.invariant.sources;
    }

pub returns-clause-sources : goal.returns-clause-sources
returns-clause-sources g c =
    let served = served_as c.args.number (arc_value c.args.routes.now) in
    moved_all served (sources_in c.loop-source.listeners.items) (into_iter_items c.loop-source.rest) (map served c.args.sources.items)
    (nil_from_length _ (sym c.loop-source.rest.rest.ok.0 ∙ c.in_default.ensures.cases.0)) c.loop-source.invariant.sources
