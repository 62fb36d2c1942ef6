use Rattle.std.proofs.Common.{cond, Some, None, ap, ◌∙◌, ◌==◌, ◌&&◌, arith}
use Rattle.std.specs.Prelude.{string_bytes}
use Rattle.std.specs.Str.{bytes_eq}
use Rattle.std.specs.Option.{option_or}
use Rattle.relay_net.specs.Sources.{first_place}
use Rattle.relay_net.proofs.Passing.{one_turn, no_turn}
use Rattle.relay_net.proofs.Entries.{among_sources, sources_step, no_sources, all_sources}
use Rattle.relay_net.proofs.sources.SourceIndex.add_node.Goals as goal

pub loop-source-preserved : goal.loop-source-preserved
loop-source-preserved g c = λ other.
    one_turn (λ _ sources. among_sources c.args.place (string_bytes c.args.node.now.host) sources other)
    (λ _ source. cond (bytes_eq (string_bytes c.args.node.now.host) other.host && (source.port == other.port)) (Some c.args.place) None)
    (λ _ source sources. sources_step c.args.place (string_bytes c.args.node.now.host) source sources other)
    c.args.node.now.relay.sources.items c.loop-source.source-index c.source-item.result (rw (← c.deref-source-items.ensures.value) (omega arith)) (rw (← c.deref-source-items.ensures.value) c.source-item.is) _ _ _
    (rw (← c.as_bytes.ensures.value) (c.in_ok-add.ensures other)) (c.loop-source.invariant other)

pub returns : goal.returns
returns g c = λ other.
    no_turn (λ _ sources. among_sources c.args.place (string_bytes c.args.node.now.host) sources other) (λ _. no_sources g.row.B.Denot c.args.place (string_bytes c.args.node.now.host) other)
    c.args.node.now.relay.sources.items c.loop-source.source-index (rw (← c.deref-source-items.ensures.value) (omega arith)) _ _ (c.loop-source.invariant other)
    ∙ ap (option_or (first_place c.args.self.now other)) (all_sources c.args.place c.args.node.now other)
