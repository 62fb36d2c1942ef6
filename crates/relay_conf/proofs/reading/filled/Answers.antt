use Rattle.std.proofs.Common.{map}
use Rattle.conf_text.specs.Views.{tree_of}
use Rattle.relay_conf.proofs.Trees.{tree_list_trees}
use Rattle.relay_conf.proofs.reading.filled.Goals as goal

pub returns : goal.returns
returns g c = record {
  sources = c.in_ok-sources.ensures;
  scopes = rw c.in_ok-insert.ensures.items (
    record {
      name = c.new.ensures.bytes;
      matches = rw (tree_list_trees (map tree_of c.args.elements.now)) c.in_ok-matches_in.ensures;
    },
    c.in_ok-scopes.ensures,
  );
}
