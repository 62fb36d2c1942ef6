use Rattle.std.proofs.Common.{◌≡◌, ◌++◌, map}
use Rattle.std.specs.List.{All}
use Rattle.std.specs.Vec.Iter.{into_iter_items, into_iter_len}
use Rattle.loop_core.specs.Buffers.{AreBuffersOf, ArePlaced, ArePlanned, IsOpenIn}
use Rattle.loop_core.proofs.opening.open_all.Given as goal

abbrev pub invariant-loop-output : goal.invariant-loop-output
invariant-loop-output g l = record {
  outputs : map (λ one. one.owned.output) l.all.items ++ into_iter_items l.rest ≡ l.fn.outputs.items;
  buffers : AreBuffersOf l.number (map (λ one. one.owned.output) l.all.items) (map (λ one. one.owned.terms) l.all.items);
  opened : All (IsOpenIn (g.F.Folders.is_for l.folders) g.D.Dir.is_honest g.D.Dir.history) l.all.items;
  placed : ArePlaced (g.F.Folders.place l.folders) (map (λ one. one.owned) l.all.items);
  planned : ArePlanned l.now (map (λ one. one.owned) l.all.items) (map (λ one. one.plan) l.all.items);
}

abbrev pub decreases-loop-output : goal.decreases-loop-output
decreases-loop-output g l = into_iter_len l.rest
