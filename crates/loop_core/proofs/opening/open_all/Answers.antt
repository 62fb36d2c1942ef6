use Rattle.std.proofs.Common.{◌≡◌, ◌∙◌, ◌++◌, List, [], ap, map, sym, subst}
use Rattle.std.specs.Vec.Iter.{into_iter_items}
use Rattle.std.proofs.lemmas.List.{nil_from_length}
use Rattle.std.proofs.lemmas.List.Elements.{All-nil, All-push, All-same}
use Rattle.relay_ports.specs.declared.buffered.BufferedOutput.{BufferedOutput}
use Rattle.relay_ports.specs.Outputs.{settings_of}
use Rattle.loop_core.specs.Buffers.{AreBuffersOf, ArePlaced, ArePlanned, IsOpenIn, OpenState}
use Rattle.loop_core.specs.Owners.{IsBufferOf, IsPlanned, Owned}
use Rattle.loop_core.proofs.Moving.{all_more, moved, moved_all, pushed_to}
use Rattle.loop_core.proofs.opening.open_all.Goals as goal

pub loop-output-init : goal.loop-output-init
loop-output-init g c =
    let none = c.new-all.ensures.items in
    let P = IsOpenIn (g.F.Folders.is_for c.args.folders.now) g.D.Dir.is_honest g.D.Dir.history in
    let At : Owned _ → Type 0 = λ (one : Owned _). one.path ≡ g.F.Folders.place c.args.folders.now (settings_of one.output).kind in
    record {
      outputs =
          ap (λ (all : List (OpenState _ _)). map (λ one. one.owned.output) all ++ into_iter_items c.into_iter-rest.result) none ∙ c.into_iter-rest.ensures.rest;
      buffers =
          subst (λ (all : List (OpenState _ _)). AreBuffersOf c.args.number (map (λ one. one.owned.output) all) (map (λ one. one.owned.terms) all)) (sym none) tt;
      opened = All-same P c.new-all.result.items [] none (All-nil P);
      placed = subst (λ (all : List (OpenState _ _)). ArePlaced (g.F.Folders.place c.args.folders.now) (map (λ one. one.owned) all)) (sym none) (All-nil At);
      planned = subst (λ (all : List (OpenState _ _)). ArePlanned c.args.now (map (λ one. one.owned) all) (map (λ one. one.plan) all)) (sym none) tt;
    }

pub loop-output-preserved : goal.loop-output-preserved
loop-output-preserved g c =
    let m = c.in_ok-push.ensures.items in
    let same = c.in_ok-opened.ensures.output in
    let P = IsOpenIn (g.F.Folders.is_for c.args.folders.now) g.D.Dir.is_honest g.D.Dir.history in
    let At : Owned _ → Type 0 = λ (one : Owned _). one.path ≡ g.F.Folders.place c.args.folders.now (settings_of one.output).kind in
    record {
      outputs =
          moved (λ (one : OpenState _ _). one.owned.output) c.loop-output.all.items c.push.new.self.items c.in_ok-opened.opened (into_iter_items c.loop-output.rest) (into_iter_items c.next.new.self)
          c.in-Some.output c.args.outputs.items m c.in-Some.ensures.items same c.loop-output.invariant.outputs;
      buffers =
          pushed_to (IsBufferOf c.args.number) (λ (one : OpenState _ _). one.owned.output) (λ (one : OpenState _ _). one.owned.terms) c.loop-output.all.items c.push.new.self.items
          c.in_ok-opened.opened m c.loop-output.invariant.buffers
          (subst (λ (o : BufferedOutput _). IsBufferOf c.args.number o c.in_ok-opened.opened.owned.terms) (sym same) c.in_ok-opened.ensures.buffer);
      placed =
          all_more At (λ (one : OpenState _ _). one.owned) c.loop-output.all.items c.push.new.self.items c.in_ok-opened.opened m c.loop-output.invariant.placed
          (subst (λ (o : BufferedOutput _). c.in_ok-opened.opened.owned.path ≡ g.F.Folders.place c.args.folders.now (settings_of o).kind) (sym same) c.in_ok-opened.ensures.placed);
      opened = All-same P c.push.new.self.items _ m (All-push P c.loop-output.all.items c.in_ok-opened.opened c.loop-output.invariant.opened c.in_ok-opened.ensures.opened);
      planned =
          pushed_to (IsPlanned c.args.now) (λ (one : OpenState _ _). one.owned) (λ (one : OpenState _ _). one.plan) c.loop-output.all.items c.push.new.self.items c.in_ok-opened.opened m
          c.loop-output.invariant.planned c.in_ok-opened.ensures.planned;
    }

pub returns-clause-outputs : goal.returns-clause-outputs
returns-clause-outputs g c =
    moved_all (map (λ (one : OpenState _ _). one.owned.output) c.loop-output.all.items) (into_iter_items c.loop-output.rest) c.args.outputs.items
    (nil_from_length _ (sym c.loop-output.rest.rest.ok.0 ∙ c.in_default.ensures.cases.0)) c.loop-output.invariant.outputs

pub returns-clause-buffers : goal.returns-clause-buffers
returns-clause-buffers g c =
    subst (λ (l : List (BufferedOutput _)). AreBuffersOf c.args.number l (map (λ (one : OpenState _ _). one.owned.terms) c.loop-output.all.items))
    (moved_all (map (λ (one : OpenState _ _). one.owned.output) c.loop-output.all.items) (into_iter_items c.loop-output.rest) c.args.outputs.items
    (nil_from_length _ (sym c.loop-output.rest.rest.ok.0 ∙ c.in_default.ensures.cases.0)) c.loop-output.invariant.outputs) c.loop-output.invariant.buffers
