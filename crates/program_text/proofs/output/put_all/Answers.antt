use Rattle.std.proofs.Common.{◌≡◌, drop, subst, sym, ap, ◌∙◌}
use Rattle.program_text.specs.Output.{TakesPart}
use Rattle.program_text.proofs.OutputSteps.{TakesPart-more, TakesPart-kept}
use Rattle.program_text.proofs.output.put_all.Goals.{in-Ok, in-Err}
use Rattle.program_text.proofs.output.put_all.Goals as goal

pub loop-preserved : goal.loop-preserved
loop-preserved g c =
    let contents = g.W.Write.contents in
    elim c.match-write.branch [
      | in-Ok w ↦
          let rest : c.match-write.rest.now ≡ drop w.in-Ok.n c.loop.rest.now = ap (λ b. b.now) w.rest-is ∙ w.split_at.ensures.back in
          subst (TakesPart (contents c.args.out.now) (contents c.write.new.self) c.args.bytes.now) (sym rest)
          (TakesPart-more (contents c.args.out.now) (contents c.loop.out) (contents c.write.new.self) c.args.bytes.now c.loop.rest.now w.in-Ok.n c.loop.invariant w.in-Ok.ensures.bytes)
      | in-Err w ↦
          subst (TakesPart (contents c.args.out.now) (contents c.write.new.self) c.args.bytes.now) (sym (ap (λ b. b.now) w.rest-is))
          (TakesPart-kept (contents c.args.out.now) (contents c.loop.out) (contents c.write.new.self) c.args.bytes.now c.loop.rest.now c.loop.invariant w.in-Err.ensures.bytes)
    ]
