use Rattle.std.proofs.Common.{List, refl, subst, arith}
use Rattle.relay_conf.specs.declared.output.Server.{Server}
use Rattle.std.proofs.lemmas.Option.{slice_get_read}
use Rattle.loss_rules.specs.Lines.{Adds, KeptInList, BrokenInList}
use Rattle.loss_rules.proofs.Lines.{one_more, all_of}
use Rattle.loss_rules.proofs.requirement.OfServersRequirementOutput.add_lines.Goals as goal

pub loop-server-preserved : goal.loop-server-preserved
loop-server-preserved g c = one_more (λ number server. g.R.Requirement.keeps c.args.self.now.0 c.args.at server) (λ number server line. g.R.Requirement.breaks c.args.self.now.0 c.args.at server line) c.servers-server-items.result.now c.loop-server.server-index c.server-item.result _ _ _ (slice_get_read c.servers-server-items.result.now _ c.loop-server.server-index c.server-item.result refl (omega arith) c.server-item.is) c.loop-server.invariant c.in_ok-add_lines.ensures

pub returns : goal.returns
returns g c =
    let P : List (Server g.row.A.Denot) → Type 0 = λ xs. Adds (KeptInList (λ number server. g.R.Requirement.keeps c.args.self.now.0 c.args.at server) xs) (BrokenInList (λ number server line. g.R.Requirement.breaks c.args.self.now.0 c.args.at server line) xs) c.args.lines.now.items c.loop-server.lines.items in
    subst P c.servers-server-items.ensures (all_of (λ number server. g.R.Requirement.keeps c.args.self.now.0 c.args.at server) (λ number server line. g.R.Requirement.breaks c.args.self.now.0 c.args.at server line) c.servers-server-items.result.now c.loop-server.server-index _ _ (omega arith) c.loop-server.invariant)
