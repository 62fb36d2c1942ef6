use Rattle.std.proofs.Common.{◌∙◌}
use Rattle.custody_steps.proofs.Given.{answered_iff}
use Rattle.custody_steps.proofs.world.World.is_answered.Goals as goal

pub returns : goal.returns
returns g c =
    let found = c.args.found in
    answered_iff c.is_answered.result c.args.self.now.book.messages found.place found.buffer found.serial (c.is_answered.ensures ∙ c.args.self.now.answers found.place found.buffer found.serial)
