use Rattle.std.proofs.Common.{[], ◌∷◌, ◌++◌, ◌∙◌, ap, arith}
use Rattle.conf_text.specs.Frames.{frame_of}
use Rattle.conf_text.proofs.Stacks.{open_gives}
use Rattle.conf_text.proofs.section.Reader.open.Goals as goal

pub returns : goal.returns
returns g c =
    open_gives frame_of c.args.line c.args.name.now c.args.argument.now c.args.self.now.innermost c.replace-parent.new.dest c.args.self.now.outer.items c.push.new.self.items
    (omega (arith, c.args.self.now.outer.ok.0)) (ap (λ s. frame_of s) c.replace-parent.ensures.after ∙ c.in_ok-section.ensures)
    (c.in_ok-push.ensures.items ∙ ap (λ s. c.args.self.now.outer.items ++ (s ∷ [])) c.replace-parent.ensures.value)
