use Rattle.std.proofs.Common.{◌≡◌, length, arith}
use Rattle.std.proofs.lemmas.Bool.Decides.{nat_tests}
use Rattle.conf_text.specs.Frames.{frame_of}
use Rattle.conf_text.proofs.Stacks.{ends_open, ends_whole}
use Rattle.conf_text.proofs.section.Reader.finish.Goals as goal

pub returns-then-not-is_empty : goal.returns-then-not-is_empty
returns-then-not-is_empty g c =
    let len = c.args.self.outer.ok.0 in
    ends_open frame_of (frame_of c.args.self.innermost) c.args.self.outer.items (grind (arith, nat_tests))

pub returns : goal.returns
returns g c =
    let len = c.args.self.outer.ok.0 in
    let none : length c.args.self.outer.items ≡ 0 = grind (arith, nat_tests) in
    rw (ends_whole frame_of (frame_of c.args.self.innermost) c.args.self.outer.items none) c.into_elements.ensures
