use Rattle.std.proofs.Common.{◌≡◌, Some, None, slice_get, refl, sym, ap, ◌∙◌}
use Rattle.std.specs.Option.{option_copied}
use Rattle.relay_net.proofs.Gets.{got}
use Rattle.relay_net.proofs.index.OutputPlace.output_within.Goals as goal

pub returns-in-Some : goal.returns-in-Some
returns-in-Some g c =
    let there : slice_get c.args.scope.now.matches.items c.args.self.rule ≡ Some c.in-Some.rule.now = sym (got _ _ c.args.self.rule _ c.deref.ensures.value c.get.ensures.lookup) ∙ ap option_copied c.in-Some.is in
    rw there (got _ _ c.args.self.output _ c.deref-in-Some.ensures.value c.get-in-Some.ensures.lookup)

pub returns-in-None : goal.returns-in-None
returns-in-None g c =
    let none : slice_get c.args.scope.now.matches.items c.args.self.rule ≡ None = sym (got _ _ c.args.self.rule _ c.deref.ensures.value c.get.ensures.lookup) ∙ ap option_copied c.in-None.is in
    rw none refl
