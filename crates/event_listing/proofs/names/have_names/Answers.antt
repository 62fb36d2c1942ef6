use Rattle.std.proofs.Common.{refl, sym, subst}
use Rattle.std.specs.List.{AllByRecursion}
use Rattle.event_listing.specs.Json.{IsNamed}
use Rattle.event_listing.proofs.Naming.{not_named, named_first, none_left}
use Rattle.event_listing.proofs.names.have_names.Goals as goal

pub returns-then-is_none : goal.returns-then-is_none
returns-then-is_none c = (
  λ f. absurd cc,
  λ all.
      let n = named_first _ _ _ c.first_pair-first.ensures.first (c.loop-left.invariant.back all) in
      absurd (not_named c.name_of.result _ c.if-is_none.ensures c.name_of.ensures n.name n.is),
)

pub returns : goal.returns
returns c = (λ _. c.loop-left.invariant.named (subst (AllByRecursion IsNamed) (sym (none_left c.loop-left.left c.loop-left.rest.now c.loop-left-test.false)) tt), λ _. refl)
