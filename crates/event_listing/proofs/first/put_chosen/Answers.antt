use Rattle.std.proofs.Common.{[], sym, ◌∙◌, append-nil, rules}
use Rattle.std.proofs.lemmas.Int.{to_z-of_z}
use mir.Syntax.{w128}
use mir.Val.{SFits, of_z, to_z}
use Rattle.event_listing.proofs.Printed.{line_of, none_of_it}
use Rattle.event_listing.proofs.first.put_chosen.Goals as goal

pub returns-in_ok-all : goal.returns-in_ok-all
returns-in_ok-all g c =
    let nanos = c.time_of-nanos.result in
    let fits : SFits w128 nanos = search rules in (
      c.in_ok-all.ensures.0,
      line_of c.args.choice.now c.args.tag.now c.args.entry.now nanos (to_z w128 (of_z w128 nanos)) c.in_ok-all.ensures.0 c.time_of-nanos.ensures (to_z-of_z w128 nanos fits)
          (c.in_ok-takes.ensures.0 c.if-branch.true) c.in_ok-all.ensures.1,
      c.in_ok-all.ensures.2,
    )

pub returns-else-branch : goal.returns-else-branch
returns-else-branch g c =
    let nanos = c.time_of-nanos.result in
    let fits : SFits w128 nanos = search rules in (
      [],
      none_of_it c.args.choice.now c.args.tag.now c.args.entry.now nanos (to_z w128 (of_z w128 nanos)) c.time_of-nanos.ensures (to_z-of_z w128 nanos fits)
          (λ is. let chosen = c.in_ok-takes.ensures.1 is in absurd (cc (sym chosen ∙ c.if-branch.false))),
      sym (append-nil c.args.lines.items),
    )
