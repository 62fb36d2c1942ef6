use Rattle.std.proofs.Common.{◌≡◌, ◌++◌, length, ap, sym, ◌∙◌, Some, None}
use Rattle.std.proofs.lemmas.Bool.Decides.{Decides-eqb}
use Rattle.std.proofs.lemmas.List.{append_cancel_left}
use Rattle.std.proofs.lemmas.Slice.Eq.{strip_prefix_is}
use Rattle.event_listing.proofs.time.eight_behind.Goals.{in_default-via-in-Some+else-content-eq8, in_default-via-in_default}
use Rattle.event_listing.proofs.time.eight_behind.Goals as goal

pub returns-in-Some : goal.returns-in-Some
returns-in-Some c =
    (c.if-content-eq8.true, strip_prefix_is Decides-eqb c.args.bytes.now c.args.front.now (Some c.in-Some.content) c.in-Some.ensures.cases)

pub returns-in_default : goal.returns-in_default
returns-in_default c content eight same = elim c.in_default.branch [
  | in_default-via-in-Some+else-content-eq8 w ↦
      let own = strip_prefix_is Decides-eqb c.args.bytes.now c.args.front.now (Some w.in-Some.content) w.in-Some.ensures.cases in
      w.if-content-eq8.false (ap length (append_cancel_left c.args.front.now w.in-Some.content.now content (sym own ∙ same)) ∙ eight)
  | in_default-via-in_default w ↦ strip_prefix_is Decides-eqb c.args.bytes.now c.args.front.now None w.in_default.ensures.cases content same
]
