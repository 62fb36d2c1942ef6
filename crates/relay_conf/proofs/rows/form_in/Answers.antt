use Rattle.std.proofs.Common.{◌∙◌, sym, []}
use Rattle.relay_conf.specs.declared.form.Form.TheVariants.{Text}
use Rattle.relay_conf.specs.declared.rows.Row.{Row}
use Rattle.relay_conf.proofs.Drops.{drop_here}
use Rattle.relay_conf.proofs.rows.form_in.Goals as goal

no_row : Row
no_row = record { name = record { ref_ptr = (0, 0); now = [] }; form = Text }

pub returns-then-eq : goal.returns-then-eq
unfolding no_row
returns-then-eq c =
    let here = drop_here c.args.rows.now c.loop-row.row-index no_row c.loop-row-test.true in
    rw (here, sym c.eq.ensures ∙ c.if-eq.true) at c.loop-row.invariant

pub loop-row-preserved : goal.loop-row-preserved
unfolding no_row
loop-row-preserved c =
    let here = drop_here c.args.rows.now c.loop-row.row-index no_row c.loop-row-test.true in
    rw (here, sym c.eq.ensures ∙ c.if-eq.false) at c.loop-row.invariant
