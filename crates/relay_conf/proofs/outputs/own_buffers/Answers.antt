use Rattle.std.proofs.Common.{◌≡◌, true, sym, ap, ◌∙◌}
use Rattle.std.specs.Prelude.{◌||◌, codes}
use Rattle.conf_text.specs.Views.{tree_of}
use Rattle.relay_conf.specs.Elements.{is_named}
use Rattle.relay_conf.specs.Meaning.{kind_of}
use Rattle.relay_conf.proofs.Counting.{first_holds, second_holds, counts_itself}
use Rattle.relay_conf.proofs.outputs.own_buffers.Goals as goal
use Rattle.relay_conf.proofs.outputs.own_buffers.Goals.{then-is_named, else-is_named}

pub returns-then-is_buffered : goal.returns-then-is_buffered
returns-then-is_buffered g c =
    let t = tree_of c.args.element.now in
    let named : (is_named (codes "match") t || is_named (codes "store") t) ≡ true = elim c.if-is_named.branch as (λ _. (is_named (codes "match") t || is_named (codes "store") t) ≡ true) [
      | then-is_named w ↦ first_holds _ _ (sym c.is_named.ensures ∙ w.if-is_named.true)
      | else-is_named w ↦ second_holds _ _ (sym w.is_named-is_output.ensures ∙ sym w.is_output-is ∙ c.if-is_output.true)
    ] in
    counts_itself t c.kind_of.result named c.if-is_buffered.ensures (c.kind_of.ensures ∙ ap kind_of c.pairs_of.ensures)
