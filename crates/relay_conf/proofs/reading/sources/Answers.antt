use Rattle.std.proofs.Common.{◌∙◌, ◌+◌, [], ◌∷◌, sym, map, drop, append_assoc}
use Rattle.std.specs.Prelude.{codes}
use Rattle.std.proofs.lemmas.List.{append-nil, drop_all}
use Rattle.conf_text.specs.Views.{tree_of}
use Rattle.relay_conf.specs.Elements.{is_named}
use Rattle.relay_conf.proofs.Drops.{drop_is}
use Rattle.relay_conf.proofs.Numbering.{one_taken, one_passed}
use Rattle.relay_conf.proofs.reading.sources.Goals as goal
use Rattle.relay_conf.proofs.reading.sources.Goals.{then-is_named+in_ok-source+in_ok-push, else-is_named}

pub loop-element-init : goal.loop-element-init
loop-element-init g c = λ rest h. rw c.new-found.ensures.items h

pub loop-element-preserved : goal.loop-element-preserved
loop-element-preserved g c =
    let xs = c.args.elements.now in
    let k = c.loop-element.element-index in
    let here = drop_is xs k c.element-item.result c.loop-element-test.true c.element-item.is in
    let front = c.loop-element.invariant in
    elim c.if-is_named.branch [
      | then-is_named+in_ok-source+in_ok-push w ↦
          λ rest h. rw (w.found-is, w.in_ok-push.ensures.items, append_assoc) (front (w.in_ok-source.field-0 ∷ rest)
          (rw (here, one_taken (is_named (codes "source")) (tree_of c.element-item.result) (map tree_of (drop (k + 1) xs)) (sym c.is_named.ensures ∙ w.if-is_named.true)) (w.in_ok-source.ensures, h)))
      | else-is_named w ↦
          λ rest h. rw w.found-is (front rest
          (rw (here, one_passed (is_named (codes "source")) (tree_of c.element-item.result) (map tree_of (drop (k + 1) xs)) (sym c.is_named.ensures ∙ w.if-is_named.false)) h))
    ]

pub returns : goal.returns
returns g c =
    let none = drop_all c.loop-element.element-index c.args.elements.now c.loop-element-test.false in
    rw (append-nil c.loop-element.found.items) at (c.loop-element.invariant [] (rw none tt))
