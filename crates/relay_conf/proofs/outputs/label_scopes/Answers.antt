use Rattle.std.proofs.Common.{◌∙◌, ◌+◌, [], ◌∷◌, sym, map, drop, append_assoc}
use Rattle.std.specs.Prelude.{codes}
use Rattle.std.proofs.lemmas.List.{append-nil, drop_all}
use Rattle.conf_text.specs.Views.{tree_of}
use Rattle.relay_conf.proofs.Drops.{drop_is}
use Rattle.relay_conf.proofs.Numbering.{numbered_here, numbered_behind}
use Rattle.relay_conf.proofs.outputs.label_scopes.Goals as goal
use Rattle.relay_conf.proofs.outputs.label_scopes.Goals.{then-is_named+in_ok-scope+in_ok-push, else-is_named}

pub loop-element-preserved : goal.loop-element-preserved
loop-element-preserved g c =
    let xs = c.args.elements.now in
    let k = c.loop-element.element-index in
    let here = drop_is xs k c.element-item.result c.loop-element-test.true c.element-item.is in
    let so_far = rw here at c.loop-element.invariant in
    elim c.if-is_named.branch [
      | then-is_named+in_ok-scope+in_ok-push w ↦
          let taken = rw (numbered_here (codes "label") c.loop-element.number c.in_ok-number.number (tree_of c.element-item.result) (map tree_of (drop (k + 1) xs)) (sym c.is_named.ensures ∙ w.if-is_named.true) c.in_ok-number.ensures) at so_far in
          λ rest h. rw (w.scopes-is, w.in_ok-push.ensures.items, append_assoc) (taken (w.in_ok-scope.field-0 ∷ rest) (w.in_ok-scope.ensures, h))
      | else-is_named w ↦
          let passed = rw (numbered_behind (codes "label") c.loop-element.number c.in_ok-number.number (tree_of c.element-item.result) (map tree_of (drop (k + 1) xs)) (sym c.is_named.ensures ∙ w.if-is_named.false) c.in_ok-number.ensures) at so_far in
          λ rest h. rw w.scopes-is (passed rest h)
    ]

pub returns : goal.returns
returns g c =
    let none = drop_all c.loop-element.element-index c.args.elements.now c.loop-element-test.false in
    rw (append-nil c.loop-element.scopes.items) at ((rw none at c.loop-element.invariant) [] tt)
