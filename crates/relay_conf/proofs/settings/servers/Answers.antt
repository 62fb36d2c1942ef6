use Rattle.std.proofs.Common.{◌∙◌, ◌+◌, [], ◌∷◌, sym, map, drop, append_assoc}
use Rattle.std.specs.Prelude.{codes}
use Rattle.std.proofs.lemmas.List.{append-nil, drop_all}
use Rattle.conf_text.specs.Views.{tree_of}
use Rattle.relay_conf.specs.Elements.{is_named}
use Rattle.relay_conf.proofs.Drops.{drop_is}
use Rattle.relay_conf.proofs.Numbering.{one_taken, one_passed}
use Rattle.relay_conf.proofs.settings.servers.Goals as goal
use Rattle.relay_conf.proofs.settings.servers.Goals.{then-is_named+in_ok-server+in_ok-push, else-is_named}

pub loop-child-preserved : goal.loop-child-preserved
loop-child-preserved g c =
    let xs = c.args.children.now in
    let k = c.loop-child.child-index in
    let here = drop_is xs k c.child-item.result c.loop-child-test.true c.child-item.is in
    let so_far = rw here at c.loop-child.invariant in
    elim c.if-is_named.branch [
      | then-is_named+in_ok-server+in_ok-push w ↦
          let taken = rw (one_taken (is_named (codes "server")) (tree_of c.child-item.result) (map tree_of (drop (k + 1) xs)) (sym c.is_named.ensures ∙ w.if-is_named.true)) at so_far in
          λ rest h. rw (w.found-is, w.in_ok-push.ensures.items, append_assoc) (taken (w.in_ok-server.field-0 ∷ rest) (w.in_ok-server.ensures, h))
      | else-is_named w ↦
          let passed = rw (one_passed (is_named (codes "server")) (tree_of c.child-item.result) (map tree_of (drop (k + 1) xs)) (sym c.is_named.ensures ∙ w.if-is_named.false)) at so_far in
          λ rest h. rw w.found-is (passed rest h)
    ]

pub returns : goal.returns
returns g c =
    let none = drop_all c.loop-child.child-index c.args.children.now c.loop-child-test.false in
    rw (append-nil c.loop-child.found.items) at ((rw none at c.loop-child.invariant) [] tt)
