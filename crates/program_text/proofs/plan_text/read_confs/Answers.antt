use Rattle.std.proofs.Common.{◌+◌, ◌∷◌, [], List, ℕ, length, ap, ◌∙◌}
use Rattle.std.specs.Borrow.{Bor}
use Rattle.std.specs.declared.vec.Vec.{Vec}
use Rattle.std.proofs.lemmas.List.{length-append, map_more, map_push, take_all}
use Rattle.std.proofs.lemmas.List.Elements.{AllZip-push}
use Rattle.program_text.specs.Texts.{IsTextOf}
use Rattle.program_text.proofs.plan_text.read_confs.Goals as goal

pub loop-name-preserved : goal.loop-name-preserved
loop-name-preserved g c =
    let confs = c.loop-name.confs.items in
    record {
      count = ap length c.in_ok-push.ensures.items ∙ length-append confs (c.in_ok-conf.conf ∷ []) ∙ ap (λ n. n + 1) c.loop-name.invariant.count;
      texts =
          rw (map_more (λ (name : Bor (List ℕ)). name.now) c.args.names.now c.loop-name.name-index (record { ref_ptr = (0, 0); now = [] }) c.loop-name-test.true, c.in_ok-push.ensures.items, map_push (λ (conf : Vec ℕ g.row.A.Denot). conf.items) confs c.in_ok-conf.conf)
          (AllZip-push (λ name conf. IsTextOf (g.O.Open.text_of c.args.files.now name) conf) _ _ _ _ c.loop-name.invariant.texts c.in_ok-conf.ensures);
    }

pub returns-clause-texts : goal.returns-clause-texts
returns-clause-texts g c = rw (take_all c.loop-name.name-index c.args.names.now c.loop-name-test.false) at c.loop-name.invariant.texts
