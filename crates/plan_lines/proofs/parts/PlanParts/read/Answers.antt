use Rattle.std.proofs.Common.{◌≡◌, ◌≤◌, ◌∙◌, ℕ, suc, ◌+◌, List, [], length, get_or, take, drop, sym, ap, subst, arith}
use Rattle.std.proofs.lemmas.List.{length-map, length-take-le, take_all}
use Rattle.std.specs.Borrow.{Bor}
use Rattle.std.specs.List.{filter_map}
use Rattle.text_lines.specs.Lines.{text_lines}
use Rattle.plan_lines.specs.Drafts.{draft_of, HasItsConf}
use Rattle.plan_lines.specs.Faults.{Refuses}
use Rattle.plan_lines.specs.Forms.{line_form, conf_named, confs_named}
use Rattle.plan_lines.specs.Plans.{Adds, Say, none, one_more, texts}
use Rattle.plan_lines.proofs.Counting.{has_its_conf}
use Rattle.plan_lines.proofs.LinesRead.{bytes_of, split_at, take_next}
use Rattle.plan_lines.proofs.OwnBuffers.{distinct_said}
use Rattle.plan_lines.proofs.Saying.{sources_said, relay_lines_said, client_lines_said, confs_said, is_refusal}
use Rattle.plan_lines.proofs.Words.{no_word}
use Rattle.plan_lines.proofs.parts.PlanParts.read.Goals as goal

pub add-requires : goal.add-requires
add-requires g c =
    let lines = c.as_slice-all.result.now in
    let at = c.loop-at.at in
    let line = get_or lines at no_word in
    let parts = split_at lines at no_word (omega arith) in
    let named : length c.args.confs.now ≡ length (confs_named c.args.net.now) = c.requires in
    let own = has_its_conf line.now (take at (bytes_of lines)) (drop (suc at) (bytes_of lines)) (length c.loop-at.draft.relays) (confs_said c.loop-at.invariant) in
    subst (λ n. HasItsConf (line_form line.now) (length c.loop-at.draft.relays) n) (sym (named ∙ ap (λ (ls : List (List ℕ)). length (filter_map conf_named ls)) (sym c.in_ok-lines.ensures ∙ ap bytes_of (sym c.as_slice-all.ensures.value) ∙ parts))) own

pub loop-at-preserved : goal.loop-at-preserved
loop-at-preserved g c =
    let lines = c.as_slice-all.result.now in
    let at = c.loop-at.at in
    let line = get_or lines at no_word in
    let long : length (take at (bytes_of lines)) ≡ at = length-take-le at (bytes_of lines) (simp length-map (omega arith)) in
    rw (take_next lines at no_word (omega arith))
    (one_more line.now c.loop-at.invariant (subst (λ n. Adds (texts c.args.confs.now) (n + 1) (line_form line.now) (draft_of c.loop-at.draft) (draft_of c.add.new.self)) (sym long) c.in-Ok.ensures.adds))

pub returns-in-Err-clause-refused : goal.returns-in-Err-clause-refused
returns-in-Err-clause-refused g c =
    let lines = c.as_slice-all.result.now in
    let at = c.loop-at.at in
    let line = get_or lines at no_word in
    let long : length (take at (bytes_of lines)) ≡ at = length-take-le at (bytes_of lines) (simp length-map (omega arith)) in
    is_refusal g.row.A.Denot c.args.net.now (texts c.args.confs.now) c.in-Err.error (record {
      before = take at (bytes_of lines);
      refused = line.now;
      others = drop (suc at) (bytes_of lines);
      lines_are = sym c.in_ok-lines.ensures ∙ ap bytes_of (sym c.as_slice-all.ensures.value) ∙ split_at lines at no_word (omega arith);
      plan = draft_of c.loop-at.draft;
      said = c.loop-at.invariant;
      refuses = subst (λ n. Refuses (texts c.args.confs.now) (n + 1) (line_form line.now) (draft_of c.loop-at.draft) c.in-Err.error) (sym long) c.in-Err.ensures.refuses;
    })

pub loop-at-init : goal.loop-at-init
loop-at-init g c = subst (λ plan. Say (texts c.args.confs.now) [] plan) (sym c.new-draft.ensures) none

pub returns-clause-plan : goal.returns-clause-plan
returns-clause-plan g c =
    let lines = c.as_slice-all.result.now in
    let same = length-map lines (λ (line : Bor (List ℕ)). line.now) in
    let past : length (bytes_of lines) ≤ c.loop-at.at = omega (arith, same) in
    let whole : take c.loop-at.at (bytes_of lines) ≡ text_lines c.args.net.now = take_all c.loop-at.at (bytes_of lines) past ∙ ap bytes_of c.as_slice-all.ensures.value ∙ c.in_ok-lines.ensures in
    rw c.parts_of.ensures (subst (λ (ls : List (List ℕ)). Say (texts c.args.confs.now) ls (draft_of c.loop-at.draft)) whole c.loop-at.invariant)

pub returns-clause-whole : goal.returns-clause-whole
returns-clause-whole g c = rw c.parts_of.ensures (record {
  enter = sources_said c.loop-at.invariant;
  relay_lines = relay_lines_said c.loop-at.invariant;
  client_lines = client_lines_said c.loop-at.invariant;
  distinct = distinct_said c.loop-at.invariant;
})
