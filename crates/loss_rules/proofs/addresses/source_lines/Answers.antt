use Rattle.std.proofs.Common.{◌≡◌, ℕ, [], List, Some, slice_get, refl, subst, arith}
use Rattle.std.proofs.lemmas.Option.{slice_get_read}
use Rattle.relay_conf.specs.declared.relay.Source.{Source}
use Rattle.loss_rules.specs.Breaks.{BreaksAtSource}
use Rattle.loss_rules.specs.Everywhere.{AreLines}
use Rattle.loss_rules.specs.Lines.{Adds, KeptInList, BrokenInList}
use Rattle.loss_rules.specs.Rules.{SourceIsNew}
use Rattle.loss_rules.proofs.Lines.{none_added, one_more, all_of, one_adds, lines_are}
use Rattle.loss_rules.proofs.News.{source_there, source_adds, sources_new, shown_within, read_there}
use Rattle.loss_rules.proofs.addresses.source_lines.Goals as goal

pub bounds-relays-place : goal.bounds-relays-place
bounds-relays-place g c = shown_within c.args.net.now.relays c.relays.result.now c.relays.ensures c.args.place c.requires

pub source_is_new-is_new-requires : goal.source_is_new-is_new-requires
source_is_new-is_new-requires g c =
    let node_is : slice_get c.args.net.now.relays c.args.place ≡ Some c.index-relays-place.result = read_there c.args.net.now.relays c.relays.result.now c.relays.ensures c.args.place c.requires c.index-relays-place.result c.index-relays-place.is in
    let P : List (Source g.row.A.Denot) → Type 0 = λ xs. slice_get xs c.loop-number.number ≡ Some c.source-item.result in
    (c.source-item.result, source_there c.args.net.now c.args.place c.loop-number.number c.index-relays-place.result c.source-item.result node_is (subst P c.deref-source-items.ensures.value (slice_get_read c.deref-source-items.result.now _ c.loop-number.number c.source-item.result refl (omega arith) c.source-item.is)))

pub loop-number-init : goal.loop-number-init
loop-number-init g c = rw c.new-lines.ensures.items (none_added (λ number source. SourceIsNew c.args.net.now c.args.place number) (λ number source line. (source.line ≡ line) × ¬ SourceIsNew c.args.net.now c.args.place number) c.deref-source-items.result.now [])

pub loop-number-preserved : goal.loop-number-preserved
loop-number-preserved g c = one_more (λ number source. SourceIsNew c.args.net.now c.args.place number) (λ number source line. (source.line ≡ line) × ¬ SourceIsNew c.args.net.now c.args.place number) c.deref-source-items.result.now c.loop-number.number c.source-item.result _ _ _ (slice_get_read c.deref-source-items.result.now _ c.loop-number.number c.source-item.result refl (omega arith) c.source-item.is) c.loop-number.invariant (rw c.in_ok-add_unless.ensures (one_adds _ c.source_is_new-is_new.result c.source-item.result.line _ c.source_is_new-is_new.ensures))

pub returns-clause-lines : goal.returns-clause-lines
returns-clause-lines g c =
    let node_is : slice_get c.args.net.now.relays c.args.place ≡ Some c.index-relays-place.result = read_there c.args.net.now.relays c.relays.result.now c.relays.ensures c.args.place c.requires c.index-relays-place.result c.index-relays-place.is in
    let P : List (Source g.row.A.Denot) → Type 0 = λ xs. Adds (KeptInList (λ number source. SourceIsNew c.args.net.now c.args.place number) xs) (BrokenInList (λ number source line. (source.line ≡ line) × ¬ SourceIsNew c.args.net.now c.args.place number) xs) [] c.loop-number.lines.items in
    let added = source_adds c.args.net.now c.args.place c.index-relays-place.result _ _ node_is (subst P c.deref-source-items.ensures.value (all_of (λ number source. SourceIsNew c.args.net.now c.args.place number) (λ number source line. (source.line ≡ line) × ¬ SourceIsNew c.args.net.now c.args.place number) c.deref-source-items.result.now c.loop-number.number _ _ (omega arith) c.loop-number.invariant)) in
    lines_are (BreaksAtSource c.args.net.now c.args.place) _ _ added.lines c.put_in_order.ensures.rise c.put_in_order.ensures.same

pub returns-clause-kept : goal.returns-clause-kept
returns-clause-kept g c none = sources_new c.args.net.now c.args.place (subst (λ (xs : List ℕ). AreLines (BreaksAtSource c.args.net.now c.args.place) xs) none (returns-clause-lines g c))
