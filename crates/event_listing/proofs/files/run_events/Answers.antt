use Rattle.std.proofs.Common.{◌≡◌, ◌+◌, ◌++◌, ◌∷◌, [], true, map, take, drop, length, subst, sym, ap, ◌∙◌, arith}
use Rattle.std.proofs.Math.Seq.{take-length}
use Rattle.std.proofs.lemmas.List.{map-append, map_more, take-append-drop}
use Rattle.folder_listing.specs.Files.{Named, named_of}
use Rattle.event_listing.specs.Files.{PrintsEvents}
use Rattle.event_listing.proofs.Sequence.{SoFar, all_printed, file_printed, none_so_far, stops_there}
use Rattle.event_listing.proofs.files.run_events.Goals as goal
use Rattle.event_listing.proofs.files.run_events.Goals.{then-is_sound, else-is_sound}

pub loop-file-init : goal.loop-file-init
loop-file-init g c = none_so_far (g.O.Open.text_of c.args.files.now) c.args.choice.now c.args.out.now (g.V.Write.contents c.args.notes.now)

pub loop-file-preserved : goal.loop-file-preserved
loop-file-preserved g c =
    let named = g.O.Open.text_of c.args.files.now in
    let notes = g.V.Write.contents in
    let before = map named_of (take c.loop-file.file-index c.args.listed.now) in
    let file : Named = (c.file-item.result.kind, c.as_str-name.result.now) in
    let whole : map named_of (take (c.loop-file.file-index + 1) c.args.listed.now) ≡ before ++ file ∷ [] =
    map_more named_of c.args.listed.now c.loop-file.file-index c.file-item.result c.loop-file-test.true ∙ ap (λ f. before ++ named_of f ∷ []) (sym c.file-item.is)
    ∙ ap (λ n. before ++ (c.file-item.result.kind, n) ∷ []) (sym c.as_str-name.ensures.value) in
    let still : c.if-is_sound.is_sound ≡ true → (c.loop-file.is_sound ≡ true) × (c.in-Ok.one ≡ true) = elim c.if-is_sound.branch [
      | then-is_sound w ↦ λ e. (w.if-is_sound.true, sym w.is_sound-is ∙ e)
      | else-is_sound w ↦ λ e. absurd (cc (sym e ∙ w.is_sound-is ∙ w.if-is_sound.false))
    ] in
    subst (λ fs. SoFar named c.args.choice.now fs (c.args.out.now, c.print_named.new.out) (notes c.args.notes.now, notes c.print_named.new.notes) c.if-is_sound.is_sound) (sym whole)
    (file_printed named c.args.choice.now before file c.args.out.now c.loop-file.out c.print_named.new.out (notes c.args.notes.now) (notes c.loop-file.notes) (notes c.print_named.new.notes)
    c.loop-file.is_sound c.in-Ok.one c.if-is_sound.is_sound c.loop-file.invariant c.in-Ok.ensures still)

pub returns-in-Err : goal.returns-in-Err
returns-in-Err g c =
    let named = g.O.Open.text_of c.args.files.now in
    let notes = g.V.Write.contents in
    let all = c.args.listed.now in
    let i = c.loop-file.file-index in
    let before = map named_of (take i all) in
    let file : Named = (c.file-item.result.kind, c.as_str-name.result.now) in
    let whole : map named_of (take (i + 1) all) ≡ before ++ file ∷ [] =
    map_more named_of all i c.file-item.result c.loop-file-test.true ∙ ap (λ f. before ++ named_of f ∷ []) (sym c.file-item.is)
    ∙ ap (λ n. before ++ (c.file-item.result.kind, n) ∷ []) (sym c.as_str-name.ensures.value) in
    let others = map named_of (drop (i + 1) all) in
    let split : map named_of all ≡ (before ++ file ∷ []) ++ others =
    ap (map named_of) (sym (take-append-drop (i + 1) all)) ∙ map-append named_of (take (i + 1) all) (drop (i + 1) all) ∙ ap (λ z. z ++ others) whole in
    subst (λ s. PrintsEvents named c.args.choice.now (map named_of all) (c.args.out.now, c.print_named.new.out) (notes c.args.notes.now, notes c.note_stop.new.notes) s) (sym c.note_stop.ensures)
    (stops_there named c.args.choice.now (map named_of all) before others file c.args.out.now c.loop-file.out c.print_named.new.out (notes c.args.notes.now) (notes c.loop-file.notes)
    (notes c.print_named.new.notes) (notes c.note_stop.new.notes) c.loop-file.is_sound c.in-Err.stop split c.loop-file.invariant c.in-Err.ensures)

pub returns : goal.returns
returns g c =
    let named = g.O.Open.text_of c.args.files.now in
    let notes = g.V.Write.contents in
    let all = c.args.listed.now in
    let end : c.loop-file.file-index ≡ length all = omega arith in
    let whole : map named_of (take c.loop-file.file-index all) ≡ map named_of all = ap (map named_of) (ap (λ k. take k all) end ∙ take-length all) in
    subst (λ s. PrintsEvents named c.args.choice.now (map named_of all) (c.args.out.now, c.loop-file.out) (notes c.args.notes.now, notes c.loop-file.notes) s) (sym c.status_of.ensures)
    (all_printed named c.args.choice.now (map named_of all) c.args.out.now c.loop-file.out (notes c.args.notes.now) (notes c.loop-file.notes) c.loop-file.is_sound
    (subst (λ fs. SoFar named c.args.choice.now fs (c.args.out.now, c.loop-file.out) (notes c.args.notes.now, notes c.loop-file.notes) c.loop-file.is_sound) whole c.loop-file.invariant))
