use Rattle.std.proofs.Common.{◌≡◌, ◌++◌, ◌∷◌, [], map, take, subst, sym, ap, ◌∙◌, rules}
use Rattle.std.specs.Prelude.{◌&&◌}
use Rattle.std.proofs.lemmas.List.{map_more}
use Rattle.folder_listing.specs.Files.{AreShown, named_of}
use Rattle.folder_listing.proofs.Listed.{shown_push}
use Rattle.folder_listing.proofs.show.list_files.Goals as goal
use Rattle.folder_listing.proofs.show.list_files.Goals.{then-is_sound, else-is_sound}

pub loop-file-preserved : goal.loop-file-preserved
loop-file-preserved g c =
    let named = g.O.Open.text_of c.args.files.now in
    let file = c.file-item.result in
    let before = map named_of (take c.loop-file.file-index c.args.listed.now) in
    let one = c.in_ok-one.one in
    let more : c.extend_from_slice.new.self.items ≡ c.loop-file.lines.items ++ one.lines.items = search rules in
    let still : c.if-is_sound.is_sound ≡ (c.loop-file.is_sound && one.is_sound) = elim c.if-is_sound.branch [
      | then-is_sound w ↦ w.is_sound-is ∙ sym (ap (λ b. b && one.is_sound) w.if-is_sound.true)
      | else-is_sound w ↦ w.is_sound-is ∙ w.if-is_sound.false ∙ sym (ap (λ b. b && one.is_sound) w.if-is_sound.false)
    ] in
    subst (λ ns. AreShown named ns c.extend_from_slice.new.self.items c.if-is_sound.is_sound)
    (sym (map_more named_of c.args.listed.now c.loop-file.file-index file c.loop-file-test.true ∙ ap (λ n. before ++ named_of n ∷ []) (sym c.file-item.is)))
    (shown_push named before (named_of file) c.loop-file.lines.items one.lines.items c.extend_from_slice.new.self.items c.loop-file.is_sound one.is_sound c.if-is_sound.is_sound c.loop-file.invariant c.in_ok-one.ensures more still)
