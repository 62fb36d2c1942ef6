use Rattle.std.proofs.Common.{◌∷◌, ◌++◌, [], ap, map, subst, sym, take, ◌∙◌}
use Rattle.std.proofs.lemmas.List.{map_more}
use Rattle.folder_listing.specs.Files.{named_of}
use Rattle.folder_counts.specs.Folders.{AreCounted, Takes}
use Rattle.folder_counts.proofs.Files.{counted_all, counted_more, none_counted}
use Rattle.folder_counts.proofs.folder.count_folder.Goals as goal

pub loop-file-init : goal.loop-file-init
loop-file-init g c = none_counted (g.O.Open.text_of c.args.files.now) c.new-folder.result c.new-folder.ensures

pub loop-file-preserved : goal.loop-file-preserved
loop-file-preserved g c =
    let named = g.O.Open.text_of c.args.files.now in
    let file = c.file-item.result in
    let before = map named_of (take c.loop-file.file-index c.args.listed.now) in
    let takes = subst (λ name. Takes named (file.kind, name) c.loop-file.folder c.take.new.self) c.as_str.ensures.value c.in_ok-take.ensures in
    subst (λ files. AreCounted named files c.take.new.self)
    (sym (map_more named_of c.args.listed.now c.loop-file.file-index file c.loop-file-test.true ∙ ap (λ f. before ++ named_of f ∷ []) (sym c.file-item.is)))
    (counted_more named before (named_of file) c.loop-file.folder c.take.new.self c.loop-file.invariant takes)

pub returns : goal.returns
returns g c = counted_all (g.O.Open.text_of c.args.files.now) named_of c.args.listed.now c.loop-file.file-index c.loop-file.folder c.loop-file-test.false c.loop-file.invariant
