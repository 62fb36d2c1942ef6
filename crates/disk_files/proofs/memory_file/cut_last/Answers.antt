use Rattle.std.proofs.Common.{sym, ap, ◌∙◌, option_map}
use Rattle.disk_files.specs.Disk.{kept_file}
use Rattle.disk_files.specs.Table.{disk_of}
use Rattle.disk_files.specs.Stop.{left_of, name_at}
use Rattle.disk_files.specs.Stopped.{cut_to}
use Rattle.disk_files.specs.declared.keep.Keep.TheVariants.{Last}
use Rattle.disk_files.proofs.Changed.{sound_changed}
use Rattle.disk_files.proofs.Stops.{left_cut, left_not_there, cut_fits}
use Rattle.disk_files.proofs.memory_file.cut_last.Goals as goal

pub returns-then-is_there_at-clause-sound : goal.returns-then-is_there_at-clause-sound
returns-then-is_there_at-clause-sound g c = λ sound.
    sound_changed c.args.files.now.items c.cut_at.new.files.items c.in-Some.at (cut_to c.args.n) c.cut_at.ensures (cut_fits c.args.n) sound

pub returns-then-is_there_at-clause-left : goal.returns-then-is_there_at-clause-left
returns-then-is_there_at-clause-left g c = λ sound name.
    let files = c.args.files.now.items in
    left_cut files c.cut_at.new.files.items c.in-Some.at c.args.n name sound c.cut_at.ensures
    ∙ ap (λ o. option_map kept_file (left_of (Last c.args.n) (name_at files o) (disk_of files) name)) (sym c.in-Some.is)

pub returns-else-is_there_at-clause-left : goal.returns-else-is_there_at-clause-left
returns-else-is_there_at-clause-left g c = λ sound name.
    let files = c.args.files.now.items in
    left_not_there files c.in-Some.at c.args.n name sound (sym c.is_there_at.ensures ∙ c.if-is_there_at.false)
    ∙ ap (λ o. option_map kept_file (left_of (Last c.args.n) (name_at files o) (disk_of files) name)) (sym c.in-Some.is)
