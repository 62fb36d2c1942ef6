use Rattle.std.proofs.Common.{slice_get, subst, sym, ap, ◌∙◌}
use Rattle.disk_files.specs.Table.{IsSound, disk_of, is_open_of}
use Rattle.disk_files.proofs.Stops.{swept_disk, swept_sound, swept_shut}
use Rattle.disk_files.proofs.memory.MemoryDir.restart.Goals as goal

pub returns-clause-sound : goal.returns-clause-sound
returns-clause-sound g c = λ sound.
    subst IsSound (sym c.sweep.ensures) (swept_sound c.args.least c.args.self.now.files.items c.stop_each.new.files.items sound c.stop_each.ensures)

pub returns-clause-left : goal.returns-clause-left
returns-clause-left g c = λ sound name.
    ap (λ fs. disk_of fs name) c.sweep.ensures ∙ swept_disk c.args.least c.args.self.now.files.items c.stop_each.new.files.items sound c.stop_each.ensures name

pub returns-clause-closed : goal.returns-clause-closed
returns-clause-closed g c = λ j.
    ap (λ fs. is_open_of (slice_get fs j)) c.sweep.ensures ∙ swept_shut c.args.least c.args.self.now.files.items c.stop_each.new.files.items c.stop_each.ensures j
