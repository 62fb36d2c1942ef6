use Rattle.std.proofs.Common.{rules, ap, refl, sym, ◌∙◌}
use Rattle.disk_files.specs.Disk.{unlinked}
use Rattle.disk_files.proofs.Changed.{changes_from, sound_changed, now_changed, opened_other, closed_at, room_other, number_apart}
use Rattle.disk_files.specs.Written.{last_place}
use Rattle.disk_files.proofs.Written.{last_kept}
use Rattle.disk_files.proofs.memory.MemoryDirDir.remove.Goals as goal

pub returns-clause-device : goal.returns-clause-device
returns-clause-device g c = record {
  honest = λ honest.
      let change = changes_from c.args.self.now.files.items c.note.new.self.files.items c.unlink_at.new.files.items c.args.file.0 unlinked (ap (λ d. d.files.items) c.note.ensures) c.unlink_at.ensures.changed in (
        sound_changed _ _ c.args.file.0 unlinked change (λ f fits. fits) honest.0,
        ap (λ d. d.last) c.note.ensures ∙ honest.1 ∙ sym (last_kept c.args.self.now.files.items c.unlink_at.new.files.items c.args.file.0 unlinked change c.args.self.now.past (λ f. refl))
            ∙ ap (λ d. last_place c.unlink_at.new.files.items d.past) (sym c.note.ensures),
      );
  time = search rules;
  cause = search rules;
  fault = search rules;
}

pub returns-clause-ok : goal.returns-clause-ok
returns-clause-ok g c = λ honest name opened.
    let change = changes_from c.args.self.now.files.items c.note.new.self.files.items c.unlink_at.new.files.items c.args.file.0 unlinked (ap (λ d. d.files.items) c.note.ensures) c.unlink_at.ensures.changed in
    now_changed _ _ c.args.file.0 unlinked change c.args.self.now.past c.note.new.self.past honest.0 name opened

pub returns-clause-others : goal.returns-clause-others
returns-clause-others g c = λ other apart.
    let change = changes_from c.args.self.now.files.items c.note.new.self.files.items c.unlink_at.new.files.items c.args.file.0 unlinked (ap (λ d. d.files.items) c.note.ensures) c.unlink_at.ensures.changed in
    opened_other _ _ c.args.file.0 unlinked change other.0 (number_apart other c.args.file apart)

pub returns-clause-other_room : goal.returns-clause-other_room
returns-clause-other_room g c = λ other apart.
    let change = changes_from c.args.self.now.files.items c.note.new.self.files.items c.unlink_at.new.files.items c.args.file.0 unlinked (ap (λ d. d.files.items) c.note.ensures) c.unlink_at.ensures.changed in
    room_other _ _ c.args.file.0 unlinked change other.0 (number_apart other c.args.file apart)

pub returns-clause-closed : goal.returns-clause-closed
returns-clause-closed g c =
    let change = changes_from c.args.self.now.files.items c.note.new.self.files.items c.unlink_at.new.files.items c.args.file.0 unlinked (ap (λ d. d.files.items) c.note.ensures) c.unlink_at.ensures.changed in
    closed_at _ _ c.args.file.0 unlinked change (λ f. refl)
