use Rattle.std.proofs.Common.{List, slice_get, rules, ap, refl, sym, ◌∙◌, arith}
use Rattle.disk_files.specs.Entry.{Entry}
use Rattle.disk_files.specs.Table.{is_open_of}
use Rattle.disk_files.specs.Disk.{flushed}
use Rattle.disk_files.proofs.Changed.{changes_from, sound_changed, now_changed, opened_same, rooms_from}
use Rattle.disk_files.specs.Written.{last_place}
use Rattle.disk_files.proofs.Written.{last_kept}
use Rattle.disk_files.proofs.memory.MemoryDirDir.sync.Goals as goal

pub returns-clause-device : goal.returns-clause-device
returns-clause-device g c = record {
  honest = λ honest.
      let change = changes_from c.args.self.now.files.items c.note.new.self.files.items c.flush_at.new.files.items c.args.file.0 flushed (ap (λ d. d.files.items) c.note.ensures) c.flush_at.ensures.changed in (
        sound_changed _ _ c.args.file.0 flushed change (λ f fits. omega arith) honest.0,
        ap (λ d. d.last) c.note.ensures ∙ honest.1 ∙ sym (last_kept c.args.self.now.files.items c.flush_at.new.files.items c.args.file.0 flushed change c.args.self.now.past (λ f. refl))
            ∙ ap (λ d. last_place c.flush_at.new.files.items d.past) (sym c.note.ensures),
      );
  time = search rules;
  cause = search rules;
  fault = search rules;
}

pub returns-clause-ok : goal.returns-clause-ok
returns-clause-ok g c = λ honest name opened.
    let change = changes_from c.args.self.now.files.items c.note.new.self.files.items c.flush_at.new.files.items c.args.file.0 flushed (ap (λ d. d.files.items) c.note.ensures) c.flush_at.ensures.changed in
    now_changed _ _ c.args.file.0 flushed change c.args.self.now.past c.note.new.self.past honest.0 name opened

pub returns-clause-opened : goal.returns-clause-opened
returns-clause-opened g c = λ other.
    let change = changes_from c.args.self.now.files.items c.note.new.self.files.items c.flush_at.new.files.items c.args.file.0 flushed (ap (λ d. d.files.items) c.note.ensures) c.flush_at.ensures.changed in
    opened_same _ _ c.args.file.0 flushed change (λ j. c.flush_at.ensures.open j ∙ ap (λ (fs : List Entry). is_open_of (slice_get fs j)) (ap (λ d. d.files.items) c.note.ensures)) (λ f. refl) other.0

pub returns-clause-other_room : goal.returns-clause-other_room
returns-clause-other_room g c = λ other.
    rooms_from c.args.self.now.files.items c.note.new.self.files.items c.flush_at.new.files.items c.args.file.0 flushed (ap (λ d. d.files.items) c.note.ensures) c.flush_at.ensures.changed c.flush_at.ensures.room other.0
