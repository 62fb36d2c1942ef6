use Rattle.std.proofs.Common.{List, slice_get, rules, ap, ◌∙◌, refl, arith, length-append}
use Rattle.disk_files.specs.Entry.{Entry}
use Rattle.disk_files.specs.Table.{is_open_of}
use Rattle.disk_files.specs.Disk.{with_bytes}
use Rattle.disk_files.proofs.Changed.{changes_from, sound_changed, now_changed, opened_same, room_other, number_apart}
use Rattle.disk_files.proofs.Written.{last_grown}
use Rattle.disk_files.proofs.memory.MemoryDirDir.append.Goals as goal

pub returns-clause-device : goal.returns-clause-device
returns-clause-device g c = record {
  honest = λ honest.
      let change = changes_from c.args.self.now.files.items c.note.new.self.files.items c.grow_at.new.files.items c.args.file.0 (with_bytes c.args.bytes.now) (ap (λ d. d.files.items) c.note.ensures) c.grow_at.ensures.changed in (
        sound_changed _ _ c.args.file.0 (with_bytes c.args.bytes.now) change (λ f fits. omega (arith, fits, length-append f.written c.args.bytes.now)) honest.0,
        last_grown c.args.self.now.files.items c.grow_at.new.files.items c.args.file.0 c.args.bytes.now change c.args.self.now.past c.args.self.now.last c.note.new.self.last c.last_of-self.result c.note.new.self.past
            honest.1 (ap (λ d. d.last) c.note.ensures) (ap (λ d. d.past) c.note.ensures) c.last_of-self.ensures,
      );
  time = search rules;
  cause = search rules;
  fault = search rules;
}

pub returns-clause-ok : goal.returns-clause-ok
returns-clause-ok g c = λ honest name opened.
    let change = changes_from c.args.self.now.files.items c.note.new.self.files.items c.grow_at.new.files.items c.args.file.0 (with_bytes c.args.bytes.now) (ap (λ d. d.files.items) c.note.ensures) c.grow_at.ensures.changed in
    now_changed _ _ c.args.file.0 (with_bytes c.args.bytes.now) change c.args.self.now.past c.note.new.self.past honest.0 name opened

pub returns-clause-opened : goal.returns-clause-opened
returns-clause-opened g c = λ other.
    let change = changes_from c.args.self.now.files.items c.note.new.self.files.items c.grow_at.new.files.items c.args.file.0 (with_bytes c.args.bytes.now) (ap (λ d. d.files.items) c.note.ensures) c.grow_at.ensures.changed in
    opened_same _ _ c.args.file.0 (with_bytes c.args.bytes.now) change (λ j. c.grow_at.ensures.open j ∙ ap (λ (fs : List Entry). is_open_of (slice_get fs j)) (ap (λ d. d.files.items) c.note.ensures)) (λ f. refl) other.0

pub returns-clause-other_room : goal.returns-clause-other_room
returns-clause-other_room g c = λ other apart.
    let change = changes_from c.args.self.now.files.items c.note.new.self.files.items c.grow_at.new.files.items c.args.file.0 (with_bytes c.args.bytes.now) (ap (λ d. d.files.items) c.note.ensures) c.grow_at.ensures.changed in
    room_other _ _ c.args.file.0 (with_bytes c.args.bytes.now) change other.0 (number_apart other c.args.file apart)
