use Rattle.std.proofs.Common.{slice_get, rules, refl, sym, ◌∙◌}
use Rattle.disk_files.specs.Readable.{now_is}
use Rattle.disk_files.proofs.Changed.{sound_changed, same_disk, same_elapses, opened_other, shut_as, room_other, number_apart}
use Rattle.disk_files.proofs.Written.{last_same}
use Rattle.disk_files.proofs.memory.MemoryDirDir.close.Goals as goal

pub returns-clause-alone : goal.returns-clause-alone
returns-clause-alone g c = record {
  honest = λ honest. (
    sound_changed c.args.self.now.files.items c.set_open_at.new.files.items c.args.file.0 (λ f. f) c.set_open_at.ensures.same (λ f fits. fits) honest.0,
    honest.1 ∙ sym (last_same c.args.self.now.files.items c.set_open_at.new.files.items c.args.file.0 (λ f. f) c.set_open_at.ensures.same c.args.self.now.past (λ f. refl)),
  );
  time = λ honest.
      same_elapses c.args.self.now.files.items c.set_open_at.new.files.items c.args.self.now.past (same_disk _ _ c.args.file.0 c.set_open_at.ensures.same honest.0);
  same = λ honest name.
      let past = c.args.self.now.past in
      now_is c.set_open_at.new.files.items past name ∙ same_disk c.args.self.now.files.items c.set_open_at.new.files.items c.args.file.0 c.set_open_at.ensures.same honest.0 name ∙ sym (now_is c.args.self.now.files.items past name);
  cause = search rules;
}

pub returns-clause-closed : goal.returns-clause-closed
returns-clause-closed g c = shut_as (slice_get c.set_open_at.new.files.items c.args.file.0) c.set_open_at.ensures.open.own

pub returns-clause-others : goal.returns-clause-others
returns-clause-others g c = λ other apart.
    opened_other _ _ c.args.file.0 (λ f. f) c.set_open_at.ensures.same other.0 (number_apart other c.args.file apart)

pub returns-clause-other_room : goal.returns-clause-other_room
returns-clause-other_room g c = λ other apart.
    room_other _ _ c.args.file.0 (λ f. f) c.set_open_at.ensures.same other.0 (number_apart other c.args.file apart)
