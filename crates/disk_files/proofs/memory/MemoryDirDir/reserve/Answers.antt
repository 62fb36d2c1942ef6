use Rattle.std.proofs.Common.{rules, refl, sym, ◌∙◌}
use Rattle.disk_files.specs.Readable.{now_is}
use Rattle.disk_files.proofs.Changed.{sound_changed, same_disk, same_elapses, opened_same, room_all}
use Rattle.disk_files.proofs.Written.{last_same}
use Rattle.disk_files.proofs.memory.MemoryDirDir.reserve.Goals as goal

pub returns-clause-alone : goal.returns-clause-alone
returns-clause-alone g c = record {
  honest = λ honest. (
    sound_changed c.args.self.now.files.items c.reserve_at.new.files.items c.args.file.0 (λ f. f) c.reserve_at.ensures.same (λ f fits. fits) honest.0,
    honest.1 ∙ sym (last_same c.args.self.now.files.items c.reserve_at.new.files.items c.args.file.0 (λ f. f) c.reserve_at.ensures.same c.args.self.now.past (λ f. refl)),
  );
  time = λ honest.
      same_elapses c.args.self.now.files.items c.reserve_at.new.files.items c.args.self.now.past (same_disk _ _ c.args.file.0 c.reserve_at.ensures.same honest.0);
  same = λ honest name.
      let past = c.args.self.now.past in
      now_is c.reserve_at.new.files.items past name ∙ same_disk c.args.self.now.files.items c.reserve_at.new.files.items c.args.file.0 c.reserve_at.ensures.same honest.0 name ∙ sym (now_is c.args.self.now.files.items past name);
  cause = search rules;
}

pub returns-clause-opened : goal.returns-clause-opened
returns-clause-opened g c = λ other.
    opened_same c.args.self.now.files.items c.reserve_at.new.files.items c.args.file.0 (λ f. f) c.reserve_at.ensures.same c.reserve_at.ensures.open (λ f. refl) other.0

pub returns-clause-other_room : goal.returns-clause-other_room
returns-clause-other_room g c = λ other.
    room_all c.args.self.now.files.items c.reserve_at.new.files.items c.args.file.0 (λ f. f) c.reserve_at.ensures.same c.reserve_at.ensures.more other.0
