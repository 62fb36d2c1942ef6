use Rattle.std.proofs.Common.{slice_get, rules, refl, sym, ◌∙◌}
use Rattle.disk_files.specs.Readable.{now_is}
use Rattle.disk_files.proofs.Changed.{sound_changed, same_disk, same_elapses, opened_reads, nothing_reads, open_as, name_same, opened_more, room_all}
use Rattle.disk_files.proofs.Written.{last_same}
use Rattle.disk_files.proofs.memory.MemoryDirDir.open.Goals as goal

pub returns-in-Some-clause-device : goal.returns-in-Some-clause-device
returns-in-Some-clause-device g c = record {
  honest = λ honest. (
    sound_changed c.args.self.now.files.items c.set_open_at.new.files.items c.in-Some.at (λ f. f) c.set_open_at.ensures.same (λ f fits. fits) honest.0,
    honest.1 ∙ sym (last_same c.args.self.now.files.items c.set_open_at.new.files.items c.in-Some.at (λ f. f) c.set_open_at.ensures.same c.args.self.now.past (λ f. refl)),
  );
  time = λ honest.
      same_elapses c.args.self.now.files.items c.set_open_at.new.files.items c.args.self.now.past (same_disk _ _ c.in-Some.at c.set_open_at.ensures.same honest.0);
  cause = search rules;
  fault = search rules;
}

pub returns-in-Some-clause-same : goal.returns-in-Some-clause-same
returns-in-Some-clause-same g c = λ honest name.
    let past = c.args.self.now.past in
    now_is c.set_open_at.new.files.items past name ∙ same_disk c.args.self.now.files.items c.set_open_at.new.files.items c.in-Some.at c.set_open_at.ensures.same honest.0 name ∙ sym (now_is c.args.self.now.files.items past name)

pub returns-in-Some-clause-ok : goal.returns-in-Some-clause-ok
returns-in-Some-clause-ok g c = λ honest.
    opened_reads c.args.self.now.files.items c.args.self.now.past c.in-Some.at c.args.name.now honest.0 c.in-Some.ensures.found

pub returns-in-Some-clause-opened : goal.returns-in-Some-clause-opened
returns-in-Some-clause-opened g c =
    open_as (slice_get c.set_open_at.new.files.items c.in-Some.at) c.args.name.now
    (name_same c.args.self.now.files.items c.set_open_at.new.files.items c.in-Some.at (λ f. f) c.set_open_at.ensures.same (λ f. refl) c.in-Some.at ∙ c.in-Some.ensures.found)
    c.set_open_at.ensures.open.own

pub returns-in-Some-clause-others : goal.returns-in-Some-clause-others
returns-in-Some-clause-others g c = λ other some.
    opened_more c.args.self.now.files.items c.set_open_at.new.files.items c.in-Some.at (λ f. f) c.set_open_at.ensures.same c.set_open_at.ensures.open (λ f. refl) other.0 some

pub returns-in-Some-clause-other_room : goal.returns-in-Some-clause-other_room
returns-in-Some-clause-other_room g c = λ other some.
    room_all c.args.self.now.files.items c.set_open_at.new.files.items c.in-Some.at (λ f. f) c.set_open_at.ensures.same c.set_open_at.ensures.room other.0

pub returns-in-None-clause-missing : goal.returns-in-None-clause-missing
returns-in-None-clause-missing g c = λ honest err.
    nothing_reads c.args.self.now.files.items c.args.self.now.past c.args.name.now (c.in-None.ensures.none honest.0)
