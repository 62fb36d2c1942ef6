use Rattle.std.proofs.Common.{rules, ◌≡◌, ◌≤◌, ◌∷◌, Some, None, IsSome, cond, slice_get, ap, refl, sym, subst, ◌∙◌, arith, length}
use Rattle.disk_files.specs.Table.{disk_of, name_of, is_open_of, opened_of, room_of}
use Rattle.disk_files.specs.Readable.{now_is}
use Rattle.disk_files.proofs.Table.{found}
use Rattle.disk_files.proofs.Changed.{some_of, none_of, place_found, place_none, sound_made, now_made, get_made, kept_made, opened_there, open_as}
use Rattle.disk_files.specs.Written.{last_place}
use Rattle.disk_files.proofs.Written.{last_made}
use Rattle.disk_files.proofs.memory.MemoryDirDir.create.Goals as goal

pub returns-then-is_some-clause-taken : goal.returns-then-is_some-clause-taken
returns-then-is_some-clause-taken g c = λ honest err.
    let files = c.args.self.now.files.items in
    let name = c.args.name.now in
    let some = some_of c.place_of.result (sym c.is_some.ensures ∙ c.if-is_some.true) in
    let place = place_found files name some.0 (sym c.place_of.ensures ∙ some.1) in
    let here = now_is files c.args.self.now.past name ∙ sym (ap (disk_of files) place.named) ∙ found files some.0 place.entry honest.0 place.found in
    subst IsSome (sym here) refl

pub returns-clause-device : goal.returns-clause-device
returns-clause-device g c = record {
  honest = λ honest.
      let files = c.args.self.now.files.items in
      let name = c.args.name.now in
      let mid_is = ap (λ d. d.files.items) c.note.ensures ∙ c.in_ok-reserve.ensures.items in
      let none = place_none files name (sym c.place_of.ensures ∙ none_of c.place_of.result (sym c.is_some.ensures ∙ c.if-is_some.false)) in (
        sound_made files c.note.new.self.files.items c.push_reserved.new.self.items c.in_ok-file.file name mid_is c.push_reserved.ensures.items c.in_ok-file.ensures.name
            c.in_ok-file.ensures.state honest.0 none,
        ap (λ d. d.last) c.note.ensures ∙ honest.1 ∙ sym (last_made files c.note.new.self.files.items c.push_reserved.new.self.items c.in_ok-file.file c.args.self.now.past mid_is c.push_reserved.ensures.items)
            ∙ ap (λ p. last_place c.push_reserved.new.self.items p) (ap (λ fs. fs ∷ c.args.self.now.past) (sym c.in_ok-reserve.ensures.items) ∙ ap (λ d. d.past) (sym c.note.ensures)),
      );
  time = search rules;
  cause = search rules;
  fault = search rules;
}

pub returns-clause-ok : goal.returns-clause-ok
returns-clause-ok g c = λ honest.
    let files = c.args.self.now.files.items in
    let name = c.args.name.now in
    let mid_is = ap (λ d. d.files.items) c.note.ensures ∙ c.in_ok-reserve.ensures.items in
    let none = place_none files name (sym c.place_of.ensures ∙ none_of c.place_of.result (sym c.is_some.ensures ∙ c.if-is_some.false)) in
    now_made files c.note.new.self.files.items c.push_reserved.new.self.items c.in_ok-file.file name mid_is c.push_reserved.ensures.items c.in_ok-file.ensures.name
    c.args.self.now.past c.note.new.self.past c.in_ok-file.ensures.state none

pub returns-clause-others : goal.returns-clause-others
returns-clause-others g c = λ other some.
    let mid_is = ap (λ d. d.files.items) c.note.ensures ∙ c.in_ok-reserve.ensures.items in
    ap opened_of (kept_made c.args.self.now.files.items c.note.new.self.files.items c.push_reserved.new.self.items c.in_ok-file.file c.args.name.now mid_is c.push_reserved.ensures.items c.in_ok-file.ensures.name other.0 (opened_there (slice_get c.args.self.now.files.items other.0) some))

pub returns-clause-other_room : goal.returns-clause-other_room
returns-clause-other_room g c = λ other some.
    let files = c.args.self.now.files.items in
    let mid_is = ap (λ d. d.files.items) c.note.ensures ∙ c.in_ok-reserve.ensures.items in
    let kept = kept_made files c.note.new.self.files.items c.push_reserved.new.self.items c.in_ok-file.file c.args.name.now mid_is c.push_reserved.ensures.items c.in_ok-file.ensures.name other.0 (opened_there (slice_get files other.0) some) in
    let same = ap room_of kept in
    omega (arith, same)

pub returns-clause-opened : goal.returns-clause-opened
returns-clause-opened g c =
    let mid_is = ap (λ d. d.files.items) c.note.ensures ∙ c.in_ok-reserve.ensures.items in
    let mid = c.note.new.self.files.items in
    let more = c.push_reserved.new.self.items in
    let at : c.len-at.result ≡ length mid = omega (arith, c.note.new.self.files.ok.0, c.len-at.ensures) in
    let got = get_made c.args.self.now.files.items mid more c.in_ok-file.file c.args.name.now mid_is c.push_reserved.ensures.items c.in_ok-file.ensures.name in
    open_as (slice_get more c.len-at.result) c.args.name.now
    (ap (λ i. name_of (slice_get more i)) at ∙ ap name_of got ∙ ap (λ s. cond s.is_removed None (Some c.in_ok-file.file.name)) c.in_ok-file.ensures.state ∙ ap Some c.in_ok-file.ensures.name)
    (ap (λ i. is_open_of (slice_get more i)) at ∙ ap is_open_of got ∙ c.in_ok-file.ensures.opened)

pub returns-clause-room : goal.returns-clause-room
returns-clause-room g c =
    let mid_is = ap (λ d. d.files.items) c.note.ensures ∙ c.in_ok-reserve.ensures.items in
    let mid = c.note.new.self.files.items in
    let more = c.push_reserved.new.self.items in
    let at : c.len-at.result ≡ length mid = omega (arith, c.note.new.self.files.ok.0, c.len-at.ensures) in
    let got = get_made c.args.self.now.files.items mid more c.in_ok-file.file c.args.name.now mid_is c.push_reserved.ensures.items c.in_ok-file.ensures.name in
    subst (λ o. c.args.room ≤ room_of o) (sym (ap (slice_get more) at ∙ got)) c.in_ok-file.ensures.room
