use Rattle.std.proofs.Common.{◌+◌, IsSome, refl, sym, subst, ◌∙◌, arith}
use Rattle.disk_files.specs.Disk.{reads}
use Rattle.disk_files.specs.Moments.{now}
use Rattle.sink_series.specs.Names.{sink_name}
use Rattle.sink_series.proofs.Onward.{from_none, file_more, file_less, none_of, some_of, still_here, still_join, reads_same}
use Rattle.sink_series.proofs.files.read_to.Goals as goal

pub loop-number-init : goal.loop-number-init
loop-number-init g c = (
  omega arith,
  λ honest. (honest, still_here _),
  λ is. refl,
  omega arith,
  λ honest are. from_none _ _ 0 c.new-events.result.items refl c.new-events.ensures.items,
)

pub returns-in_err-found-clause-still : goal.returns-in_err-found-clause-still
returns-in_err-found-clause-still g c honest =
    let s = c.loop-number.invariant.1 honest in
    let r = c.in_err-found.ensures.still s.0 in
    (r.0, still_join _ _ _ s.1 r.1)

pub returns-in_err-append-clause-still : goal.returns-in_err-append-clause-still
returns-in_err-append-clause-still g c honest =
    let s = c.loop-number.invariant.1 honest in
    let r = c.in_ok-found.ensures.still s.0 in
    (r.0, still_join _ _ _ s.1 r.1)

pub loop-number-preserved-then-contains : goal.loop-number-preserved-then-contains
loop-number-preserved-then-contains g c =
    let v = c.loop-number.invariant in
    let r = c.in_ok-found.ensures in (
      omega arith,
      λ honest. (let s = v.1 honest in let t = r.still s.0 in (t.0, still_join _ _ _ s.1 t.1)),
      λ is. r.stays_open (subst IsSome (sym (v.2 is)) is) ∙ v.2 is,
      omega (arith, v.3, r.cause.later),
      λ honest are. (
          let s = v.1 honest in
          let file = (are (c.loop-number.number + 1)).0 (sym c.contains.ensures ∙ c.if-contains.true) in
          let there = some_of (reads (now (g.D.Dir.history c.args.dir.now)) (sink_name c.args.path.now (c.loop-number.number + 1))) file.2 in
          file_more c.loop-number.number c.args.path.now there.0 (reads (now (g.D.Dir.history c.args.dir.now))) c.loop-number.events.items c.in_ok-found.found.items _ (v.4 honest are) there.1
          (r.content s.0 there.0 (reads_same _ _ (sink_name c.args.path.now (c.loop-number.number + 1)) there.0 s.1 there.1)) c.in_ok-append.ensures.items),
    )

pub loop-number-preserved : goal.loop-number-preserved
loop-number-preserved g c =
    let v = c.loop-number.invariant in (
      omega arith,
      v.1,
      v.2,
      v.3,
      λ honest are.
          file_less c.loop-number.number c.args.path.now (reads (now (g.D.Dir.history c.args.dir.now))) c.loop-number.events.items (v.4 honest are)
          (none_of (reads (now (g.D.Dir.history c.args.dir.now)) (sink_name c.args.path.now (c.loop-number.number + 1)))
          (λ is. let yes = (are (c.loop-number.number + 1)).1 (omega arith, omega arith, is) in let no_ = sym c.contains.ensures ∙ c.if-contains.false in absurd (cc (yes, no_)))),
    )
