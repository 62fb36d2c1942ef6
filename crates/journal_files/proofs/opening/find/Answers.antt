use Rattle.disk_files.specs.Moments.{now}
use Rattle.journal_files.proofs.Fresh.{last_taken_so}
use Rattle.journal_files.proofs.Sourced.{finds_too}
use Rattle.journal_files.proofs.opening.find.Goals as goal

pub returns-clause-greatest : goal.returns-clause-greatest
returns-clause-greatest g c = λ honest.
    let looked = c.in_ok-found.ensures.honest honest in
    last_taken_so c.args.path.now (now (g.D.Dir.history c.args.dir.now)) (now (g.D.Dir.history c.search_folder.new.dir)) c.in_ok-found.found.greatest c.in_ok-taken.taken (c.in_ok-found.ensures.same honest) (c.in_ok-found.ensures.greatest honest)
    c.in_ok-taken.ensures.from (c.in_ok-taken.ensures.removed looked) (c.in_ok-taken.ensures.free looked)

pub returns-clause-source : goal.returns-clause-source
returns-clause-source g c = λ honest.
    finds_too (g.D.Dir.opened c.search_folder.new.dir) (now (g.D.Dir.history c.args.dir.now)) c.args.path.now c.in_ok-found.found.greatest c.in_ok-taken.taken c.in_ok-found.found.places c.in_ok-found.found.chunks c.in_ok-taken.ensures.from c.in_ok-found.found.file
    (c.in_ok-found.ensures.source honest)
