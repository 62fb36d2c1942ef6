use Rattle.std.proofs.Common.{rules, ◌≡◌, ◌+◌}
use Rattle.folder_listing.proofs.Left.{front_end, front_read}
use Rattle.folder_listing.proofs.front.FrontReaderCountedRead.read.Goals as goal

pub returns-in-Some-clause-bytes : goal.returns-in-Some-clause-bytes
returns-in-Some-clause-bytes g c =
    let known = g.R.ReadAt.bytes_of c.args.self.now.file.now in
    let next : c.in-Some.at ≡ c.args.self.now.at + c.in-Ok.n = search rules in (
      front_read known c.args.self.now.at c.in-Some.at c.in-Ok.n c.read_at.new.piece c.in-Ok.ensures.bytes next,
      front_end known c.args.self.now.at c.in-Some.at c.in-Ok.n c.read_at.new.piece c.in-Ok.ensures.bytes next,
    )
