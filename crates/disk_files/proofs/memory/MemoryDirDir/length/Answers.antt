use Rattle.std.proofs.Common.{length, ap, ◌∙◌}
use Rattle.disk_files.proofs.Changed.{bytes_of}
use Rattle.disk_files.proofs.memory.MemoryDirDir.length.Goals as goal

pub returns-clause-length : goal.returns-clause-length
returns-clause-length g c = λ honest name bytes opened holds.
    ap length (c.bytes.ensures ∙ bytes_of c.args.self.now.files.items c.args.self.now.past c.args.file.0 c.index.result.now name bytes honest.0 c.index.ensures opened holds)
