use Rattle.std.proofs.Common.{◌-◌, ◌++◌, length, take, drop, min, ap, ◌∙◌}
use Rattle.disk_files.proofs.Changed.{bytes_of}
use Rattle.disk_files.proofs.memory.MemoryDirDir.read_at.Goals as goal

pub returns-clause-count : goal.returns-clause-count
returns-clause-count g c = λ honest name bytes opened holds.
    let same = c.bytes.ensures ∙ bytes_of c.args.self.now.files.items c.args.self.now.past c.args.file.0 c.index.result.now name bytes honest.0 c.index.ensures opened holds in
    c.copy_from.ensures.count ∙ ap (λ b. min (length c.args.into.now) (length b - c.args.at)) same

pub returns-clause-bytes : goal.returns-clause-bytes
returns-clause-bytes g c = λ honest name bytes opened holds.
    let same = c.bytes.ensures ∙ bytes_of c.args.self.now.files.items c.args.self.now.past c.args.file.0 c.index.result.now name bytes honest.0 c.index.ensures opened holds in
    c.copy_from.ensures.bytes ∙ ap (λ b. take c.copy_from.result (drop c.args.at b) ++ drop c.copy_from.result c.args.into.now) same
