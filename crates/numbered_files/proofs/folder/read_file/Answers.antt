use Rattle.std.proofs.Common.{ap, ◌∙◌, arith}
use Rattle.disk_files.specs.Disk.{read_of}
use Rattle.numbered_files.proofs.Found.{whole}
use Rattle.numbered_files.proofs.folder.read_file.Goals as goal

pub returns-clause-bytes : goal.returns-clause-bytes
returns-clause-bytes g c honest name bytes opened reads =
    let first = c.in_ok-len.ensures in
    let still = c.in_ok-read.ensures in
    let named = first.opened c.args.file ∙ opened in
    let found = ap read_of (first.same honest name) ∙ reads in
    whole bytes _ _ _ _ c.in_ok-read.read c.in_ok-bytes.bytes.len
    (omega (arith, first.length honest name bytes opened reads, c.in_ok-bytes.ensures.len, c.deref_mut.ensures.value, c.deref_mut.ensures.len))
    (omega (arith, first.length honest name bytes opened reads, c.in_ok-bytes.ensures.len))
    (still.count (first.device.honest honest) name bytes named found)
    (still.bytes (first.device.honest honest) name bytes named found)
    c.truncate.ensures.items
