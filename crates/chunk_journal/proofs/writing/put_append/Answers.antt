use Rattle.std.proofs.Common.{arith, ◌∙◌, ap, List, ◌++◌, ℕ, length}
use Rattle.event_modes.proofs.Stored.{no_longer}
use Rattle.chunk_journal.specs.Records.{append_head}
use Rattle.chunk_journal.proofs.Frames.{append_length}
use Rattle.chunk_journal.proofs.Appends.{append_written}
use Rattle.chunk_journal.proofs.writing.put_append.Goals as goal

pub write_append_head-requires-clause-short : goal.write_append_head-requires-clause-short
write_append_head-requires-clause-short g c = omega (arith, c.requires.short, append_length c.args.serial c.args.tag.now c.args.entries.now, ap length c.as_bytes-stored.ensures.all)

pub write_append_head-requires-clause-count : goal.write_append_head-requires-clause-count
write_append_head-requires-clause-count g c = omega (arith, c.count.ensures, no_longer c.args.entries.now c.as_bytes-stored.ensures.stored, ap length c.as_bytes-stored.ensures.all)

pub returns-clause-ok : goal.returns-clause-ok
returns-clause-ok g c =
    append_written c.args.out.now.items c.write_append_head.new.out.items c.write.new.out.items c.as_bytes-stored.result.now c.args.serial c.args.tag.now c.args.entries.now c.count.result
    (c.write_append_head.ensures.items ∙ ap (λ (x : List ℕ). x ++ append_head c.args.serial c.args.tag.now c.count.result (length c.as_bytes-stored.result.now)) c.in_ok-reserve.ensures.items)
    c.write.ensures.items c.count.ensures c.as_bytes-stored.ensures.all
