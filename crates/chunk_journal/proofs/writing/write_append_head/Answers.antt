use Rattle.chunk_journal.proofs.Appends.{head_written}
use Rattle.chunk_journal.proofs.writing.write_append_head.Goals as goal

pub returns-clause-items : goal.returns-clause-items
returns-clause-items g c =
    head_written c.args.out.now.items c.write.new.out.items c.push_reserved.new.self.items c.write-2.new.out.items c.write-3.new.out.items
    c.write-4.new.out.items c.write-5.new.out.items
    c.to_be_bytes.result c.to_be_bytes-2.result c.to_be_bytes-3.result c.to_be_bytes-4.result c.args.serial c.args.tag.now c.args.count c.args.size
    c.write.ensures.items c.push_reserved.ensures.items c.write-2.ensures.items
    c.write-3.ensures.items c.write-4.ensures.items c.write-5.ensures.items
    c.to_be_bytes.ensures c.to_be_bytes-2.ensures c.to_be_bytes-3.ensures c.to_be_bytes-4.ensures
