use Rattle.std.proofs.Common.{◌∙◌, ap, List, ◌++◌, ℕ}
use Rattle.chunk_journal.specs.Records.{append_head}
use Rattle.chunk_journal.proofs.writing.put_append_head.Goals as goal

pub returns-clause-ok : goal.returns-clause-ok
returns-clause-ok g c =
    c.write_append_head.ensures.items ∙ ap (λ (x : List ℕ). x ++ append_head c.args.serial c.args.tag.now c.args.count c.args.size) c.in_ok-reserve.ensures.items
