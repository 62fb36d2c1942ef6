use Rattle.std.proofs.Common.{codes}
use Rattle.folder_counts.specs.Object.{with_chunks, with_number, with_time}
use Rattle.folder_counts.proofs.Written.{last_becomes}
use Rattle.folder_counts.proofs.object.put_whole.Goals as goal

pub returns : goal.returns
returns g c =
    let old = c.args.writer.now in
    let torn = with_number (with_chunks old.tokens c.args.chunks) (codes "torn") c.args.torn in
    let following = with_number torn (codes "next") c.args.next in
    last_becomes c.put_time.result old c.put_all.new.writer c.put_time.new.writer following (λ tokens. with_time tokens (codes "oldest_event") c.args.oldest) c.in_ok-put_all.ensures c.put_time.ensures
