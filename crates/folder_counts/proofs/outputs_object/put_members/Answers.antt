use Rattle.std.proofs.Common.{codes}
use Rattle.folder_counts.specs.Outputs.{used_of, with_members, with_place, with_some, with_tries}
use Rattle.folder_counts.proofs.Written.{last_becomes, then_becomes}
use Rattle.folder_counts.proofs.outputs_object.put_members.Goals as goal

pub returns : goal.returns
unfolding with_members
returns g c =
    let output = c.args.output.now in
    let used = used_of c.args.buffers.now output.state in
    let place = with_place c.args.writer.now.tokens output.state in
    last_becomes c.put_tries.result c.args.writer.now c.put_used.new.writer c.put_tries.new.writer (with_some place (codes "used") used) (λ tokens. with_tries tokens output)
    (then_becomes c.args.writer.now c.put_place.new.writer c.put_used.new.writer place (λ tokens. with_some tokens (codes "used") used) c.in_ok-put_place.ensures c.in_ok-put_used.ensures)
    c.put_tries.ensures
