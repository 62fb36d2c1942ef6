use Rattle.std.proofs.Common.{refl, rules, ◌-◌, length}
use Rattle.chunk_journal.specs.Meaning.{EndsUnsealed, IsDamaged}
use Rattle.folder_listing.specs.declared.kind.Kind.TheVariants.{Journal}
use Rattle.folder_listing.specs.Files.{Means, Unsealed, Damaged}
use Rattle.folder_listing.proofs.Listed.{found_so}
use Rattle.folder_listing.proofs.file.list_journal.Goals as goal

pub returns-in-Ok : goal.returns-in-Ok
returns-in-Ok g c =
    let used = c.in-Ok.replayed.used in
    found_so Journal c.args.name.now c.args.bytes.now (Means c.in-Ok.replayed.chunks (length c.args.bytes.now - used)) c.list_chunks.result (λ listed. listed.lines.items) (λ listed. listed.is_sound)
    (used, c.in-Ok.ensures.ok, refl) c.list_chunks.ensures

pub returns-in-Err-NotSealed : goal.returns-in-Err-NotSealed
returns-in-Err-NotSealed g c =
    let is : EndsUnsealed c.args.bytes.now = search rules in
    found_so Journal c.args.name.now c.args.bytes.now Unsealed c.unsealed_lines.result (λ listed. listed.lines.items) (λ listed. listed.is_sound) is c.unsealed_lines.ensures

pub returns-in-Err-BadRecord : goal.returns-in-Err-BadRecord
returns-in-Err-BadRecord g c =
    let is : IsDamaged c.args.bytes.now = search rules in
    found_so Journal c.args.name.now c.args.bytes.now Damaged c.damaged_lines.result (λ listed. listed.lines.items) (λ listed. listed.is_sound) is c.damaged_lines.ensures
