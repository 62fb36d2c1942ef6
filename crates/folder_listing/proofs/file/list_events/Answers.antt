use Rattle.folder_listing.specs.declared.kind.Kind.TheVariants.{Sink}
use Rattle.folder_listing.specs.Files.{Holds}
use Rattle.folder_listing.proofs.Listed.{found_so}
use Rattle.folder_listing.proofs.file.list_events.Goals as goal

pub returns : goal.returns
returns g c =
    found_so Sink c.args.name.now c.args.bytes.now (Holds c.in_ok-counted.counted.events c.in_ok-counted.counted.torn) c.event_line.result (λ listed. listed.lines.items) (λ listed. listed.is_sound)
    c.in_ok-counted.ensures c.event_line.ensures
