use Rattle.std.proofs.Common.{ℕ, List, Option, Some, None, Bor}
use Rattle.std.specs.Prelude.{IfSome}
use Rattle.std.specs.Option.{option_to_list}
use Rattle.std.specs.List.{AllByRecursion}
use Rattle.msgpack_bytes.specs.Item.{IsItemWithin}
use Rattle.event_modes.specs.Pairs.{bytes_of}
use Rattle.event_modes.specs.Places.{frame_of}
use Rattle.event_modes.proofs.Framed.{whole_frame}
use Rattle.event_modes.proofs.reading.walked.Goals as goal

pub tag_of-requires : goal.tag_of-requires
tag_of-requires g c = (whole_frame c.args.item.now (frame_of c.in-Some.places) c.requires.item c.in-Some.ensures).tag

pub entries_of-requires : goal.entries_of-requires
entries_of-requires g c = (whole_frame c.args.item.now (frame_of c.in-Some.places) c.requires.item c.in-Some.ensures).carried

an_option : (o : Option (Bor (List ℕ))) → AllByRecursion IsItemWithin (option_to_list (bytes_of o)) → IfSome o (λ bytes. IsItemWithin bytes.now)
an_option None p = tt
an_option (Some x) p = p.0

pub ack_of-requires : goal.ack_of-requires
ack_of-requires g c = an_option c.in-Some.places.option (whole_frame c.args.item.now (frame_of c.in-Some.places) c.requires.item c.in-Some.ensures).option
