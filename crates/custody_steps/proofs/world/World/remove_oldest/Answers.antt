use Rattle.custody_store.specs.Places.{contents_at}
use Rattle.custody_steps.proofs.Oldest.{no_queued, oldest_world, one_queued}
use Rattle.custody_steps.proofs.world.World.remove_oldest.Goals as goal

pub returns-clause-world : goal.returns-clause-world
returns-clause-world g c =
    let is = c.in-Some.ensures in
    oldest_world c.args.self.now.places c.oldest.new.self c.remove.new.self c.args.self.now.book c.args.place c.args.buffer c.in-Some.serial is.same is.some.0 is.some.1 is.some.2 c.remove.ensures

pub returns-in_default-clause-one : goal.returns-in_default-clause-one
returns-in_default-clause-one g c = no_queued (contents_at c.args.self.now.places c.args.place c.args.buffer) c.in_default.ensures.none

pub remove-requires : goal.remove-requires
remove-requires g c =
    let is = c.in-Some.ensures in
    record { there = is.there; serial = rw (is.same.contents c.args.place c.args.buffer) is.some.0 }

pub returns-clause-one : goal.returns-clause-one
returns-clause-one g c =
    let is = c.in-Some.ensures in
    one_queued (contents_at c.args.self.now.places c.args.place c.args.buffer) c.in-Some.serial is.some.1
