use Rattle.std.proofs.Common.{rules, ◌≡◌, true, Some, ap, sym, subst, take, ◌∙◌, Option, IsSomeAnd}
use Rattle.custody_store.specs.Buffers.{Chunk}
use Rattle.custody_store.specs.declared.chunk.Stage.TheVariants.{Claimed}
use Rattle.custody_steps.specs.Found.{chunk_of, with_found}
use Rattle.custody_steps.specs.Steps.{Stores, with_stored}
use Rattle.custody_steps.specs.World.{World}
use Rattle.custody_steps.specs.WorldOf.{world_of}
use Rattle.custody_steps.proofs.Named.{there, at_stage, live_at, of_output}
use Rattle.custody_steps.proofs.Views.{named_changed, named_stored, stored_whole, chunks_stored}
use Rattle.custody_steps.proofs.world.World.write.Goals as goal

pub prove_delivered-requires : goal.prove_delivered-requires
prove_delivered-requires g c =
    let net = c.args.self.now.net.now in
    let w = world_of c.args.self.now in
    let found = c.in_ok-found.found in
    let f = c.in_ok-found.ensures.found in
    let mid = world_of c.store_first.new.self in
    let still : chunk_of mid found ≡ chunk_of w found = ap (λ (v : World). chunk_of v found) c.in_ok-store_first.ensures.ok ∙ chunks_stored w found (take found.look.count) in
    record { claimed = subst (λ (o : Option Chunk). IsSomeAnd o (λ chunk. chunk.stage ≡ Claimed)) (sym still) (live_at net w c.args.name.now found f.0 Claimed f.1) }

pub returns-clause-answer : goal.returns-clause-answer
returns-clause-answer g c =
    let net = c.args.self.now.net.now in
    let w = world_of c.args.self.now in
    let name = c.args.name.now in
    let found = c.in_ok-found.found in
    let f = c.in_ok-found.ensures.found in
    let stores = of_output net w name found f.0 Stores (c.is_stored.ensures.0 (search rules)) in
    let mid = c.in_ok-store_first.ensures.ok ∙ stored_whole net w name found f.0 ∙ named_stored net w name found f.0 (λ entries. entries) in (
      there net w name found f.0,
      at_stage net w name found f.0 Claimed _ f.1 stores,
      c.prove_delivered.ensures.world
          ∙ ap (λ (v : World). with_found v found (λ chunk. Some (record chunk { evidence = true }))) mid
          ∙ named_changed net w name found f.0 (with_stored net w name (λ entries. entries)) (λ chunk. Some (record chunk { evidence = true })),
    )
