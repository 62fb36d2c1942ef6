use Rattle.std.proofs.Common.{rules, ◌≡◌, ◌+◌, ◌-◌, ◌≤◌, ◌++◌, length, take, refl, sym, ap, subst, arith}
use Rattle.std.specs.Prelude.{IfSome}
use Rattle.std.specs.Io.KnownBytes.{Consumes}
use Rattle.folder_listing.specs.Placed.{known_at, Gives}
use Rattle.folder_listing.proofs.Left.{place_read, same_read}
use Rattle.folder_listing.proofs.places.PlacesReaderCountedRead.read.Goals as goal

pub returns-in-Ok-clause-bytes : goal.returns-in-Ok-clause-bytes
returns-in-Ok-clause-bytes g c =
    let bytes_of = g.R.ReadAt.bytes_of in
    let first = c.args.self.now in
    let here = c.here.new.self in
    let known = bytes_of here.file.now in
    let place = c.in-Some.place in
    let others = c.in-Some.ensures.place.0.0 in
    let n = c.in-Ok.n in
    let front = c.read_at.new.piece in
    let back = c.split_at_mut-front.result.1.now in
    let fits : n ≤ length front = search (rules, c.in-Ok.ensures.bound) in
    let left : here.done + (place.length - here.done) ≡ place.length = let below = c.in-Some.ensures.place.1 in omega (arith, below) in
    let room : length front ≤ place.length - here.done =
    omega (arith, c.read_at.auto.piece, c.split_at_mut-front.ensures.front_len, c.min-room.ensures, c.length.ensures.value) in
    let gives : IfSome known (λ bytes. Gives bytes (place.at + here.done) n front) =
    subst (λ at. IfSome known (λ bytes. Gives bytes (at + here.done) n front)) c.at.ensures.value c.in-Ok.ensures.bytes in
    let read : Consumes (known_at known here.places.now here.done) (known_at known here.places.now (here.done + n)) (take n (front ++ back)) =
    subst (λ ps. Consumes (known_at known ps here.done) (known_at known ps (here.done + n)) (take n (front ++ back))) (sym c.in-Some.ensures.place.0.1)
    (place_read known place others here.done (here.done + n) n front back gives fits (omega (arith, fits, room, left)) refl) in
    let whole = same_read known (known_at known here.places.now (here.done + n)) first.places.now here.places.now first.done here.done (take n (front ++ back)) c.in-Some.ensures.same read in (
      subst (λ f. Consumes (known_at (bytes_of f.now) first.places.now first.done) (known_at known here.places.now (here.done + n)) (take n (front ++ back))) c.in-Some.ensures.file whole,
      λ none. absurd (first_of (omega (arith, none, c.in-Ok.n-test), first_of (omega (arith, none, c.in-Ok.n-test.0), search (rules, none)))),
    )
