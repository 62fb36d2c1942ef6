use Rattle.event_listing.specs.Forms.{form_of}
use Rattle.event_listing.proofs.Held.{fewer_left, held_lines, held_more, none_taken, some_taken}
use Rattle.event_listing.proofs.lines.print_held.Goals as goal

pub events-smaller : goal.events-smaller
events-smaller g c =
    let form = form_of c.args.form in
    let rest = c.events.rest.now in
    let lines = c.events.lines.items in
    let new = c.in_ok-taken.taken.lines.items in
    fewer_left form c.args.choice.now rest c.in-Some.behind.now lines new
    (some_taken form c.args.choice.now rest lines new c.in_ok-taken.taken.behind c.in-Some.behind c.in-Some.is c.in_ok-taken.ensures)

pub events-preserved : goal.events-preserved
events-preserved g c =
    let form = form_of c.args.form in
    let rest = c.events.rest.now in
    let lines = c.events.lines.items in
    let new = c.in_ok-taken.taken.lines.items in
    held_more form c.args.choice.now c.args.bytes.now rest c.in-Some.behind.now lines new c.events.invariant
    (some_taken form c.args.choice.now rest lines new c.in_ok-taken.taken.behind c.in-Some.behind c.in-Some.is c.in_ok-taken.ensures)

pub returns-clause-lines : goal.returns-clause-lines
returns-clause-lines g c =
    let form = form_of c.args.form in
    let rest = c.events.rest.now in
    let lines = c.events.lines.items in
    let new = c.in_ok-taken.taken.lines.items in
    held_lines form c.args.choice.now c.args.bytes.now rest lines new c.events.invariant (none_taken form c.args.choice.now rest lines new c.in_ok-taken.taken.behind c.in-None.is c.in_ok-taken.ensures).1
