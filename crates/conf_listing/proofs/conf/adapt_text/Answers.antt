use Rattle.std.proofs.Common.{map, inr, refl}
use Rattle.std.specs.Prelude.{string_bytes}
use Rattle.std.proofs.lemmas.Result.{err_from_is_err_and}
use Rattle.conf_listing.proofs.Drafting.{draft_of_text, unread_draft}
use Rattle.conf_listing.proofs.conf.adapt_text.Goals as goal

pub returns-then-not-drafted-clause-found : goal.returns-then-not-drafted-clause-found
returns-then-not-drafted-clause-found g c = record {
  draft = c.in_ok-drafted.drafted;
  draft_is = draft_of_text c.args.text.now c.behind_mark-rest.result.now (map string_bytes c.args.accepted.now) c.in_ok-elements.elements.items c.deref.result.now c.in_ok-drafted.drafted
      c.behind_mark-rest.ensures c.in_ok-elements.ensures.found c.deref.ensures.value c.in_ok-drafted.ensures;
  accepted = c.if-not-drafted.true;
  lines_are = refl;
}

pub returns-in_err-_relay-clause-stop : goal.returns-in_err-_relay-clause-stop
returns-in_err-_relay-clause-stop g c =
    let p = err_from_is_err_and c.from_residual-in_err-_relay.result c.from_residual-in_err-_relay.ensures.1 in
    let is = draft_of_text c.args.text.now c.behind_mark-rest.result.now (map string_bytes c.args.accepted.now) c.in_ok-elements.elements.items c.deref.result.now c.in_ok-drafted.drafted
    c.behind_mark-rest.ensures c.in_ok-elements.ensures.found c.deref.ensures.value c.in_ok-drafted.ensures in
    rw (p.1, p.2) (unread_draft c.args.text.now (map string_bytes c.args.accepted.now) c.in_ok-drafted.drafted c.in_err-_relay.field-0.0 is c.if-not-drafted.false c.in_err-_relay.ensures.stop)

pub returns-clause-found : goal.returns-clause-found
returns-clause-found g c = record {
  draft = c.in_ok-drafted.drafted;
  draft_is = draft_of_text c.args.text.now c.behind_mark-rest.result.now (map string_bytes c.args.accepted.now) c.in_ok-elements.elements.items c.deref.result.now c.in_ok-drafted.drafted
      c.behind_mark-rest.ensures c.in_ok-elements.ensures.found c.deref.ensures.value c.in_ok-drafted.ensures;
  accepted = c.if-not-drafted.false;
  lines_are = refl;
  describes = (c.in_ok-_relay._relay, c.in_ok-_relay.ensures.relay);
}
