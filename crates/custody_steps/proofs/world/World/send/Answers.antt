use Rattle.std.proofs.Common.{◌≡◌, false, refl, sym, ap, ◌∙◌}
use Rattle.std.specs.Option.{option_copied}
use Rattle.std.proofs.lemmas.Bool.{false≢true}
use Rattle.std.proofs.lemmas.Option.{slice_get_within}
use Rattle.std.proofs.lemmas.Result.{err_from_is_err_and}
use Rattle.custody_store.specs.Book.{Message}
use Rattle.custody_store.specs.declared.sender.Sender.TheVariants as sender
use Rattle.relay_net.specs.Network.{address_of_client}
use Rattle.step_lines.specs.Texts.{texts_of}
use Rattle.custody_steps.specs.WorldFrom.{world_from}
use Rattle.custody_steps.specs.WorldOf.{world_of}
use Rattle.custody_steps.proofs.Keeping as keeping
use Rattle.custody_steps.proofs.Sendings.{none_shown}
use Rattle.custody_steps.proofs.world.World.send.Goals as goal

pub invariant_of-self : goal.invariant_of-self
invariant_of-self g c =
    let w = c.args.self.now in
    let m : Message = record { sender = sender.Client c.args.client; address = c.in_ok-address.address; tag = c.args.tag.now; entries = texts_of c.as_slice-2.result.now; acknowledged = false } in
    let known = keeping.known_of w in
    let k = keeping.either c.send.result c.send.ensures.ok c.send.ensures.err
    (λ e. keeping.known_sent w.net.now w.places w.book c.send.new.self known m refl e)
    (λ e. keeping.known_again w.net.now w.places w.book c.send.new.self known e) in
    record { answers = k.answers; closed = k.closed; sent = k.sent; ending = k.ending; shown = k.shown }

pub returns-in_err-send-clause-answer : goal.returns-in_err-send-clause-answer
returns-in_err-send-clause-answer g c =
    let w = c.args.self.now in
    let at = sym c.in-Some-Some.ensures in
    let has = rw c.as_slice.ensures.value at (c.have_tag.ensures.0 c.if-not-have_tag.false) in
    let p = err_from_is_err_and c.from_residual-in_err-send.result c.from_residual-in_err-send.ensures.1 in
    rw (p.1, p.2) (slice_get_within w.net.now.clients c.args.client c.in-Some-Some.found.now at, rw at has, ap (world_from w.places) c.in_err-send.ensures.err)

pub returns-clause-answer : goal.returns-clause-answer
returns-clause-answer g c =
    let w = c.args.self.now in
    let found = c.in-Some-Some.found.now in
    let at = sym c.in-Some-Some.ensures in
    let has = rw c.as_slice.ensures.value at (c.have_tag.ensures.0 c.if-not-have_tag.false) in
    let host_given = rw at at c.in-Some-Some.ensures' in
    let host_is : c.in-Some-Some.host.now ≡ (address_of_client w.net.now found).host = cc in
    let m : Message = record { sender = sender.Client c.args.client; address = c.in_ok-address.address; tag = c.args.tag.now; entries = texts_of c.as_slice-2.result.now; acknowledged = false } in
    let x : Message = record { sender = sender.Client c.args.client; address = address_of_client w.net.now found; tag = c.args.tag.now; entries = texts_of c.args.entries.now.items; acknowledged = false } in
    let same : m ≡ x = λ i. record {
      sender = sender.Client c.args.client;
      address = (c.in_ok-address.ensures ∙ (λ j. record { host = host_is j; port = found.port })) i;
      tag = c.args.tag.now;
      entries = texts_of (c.as_slice-2.ensures.value i);
      acknowledged = false;
    } in (
      slice_get_within w.net.now.clients c.args.client found at,
      rw at has,
      keeping.sent_world w.places w.book c.send.new.self (world_of w) m x c.in_ok-send.ensures.ok same refl ∙ rw at refl,
    )

pub returns-in_default-clause-answer : goal.returns-in_default-clause-answer
returns-in_default-clause-answer g c =
    (none_shown c.args.self.now.net.now.clients c.args.client _ (ap option_copied (sym c.in_default.is-1) ∙ c.client_host.ensures), refl)

pub returns-then-not-have_tag-clause-answer : goal.returns-then-not-have_tag-clause-answer
returns-then-not-have_tag-clause-answer g c =
    let at = sym c.in-Some-Some.ensures in
    let iff = rw c.as_slice.ensures.value at c.have_tag.ensures in (
      slice_get_within c.args.self.now.net.now.clients c.args.client c.in-Some-Some.found.now at,
      λ h. (let has = rw at at h in false≢true (sym c.if-not-have_tag.true ∙ iff.1 has)),
      refl,
    )

pub returns-in_err-address-clause-answer : goal.returns-in_err-address-clause-answer
returns-in_err-address-clause-answer g c =
    let at = sym c.in-Some-Some.ensures in
    let has = rw c.as_slice.ensures.value at (c.have_tag.ensures.0 c.if-not-have_tag.false) in
    let p = err_from_is_err_and c.from_residual.result c.from_residual.ensures.1 in
    rw (p.1, p.2) (slice_get_within c.args.self.now.net.now.clients c.args.client c.in-Some-Some.found.now at, rw at has, refl)
