use Rattle.std.proofs.Common.{sym, ap, ◌∙◌}
use Rattle.std.proofs.lemmas.Bool.Decides.{Decides-eqb}
use Rattle.std.proofs.lemmas.Slice.Eq.{slice_eq-Decides}
use Rattle.auth_handshake.specs.Messages.{Told}
use Rattle.auth_handshake.specs.Readings.{told}
use Rattle.auth_handshake.specs.Ends.{ClientEnd}
use Rattle.auth_handshake.proofs.client.Client.has_own_name.Goals as goal

pub returns-in-Some : goal.returns-in-Some
returns-in-Some g c =
    let same = slice_eq-Decides Decides-eqb c.in-Some.pong.host.now c.as_slice.result.now c.eq.result c.eq.ensures in
    let host = c.as_slice.ensures.value ∙ ap (λ (e : ClientEnd). e.host) c.self.view_is in (
      λ yes. (told c.in-Some.pong, c.in-Some.ensures.right, same.0 yes ∙ host),
      λ own. same.1 (ap (λ (t : Told). t.host) (c.in-Some.ensures.only own.0 own.1) ∙ own.2 ∙ sym host),
    )

pub returns-in-None : goal.returns-in-None
returns-in-None g c = (λ no. absurd (cc no), λ own. absurd (c.in-None.ensures.only own.0 own.1))
