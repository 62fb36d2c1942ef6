use Rattle.std.proofs.Common.{ℕ, ◌≡◌, List, [], ◌++◌, subst}
use Rattle.auth_handshake.specs.declared.answers.Ping.{Ping}
use Rattle.auth_handshake.specs.declared.answers.Ping.TheVariants.{Passed}
use Rattle.auth_handshake.specs.Ends.{ServerEnd, IsAnswer}
use Rattle.forward_core.specs.Server.{Awaiting}
use Rattle.forward_core.proofs.Stepping.{lets_in}
use Rattle.forward_core.proofs.server_handshake.answer_ping.Goals as goal

passed : (server : ServerEnd) (item old new : List ℕ) (answer : Ping) → answer ≡ Passed → old ≡ []
    → ((pong : List ℕ) × IsAnswer server item answer pong × (new ≡ old ++ pong)) → (pong : List ℕ) × IsAnswer server item Passed pong × (new ≡ pong)
passed server item old new answer a o p =
    (p.0, subst (λ (z : Ping). IsAnswer server item z p.0) a p.1, subst (λ (z : List ℕ). new ≡ z ++ p.0) o p.2)

pub returns-in_ok-taken-in-Passed-clause-greets : goal.returns-in_ok-taken-in-Passed-clause-greets
returns-in_ok-taken-in-Passed-clause-greets g c =
    let reads = c.in_ok-taken-in-Passed.ensures.reads (Awaiting c.args.server.now) in
    lets_in c.args.server.now c.args.bytes.now _ _ _ _ c.args.end c.in_ok-taken-in-Passed.taken.len _ _ c.requires.shown c.split_at.ensures.front c.split_at.ensures.back
    (passed c.args.server.now _ _ _ _ c.in-Passed.is c.new-pong.ensures.items c.in_ok-ping.ensures.right) reads
