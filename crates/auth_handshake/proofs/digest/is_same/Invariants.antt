use Rattle.auth_handshake.proofs.Differences.{Gathered}
use Rattle.auth_handshake.proofs.digest.is_same.Given as goal

abbrev pub invariant-loop-i : goal.invariant-loop-i
invariant-loop-i l = Gathered l.difference l.digest l.expected l.i
