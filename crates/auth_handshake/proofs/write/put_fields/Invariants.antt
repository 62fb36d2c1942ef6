use Rattle.std.proofs.Common.{vec_capacity}
use Rattle.auth_handshake.proofs.Puts.{Puts}
use Rattle.auth_handshake.proofs.write.put_fields.Given as goal

abbrev pub invariant-loop-field : goal.invariant-loop-field
invariant-loop-field g l = Puts l.initial.out.items l.out.items (vec_capacity l.initial.out) (vec_capacity l.out) l.fields l.field-index
