use Rattle.msgpack_bytes.proofs.Mended.{deeper}
use Rattle.msgpack_bytes.proofs.Lawful.{parts, parts_within}
use Rattle.msgpack_bytes.proofs.laws.parts.Goals as goal

pub returns-clause-deeper : goal.returns-clause-deeper
returns-clause-deeper c = deeper

pub returns-clause-parts : goal.returns-clause-parts
returns-clause-parts c = parts

pub returns-clause-parts_within : goal.returns-clause-parts_within
returns-clause-parts_within c = parts_within
