use Rattle.msgpack_bytes.proofs.heads.read.Goals as goal

pub content-requires-clause-fit : goal.content-requires-clause-fit
content-requires-clause-fit c = (c.args.first, rw c.in-Fixed.shape-is c.requires.fit)
