use Rattle.tag_pattern.proofs.Prefixing.{same_behind}
use Rattle.tag_pattern.proofs.plain.Plain.prefixed.Goals as goal

pub returns-clause-law : goal.returns-clause-law
returns-clause-law g c =
    rw (c.in_ok-push_copies.ensures, c.in_ok-push_literals.ensures, c.new-items.ensures.items, c.as_bytes.ensures.bytes, c.items.ensures.items) (same_behind c.args.prefix.now c.args.self.now)
