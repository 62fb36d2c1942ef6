use Rattle.tag_pattern.specs.Parts.{parts_of}
use Rattle.tag_pattern.proofs.Sets.{subset}
use Rattle.tag_pattern.proofs.prefixed.PrefixedPlain.fits.Goals as goal

pub returns-clause-subset : goal.returns-clause-subset
returns-clause-subset g c fit tag =
    let fits = rw (c.items.ensures.items, c.deref.ensures.value, c.self.view_is) at c.compare.ensures in
    subset (fits.0 fit) (parts_of tag)
