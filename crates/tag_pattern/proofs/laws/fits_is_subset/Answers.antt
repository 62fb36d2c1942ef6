use Rattle.tag_pattern.specs.Parts.{parts_of}
use Rattle.tag_pattern.proofs.Sets.{subset}
use Rattle.tag_pattern.proofs.laws.fits_is_subset.Goals as goal

pub returns : goal.returns
returns c p q tag fit = subset fit (parts_of tag)
