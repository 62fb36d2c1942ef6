use Rattle.tag_pattern.proofs.row.cell.Goals as goal

pub returns-in-Fits : goal.returns-in-Fits
returns-in-Fits c = rw c.in-Fits.is c.fits_cell.ensures

pub returns-in-Meets : goal.returns-in-Meets
returns-in-Meets c = rw c.in-Meets.is c.meets_cell.ensures
