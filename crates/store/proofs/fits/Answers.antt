use Rattle.rules.specs.Geometry.{capacity}
use Rattle.store.specs.Door.{fits_ring}
use Rattle.store.proofs.fits.Goals as goal

pub returns : goal.returns
unfolding fits_ring capacity
returns c = rw c.used.ensures
