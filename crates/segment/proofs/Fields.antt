-- The words of entries and rows, and what they are read as.
use mathlib.Core.Path.{◌≡◌, refl}
use lib.ListN.{length}
use Rattle.segment.specs.declared.PlaceRow.{PlaceRow}
use Rattle.segment.specs.Layout.{place_width}
use Rattle.segment.specs.Fields.{place_words, spared}

pub length-spared : (r : PlaceRow) → length (spared (place_words r)) ≡ place_width
unfolding place_words
length-spared r = refl
