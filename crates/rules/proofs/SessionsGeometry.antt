-- Geometry: what build answers.
use mathlib.Core.Path.{refl}
use mathlib.Core.List.{[], ◌∷◌}
use Rattle.rules.proofs.All.{All}
use Rattle.rules.proofs.Vocabulary.{builds, built, refused}
use Rattle.rules.proofs.Script.{◌⇒◌, AsWritten, Plays}

-- "Record size R words 1..128, blocking factor B 1..16, records N 1..2,000, extents X 1..32": one below and one above each; 31 comes first
pub build-ranges : AsWritten (
    builds 0 0 1 1 1 ⇒ refused 35
    ∷ builds 0 129 1 1 1 ⇒ refused 35
    ∷ builds 0 4 0 1 1 ⇒ refused 35
    ∷ builds 0 4 17 1 1 ⇒ refused 35
    ∷ builds 0 4 1 0 1 ⇒ refused 35
    ∷ builds 0 4 1 2001 1 ⇒ refused 35
    ∷ builds 0 4 1 1 0 ⇒ refused 35
    ∷ builds 0 4 1 1 33 ⇒ refused 35
    ∷ builds 8 0 1 1 1 ⇒ refused 31
    ∷ builds 0 4 1 1 1 ⇒ built 3
    ∷ builds 0 0 1 1 1 ⇒ refused 31
    ∷ builds 7 128 16 1 32 ⇒ refused 38
    ∷ builds 7 1 16 1 32 ⇒ built 496
    ∷ [])
unfolding All Plays
build-ranges = refl

-- "whole blocks are meant": (1,1,1) gives 3, and (51,3,8) gives 69
pub whole-blocks : AsWritten (
    builds 0 4 1 1 1 ⇒ built 3
    ∷ builds 1 4 3 51 8 ⇒ built 69
    ∷ [])
unfolding All Plays
whole-blocks = refl

-- R 128, B 1, X 1: N 14 is refused 38, N 13 is built with 15 data blocks; the label block counts for X and not for 38
pub share-limit : AsWritten (
    builds 0 128 1 14 1 ⇒ refused 38
    ∷ builds 0 128 1 13 1 ⇒ built 15
    ∷ [])
unfolding All Plays
share-limit = refl
