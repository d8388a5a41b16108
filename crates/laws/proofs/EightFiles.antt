-- What is true of a desk's files, seen by `file_of` and changed by `with_file` and `desk_time`. All above speaks through these laws: no other proof
-- looks into a desk.
use Prim.Native.Nat.{ℕ, zero, suc, ◌≤◌, ◌<◌}
use mathlib.Core.Path.{◌≡◌, refl, ap, ◌∙◌}
use mathlib.Core.List.{List, [], ◌∷◌}
use native.Mathlib.Omega.{arith}
use lib.ListN.{length, get_or, set, length-set, length-map, get_or-map, get_or-eq_default}
use lib.Seq.{get_or-set_same, get_or-set_other, set-set, set-get_or}
use Rattle.rules.specs.Limits.{files}
use Rattle.rules.specs.State.{File, unbuilt}
use Rattle.rules.specs.Time.{file_time}
use Rattle.rules.specs.Desk.{Desk, fresh_desk, file_of, with_file, desk_time}
use Rattle.laws.specs.EightFiles.{EightFiles, desk_of}
use Rattle.laws.proofs.Lists.{get_or-replicate-same, length_up, get_or-all}

-- the fresh desk

pub eight-fresh : EightFiles fresh_desk
unfolding EightFiles fresh_desk
eight-fresh = refl

pub fresh-file : (f : ℕ) → file_of fresh_desk f ≡ unbuilt
unfolding file_of fresh_desk
fresh-file f = get_or-replicate-same unbuilt files f

-- a desk made of eight

pub eight-of : (x : ℕ → File) → EightFiles (desk_of x)
unfolding EightFiles desk_of
eight-of x = length_up x files 0

pub file-of : (x : ℕ → File) (f : ℕ) → f < files → file_of (desk_of x) f ≡ x f
unfolding file_of desk_of
file-of x f h = get_or-all x files f unbuilt h

-- there is no file above 7
pub file-none : (d : Desk) (f : ℕ) → EightFiles d → files ≤ f → file_of d f ≡ unbuilt
unfolding file_of EightFiles
file-none d f n h = let e : length d.files ≤ f = omega arith in get_or-eq_default d.files unbuilt e

-- file f is put

pub eight-put : (d : Desk) (f : ℕ) (x : File) → EightFiles d → EightFiles (with_file d f x)
unfolding EightFiles with_file
eight-put d f x n = length-set d.files f x ∙ n

pub file-same : (d : Desk) (f : ℕ) (x : File) → EightFiles d → f < files → file_of (with_file d f x) f ≡ x
unfolding file_of with_file EightFiles
file-same d f x n h = get_or-set_same d.files f x unbuilt (rw n h)

pub file-other : (d : Desk) (f g : ℕ) (x : File) → (g ≡ f → ⊥) → file_of (with_file d f x) g ≡ file_of d g
unfolding file_of with_file
file-other d f g x n = get_or-set_other d.files f g x unbuilt n

-- what is the same of two files is the same of every file, with the one put and with the other
pub files-same : {A : Type 0} (k : File → A) (d : Desk) (f : ℕ) (x y : File) → k x ≡ k y → (g : ℕ) → k (file_of (with_file d f x) g) ≡ k (file_of (with_file d f y) g)
unfolding file_of with_file
files-same k d f x y e g = go d.files f g
  where
    go : (l : List File) (i j : ℕ) → k (get_or (set l i x) j unbuilt) ≡ k (get_or (set l i y) j unbuilt)
    go [] i j = refl
    go (z ∷ l) zero zero = e
    go (z ∷ l) zero (suc j) = refl
    go (z ∷ l) (suc i) zero = refl
    go (z ∷ l) (suc i) (suc j) = go l i j

-- put twice, and what is there already

pub put-twice : (d : Desk) (f : ℕ) (x y : File) → with_file (with_file d f x) f y ≡ with_file d f y
unfolding with_file
put-twice d f x y = ap (λ (l : List File). record { files = l }) (set-set d.files f x y)

pub file-here : (d : Desk) (f : ℕ) (x : File) → file_of d f ≡ x → with_file d f x ≡ d
unfolding file_of with_file
file-here d f x e = rw (← e) (ap (λ (l : List File). record { files = l }) (set-get_or d.files f unbuilt))

-- time

pub eight-time : (e : ℕ) (d : Desk) → EightFiles d → EightFiles (desk_time e d)
unfolding EightFiles desk_time
eight-time e d n = length-map d.files (file_time e) ∙ n

pub file-time : (e : ℕ) (d : Desk) (f : ℕ) → file_of (desk_time e d) f ≡ file_time e (file_of d f)
unfolding file_of desk_time file_time
file-time e d f = get_or-map (file_time e) d.files f unbuilt
