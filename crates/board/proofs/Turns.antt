-- Texts put in turn: place by place, file by file, and the end.
use Prim.Native.Nat.{ℕ, suc, ◌+◌, ◌*◌, ◌≤◌}
use mathlib.Core.Path.{◌≡◌, refl}
use mathlib.Core.List.{List, [], ◌∷◌}
use native.Mathlib.Numerals.{add-one}
use native.Mathlib.Omega.{arith}
use lib.ListN.{length}
use Rattle.rules.specs.Limits.{files, places}
use Rattle.rules.specs.Desk.{Desk, file_of}
use Rattle.texts.specs.Spell.{spell}
use Rattle.texts.specs.Put.{Put}
use Rattle.texts.proofs.Runs.{◌then◌, put-none, put-within}
use Rattle.board.specs.Board.{acc_room, file_room, files_room, file_text, files_text, or_nothing}
use Rattle.board.specs.Found.{place_text_at, places_at}
use Rattle.board.specs.Promise.{Ends}

-- the first p places, starting at a place of the output
module _ (xs : List ℕ) (f : ℕ) (out₀ : List ℕ) (at : ℕ) where
  abbrev pub Placed : ℕ → List ℕ → ℕ → Type 0
  Placed p out end = Put (acc_room * p) out₀ at (places_at xs f p) out end

  pub placed-none : Placed 0 out₀ at
  unfolding places_at
  placed-none = put-none (acc_room * 0)

  pub placed_on : (p : ℕ) (out : List ℕ) (end : ℕ) (out' : List ℕ) (end' : ℕ) → Placed p out end → Put acc_room out end (place_text_at xs f p) out' end' → Placed (p + 1) out' end'
  unfolding places_at
  placed_on p out end out' end' P Q = rw (add-one p) (put-within (acc_room * suc p) (omega arith) (P then Q))

  pub placed-all : (p : ℕ) (out : List ℕ) (end : ℕ) → p ≤ places → places ≤ p → Placed p out end → Put (places * acc_room) out₀ at (places_at xs f places) out end
  placed-all p out end h k P = let e : p ≡ places = omega arith in put-within (places * acc_room) (omega arith) (rw e at P)

-- the first f files
module _ (d : Desk) (out₀ : List ℕ) where
  abbrev pub Filed : ℕ → List ℕ → ℕ → Type 0
  Filed f out end = Put (file_room * f) out₀ 0 (files_text d f) out end

  pub filed-none : Filed 0 out₀ 0
  unfolding files_text
  filed-none = put-none (file_room * 0)

  pub filed-on : (f : ℕ) (out : List ℕ) (end : ℕ) (out' : List ℕ) (end' : ℕ) → Filed f out end → Put file_room out end (file_text f (file_of d f)) out' end' → Filed (f + 1) out' end'
  unfolding files_text
  filed-on f out end out' end' P Q = rw (add-one f) (put-within (file_room * suc f) (omega arith) (P then Q))

  pub filed-all : (f : ℕ) (out : List ℕ) (end : ℕ) → f ≤ files → files ≤ f → Filed f out end → Put files_room out₀ 0 (files_text d files) out end
  filed-all f out end h k P = let e : f ≡ files = omega arith in put-within files_room (omega arith) (rw e at P)

-- where nothing was put
no_bytes : (t : List ℕ) → 0 ≡ length t → t ≡ []
no_bytes [] e = refl
no_bytes (x ∷ t) e = absurd (omega arith)

pub ends-none : (before : List ℕ) (at : ℕ) (out : List ℕ) (end : ℕ) → at ≡ 0 → Put (length (spell "no file is built\n")) before 0 (spell "no file is built\n") out end → Ends before at out end
unfolding Ends or_nothing spell
ends-none before at out end z Q t before₀ P =
    let e : t ≡ [] = no_bytes t (omega (arith, P.size)) in
    let same : before ≡ before₀ = rw e at P.bytes in
    rw e (rw (← same) (put-within files_room (omega arith) Q))

pub ends_some : (before : List ℕ) (at : ℕ) → (at ≡ 0 → ⊥) → Ends before at before at
unfolding Ends or_nothing
ends_some before at h [] before₀ P = absurd (h (omega (arith, P.size)))
ends_some before at h (x ∷ t) before₀ P = P
