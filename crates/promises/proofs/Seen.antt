-- Memories are always seen as something: the test of their bytes says as what.
use mathlib.Core.Path.{◌≡◌, refl, sym, ◌∙◌}
use mathlib.Core.Bool.{Bool, true, false, true≢false}
use mathlib.Core.Option.{Option, none, some}
use Rattle.rules.specs.Desk.{Desk}
use Rattle.rules.specs.Allocation.{Alloc}
use Rattle.words.specs.Word.{Bytes}
use Rattle.memory.specs.Memories.{Memories}
use Rattle.memory.specs.Fine.{StandsFor}
use Rattle.sound.specs.Sound.{soundly}
use Rattle.decision.proofs.desk.Both.{sound-stands, stands-sound}
use Rattle.promises.specs.Promise.{Standing, Seen, unsound, stands}

module _ {m : Memories} where
  pub sees : Bytes m.segment → Bytes m.blocks → Bytes m.buffers → (v : Option Standing) × Seen m v
  sees bs bb bf = go (soundly m) refl
    where
      go : (t : Bool) → soundly m ≡ t → (v : Option Standing) × Seen m v
      go true e = let (d, s, S) = sound-stands m bs bb bf e in (some (record { desk = d; alloc = s }), stands d s S)
      go false e = (none, unsound e)

  -- what holds of no desk, where the test fails; and what holds of every desk that they stand for, where it does not
  pub seen_none : (P : Option Standing → Type 0) → soundly m ≡ false → P none → (v : Option Standing) → Seen m v → P v
  seen_none P e h v (unsound k) = h
  seen_none P e h v (stands d s S) = absurd (true≢false (sym (stands-sound m d s S) ∙ e))

  pub seen-some : (P : Option Standing → Type 0) → soundly m ≡ true → ((d : Desk) (s : Alloc) → StandsFor m d s → P (some (record { desk = d; alloc = s })))
      → (v : Option Standing) → Seen m v → P v
  seen-some P e h v (unsound k) = absurd (true≢false (sym e ∙ k))
  seen-some P e h v (stands d s S) = h d s S
