-- From what is found to the part that look shows, and to its status.
use Prim.Native.Nat.{ℕ, ◌+◌, ◌-◌, ◌≤◌}
use mathlib.Core.Path.{◌≡◌, refl, ap, ◌∙◌}
use mathlib.Core.Bool.{true, false}
use mathlib.Core.List.{List, []}
use mathlib.Core.Option.{Option}
use lib.ListN.{length, take, drop}
use Rattle.rules.specs.Desk.{look, reply_bytes}
use Rattle.words.specs.Word.{Bytes}
use Rattle.midst.specs.Outcome.{reply_status, SoundBlocks}
use Rattle.sound.specs.Sound.{soundly}
use Rattle.decision.proofs.desk.Both.{sound-stands}
use Rattle.promises.specs.Promise.{Standing, Seen, reply_of}
use Rattle.promises.specs.Parts.{Part, bytes_of, part_of}
use Rattle.promises.proofs.Seen.{seen_none, seen-some}
use Rattle.words.proofs.Parts.{span}
use Rattle.looking.specs.declared.finding.Shown.{Shown}
use Rattle.looking.specs.declared.finding.Shown.TheVariants.{Block, Buffer}
use Rattle.kinds.specs.declared.refusals.Refusal.{Refusal}
use Rattle.kinds.specs.declared.refusals.Refusal.TheVariants as refusal
use Rattle.kinds.specs.Refusals.{number}
use Rattle.std.specs.Prelude.{Result, Ok, Err}
use Rattle.looking.specs.Shown.{part_shown, status_shown, Inside, Tells, OfReader, Finds}
use Rattle.looking.proofs.Fits.{seen-fits}
use Rattle.memory.specs.Memories.{Memories}

-- whatever the memories hold
abbrev pub Shows : Memories → ℕ → ℕ → Result Shown Refusal → Type 0
Shows m f p x = (v : Option Standing) → Seen m v → Tells (part_of v f p) (reply_of v (look f p)) x

pub sound-stood : (m : Memories) → Bytes m.segment → Bytes m.blocks → Bytes m.buffers → soundly m ≡ true → SoundBlocks m.segment m.blocks
sound-stood m bs bb bf e = (m.buffers, sound-stands m bs bb bf e)

module _ (m : Memories) (f p : ℕ) where
  pub unsound-shows : soundly m ≡ false → Shows m f p (Err refusal.Unsound)
  unfolding part_of reply_of part_shown status_shown reply_status
  unsound-shows e = seen_none (λ v. Tells (part_of v f p) (reply_of v (look f p)) (Err refusal.Unsound)) e (record { shows = refl; status = refl })

  module _ (bs : Bytes m.segment) (bb : Bytes m.blocks) (bf : Bytes m.buffers) (e : soundly m ≡ true) where
    pub sound-inside : (x : Result Shown Refusal) → Finds (OfReader f p) m.segment m.blocks x → Inside (length m.blocks) (length m.buffers) x
    sound-inside x F =
        let S = (sound-stands m bs bb bf e).2 in
        rw (S.stands.bodies.blocks-size, S.stands.bodies.buffers-size) F.inside

    pub sound-shows : (x : Result Shown Refusal) → Finds (OfReader f p) m.segment m.blocks x → Shows m f p x
    unfolding reply_of part_of
    sound-shows x F = seen-some (λ v. Tells (part_of v f p) (reply_of v (look f p)) x) e (λ d s S. F.tells m.buffers d s S)

-- the part is within its memory
pub block_inside : {E : Type 0} (m n : ℕ) (x : Result Shown E) → Inside m n x → (y : Shown) → x ≡ Ok y → (at size : ℕ) → y ≡ Block at size → at + size ≤ m
unfolding Inside
block_inside {E = E} m n x i y e at size o = let k : Inside {E = E} m n (Ok (Block at size)) = rw (e, o) at i in k

pub buffer-inside : {E : Type 0} (m n : ℕ) (x : Result Shown E) → Inside m n x → (y : Shown) → x ≡ Ok y → (at size : ℕ) → y ≡ Buffer at size → at + size ≤ n
unfolding Inside
buffer-inside {E = E} m n x i y e at size o = let k : Inside {E = E} m n (Ok (Buffer at size)) = rw (e, o) at i in k

-- the bytes of the part
module _ {E : Type 0} (blocks buffers : List ℕ) (x : Result Shown E) where
  pub refused-part : ((y : Shown) → x ≡ Ok y → ⊥) → [] ≡ bytes_of (part_shown x) blocks buffers
  unfolding part_shown bytes_of
  refused-part = go x
    where
      go : (z : Result Shown E) → ((y : Shown) → z ≡ Ok y → ⊥) → [] ≡ bytes_of (part_shown z) blocks buffers
      go (Err r) h = refl
      go (Ok y) h = absurd (h y refl)

  pub block-part : (y : Shown) → x ≡ Ok y → (at size : ℕ) → y ≡ Block at size → take (at + size - at) (drop at blocks) ≡ bytes_of (part_shown x) blocks buffers
  unfolding part_shown bytes_of
  block-part y e at size o = rw (e, o, span at size)

  pub buffer-part : (y : Shown) → x ≡ Ok y → (at size : ℕ) → y ≡ Buffer at size → take (at + size - at) (drop at buffers) ≡ bytes_of (part_shown x) blocks buffers
  unfolding part_shown bytes_of
  buffer-part y e at size o = rw (e, o, span at size)

-- the parts are what look promises, and so is the status
module _ (m : Memories) (f p : ℕ) (x : Result Shown Refusal) (F : Shows m f p x) where
  pub given : (ys : List ℕ) → ys ≡ bytes_of (part_shown x) m.blocks m.buffers
      → ((v : Option Standing) → Seen m v → ys ≡ bytes_of (part_of v f p) m.blocks m.buffers)
      × ((v : Option Standing) → Seen m v → ys ≡ reply_bytes (reply_of v (look f p)))
  given ys e = (part, λ v k. part v k ∙ seen-fits m v k f p)
    where
      part : (v : Option Standing) → Seen m v → ys ≡ bytes_of (part_of v f p) m.blocks m.buffers
      part v k = e ∙ ap (λ (q : Part). bytes_of q m.blocks m.buffers) (F v k).shows

  pub said : (n : ℕ) → n ≡ status_shown number x → (v : Option Standing) → Seen m v → n ≡ reply_status (reply_of v (look f p))
  said n e v k = e ∙ (F v k).status
