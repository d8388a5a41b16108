-- The desk after a text that was read is served. Nothing is known of the text, except that there was one.
use Rattle.std.specs.Prelude.{◌≡◌, false, List, ℕ}
use Rattle.rules.specs.Desk.{Desk}
use Rattle.rules.specs.Allocation.{Alloc}
use Rattle.memory.specs.Memories.{Memories}
use Rattle.memory.specs.Fine.{StandsFor}
use Rattle.sound.specs.Sound.{soundly}
use Rattle.serving.specs.Going.{Going, begun, goes}

-- the memories stand for the desk after some text
abbrev pub Behind : Going → Memories → Type 0
Behind g m = (t : List ℕ) × StandsFor m (goes g t).desk (goes g t).alloc

-- memories that stood for a desk stand for the desk after the frames of some text
abbrev pub Served : Memories → Memories → Type 0
Served m m' = (d : Desk) (s : Alloc) → StandsFor m d s → Behind (begun d s) m'

-- memories that are not sound, and so stand for no desk, stay as they are
abbrev pub Kept : Memories → Memories → Type 0
Kept m m' = soundly m ≡ false → m' ≡ m
