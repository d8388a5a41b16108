-- The parts that are handed on, and what is printed.
use Prim.Native.Nat.{ℕ, ◌+◌, ◌*◌, ◌-◌, ◌≤◌}
use mathlib.Core.Path.{◌≡◌, ap, sym, ◌∙◌, subst}
use mathlib.Core.List.{List}
use native.Mathlib.Omega.{arith}
use lib.ListN.{length, take, drop}
use lib.Seq.{sets, sets-eq, take_at}
use Rattle.rules.specs.Line.{line_frame, line_of}
use Rattle.lines.specs.Asked.{Gives, Asked}
use Rattle.memory.specs.Memories.{Memories}

-- a part that starts at the first byte
pub front : (n : ℕ) (l : List ℕ) → take (n - 0) l ≡ take n l
front n l =
    let e : n - 0 ≡ n = omega arith in
    ap (λ (k : ℕ). take k l) e

-- what stands from the first byte on is what was put there
pub put_first : (xs vs : List ℕ) (n : ℕ) → n ≡ length vs → length vs ≤ length xs → take n (sets xs 0 vs) ≡ vs
put_first xs vs n e h = rw (sets-eq vs xs 0 (omega arith)) (take_at vs (drop (0 + length vs) xs) n (sym e))

pub frame-decoded : (line zs frame : List ℕ) (n : ℕ) → n ≡ length (line_frame line) → frame ≡ sets zs 0 (line_frame line) → n ≤ length zs → take (n - 0) frame ≡ line_frame line
frame-decoded line zs frame n s e h = front n frame ∙ rw e (put_first zs (line_frame line) n s (omega arith))

pub line-asked : (m : Memories) (line out frame : List ℕ) (m' : Memories) (answer out' : List ℕ) (used n r : ℕ)
    → Gives m frame m' answer n → frame ≡ line_frame line
    → out' ≡ sets out used (line_of (take (n - 0) answer)) → r ≡ used + (2 * n + 1)
    → Asked m line out m' out' used r
line-asked m line out frame m' answer out' used n r a e o k = record {
  answer = answer;
  size = n;
  event = subst (λ (f : List ℕ). Gives m f m' answer n) e a;
  printed = o ∙ ap (λ (x : List ℕ). sets out used (line_of x)) (front n answer);
  end = k;
}
