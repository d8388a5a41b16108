-- The first bytes of a memory: what is held of a line, what is filled of the output.
use Prim.Native.Nat.{ℕ, ◌+◌, ◌-◌, ◌*◌, ◌≤◌, ◌<◌}
use mathlib.Core.Path.{◌≡◌, ap, sym, ◌∙◌}
use mathlib.Core.List.{List, [], ◌∷◌, ◌++◌}
use native.Mathlib.Omega.{arith}
use borrow.Author.Tests.{leb-true, leb-false, lt-leb}
use lib.Dec.{leb}
use lib.ListN.{length, take, drop, length-append, length-drop}
use lib.Seq.{sets, sets-eq, length-take-le, take_all, take-append-le, take-take, take_at}
use Rattle.rules.specs.Limits.{line_bytes}
use Rattle.rules.specs.Line.{is_line, line_frame, frame_in}
use Rattle.rules.proofs.Split.{by_cases}
use Rattle.serving.specs.Going.{most_held}

-- output is filled from `used` onward
pub filled_more : (out vs : List ℕ) (used r : ℕ) → r ≡ used + length vs → used + length vs ≤ length out → take r (sets out used vs) ≡ take used out ++ vs
filled_more out vs used r e h =
    let first = length-take-le used out (omega arith) in
    let whole : length (take used out ++ vs) ≡ r = omega (arith, e, first, length-append (take used out) vs) in
    ap (take r) (sets-eq vs out used h) ∙ take_at (take used out ++ vs) (drop (used + length vs) out) r whole

pub kept_more : (p : List ℕ) (m b : ℕ) → take m (take m p ++ (b ∷ [])) ≡ take m (p ++ (b ∷ []))
kept_more p m b =
    by_cases (leb (length p) m)
    (λ e. rw (take_all m p (leb-true _ _ e)))
    (λ e.
    let k : m < length p = leb-false _ _ e in
    let size = length-take-le m p (omega arith) in
    take-append-le m (take m p) (b ∷ []) (omega arith) ∙ take-take m m p (omega arith) ∙ sym (take-append-le m p (b ∷ []) (omega arith)))

-- a line one digit longer than the longest valid one is invalid, whatever follows
pub frame-kept : (p : List ℕ) → line_frame (take most_held p) ≡ line_frame p
unfolding frame_in is_line
frame-kept p =
    by_cases (leb (length p) most_held)
    (λ e. rw (take_all most_held p (leb-true _ _ e)))
    (λ e.
    let k : most_held < length p = leb-false _ _ e in
    let size = length-take-le most_held p (omega arith) in
    rw (lt-leb (length (take most_held p)) (2 * line_bytes) (omega arith), lt-leb (length p) (2 * line_bytes) (omega arith)))

-- nothing is held of a line only where it has no byte
pub none-held : (line p : List ℕ) (n m : ℕ) → length line ≡ m → n ≤ m → 0 < m → take n line ≡ take m p → length p ≡ 0 → n ≡ 0
none-held line p n m l h k e z =
    let a = length-take-le n line (omega arith) in
    let b = ap length (take_all m p (omega arith)) in
    let c = ap length e in
    omega arith

pub some-held : (line p : List ℕ) (n m : ℕ) → length line ≡ m → n ≤ m → 0 < m → take n line ≡ take m p → n ≡ 0 → length p ≡ 0
some-held line p n m l h k e z =
    by_cases (leb (length p) m)
    (λ t.
    let f = leb-true _ _ t in
    let a = length-take-le n line (omega arith) in
    let b = ap length (take_all m p f) in
    let c = ap length e in
    omega arith)
    (λ t.
    let f : m < length p = leb-false _ _ t in
    let a = length-take-le n line (omega arith) in
    let b = length-take-le m p (omega arith) in
    let c = ap length e in
    absurd (omega arith))

-- the rest of a chunk
pub rest-length : (l : List ℕ) (i : ℕ) → length (take (length l - i) (drop i l)) ≡ length l - i
rest-length l i = length-take-le (length l - i) (drop i l) (omega (arith, length-drop i l))
