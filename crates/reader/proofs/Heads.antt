-- Laws of a sheet's first frame, by the tests that the code makes.
use Prim.Native.Nat.{ℕ, ◌≤◌}
use mathlib.Core.Bool.{Bool, true, false, ◌&&◌, true≢false}
use mathlib.Core.List.{List}
use mathlib.Core.Path.{◌≡◌, refl, sym, ap, ◌∙◌}
use native.Mathlib.Omega.{arith}
use lib.Dec.{leb, eqb}
use lib.ListN.{length, get_or, take}
use lib.Seq.{sets}
use borrow.Author.Tests.{eqb-true, eq-eqb, ne_eqb}
use Rattle.words.specs.Word.{word_at}
use Rattle.rules.specs.Limits.{most_words, most_factor, least_capacity}
use Rattle.rules.specs.Geometry.{capacity, within, fits_share}
use Rattle.rules.specs.Sheet.{good_head}
use Rattle.rules.proofs.Split.{by_cases, pick_true, pick-false, and-true}
use Rattle.geometry.proofs.Sizes.{within-is}
use Rattle.std.specs.Prelude.{Some, None, IfSome}
use Rattle.std.specs.Bool.{then_some}
use mathlib.Core.Logic.{◌⊎◌, inl, inr}
use Rattle.reader.specs.Sheets.{good_numbers, says_head, head_of}
use Rattle.reader.specs.Frames.{frame_at, next_at}
use Rattle.reader.proofs.Frames.{behind-within, frame-read}

-- rows of tests

and-all : (x : Bool) → x && true ≡ x
and-all true = refl
and-all false = refl

and_none : (x : Bool) → x && false ≡ false
and_none true = refl
and_none false = refl

regroup : (x c d e f g h : Bool) → x && c && d && e && f && g && h ≡ x && (c && d && e && f && g) && h
regroup true c d e f g h = refl
regroup false c d e f g h = refl

-- the frame

pub head-numbers : (h : List ℕ) (n : ℕ) → good_head h n ≡ (eqb (length h) 8 && eqb (get_or h 0 0) 1 && good_numbers (word_at h 1) (get_or h 3 0) (word_at h 4) n && eqb (word_at h 6) n)
unfolding good_head good_numbers
head-numbers h n = regroup (eqb (length h) 8 && eqb (get_or h 0 0) 1) (within 1 most_words (word_at h 1)) (within 1 most_factor (get_or h 3 0)) (leb least_capacity (capacity (get_or h 3 0) (word_at h 4))) (fits_share (word_at h 1) (get_or h 3 0) (word_at h 4)) (leb n (capacity (get_or h 3 0) (word_at h 4))) (eqb (word_at h 6) n)

head-parts : (h : List ℕ) (n : ℕ) → good_head h n ≡ true → (length h ≡ 8) × (get_or h 0 0 ≡ 1) × (good_numbers (word_at h 1) (get_or h 3 0) (word_at h 4) n ≡ true) × (word_at h 6 ≡ n)
head-parts h n e =
    let first = eqb (length h) 8 && eqb (get_or h 0 0) 1 in
    let numbers = good_numbers (word_at h 1) (get_or h 3 0) (word_at h 4) n in
    let p = and-true (first && numbers) (eqb (word_at h 6) n) (sym (head-numbers h n) ∙ e) in
    let q = and-true first numbers p.0 in
    let f = and-true (eqb (length h) 8) (eqb (get_or h 0 0) 1) q.0 in
    (eqb-true (length h) 8 f.0, eqb-true (get_or h 0 0) 1 f.1, q.1, eqb-true (word_at h 6) n p.1)

pub head-length : (h : List ℕ) (n : ℕ) → good_head h n ≡ true → length h ≡ 8
head-length h n e = (head-parts h n e).0

pub head-kind : (h : List ℕ) (n : ℕ) → good_head h n ≡ true → get_or h 0 0 ≡ 1
head-kind h n e = (head-parts h n e).1

-- a head is good for as many records as it says, and for no other number
pub head-held : (h : List ℕ) (n : ℕ) → good_head h n ≡ true → (word_at h 6 ≡ n) × (good_head h (word_at h 6) ≡ true)
head-held h n e = let k = (head-parts h n e).3 in (k, ap (λ (m : ℕ). good_head h m) k ∙ e)

pub head-words : (h : List ℕ) (n : ℕ) → good_head h n ≡ true → 1 ≤ word_at h 1
unfolding good_numbers
head-words h n e =
    by_cases (within 1 most_words (word_at h 1))
    (λ k. (within-is 1 most_words (word_at h 1) k).0)
    (λ k. absurd (true≢false (sym (head-parts h n e).2 ∙ (rw k))))

-- what it says

head-good : (h : List ℕ) (at : ℕ) → good_head h (word_at h 6) ≡ true → says_head h at ≡ Some (record { words = word_at h 1; factor = get_or h 3 0; blocks = word_at h 4; held = word_at h 6; at = at })
unfolding says_head
head-good h at e = pick_true (good_head h (word_at h 6)) _ _ e

head-bad : (h : List ℕ) (at : ℕ) → good_head h (word_at h 6) ≡ false → says_head h at ≡ None
unfolding says_head
head-bad h at e = pick-false (good_head h (word_at h 6)) _ _ e

pub says-none : (h : List ℕ) (at : ℕ) → (length h ≡ 8 → ⊥) ⊎ (get_or h 0 0 ≡ 1 → ⊥) → says_head h at ≡ None
says-none h at (inl e) = head-bad h at (rw (head-numbers h (word_at h 6), ne_eqb (length h) 8 e))
says-none h at (inr e) = head-bad h at (rw (head-numbers h (word_at h 6), ne_eqb (get_or h 0 0) 1 e, and_none (eqb (length h) 8)))

pub says-some : (h : List ℕ) (at : ℕ) → length h ≡ 8 → get_or h 0 0 ≡ 1
    → says_head h at ≡ then_some (good_numbers (word_at h 1) (get_or h 3 0) (word_at h 4) (word_at h 6)) (record { words = word_at h 1; factor = get_or h 3 0; blocks = word_at h 4; held = word_at h 6; at = at })
says-some h at l o =
    let held = word_at h 6 in
    let e : good_head h held ≡ good_numbers (word_at h 1) (get_or h 3 0) (word_at h 4) held = head-numbers h held ∙ rw (eq-eqb (length h) 8 l, eq-eqb (get_or h 0 0) 1 o, eq-eqb held held refl) (and-all _) in
    by_cases (good_head h held)
    (λ k. head-good h at k ∙ rw (sym e ∙ k))
    (λ k. head-bad h at k ∙ rw (sym e ∙ k))

-- of a text

pub text-good : (t : List ℕ) → good_head (frame_at t 0) (word_at (frame_at t 0) 6) ≡ true → head_of t ≡ Some (record { words = word_at (frame_at t 0) 1; factor = get_or (frame_at t 0) 3 0; blocks = word_at (frame_at t 0) 4; held = word_at (frame_at t 0) 6; at = next_at t 0 })
unfolding head_of
text-good t e = head-good (frame_at t 0) (next_at t 0) e

pub text-bad : (t : List ℕ) → good_head (frame_at t 0) (word_at (frame_at t 0) 6) ≡ false → head_of t ≡ None
unfolding head_of
text-bad t e = head-bad (frame_at t 0) (next_at t 0) e

pub head-within : (t : List ℕ) → IfSome (head_of t) (λ h. h.at ≤ length t)
head-within t =
    by_cases (good_head (frame_at t 0) (word_at (frame_at t 0) 6))
    (λ e. rw (text-good t e) (behind-within t 0 (omega arith)))
    (λ e. rw (text-bad t e) tt)

pub head_read : (t zs frame : List ℕ) (n at : ℕ) → n ≡ length (frame_at t 0) → frame ≡ sets zs 0 (frame_at t 0) → n ≤ length zs → at ≡ next_at t 0 → says_head (take n frame) at ≡ head_of t
unfolding head_of
head_read t zs frame n at e f h a = rw (frame-read t zs frame 0 n e f h, a)
