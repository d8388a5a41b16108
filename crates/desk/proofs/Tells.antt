-- The answer's bytes, written over a memory where its data stand already.
use Prim.Native.Nat.{ℕ, ◌+◌, ◌≤◌}
use mathlib.Core.Path.{◌≡◌, refl, sym, ap, ap₂, ◌∙◌}
use mathlib.Core.List.{List, [], ◌++◌, append-nil}
use native.Mathlib.Omega.{arith}
use lib.ListN.{length, take, drop, take-append-drop, length-append}
use lib.Seq.{sets, length-take-le}
use Rattle.words.proofs.Runs.{sets-at, sets-left, sets-right}
use Rattle.words.proofs.Parts.{sets-whole}
use Rattle.kinds.specs.declared.Answer.{Answer}
use Rattle.rules.specs.Answers.{answer_bytes}
use Rattle.rules.specs.Reply.{answers}
use Rattle.rules.specs.Desk.{reply_bytes}
use Rattle.midst.specs.Outcome.{Told}

-- front and back of a memory are stored in either order
front-back : (ps qs ab bytes : List ℕ) → length ps ≡ length ab → sets (sets (ps ++ qs) (length ab) bytes) 0 ab ≡ sets (ps ++ qs) 0 (ab ++ bytes)
front-back ps qs ab bytes e =
    let back : (rs : List ℕ) → length rs ≡ length ab → sets (rs ++ qs) (length ab) bytes ≡ rs ++ sets qs 0 bytes =
    λ rs k. let w : length rs + 0 ≡ length ab = omega (arith, k) in ap (λ (n : ℕ). sets (rs ++ qs) n bytes) (sym w) ∙ sets-right bytes rs qs 0 in
    let front : (rs : List ℕ) → sets (ps ++ rs) 0 ab ≡ ab ++ rs =
    λ rs. sets-left ab ps rs 0 (omega (arith, e)) ∙ ap (λ (ys : List ℕ). ys ++ rs) (sets-whole ps ab (sym e)) in
    ap (λ (ys : List ℕ). sets ys 0 ab) (back ps e) ∙ front (sets qs 0 bytes)
    ∙ sym (sym (sets-at ab bytes (ps ++ qs) 0 (length ab) (omega arith)) ∙ ap (λ (ys : List ℕ). sets ys (length ab) bytes) (front qs) ∙ back ab refl)

both_ways : (memory ab bytes : List ℕ) → length ab ≤ length memory → sets (sets memory (length ab) bytes) 0 ab ≡ sets memory 0 (ab ++ bytes)
both_ways memory ab bytes l =
    let e = take-append-drop (length ab) memory in
    ap (λ (ys : List ℕ). sets (sets ys (length ab) bytes) 0 ab) (sym e)
    ∙ front-back (take (length ab) memory) (drop (length ab) memory) ab bytes (length-take-le (length ab) memory l)
    ∙ ap (λ (ys : List ℕ). sets ys 0 (ab ++ bytes)) e

pub tells : (a : Answer) (bytes memory memory₁ memory' : List ℕ) (k n : ℕ) → length (answer_bytes a) ≤ length memory → memory₁ ≡ sets memory (length (answer_bytes a)) bytes
    → memory' ≡ sets memory₁ 0 (answer_bytes a) → k ≡ length (answer_bytes a) → n ≡ length bytes → Told (answers a bytes) memory memory' (k + n)
unfolding reply_bytes
tells a bytes memory memory₁ memory' k n l h m s u = record {
  bytes = m ∙ ap (λ (ys : List ℕ). sets ys 0 (answer_bytes a)) h ∙ both_ways memory (answer_bytes a) bytes l;
  size = ap₂ {C = ℕ} ◌+◌ s u ∙ sym (length-append (answer_bytes a) bytes);
}

-- an answer without data
pub tells_none : (a : Answer) (memory memory' : List ℕ) (k : ℕ) → memory' ≡ sets memory 0 (answer_bytes a) → k ≡ length (answer_bytes a) → Told (answers a []) memory memory' k
unfolding reply_bytes
tells_none a memory memory' k m s = record {
  bytes = m ∙ ap (sets memory 0) (sym (append-nil (answer_bytes a)));
  size = s ∙ ap length (sym (append-nil (answer_bytes a)));
}
