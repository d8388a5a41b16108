-- What each judge of a file's call has found out is the refusal number, by the way out.
use Prim.Native.Nat.{ℕ, ◌≤◌, ◌<◌}
use mathlib.Core.Path.{◌≡◌, refl, sym, ap, ◌∙◌}
use mathlib.Core.List.{List}
use native.Mathlib.Omega.{arith}
use native.Mathlib.Decide.{dec_lt}
use Rattle.rules.specs.Limits.{files}
use Rattle.rules.specs.State.{Built}
use Rattle.rules.specs.Reply.{leaves, answering, unmade}
use Rattle.rules.specs.Calls.{Ask, build, opens, counts, refusal, ask_built, ask_unbuilt}
use Rattle.rules.specs.FileCounts as counting
use Rattle.rules.specs.Desk.{on, answered}
use Rattle.midst.specs.Outcome.{refusal_of, reply_status, status_of}
use Rattle.midst.proofs.Judged.{refusal-back}
use Rattle.accessors.specs.Accessors.{words_at}
use Rattle.accessors.specs.Shown.{Shown}
use Rattle.judges.specs.Verdicts.{open_refusal}
use Rattle.refusing.specs.Verdicts.{build_refusal}
use Rattle.judges.specs.Refused.{Refuses}
use Rattle.accessors.proofs.Rows.{shown}
use Rattle.accessors.proofs.Names.{words-low, is-built, not-built}
use Rattle.judges.proofs.Verdicts.{build-comes, open-comes}
use Rattle.judges.proofs.Judged.{number-high, number-built, number-unbuilt}

module _ (xs : List ℕ) (f w : ℕ) (e : w ≡ words_at xs f) where
  -- 31: above 7 or not built
  unbuilt-refused : (q : Ask) → w ≡ 0 → ask_unbuilt q ≡ unmade (refusal q 31) → Refuses xs (on f q) 31
  unfolding unmade
  unbuilt-refused q z u blocks buffers d s S = sym (go (dec_lt f files))
    where
      go : Dec (f < files) → refusal_of (answered d (on f q)).reply ≡ 31
      go (yes h) = number-unbuilt d f q h (not-built S f w e h z) ∙ ap (λ o. refusal_of o.reply) u ∙ refusal-back q 31 (omega arith)
      go (no h) = number-high d f q (omega arith)

  pub open-unbuilt : (access share multi : ℕ) → w ≡ 0 → Refuses xs (on f (opens access share multi)) 31
  unfolding ask_unbuilt
  open-unbuilt access share multi z = unbuilt-refused (opens access share multi) z refl

  pub counts-unbuilt : w ≡ 0 → Refuses xs (on f counts) 31
  unfolding ask_unbuilt
  counts-unbuilt z = unbuilt-refused counts z refl

  -- a built file
  module _ (h : w ≡ 0 → ⊥) where
    pub build-built : (r b n x : ℕ) → Refuses xs (on f (build r b n x)) 31
    unfolding ask_built leaves
    build-built r b n x blocks buffers d s S =
        let (c, k) = is-built S f w e h in
        sym (number-built d f (build r b n x) c (words-low xs f w e h) k ∙ refusal-back (build r b n x) 31 (omega arith))

    pub counts-built : Refuses xs (on f counts) 0
    unfolding ask_built counting.counts answering leaves refusal_of reply_status status_of
    counts-built blocks buffers d s S =
        let (c, k) = is-built S f w e h in
        sym (number-built d f counts c (words-low xs f w e h) k)

    pub open-built : (access share multi n : ℕ) → ((b : Built) → Shown xs f b → n ≡ open_refusal access share multi b) → Refuses xs (on f (opens access share multi)) n
    unfolding ask_built
    open-built access share multi n said blocks buffers d s S =
        let (b, k) = is-built S f w e h in
        said b (shown S f (words-low xs f w e h) b k)
        ∙ sym (number-built d f (opens access share multi) b (words-low xs f w e h) k ∙ open-comes access share multi b)

-- above 7
pub high-refused : (xs : List ℕ) (f : ℕ) (q : Ask) → files ≤ f → Refuses xs (on f q) 31
high-refused xs f q h blocks buffers d s S = sym (number-high d f q h)

-- build
pub build-said : (xs : List ℕ) (f : ℕ) {w : ℕ} → w ≡ words_at xs f → f < files → w ≡ 0 → (r b n x : ℕ) {m : ℕ} → m ≡ build_refusal r b n x → Refuses xs (on f (build r b n x)) m
unfolding ask_unbuilt
build-said xs f {w} e h z r b n x k blocks buffers d s S =
    k ∙ sym (number-unbuilt d f (build r b n x) h (not-built S f w e h z) ∙ build-comes r b n x)
