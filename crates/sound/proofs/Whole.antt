-- All lists, and the whole test over them: one law for each way out.
use Prim.Native.Nat.{ℕ, ◌+◌, ◌*◌}
use mathlib.Core.Path.{◌≡◌, ◌∙◌}
use mathlib.Core.Bool.{true, false}
use mathlib.Core.List.{List}
use lib.ListN.{replicate}
use Rattle.rules.specs.Limits.{files, places, entries}
use Rattle.segment.specs.Layout.{free_list, timer_list}
use Rattle.sound.specs.Walks.{Walked, walked, and_then, free_walk, queue_walks, port_walks, timer_walk, all_walks, all_met}
use Rattle.sound.specs.Sound.{lists_ok}
use Rattle.sound.proofs.Steps.{then-on, then-off}

-- what comes after each walk that went well

abbrev after₃ : List ℕ → List ℕ → List ℕ → Walked
after₃ s seen busy = and_then (port_walks s 0 seen busy (files * places)) (λ seen' busy'. timer_walk s 1 timer_list seen' busy' (entries + 1))

abbrev after₂ : List ℕ → List ℕ → List ℕ → Walked
after₂ s seen busy = and_then (queue_walks s 2 0 seen busy files) (after₃ s)

abbrev after₁ : List ℕ → List ℕ → List ℕ → Walked
after₁ s seen busy = and_then (queue_walks s 1 0 seen busy files) (after₂ s)

module _ (s seen₀ busy₀ : List ℕ) (e : seen₀ ≡ replicate entries 0) (k : busy₀ ≡ replicate (files * places) 0) where
  module _ (seen busy : List ℕ) where
    pub all-off : free_walk s free_list seen₀ busy₀ (entries + 1) ≡ walked false seen busy → all_walks s ≡ walked false seen busy
    unfolding all_walks
    all-off w = then-off _ _ seen busy (rw (e, k) at w)

    all-on : free_walk s free_list seen₀ busy₀ (entries + 1) ≡ walked true seen busy → all_walks s ≡ after₁ s seen busy
    unfolding all_walks
    all-on w = then-on _ _ seen busy (rw (e, k) at w)

    -- the queues of reads, of writes, and the ports
    module _ (w : free_walk s free_list seen₀ busy₀ (entries + 1) ≡ walked true seen busy) (seen₁ busy₁ : List ℕ) where
      pub reads-off : queue_walks s 1 0 seen busy files ≡ walked false seen₁ busy₁ → all_walks s ≡ walked false seen₁ busy₁
      reads-off w₁ = all-on w ∙ then-off _ _ seen₁ busy₁ w₁

      module _ (w₁ : queue_walks s 1 0 seen busy files ≡ walked true seen₁ busy₁) (seen₂ busy₂ : List ℕ) where
        reads_on : all_walks s ≡ after₂ s seen₁ busy₁
        reads_on = all-on w ∙ then-on _ _ seen₁ busy₁ w₁

        pub writes-off : queue_walks s 2 0 seen₁ busy₁ files ≡ walked false seen₂ busy₂ → all_walks s ≡ walked false seen₂ busy₂
        writes-off w₂ = reads_on ∙ then-off _ _ seen₂ busy₂ w₂

        module _ (w₂ : queue_walks s 2 0 seen₁ busy₁ files ≡ walked true seen₂ busy₂) (seen₃ busy₃ : List ℕ) where
          writes-on : all_walks s ≡ after₃ s seen₂ busy₂
          writes-on = reads_on ∙ then-on _ _ seen₂ busy₂ w₂

          pub ports-off : port_walks s 0 seen₂ busy₂ (files * places) ≡ walked false seen₃ busy₃ → all_walks s ≡ walked false seen₃ busy₃
          ports-off w₃ = writes-on ∙ then-off _ _ seen₃ busy₃ w₃

          pub ports-on : port_walks s 0 seen₂ busy₂ (files * places) ≡ walked true seen₃ busy₃ → all_walks s ≡ timer_walk s 1 timer_list seen₃ busy₃ (entries + 1)
          ports-on w₃ = writes-on ∙ then-on _ _ seen₃ busy₃ w₃

-- then whether every entry was met

module _ (s seen busy : List ℕ) where
  pub lists-off : all_walks s ≡ walked false seen busy → lists_ok s ≡ false
  unfolding lists_ok walked
  lists-off e = rw e

  pub lists-on : all_walks s ≡ walked true seen busy → lists_ok s ≡ all_met seen entries
  unfolding lists_ok walked
  lists-on e = rw e
