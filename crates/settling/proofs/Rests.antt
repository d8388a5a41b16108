-- Turn by turn a file comes to rest, and each turn that moves leaves one request fewer.
use Prim.Native.Nat.{ℕ, zero, suc, ◌+◌, ◌-◌, ◌≤◌, ◌<◌}
use mathlib.Core.Path.{◌≡◌, refl, sym, ap, ap₂, ◌∙◌}
use mathlib.Core.Bool.{Bool, true, false}
use mathlib.Core.List.{List, [], ◌∷◌}
use native.Mathlib.Omega.{arith}
use lib.ListN.{length, get_or, length-map}
use borrow.Author.Tests.{lt-ltb}
use Rattle.rules.specs.Limits.{entries}
use Rattle.rules.specs.State.{Built, built}
use Rattle.rules.specs.Settle.{Turn, still, turn, settle_for, settle}
use Rattle.rules.specs.Desk.{Desk, with_file}
use Rattle.rules.specs.Allocation.{Alloc, allot_all}
use Rattle.rules.proofs.Split.{pick_true, pick-false}
use Rattle.laws.proofs.Settled.{many, shrunk-turn, idle-turn, settle-more}
use Rattle.segment.specs.Layout.{link_at}
use Rattle.ports.specs.Lists.{Chain}
use Rattle.ports.proofs.Lists.{short}
use Rattle.memory.specs.Memories.{Memories}
use Rattle.memory.specs.Image.{lists_of}
use Rattle.memory.proofs.Boxes.{get_or-lists_of}
use Rattle.midst.specs.declared.File as hand
use Rattle.midst.specs.Seg.{queue_at, side_queue}
use Rattle.midst.specs.Mid.{Start, Mid}
use Rattle.midst.proofs.Begins.{mid-file}
use Rattle.midst.proofs.Lists.{below-side, list-side, entries_in}
use Rattle.settling.specs.Turns.{span, waiting}

-- the rules' turns

pub settle-on : (b : Built) → (turn b).moved ≡ true → settle (turn b).file ≡ settle b
unfolding settle
settle-on b e = go (many b) refl
  where
    c : Built
    c = (turn b).file

    less : many c < many b
    less = shrunk-turn b e

    go : (n : ℕ) → many b ≡ n → settle_for (many c) c ≡ settle_for n b
    go zero q = absurd (omega (arith, less))
    go (suc n) q =
        let k : n ≡ many c + (n - many c) = omega (arith, less) in
        sym (settle-more (n - many c) c) ∙ ap (λ (i : ℕ). settle_for i c) (sym k)
        ∙ sym (unfold settle_for in pick_true (turn b).moved (settle_for n (turn b).file) (turn b).file e)

pub settle-rest : (b : Built) → (turn b).moved ≡ false → settle b ≡ (turn b).file
unfolding settle
settle-rest b e = go (many b) refl
  where
    go : (n : ℕ) → many b ≡ n → settle_for n b ≡ (turn b).file
    go zero q = unfold settle_for still in sym (ap (λ (m : Turn). m.file) (idle-turn b (omega (arith, q))))
    go (suc n) q = unfold settle_for in pick-false (turn b).moved (settle_for n (turn b).file) (turn b).file e

-- the number of entries on a list

chain-span : (s : List ℕ) (p : ℕ) (xs : List ℕ) (n : ℕ) → Chain s p xs → length xs ≤ n → span s p n ≡ length xs
unfolding Chain span
chain-span s p [] zero c h = refl
chain-span s p [] (suc n) c h = rw (c) refl
chain-span s p (x ∷ xs) zero c h = absurd (omega arith)
chain-span s p (x ∷ xs) (suc n) c h = rw (c.0, lt-ltb x entries c.1) (ap suc (chain-span s (link_at x) xs n c.2 (omega arith)))

module _ {I : Built → Type 0} {f : ℕ} {o : Start} {m : Memories} {x : hand.File} {b : Built} (M : Mid I f o m x b) where
  queue-span : (w : Bool) → span m.segment (queue_at w f) entries ≡ length (side_queue w b)
  queue-span w =
      let d : Desk = with_file o.desk f (built b) in
      let t : Alloc = allot_all f b.past o.alloc in
      let h = below-side w f M.file in
      let e : get_or (lists_of d t) (queue_at w f) [] ≡ entries_in f t (side_queue w b) = get_or-lists_of d t (queue_at w f) h ∙ list-side d t f M.file b (mid-file M) w in
      chain-span m.segment (queue_at w f) _ entries (M.segment.boxes.lists.chains (queue_at w f) h) (short M.segment.boxes.lists (queue_at w f) h)
      ∙ ap length e ∙ length-map (side_queue w b) _

  pub mid-waiting : waiting m.segment f ≡ many b
  unfolding waiting
  mid-waiting = ap₂ {C = ℕ} ◌+◌ (queue-span false) (queue-span true)
