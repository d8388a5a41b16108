-- The timers lose n seconds: what the walk along their list does to the boxes.
use Prim.Native.Nat.{ℕ, zero, suc, ◌-◌, ◌≤◌, ◌<◌}
use mathlib.Core.Path.{◌≡◌, refl, sym, ap, ◌∙◌}
use mathlib.Core.List.{List, [], ◌∷◌, ◌++◌, map, append_assoc}
use native.Mathlib.Omega.{arith}
use lib.ListN.{length, get_or, set, take, length-append, length-map}
use lib.Seq.{set-get_or, set-set, get_or-set_same, take-suc}
use Rattle.rules.specs.State.{Timer}
use Rattle.rules.specs.Time.{minus}
use Rattle.segment.specs.Layout.{timer_list, link_at}
use Rattle.segment.specs.Table.{data_of, put_data}
use Rattle.segment.specs.Fields.{entry_words, entry_of, entry_at}
use Rattle.ports.specs.Lists.{Boxes}
use Rattle.ports.proofs.Chains.{slot_at, slot-after}
use Rattle.ports.proofs.Boxes.{length-box, data-box, slot-box, end-box}
use Rattle.ports.proofs.Contents.{put_data-list}
use Rattle.memory.specs.Image.{timer_words}
use Rattle.timeouts.specs.Late.{less, less_all}
use Rattle.timeouts.proofs.Steps.{less-stop, less-step}

-- an entry that holds a timer
pub less-is : (s : List ℕ) (e n : ℕ) (u : Timer) → data_of s e ≡ timer_words u → less s e n ≡ put_data s e (timer_words (minus n u))
unfolding less timer_words minus entry_at entry_of entry_words
less-is s e n u d = rw d

words-at : (ts us : List Timer) (u : Timer) → get_or (map timer_words (ts ++ u ∷ us)) (length ts) [] ≡ timer_words u
words-at [] us u = refl
words-at (t ∷ ts) us u = words-at ts us u

words-set : (ts us : List Timer) (u v : Timer) → set (map timer_words (ts ++ u ∷ us)) (length ts) (timer_words v) ≡ map timer_words ((ts ++ v ∷ []) ++ us)
words-set [] us u v = refl
words-set (t ∷ ts) us u v = ap (◌∷◌ (timer_words t)) (words-set ts us u v)

-- ts have lost theirs, us have not
pub less-walk : {s hand : List ℕ} {hm ls : List (List ℕ)} {ms : List (List (List ℕ))} {rs : List (List ℕ)} (n k : ℕ) (ts us : List Timer)
    → Boxes s hand hm ls ms rs → get_or ms timer_list [] ≡ map timer_words (ts ++ us) → length us ≤ k
    → Boxes (less_all s (slot_at timer_list (take (length ts) (get_or ls timer_list []))) n k) hand hm ls (set ms timer_list (map timer_words (ts ++ map (minus n) us))) rs
less-walk {s} {hand} {hm} {ls} {ms} {rs} n k ts [] B e h =
    let long : length ts ≡ length (get_or ls timer_list []) =
    omega (arith, length-box B timer_list (omega arith), ap length e, length-map (ts ++ []) timer_words, length-append ts []) in
    rw (less-stop s _ _ refl n k (end-box B timer_list (omega arith) (length ts) long).0, ← e, set-get_or ms timer_list []) B
less-walk {s} {hand} {hm} {ls} {ms} {rs} n zero ts (u ∷ us) B e h = absurd (omega arith)
less-walk {s} {hand} {hm} {ls} {ms} {rs} n (suc k) ts (u ∷ us) B e h =
    let xs : List ℕ = get_or ls timer_list [] in
    let i : ℕ = length ts in
    let k' : i < length xs = omega (arith, length-box B timer_list (omega arith), ap length e, length-map (ts ++ u ∷ us) timer_words, length-append ts (u ∷ us)) in
    let x : ℕ = get_or xs i 0 in
    let w = slot-box B timer_list (omega arith) i k' in
    let d : data_of s x ≡ timer_words u = data-box B timer_list (omega arith) i k' ∙ ap (λ b. get_or b i []) e ∙ words-at ts us u in
    let C = put_data-list B timer_list i (timer_words (minus n u)) (omega arith) k' (unfold timer_words entry_words in refl) in
    let f : set (get_or ms timer_list []) i (timer_words (minus n u)) ≡ map timer_words ((ts ++ minus n u ∷ []) ++ us) =
    ap (λ b. set b i (timer_words (minus n u))) e ∙ words-set ts us u (minus n u) in
    let D = less-walk {s = put_data s x (timer_words (minus n u))} n k (ts ++ minus n u ∷ []) us C (get_or-set_same ms timer_list _ [] (omega (arith, B.sized)) ∙ f) (omega arith) in
    let j : length (ts ++ minus n u ∷ []) ≡ suc i = omega (arith, length-append ts (minus n u ∷ [])) in
    let q : slot_at timer_list (take (length (ts ++ minus n u ∷ [])) xs) ≡ link_at x =
    ap (λ j. slot_at timer_list (take j xs)) j ∙ ap (slot_at timer_list) (take-suc xs i 0 k') ∙ slot-after timer_list (take i xs) x in
    let m : suc k - 1 ≡ k = omega arith in
    rw (less-step s _ x (sym w.0) n (suc k) (omega arith) w.1, m, less-is s x n u d) (rw (q, set-set ms timer_list, append_assoc ts (minus n u ∷ []) (map (minus n) us)) at D)
