-- The four kinds of lists, and the walk of each.
use Prim.Native.Nat.{ℕ, ◌+◌}
use mathlib.Core.Bool.{Bool, true, false, false≢true, cond, ◌&&◌}
use mathlib.Core.Path.{◌≡◌, refl, sym, ap, ◌∙◌}
use mathlib.Core.List.{List, [], ◌∷◌}
use native.Mathlib.Omega.{arith}
use borrow.Author.Tests.{ltb-true, lt-ltb, eqb-true, eq-eqb}
use lib.Dec.{ltb, eqb}
use lib.ListN.{get_or, set}
use Rattle.rules.specs.Limits.{entries}
use Rattle.rules.proofs.Split.{by_cases, pick_true, pick-false, and-true, true-and}
use Rattle.segment.specs.Layout.{nil, link_at, free_list, reply_port, timer_list}
use Rattle.segment.specs.Table.{nth}
use Rattle.ports.specs.Lists.{Chain}
use Rattle.sound.specs.Walks.{Walked, walked, place_in, free_entry, read_entry, write_entry, port_entry, timer_entry, free_walk, queue_walk, timer_walk, port_walk}
use Rattle.decision.proofs.lists.Marks.{marks, Met}
use Rattle.decision.proofs.lists.Entries.{port-true}
use Rattle.decision.proofs.lists.Walk.{Kind, after, Pass, Passing, stage-walk}
use Rattle.decision.proofs.lists.Stage.{Found, Stage}

unfoldable pub free_kind : List ℕ → Kind
free_kind s = record { test = λ busy low e. free_entry s e; mark = λ busy e. busy }

-- side 1 for read queues, 2 for write queues
unfoldable pub queue_kind : List ℕ → ℕ → ℕ → Kind
queue_kind s side f = record {
  test = λ busy low e. cond (eqb side 1) (read_entry s busy f e) (write_entry s busy f e);
  mark = λ busy e. set busy (place_in s e) 1;
}

unfoldable pub port_kind : List ℕ → ℕ → Kind
port_kind s i = record { test = λ busy low e. port_entry s busy i e; mark = λ busy e. set busy (place_in s e) 2 }

unfoldable pub timer_kind : List ℕ → Kind
timer_kind s = record { test = λ busy low e. timer_entry s busy low e; mark = λ busy e. set busy (place_in s e) 3 }

-- a list ends within the number of entries

abbrev pub most : ℕ
most = entries + 1

pub free-stage : (s : List ℕ) → Stage (λ seen busy. free_walk s free_list seen busy most) (λ xs. xs) (Passing s (free_kind s) most 0 free_list) (after (free_kind s))
unfolding free_kind free_walk
free-stage s = stage-walk s (free_kind s) (λ low p seen busy n. free_walk s p seen busy n) (λ low p seen busy. refl) (λ low p seen busy n. refl) most 0 free_list

pub queue-stage : (s : List ℕ) (side f p : ℕ)
    → Stage (λ seen busy. queue_walk s side f p seen busy most) (λ xs. xs) (Passing s (queue_kind s side f) most 0 p) (after (queue_kind s side f))
unfolding queue_kind queue_walk
queue-stage s side f p =
    stage-walk s (queue_kind s side f) (λ low p seen busy n. queue_walk s side f p seen busy n) (λ low p seen busy. refl) (λ low p seen busy n. refl) most 0 p

pub timer-stage : (s : List ℕ) → Stage (λ seen busy. timer_walk s 1 timer_list seen busy most) (λ xs. xs) (Passing s (timer_kind s) most 1 timer_list) (after (timer_kind s))
unfolding timer_kind timer_walk
timer-stage s = stage-walk s (timer_kind s) (λ low p seen busy n. timer_walk s low p seen busy n) (λ low p seen busy. refl) (λ low p seen busy n. refl) most 1 timer_list

-- the walk of a reply port takes one step

module _ (s : List ℕ) (i : ℕ) (seen busy : List ℕ) where
  abbrev first : ℕ
  first = nth s (reply_port i)

  abbrev port_test : Bool
  port_test = eqb (get_or seen first 0) 0 && port_entry s busy i first && eqb (nth s (link_at first)) nil

  port-end : ltb first entries ≡ false → port_walk s i seen busy ≡ walked (eqb first nil) seen busy
  unfolding port_walk
  port-end t = pick-false (ltb first entries) _ _ t

  port-bad : ltb first entries ≡ true → port_test ≡ false → port_walk s i seen busy ≡ walked false seen busy
  unfolding port_walk
  port-bad t u = pick_true (ltb first entries) _ _ t ∙ pick-false port_test _ _ u

  port-step : ltb first entries ≡ true → port_test ≡ true → port_walk s i seen busy ≡ walked true (set seen first 1) (set busy i 2)
  unfolding port_walk
  port-step t u = pick_true (ltb first entries) _ _ t ∙ pick_true port_test _ _ u

  port-found : (port_walk s i seen busy).ok ≡ true
      → Found (λ xs. xs) (Passing s (port_kind s i) 2 0 (reply_port i)) (after (port_kind s i)) seen busy (port_walk s i seen busy)
  unfolding walked Chain Met marks Pass after port_kind
  port-found h = by_cases (ltb first entries)
      (λ t. by_cases port_test
      (λ u. let a = and-true (eqb (get_or seen first 0) 0 && port_entry s busy i first) (eqb (nth s (link_at first)) nil) u in
      let b = and-true (eqb (get_or seen first 0) 0) (port_entry s busy i first) a.0 in
      record {
        it = first ∷ [];
        holds = (omega arith, (refl, ltb-true first entries t, eqb-true (nth s (link_at first)) nil a.1), (b.1, tt));
        fresh = (eqb-true (get_or seen first 0) 0 b.0, tt);
        is = port-step t u ∙ ap (λ (j : ℕ). walked true (set seen first 1) (set busy j 2)) (sym (port-true s busy i first b.1).0.place);
      })
      (λ u. absurd (false≢true (sym (ap (λ (w : Walked). w.ok) (port-bad t u)) ∙ h))))
      (λ t. let a : eqb first nil ≡ true = sym (ap (λ (w : Walked). w.ok) (port-end t)) ∙ h in
      record { it = []; holds = (omega arith, eqb-true first nil a, tt); fresh = tt; is = port-end t ∙ ap (λ (b : Bool). walked b seen busy) a })

  port-well : (xs : List ℕ) → Passing s (port_kind s i) 2 0 (reply_port i) busy xs → Met 0 1 seen xs
      → port_walk s i seen busy ≡ walked true (marks 1 seen xs) (after (port_kind s i) busy xs)
  unfolding Chain Met marks Pass after port_kind
  port-well [] o m = port-end (rw o.1 refl) ∙ ap (λ (b : Bool). walked b seen busy) (eq-eqb first nil o.1)
  port-well (x ∷ []) o m =
      let (l, (e, h, c), (t, ts)) = o in
      let u : eqb (get_or seen x 0) 0 && port_entry s busy i x && eqb (nth s (link_at x)) nil ≡ true =
      true-and (eqb (get_or seen x 0) 0 && port_entry s busy i x) (eqb (nth s (link_at x)) nil)
      (true-and (eqb (get_or seen x 0) 0) (port_entry s busy i x) (eq-eqb (get_or seen x 0) 0 m.0) t)
      (eq-eqb (nth s (link_at x)) nil c) in
      (rw e at (port-step (rw e (lt-ltb x entries h)) (rw e u)))
      ∙ ap (λ (j : ℕ). walked true (set seen x 1) (set busy j 2)) (sym (port-true s busy i x t).0.place)
  port-well (x ∷ y ∷ xs) o m = absurd (omega (arith, o.0))

pub port-stage : (s : List ℕ) (i : ℕ) → Stage (port_walk s i) (λ xs. xs) (Passing s (port_kind s i) 2 0 (reply_port i)) (after (port_kind s i))
port-stage s i = record { found = port-found s i; well = λ xs seen busy o m. port-well s i seen busy xs o m }
