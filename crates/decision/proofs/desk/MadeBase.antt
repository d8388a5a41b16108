-- The desk and the allocation that memories say, place by place and file by file.
use Prim.Native.Nat.{ℕ, zero, suc, ◌+◌, ◌*◌, ◌/◌, ◌%◌, ◌≤◌, ◌<◌}
use mathlib.Core.Bool.{true, false}
use mathlib.Core.Path.{◌≡◌, refl, sym, ap, ◌∙◌}
use mathlib.Core.List.{List, []}
use mathlib.Core.Logic.{◌⊎◌, inl, inr}
use mathlib.Core.Option.{none, some}
use native.Mathlib.Omega.{arith}
use borrow.Author.Tests.{eq-eqb, eqb-true}
use lib.Dec.{eqb}
use lib.ListN.{length, get_or, get_or-eq_default}
use Rattle.rules.specs.Limits.{files, places, room_words}
use Rattle.rules.specs.State.{File, unbuilt, built}
use Rattle.rules.specs.Requests.{acc_at}
use Rattle.rules.specs.Desk.{Desk, file_of}
use Rattle.rules.specs.Allocation.{nothing, timed, Alloc, held_at, own_entry, timer_entry}
use Rattle.rules.proofs.Split.{by_cases, pick_true, pick-false}
use Rattle.segment.specs.Layout.{place_width, timer_list}
use Rattle.laws.specs.Entries.{entries_of, size}
use Rattle.memory.specs.Image.{acc_of, place_acc}
use Rattle.laws.specs.Outstanding.{req_of}
use Rattle.laws.proofs.EightFiles.{file-of}
use Rattle.laws.proofs.Lists.{get_or-all, get_or-up, length_up}
use Rattle.sound.specs.Rows.{file_word, place_word, built_at, geo_at, side_at}
use Rattle.decision.specs.Survey.{waiting_at, completed_at, timers_at, Survey}
use Rattle.sound.specs.Sound.{files_ok}
use Rattle.decision.proofs.desk.MadeFacts.{built-at, blank-at, place_at, OpenRow}
use Rattle.decision.proofs.desk.MadeDesk.{the_entry, entry_of, req_for, open_for, acc_for, held_by, held_for, alloc_for, built_for, file_for, desk_for}
use Rattle.decision.proofs.desk.MadePlaces.{View, view}
use Rattle.decision.proofs.desk.MadeRequests.{closed}

-- what a place holds

by-own : (e t m n : ℕ) → 1 ≤ m → own_entry (held_by e t m n) ≡ e
unfolding held_by own_entry
by-own e t zero n h = absurd (omega arith)
by-own e t (suc m) zero h = refl
by-own e t (suc m) (suc n) h = refl

by-timer : (e t m n : ℕ) → 1 ≤ m → 1 ≤ n → timer_entry (held_by e t m n) ≡ t
unfolding held_by timer_entry
by-timer e t zero n h k = absurd (omega arith)
by-timer e t (suc m) zero h k = absurd (omega arith)
by-timer e t (suc m) (suc n) h k = refl

by_size : (e t m n : ℕ) → m ≤ 1 → n ≤ m → size (held_by e t m n) ≡ m + n
unfolding held_by entries_of
by_size e t zero n h k = omega arith
by_size e t (suc m) zero h k = omega arith
by_size e t (suc m) (suc n) h k = omega arith

module _ (s blocks bufs : List ℕ) (ls : List (List ℕ)) (ok : files_ok s blocks 0 files ≡ true) (U : Survey s ls) where
  abbrev desk : Desk
  desk = desk_for s blocks bufs ls

  abbrev alloc : Alloc
  alloc = alloc_for s ls

  -- places
  module _ (i : ℕ) (h : i < files * places) where
    pub sides : side_at s i ≤ 2
    unfolding side_at
    sides = go (place_at s blocks ok i h)
      where
        go : ((j : ℕ) → j < place_width → place_word s i j ≡ 0) ⊎ ((side_at s i ≡ 0 → ⊥) × (built_at s (i / places) ≡ true) × OpenRow s i) → place_word s i 0 ≤ 2
        go (inl z) = omega (arith, z 0 (omega arith))
        go (inr (a, b, o)) = on o.side
          where
            on : ((side_at s i ≡ 1) × (place_word s i 1 ≡ 0)) ⊎ ((side_at s i ≡ 2) × (1 ≤ place_word s i 1)) → place_word s i 0 ≤ 2
            on (inl (u, v)) = omega (arith, u)
            on (inr (u, v)) = omega (arith, u)

    pub small : 1 ≤ side_at s i → file_word s (i / places) 0 ≤ room_words
    unfolding side_at geo_at
    small k = go (place_at s blocks ok i h)
      where
        go : ((j : ℕ) → j < place_width → place_word s i j ≡ 0) ⊎ ((side_at s i ≡ 0 → ⊥) × (built_at s (i / places) ≡ true) × OpenRow s i) → file_word s (i / places) 0 ≤ room_words
        go (inl z) = absurd (omega (arith, z 0 (omega arith)))
        go (inr (a, b, o)) = (built-at s blocks ok (i / places) (omega arith) b).geo.words-high

    pub viewed : View s bufs ls i (req_for s bufs ls i)
    viewed = view s bufs ls U i h sides

    pub acc-none : side_at s i ≡ 0 → acc_for s bufs ls i ≡ none
    unfolding acc_for
    acc-none z = pick_true (eqb (side_at s i) 0) _ _ (eq-eqb (side_at s i) 0 z)

    pub acc-req : req_of (acc_for s bufs ls i) ≡ req_for s bufs ls i
    unfolding acc_for req_of open_for
    acc-req = by_cases (eqb (side_at s i) 0)
        (λ t. ap req_of (pick_true (eqb (side_at s i) 0) none (some (open_for s bufs ls i)) t) ∙ sym (closed s bufs ls i (req_for s bufs ls i) viewed (eqb-true (side_at s i) 0 t)))
        (λ t. ap req_of (pick-false (eqb (side_at s i) 0) none (some (open_for s bufs ls i)) t))

    -- one request, one timer at most
    pub held-at : held_at alloc i ≡ held_for s ls i
    unfolding held_at alloc_for
    held-at = get_or-all (held_for s ls) (files * places) i nothing h

    pub own_at : 1 ≤ waiting_at s ls i + completed_at ls i → own_entry (held_at alloc i) ≡ entry_of s ls i
    own_at k = ap own_entry held-at ∙ (unfold held_for in by-own (entry_of s ls i) (the_entry s i (get_or ls timer_list [])) (waiting_at s ls i + completed_at ls i) (timers_at s ls i) k)

    pub timer-at : 1 ≤ timers_at s ls i → timer_entry (held_at alloc i) ≡ the_entry s i (get_or ls timer_list [])
    timer-at k =
        ap timer_entry held-at
        ∙ (unfold held_for in by-timer (entry_of s ls i) (the_entry s i (get_or ls timer_list [])) (waiting_at s ls i + completed_at ls i) (timers_at s ls i) (omega (arith, U.timed i h)) k)

    pub size-at : size (held_at alloc i) ≡ waiting_at s ls i + completed_at ls i + timers_at s ls i
    size-at =
        ap size held-at
        ∙ (unfold held_for in by_size (entry_of s ls i) (the_entry s i (get_or ls timer_list [])) (waiting_at s ls i + completed_at ls i) (timers_at s ls i) (U.single i h) (omega (arith, U.timed i h)))

  -- files
  module _ (f : ℕ) (h : f < files) where
    file-for : file_of desk f ≡ file_for s blocks bufs ls f
    unfolding desk_for
    file-for = file-of (file_for s blocks bufs ls) f h

    pub file-built : built_at s f ≡ true → file_of desk f ≡ built (built_for s blocks bufs ls f)
    unfolding file_for
    file-built t = file-for ∙ pick_true (built_at s f) _ _ t

    pub file-blank : built_at s f ≡ false → file_of desk f ≡ unbuilt
    unfolding file_for
    file-blank t = file-for ∙ pick-false (built_at s f) _ _ t

    pub accs-at : (p : ℕ) → p < places → get_or (built_for s blocks bufs ls f).accs p none ≡ acc_for s bufs ls (places * f + p)
    unfolding built_for
    accs-at p k = get_or-up (acc_for s bufs ls) places (places * f) p none k

    pub accs-long : length (built_for s blocks bufs ls f).accs ≡ places
    unfolding built_for
    accs-long = length_up (acc_for s bufs ls) places (places * f)

    pub accs-past : (p : ℕ) → places ≤ p → get_or (built_for s blocks bufs ls f).accs p none ≡ none
    accs-past p k = get_or-eq_default (built_for s blocks bufs ls f).accs none {n = p} (omega (arith, accs-long))

    pub acc-of : (p : ℕ) → p < places → acc_of (file_of desk f) p ≡ acc_for s bufs ls (places * f + p)
    unfolding acc_of acc_at side_at
    acc-of p k = by_cases (built_at s f)
        (λ t. ap (λ (x : File). acc_of x p) (file-built t) ∙ accs-at p k)
        (λ t. ap (λ (x : File). acc_of x p) (file-blank t) ∙ sym (acc-none (places * f + p) (omega arith) ((blank-at s blocks ok f h t).closed p k 0 (omega arith))))

  pub place-acc : (i : ℕ) → i < files * places → place_acc desk i ≡ acc_for s bufs ls i
  unfolding place_acc
  place-acc i h = let e : places * (i / places) + i % places ≡ i = omega arith in acc-of (i / places) (omega arith) (i % places) (omega arith) ∙ ap (acc_for s bufs ls) e
