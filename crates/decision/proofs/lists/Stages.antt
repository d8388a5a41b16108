-- The five stages of the walk of all lists, by what they find: chains, what their entries hold, and places that have the right mark.
use Prim.Native.Nat.{ℕ, suc, ◌*◌, ◌≤◌, ◌<◌}
use mathlib.Core.Bool.{true}
use mathlib.Core.Path.{◌≡◌, refl}
use mathlib.Core.List.{List, [], ◌∷◌, map-append}
use lib.ListN.{length}
use Rattle.rules.specs.Limits.{files, places}
use Rattle.segment.specs.Layout.{free_list, read_queue, write_queue, reply_port, timer_list}
use Rattle.ports.specs.Lists.{Chain}
use Rattle.accessors.specs.Outstanding.{queue_of}
use Rattle.sound.specs.Walks.{Walked, entry_word, place_in, free_entry, free_walk, queue_walk, timer_walk, port_walk, queue_walks, port_walks}
use Rattle.decision.specs.Survey.{Each, InOrder, ReadEntry, WriteEntry, PortEntry, TimerEntry}
use Rattle.decision.proofs.lists.Marks.{marks, Met, marks-append, met-append, append-met}
use Rattle.decision.proofs.lists.Stage.{Stage, stage-as}
use Rattle.decision.proofs.lists.Flat.{flat}
use Rattle.decision.proofs.lists.Sweep.{Lists, OkRow, post_row, OkLists, stage-row}
use Rattle.decision.proofs.lists.Walk.{Kind, after, Passing}
use Rattle.decision.proofs.lists.Walkers.{free_kind, queue_kind, port_kind, timer_kind, most, free-stage, queue-stage, timer-stage, port-stage}
use Rattle.decision.proofs.lists.Means.{owners, Means, after-marks, pass-row, row-pass, row-each, each_row, read-means, write-means, port-means, timer-means, row-timers, timers-row, free-after, pass-free, free-pass}

-- fewer than n entries starting at slot p, and what holds of each
abbrev pub Holding : List ℕ → ℕ → ℕ → (ℕ → Type 0) → List ℕ → Type 0
Holding s n p Q xs = (length xs < n) × Chain s p xs × Each Q xs

-- the stage of one list that marks places
module _ (s : List ℕ) (need v n p : ℕ) (Q : ℕ → Type 0) (k : Kind) (means : Means s need v (λ low. Q) k) (walk : List ℕ → List ℕ → Walked) where
  pub stage-one : Stage walk (λ xs. xs) (Passing s k n 0 p) (after k)
      → Stage walk (λ xs. xs) (λ busy xs. Holding s n p Q xs × Met need v busy (owners s xs)) (λ busy xs. marks v busy (owners s xs))
  stage-one =
      stage-as walk (λ xs. xs) (Passing s k n 0 p) (λ busy xs. Holding s n p Q xs × Met need v busy (owners s xs)) (after k) (λ busy xs. marks v busy (owners s xs))
      (λ busy xs o. let r = pass-row s need v (λ low. Q) k means 0 busy xs o.2 in ((o.0, o.1, row-each s Q 0 xs r.0), r.1))
      (λ busy xs o. (o.0.0, o.0.1, row-pass s need v (λ low. Q) k means 0 busy xs (each_row s Q 0 xs o.0.2) o.1))
      (λ busy xs. after-marks s need v (λ low. Q) k means busy xs)

-- the stage of such lists, one after the other
module _ (s : List ℕ) (need v : ℕ) (S : ℕ → List ℕ → Type 0) where
  abbrev OkOne : ℕ → List ℕ → List ℕ → Type 0
  OkOne j busy xs = S j xs × Met need v busy (owners s xs)

  abbrev post_one : ℕ → List ℕ → List ℕ → List ℕ
  post_one j busy xs = marks v busy (owners s xs)

  row-marks : (j : ℕ) (busy : List ℕ) (ls : List (List ℕ)) → post_row OkOne post_one j busy ls ≡ marks v busy (owners s (flat ls))
  unfolding post_row marks flat
  row-marks j busy [] = refl
  row-marks j busy (xs ∷ ls) =
      rw (map-append (place_in s) xs (flat ls), marks-append need v busy (owners s xs) (owners s (flat ls))) (row-marks (suc j) (marks v busy (owners s xs)) ls)

  row-lists : (j : ℕ) (busy : List ℕ) (ls : List (List ℕ)) → OkRow OkOne post_one j busy ls → Lists S j ls × Met need v busy (owners s (flat ls))
  unfolding OkRow Lists flat Met
  row-lists j busy [] p = (tt, tt)
  row-lists j busy (xs ∷ ls) p =
      let r = row-lists (suc j) (marks v busy (owners s xs)) ls p.1 in
      ((p.0.0, r.0), rw (map-append (place_in s) xs (flat ls)) (met-append need v busy (owners s xs) (owners s (flat ls)) p.0.1 r.1))

  lists-row : (j : ℕ) (busy : List ℕ) (ls : List (List ℕ)) → Lists S j ls → Met need v busy (owners s (flat ls)) → OkRow OkOne post_one j busy ls
  unfolding OkRow Lists flat Met
  lists-row j busy [] a m = tt
  lists-row j busy (xs ∷ ls) a m =
      let r = append-met need v busy (owners s xs) (owners s (flat ls)) (rw (map-append (place_in s) xs (flat ls)) at m) in
      ((a.0, r.0), lists-row (suc j) (marks v busy (owners s xs)) ls a.1 r.1)

  -- n such lists starting at list j
  abbrev pub Holdings : ℕ → ℕ → List ℕ → List (List ℕ) → Type 0
  Holdings n j busy ls = (length ls ≡ n) × Lists S j ls × Met need v busy (owners s (flat ls))

  pub stage-all : (n j : ℕ) (walk : List ℕ → List ℕ → Walked) → Stage walk flat (OkLists OkOne post_one n j) (post_row OkOne post_one j)
      → Stage walk flat (Holdings n j) (λ busy ls. marks v busy (owners s (flat ls)))
  stage-all n j walk =
      stage-as walk flat (OkLists OkOne post_one n j) (Holdings n j) (post_row OkOne post_one j) (λ busy ls. marks v busy (owners s (flat ls)))
      (λ busy ls o. let r = row-lists j busy ls o.1 in (o.0, r.0, r.1))
      (λ busy ls o. (o.0, lists-row j busy ls o.1 o.2))
      (λ busy ls. row-marks j busy ls)

module _ (s : List ℕ) where
  -- free entries belong to no place
  abbrev pub FreeOk : List ℕ → List ℕ → Type 0
  FreeOk busy xs = Holding s most free_list (λ e. free_entry s e ≡ true) xs

  pub free-found : Stage (λ seen busy. free_walk s free_list seen busy most) (λ xs. xs) FreeOk (λ busy xs. busy)
  free-found =
      stage-as (λ seen busy. free_walk s free_list seen busy most) (λ xs. xs) (Passing s (free_kind s) most 0 free_list) FreeOk (after (free_kind s)) (λ busy xs. busy)
      (λ busy xs o. (o.0, o.1, pass-free s 0 busy xs o.2)) (λ busy xs o. (o.0, o.1, free-pass s 0 busy xs o.2)) (λ busy xs. free-after s busy xs) (free-stage s)

  -- the queues of one side, whose entries hold Q
  queues-found : (side : ℕ) (Q : ℕ → ℕ → Type 0) → ((f : ℕ) → Means s 0 1 (λ low. Q f) (queue_kind s side f))
      → Stage (λ seen busy. queue_walks s side 0 seen busy files) flat (Holdings s 0 1 (λ f. Holding s most (queue_of f side) (Q f)) files 0)
      (λ busy ls. marks 1 busy (owners s (flat ls)))
  unfolding queue_walks
  queues-found side Q means =
      let S : ℕ → List ℕ → Type 0 = λ f. Holding s most (queue_of f side) (Q f) in
      let walk : ℕ → List ℕ → List ℕ → Walked = λ f seen busy. queue_walk s side f (queue_of f side) seen busy most in
      stage-all s 0 1 S files 0 (λ seen busy. queue_walks s side 0 seen busy files)
      (stage-row (λ f busy xs. S f xs × Met 0 1 busy (owners s xs)) (λ f busy xs. marks 1 busy (owners s xs)) walk
      (λ f. stage-one s 0 1 most (queue_of f side) (Q f) (queue_kind s side f) (means f) (walk f) (queue-stage s side f (queue_of f side)))
      (queue_walks s side) (λ f seen busy. refl) (λ f seen busy n. refl) files 0)

  abbrev pub ReadsOk : List ℕ → List (List ℕ) → Type 0
  ReadsOk = Holdings s 0 1 (λ f. Holding s most (read_queue f) (ReadEntry s f)) files 0

  pub reads-found : Stage (λ seen busy. queue_walks s 1 0 seen busy files) flat ReadsOk (λ busy ls. marks 1 busy (owners s (flat ls)))
  reads-found = queues-found 1 (ReadEntry s) (read-means s)

  abbrev pub WritesOk : List ℕ → List (List ℕ) → Type 0
  WritesOk = Holdings s 0 1 (λ f. Holding s most (write_queue f) (WriteEntry s f)) files 0

  pub writes_found : Stage (λ seen busy. queue_walks s 2 0 seen busy files) flat WritesOk (λ busy ls. marks 1 busy (owners s (flat ls)))
  writes_found = queues-found 2 (WriteEntry s) (write-means s)

  abbrev pub PortsOk : List ℕ → List (List ℕ) → Type 0
  PortsOk = Holdings s 0 2 (λ i. Holding s 2 (reply_port i) (PortEntry s i)) (files * places) 0

  pub ports-found : Stage (λ seen busy. port_walks s 0 seen busy (files * places)) flat PortsOk (λ busy ls. marks 2 busy (owners s (flat ls)))
  unfolding port_walks
  ports-found =
      let S : ℕ → List ℕ → Type 0 = λ i. Holding s 2 (reply_port i) (PortEntry s i) in
      stage-all s 0 2 S (files * places) 0 (λ seen busy. port_walks s 0 seen busy (files * places))
      (stage-row (λ i busy xs. S i xs × Met 0 2 busy (owners s xs)) (λ i busy xs. marks 2 busy (owners s xs)) (port_walk s)
      (λ i. stage-one s 0 2 2 (reply_port i) (PortEntry s i) (port_kind s i) (port-means s i) (port_walk s i) (port-stage s i))
      (port_walks s) (λ i seen busy. refl) (λ i seen busy n. refl) (files * places) 0)

  abbrev pub TimersOk : List ℕ → List ℕ → Type 0
  TimersOk busy xs = Holding s most timer_list (TimerEntry s) xs × InOrder s 1 xs × Met 1 3 busy (owners s xs)

  pub timers-found : Stage (λ seen busy. timer_walk s 1 timer_list seen busy most) (λ xs. xs) TimersOk (λ busy xs. marks 3 busy (owners s xs))
  timers-found =
      let P : ℕ → ℕ → Type 0 = λ low e. TimerEntry s e × (low ≤ entry_word s e 7) in
      stage-as (λ seen busy. timer_walk s 1 timer_list seen busy most) (λ xs. xs) (Passing s (timer_kind s) most 1 timer_list) TimersOk (after (timer_kind s)) (λ busy xs. marks 3 busy (owners s xs))
      (λ busy xs o. let (r, m) = pass-row s 1 3 P (timer_kind s) (timer-means s) 1 busy xs o.2 in let (a, b) = row-timers s 1 xs r in ((o.0, o.1, a), b, m))
      (λ busy xs o. (o.0.0, o.0.1, row-pass s 1 3 P (timer_kind s) (timer-means s) 1 busy xs (timers-row s 1 xs o.0.2 o.1) o.2))
      (λ busy xs. after-marks s 1 3 P (timer_kind s) (timer-means s) busy xs) (timer-stage s)
