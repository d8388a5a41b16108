-- All lists by their parts: the free list, the read queues, the write queues, the reply ports, the timer list.
use Prim.Native.Nat.{ℕ, suc, ◌+◌, ◌*◌, ◌<◌}
use mathlib.Core.Path.{◌≡◌, refl, sym, ap, ◌∙◌}
use mathlib.Core.List.{List, [], ◌∷◌, ◌++◌, append-nil, append_assoc}
use native.Mathlib.Omega.{arith}
use lib.ListN.{length, get_or, take, drop, length-append, length-drop, take-append-drop, get_or-append}
use lib.Seq.{length-take-le, get_or-append-add}
use Rattle.rules.specs.Limits.{files, places}
use Rattle.segment.specs.Layout.{list_count, free_list, read_queue, write_queue, reply_port, timer_list, desk_places, write_queues}
use Rattle.decision.proofs.lists.Flat.{flat}

pub record Parts : Type 0 where
  pub free : List ℕ
  pub reads : List (List ℕ)
  pub writes : List (List ℕ)
  pub ports : List (List ℕ)
  pub timers : List ℕ
  pub read_size : length reads ≡ files
  pub write_size : length writes ≡ files
  pub port_size : length ports ≡ files * places

unfoldable pub whole : Parts → List (List ℕ)
whole p = p.free ∷ (p.reads ++ (p.writes ++ (p.ports ++ p.timers ∷ [])))

behind : (ls ms : List (List ℕ)) (n k m : ℕ) → length ls ≡ n → m ≡ n + k → get_or (ls ++ ms) m [] ≡ get_or ms k []
behind ls ms n k m l e = rw (e, ← l) (get_or-append-add ls ms k [])

within : (ls ms : List (List ℕ)) (n k : ℕ) → length ls ≡ n → k < n → get_or (ls ++ ms) k [] ≡ get_or ls k []
within ls ms n k l h = get_or-append ls ms [] k (rw l h)

module _ (p : Parts) where
  pub whole_length : length (whole p) ≡ list_count
  unfolding whole
  whole_length =
      omega (
        arith,
        length-append p.reads (p.writes ++ (p.ports ++ p.timers ∷ [])),
        length-append p.writes (p.ports ++ p.timers ∷ []),
        length-append p.ports (p.timers ∷ []),
        p.read_size,
        p.write_size,
        p.port_size,
      )

  pub at-free : get_or (whole p) free_list [] ≡ p.free
  unfolding whole
  at-free = refl

  pub at_read : (f : ℕ) → f < files → get_or (whole p) (read_queue f) [] ≡ get_or p.reads f []
  unfolding whole
  at_read f h =
      behind (p.free ∷ []) (p.reads ++ (p.writes ++ (p.ports ++ p.timers ∷ []))) 1 f (read_queue f) refl (omega arith)
      ∙ within p.reads (p.writes ++ (p.ports ++ p.timers ∷ [])) files f p.read_size h

  pub at-write : (f : ℕ) → f < files → get_or (whole p) (write_queue f) [] ≡ get_or p.writes f []
  unfolding whole
  at-write f h =
      behind (p.free ∷ p.reads) (p.writes ++ (p.ports ++ p.timers ∷ [])) write_queues f (write_queue f) (ap suc p.read_size) (omega arith)
      ∙ within p.writes (p.ports ++ p.timers ∷ []) files f p.write_size h

  past-queues : (k : ℕ) → get_or (whole p) (reply_port k) [] ≡ get_or (p.ports ++ p.timers ∷ []) k []
  unfolding whole
  past-queues k =
      behind (p.free ∷ p.reads) (p.writes ++ (p.ports ++ p.timers ∷ [])) write_queues (files + k) (reply_port k) (ap suc p.read_size) (omega arith)
      ∙ behind p.writes (p.ports ++ p.timers ∷ []) files k (files + k) p.write_size refl

  pub at-port : (i : ℕ) → i < files * places → get_or (whole p) (reply_port i) [] ≡ get_or p.ports i []
  at-port i h = past-queues i ∙ within p.ports (p.timers ∷ []) (files * places) i p.port_size h

  pub at-timers : get_or (whole p) timer_list [] ≡ p.timers
  at-timers = past-queues desk_places ∙ behind p.ports (p.timers ∷ []) desk_places 0 desk_places p.port_size refl

flat_append : (ls ms : List (List ℕ)) → flat (ls ++ ms) ≡ flat ls ++ flat ms
unfolding flat
flat_append [] ms = refl
flat_append (xs ∷ ls) ms = ap (λ l. xs ++ l) (flat_append ls ms) ∙ sym (append_assoc xs (flat ls) (flat ms))

pub flat-whole : (p : Parts) → flat (whole p) ≡ p.free ++ (flat p.reads ++ (flat p.writes ++ (flat p.ports ++ p.timers)))
unfolding whole flat
flat-whole p =
    rw (
      flat_append p.reads (p.writes ++ (p.ports ++ p.timers ∷ [])),
      flat_append p.writes (p.ports ++ p.timers ∷ []),
      flat_append p.ports (p.timers ∷ []),
      append-nil p.timers,
    )

-- as many lists, whatever is in them, have these parts
split_at : (n m : ℕ) (ls : List (List ℕ)) → length ls ≡ n + m → (xs : List (List ℕ)) × (ys : List (List ℕ)) × (length xs ≡ n) × (length ys ≡ m) × (xs ++ ys ≡ ls)
split_at n m ls l = (take n ls, drop n ls, length-take-le n ls (omega arith), length-drop n ls ∙ omega arith, take-append-drop n ls)

parts-of : (fr : List ℕ) (rs ws ps : List (List ℕ)) (ts : List ℕ) (ls ls1 ls2 ls3 : List (List ℕ)) → length rs ≡ files → length ws ≡ files → length ps ≡ files * places
    → rs ++ ls1 ≡ ls → ws ++ ls2 ≡ ls1 → ps ++ ls3 ≡ ls2 → ts ∷ [] ≡ ls3 → (p : Parts) × (whole p ≡ fr ∷ ls)
unfolding whole
parts-of fr rs ws ps ts ls ls1 ls2 ls3 l1 l2 l3 e1 e2 e3 e4 =
    (record { free = fr; reads = rs; writes = ws; ports = ps; timers = ts; read_size = l1; write_size = l2; port_size = l3 }, rw (← e1, ← e2, ← e3, ← e4))

pub split : (ls : List (List ℕ)) → length ls ≡ list_count → (p : Parts) × (whole p ≡ ls)
split [] l = absurd (omega arith)
split (fr ∷ ls) l =
    let (rs, ls1, l1, m1, e1) = split_at files (files + (desk_places + 1)) ls (omega arith) in
    let (ws, ls2, l2, m2, e2) = split_at files (desk_places + 1) ls1 m1 in
    let (ps, ls3, l3, m3, e3) = split_at desk_places 1 ls2 m2 in
    let (ts, e4) = single ls3 m3 in parts-of fr rs ws ps ts ls ls1 ls2 ls3 l1 l2 l3 e1 e2 e3 e4
  where
    single : (ms : List (List ℕ)) → length ms ≡ 1 → (ts : List ℕ) × (ts ∷ [] ≡ ms)
    single [] m = absurd (omega arith)
    single (ts ∷ []) m = (ts, refl)
    single (ts ∷ us ∷ ms) m = absurd (omega arith)
