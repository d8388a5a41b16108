-- The lists of a desk and an allocation, one by one, and how a segment whose lists are known so stands for the two.
use Prim.Native.Nat.{ℕ, ◌+◌, ◌≤◌, ◌<◌}
use mathlib.Core.Path.{◌≡◌, refl, sym, ap, ◌∙◌}
use mathlib.Core.Bool.{Bool, true, false}
use mathlib.Core.List.{List, [], map}
use native.Mathlib.Omega.{arith}
use native.Mathlib.Decide.{ℕ_discrete}
use lib.ListN.{length, get_or, set}
use lib.Seq.{get_or-set_same, get_or-set_other, ext_get_or}
use Rattle.occurrences.specs.Count.{count}
use Rattle.segment.specs.Layout.{list_count, row_count}
use Rattle.ports.specs.Lists.{Boxes}
use Rattle.ports.proofs.Maps.{map-in}
use Rattle.rules.specs.Limits.{files, places}
use Rattle.rules.specs.State.{Req, idle, reading, writing, read_done, write_done, Built, File, unbuilt, built}
use Rattle.rules.specs.Requests.{acc_at}
use Rattle.rules.specs.Desk.{Desk, file_of}
use Rattle.rules.specs.Allocation.{Alloc, place_of, held_at, own_entry, queue_of, port_of}
use Rattle.laws.specs.Outstanding.{uncollected, req_of}
use Rattle.memory.specs.Image.{acc_of, req_words, row_of, rq_of, wq_of, list_of, queue_words, port_words, box_of, lists_of, boxes_of}
use Rattle.memory.proofs.Image.{list_of-read, list_of-write, box_of-read, box_of-write}
use Rattle.memory.proofs.Boxes.{get_or-lists_of, get_or-boxes_of}
use Rattle.laws.proofs.Lists.{length_up}
use Rattle.midst.specs.Seg.{Seg, queue_at, side_queue}

-- list l and its contents, of lists ls and contents ms, are those of a desk and an allocation
abbrev pub At : List (List ℕ) → List (List (List ℕ)) → Desk → Alloc → ℕ → Type 0
At ls ms d t l = (get_or ls l [] ≡ list_of d t l) × (get_or ms l [] ≡ box_of d t l)

module _ {s hand : List ℕ} {hm ls : List (List ℕ)} {ms : List (List (List ℕ))} {rs : List (List ℕ)} (B : Boxes s hand hm ls ms rs) (d : Desk) (t : Alloc) where
  -- list b is set: list l of these is that, or one that stood there
  pub at_set : (b : ℕ) (y : List ℕ) (n : List (List ℕ)) → b < list_count → y ≡ list_of d t b → n ≡ box_of d t b
      → (l : ℕ) → ((l ≡ b → ⊥) → At ls ms d t l) → At (set ls b y) (set ms b n) d t l
  at_set b y n h ey en l other = go (ℕ_discrete l b)
    where
      go : Dec (l ≡ b) → At (set ls b y) (set ms b n) d t l
      go (yes e) = rw e (get_or-set_same ls b y [] (rw B.lists.heads h) ∙ ey, get_or-set_same ms b n [] (rw B.sized h) ∙ en)
      go (no k) = (get_or-set_other ls b l y [] k ∙ (other k).0, get_or-set_other ms b l n [] k ∙ (other k).1)

-- all lists are those of a desk and an allocation
pub boxes-are : {s : List ℕ} {hm ls : List (List ℕ)} {ms : List (List (List ℕ))} {rs : List (List ℕ)} (d : Desk) (t : Alloc) → Boxes s [] hm ls ms rs
    → ((l : ℕ) → l < list_count → At ls ms d t l) → Boxes s [] [] (lists_of d t) (boxes_of d t) rs
boxes-are {s} {hm} {ls} {ms} {rs} d t B f =
    let long : length (lists_of d t) ≡ list_count = unfold lists_of in length_up (list_of d t) list_count 0 in
    let wide : length (boxes_of d t) ≡ list_count = unfold boxes_of in length_up (box_of d t) list_count 0 in
    let el : ls ≡ lists_of d t =
    ext_get_or [] ls (lists_of d t) (B.lists.heads ∙ sym long) (λ l h. let k : l < list_count = rw B.lists.heads at h in (f l k).0 ∙ sym (get_or-lists_of d t l k))
    in
    let em : ms ≡ boxes_of d t =
    ext_get_or [] ms (boxes_of d t) (B.sized ∙ sym wide) (λ l h. let k : l < list_count = rw B.sized at h in (f l k).1 ∙ sym (get_or-boxes_of d t l k))
    in
    rw (← el, ← em) (record { lists = B.lists; held = refl; boxes = B.boxes; sized = B.sized; rows = B.rows; rowed = B.rowed })

-- a segment with the rows of another
pub seg-again : {xs ys : List ℕ} {d : Desk} {t : Alloc} {k : ℕ} {hm ls : List (List ℕ)} {ms : List (List (List ℕ))} (S : Seg xs d t k) (d' : Desk) (u : Alloc)
    → Boxes ys [] hm ls ms S.rows → ((l : ℕ) → l < list_count → At ls ms d' u l) → ((i : ℕ) → i < row_count → (i ≡ k → ⊥) → row_of d' i ≡ row_of d i)
    → Seg ys d' u k
seg-again S d' u B f r = record { rows = S.rows; boxes = boxes-are d' u B f; same = λ i h n. S.same i h n ∙ sym (r i h n) }

-- what a queue's entries are and hold, by the places in it

abbrev pub entries_in : ℕ → Alloc → List ℕ → List ℕ
entries_in f t l = map (λ x. own_entry (held_at t (place_of f x))) l

abbrev pub words_in : ℕ → Built → List ℕ → List (List ℕ)
words_in f b l = map (λ x. req_words (place_of f x) (req_of (acc_at b x))) l

pub below-side : (w : Bool) (f : ℕ) → f < files → queue_at w f < list_count
below-side true f h = omega arith
below-side false f h = omega arith

module _ (d : Desk) (t : Alloc) (f : ℕ) (hf : f < files) (b : Built) (e : file_of d f ≡ built b) where
  pub list-side : (w : Bool) → list_of d t (queue_at w f) ≡ entries_in f t (side_queue w b)
  unfolding queue_of
  list-side true = list_of-write d t f hf ∙ ap (λ (y : File). queue_of (λ b. b.wq) f y t) e
  list-side false = list_of-read d t f hf ∙ ap (λ (y : File). queue_of (λ b. b.rq) f y t) e

  pub box-side : (w : Bool) → box_of d t (queue_at w f) ≡ words_in f b (side_queue w b)
  unfolding queue_words rq_of wq_of acc_of
  box-side true = box_of-write d t f hf ∙ ap (λ (y : File). queue_words f y (wq_of y)) e
  box-side false = box_of-read d t f hf ∙ ap (λ (y : File). queue_words f y (rq_of y)) e

-- the members of a file's queues are places
abbrev pub Low : File → Type 0
Low y = (x : ℕ) → 1 ≤ count x (rq_of y) + count x (wq_of y) → x < places

-- a reply port of a place with nothing to collect
pub port-none : (q : Req) (i : ℕ) (t : Alloc) → uncollected q ≡ 0 → (port_of q i t ≡ []) × (port_words i q ≡ [])
unfolding port_of port_words uncollected
port-none idle i t e = (refl, refl)
port-none (reading q) i t e = (refl, refl)
port-none (writing q) i t e = (refl, refl)
port-none (read_done q) i t e = absurd (omega arith)
port-none (write_done q) i t e = absurd (omega arith)

-- a queue, and a reply port, where all members hold what they held

pub queue-held : (t u : Alloc) (q : Built → List ℕ) (g : ℕ) (y : File)
    → ((b : Built) → y ≡ built b → (x : ℕ) → 1 ≤ count x (q b) → held_at u (place_of g x) ≡ held_at t (place_of g x)) → queue_of q g y u ≡ queue_of q g y t
unfolding queue_of
queue-held t u q g unbuilt h = refl
queue-held t u q g (built b) h =
    map-in (λ x. own_entry (held_at u (place_of g x))) (λ x. own_entry (held_at t (place_of g x))) (q b) (λ x k. ap own_entry (h b refl x k))

pub port-held : (t u : Alloc) (j : ℕ) (q : Req) → own_entry (held_at u j) ≡ own_entry (held_at t j) → port_of q j u ≡ port_of q j t
unfolding port_of
port-held t u j idle e = refl
port-held t u j (reading q) e = refl
port-held t u j (writing q) e = refl
port-held t u j (read_done q) e = rw e
port-held t u j (write_done q) e = rw e
