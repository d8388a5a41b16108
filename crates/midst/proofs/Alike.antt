-- Two files with the same queues and the same requests: a desk with the one and a desk with the other have the same lists of entries, with the same
-- contents.
use Prim.Native.Nat.{ℕ, ◌-◌, ◌/◌, ◌%◌}
use mathlib.Core.Path.{◌≡◌, refl, sym, ap, ◌∙◌}
use mathlib.Core.List.{List, map}
use Rattle.segment.specs.Layout.{read_queues, write_queues, reply_ports, list_count}
use Rattle.ports.proofs.Maps.{map-all}
use Rattle.rules.specs.State.{File, unbuilt, built}
use Rattle.rules.specs.Desk.{Desk, file_of, with_file}
use Rattle.rules.specs.Allocation.{Alloc, up_from, place_of, held_at, own_entry, queue_of, port_of}
use Rattle.memory.specs.Image.{acc_of, place_acc, req_words, rq_of, wq_of, at_list, list_of, queue_words, port_words, box_of, lists_of, boxes_of}
use Rattle.laws.specs.Outstanding.{req_of}
use Rattle.laws.proofs.EightFiles.{files-same}

pub record SameLists (x y : File) : Type 0 where
  pub reads : rq_of x ≡ rq_of y
  pub writes : wq_of x ≡ wq_of y
  pub reqs : (p : ℕ) → req_of (acc_of x p) ≡ req_of (acc_of y p)

-- the queues as lists of places

queue-reads : (f : ℕ) (x : File) (s : Alloc) → queue_of (λ b. b.rq) f x s ≡ map (λ p. own_entry (held_at s (place_of f p))) (rq_of x)
unfolding queue_of rq_of
queue-reads f unbuilt s = refl
queue-reads f (built b) s = refl

queue-writes : (f : ℕ) (x : File) (s : Alloc) → queue_of (λ b. b.wq) f x s ≡ map (λ p. own_entry (held_at s (place_of f p))) (wq_of x)
unfolding queue_of wq_of
queue-writes f unbuilt s = refl
queue-writes f (built b) s = refl

at_same : {A : Type 0} (free : A) (r r' w w' p p' : ℕ → A) (timers : A) → ((i : ℕ) → r i ≡ r' i) → ((i : ℕ) → w i ≡ w' i) → ((i : ℕ) → p i ≡ p' i) → (l : ℕ)
    → at_list free r w p timers l ≡ at_list free r' w' p' timers l
unfolding at_list
at_same free r r' w w' p p' timers a b c l = rw (a (l - read_queues), b (l - write_queues), c (l - reply_ports))

module _ (d : Desk) (f : ℕ) (x y : File) (E : SameLists x y) where
  abbrev dx : Desk
  dx = with_file d f x

  abbrev dy : Desk
  dy = with_file d f y

  file-reads : (g : ℕ) → rq_of (file_of dx g) ≡ rq_of (file_of dy g)
  file-reads g = files-same rq_of d f x y E.reads g

  file-writes : (g : ℕ) → wq_of (file_of dx g) ≡ wq_of (file_of dy g)
  file-writes g = files-same wq_of d f x y E.writes g

  file-reqs : (g p : ℕ) → req_of (acc_of (file_of dx g) p) ≡ req_of (acc_of (file_of dy g) p)
  file-reqs g p = files-same (λ z. req_of (acc_of z p)) d f x y (E.reqs p) g

  place-reqs : (i : ℕ) → req_of (place_acc dx i) ≡ req_of (place_acc dy i)
  unfolding place_acc
  place-reqs i = file-reqs (i / 8) (i % 8)

  words_same : (g : ℕ) (q q' : List ℕ) → q ≡ q' → queue_words g (file_of dx g) q ≡ queue_words g (file_of dy g) q'
  unfolding queue_words
  words_same g q q' e =
      map-all _ _ q (λ p. ap (λ r. req_words (place_of g p) r) (file-reqs g p)) ∙ ap (λ l. map (λ p. req_words (place_of g p) (req_of (acc_of (file_of dy g) p))) l) e

  module _ (s : Alloc) where
    list_of-alike : (l : ℕ) → list_of dx s l ≡ list_of dy s l
    unfolding list_of
    list_of-alike =
        at_same _ _ _ _ _ _ _ _
        (λ g. queue-reads g (file_of dx g) s ∙ ap (map _) (file-reads g) ∙ sym (queue-reads g (file_of dy g) s))
        (λ g. queue-writes g (file_of dx g) s ∙ ap (map _) (file-writes g) ∙ sym (queue-writes g (file_of dy g) s))
        (λ i. ap (λ q. port_of q i s) (place-reqs i))

    box_of-alike : (l : ℕ) → box_of dx s l ≡ box_of dy s l
    unfolding box_of
    box_of-alike =
        at_same _ _ _ _ _ _ _ _ (λ g. words_same g _ _ (file-reads g)) (λ g. words_same g _ _ (file-writes g)) (λ i. ap (λ q. port_words i q) (place-reqs i))

    pub lists-alike : lists_of dx s ≡ lists_of dy s
    unfolding lists_of
    lists-alike = map-all _ _ (up_from 0 list_count) list_of-alike

    pub boxes-alike : boxes_of dx s ≡ boxes_of dy s
    unfolding boxes_of
    boxes-alike = map-all _ _ (up_from 0 list_count) box_of-alike
