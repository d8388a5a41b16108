-- File f of a desk and an allocation change at place p alone: a segment stands for what they become if five lists do. The other lists and the rows
-- are as they were.
use Prim.Native.Nat.{ℕ, ◌*◌, ◌/◌, ◌%◌, ◌≤◌, ◌<◌}
use mathlib.Core.Path.{◌≡◌, refl, sym, ap, ◌∙◌}
use mathlib.Core.Bool.{Bool, true, false, not}
use mathlib.Core.List.{List, [], map}
use mathlib.Core.Option.{Option}
use native.Mathlib.Omega.{arith}
use native.Mathlib.Decide.{ℕ_discrete}
use Rattle.occurrences.specs.Count.{count}
use Rattle.rules.specs.Limits.{files, places}
use Rattle.rules.specs.State.{Acc, Built, File, built}
use Rattle.rules.specs.Requests.{acc_at}
use Rattle.rules.specs.Desk.{Desk, file_of, with_file}
use Rattle.rules.specs.Allocation.{Alloc, place_of, held_at, own_entry, queue_of, port_of, timer_list}
use Rattle.segment.specs.Layout.{read_queues, reply_ports, list_count, row_count, free_list, reply_port, file_row}
use Rattle.segment.specs.Layout as layout
use Rattle.ports.specs.Lists.{Boxes}
use Rattle.ports.proofs.Lists.{once-two}
use Rattle.memory.specs.Image.{acc_of, place_acc, timer_words, file_words, place_words, row_of, rq_of, wq_of, list_of, queue_words, port_words, box_of, lists_of, boxes_of}
use Rattle.laws.specs.Outstanding.{req_of}
use Rattle.laws.specs.EightFiles.{EightFiles}
use Rattle.laws.proofs.EightFiles.{file-other, file-same}
use Rattle.laws.proofs.Happenings.{place-of-desk}
use Rattle.memory.proofs.Image.{place_acc-of, row_of-file, row_of-place, each_row, list_of-free, list_of-read, list_of-write, list_of-port, list_of-timers, box_of-free, box_of-read, box_of-write, box_of-port, box_of-timers, each-list}
use Rattle.memory.proofs.Boxes.{get_or-lists_of}
use Rattle.midst.specs.Seg.{Seg, queue_at, side_queue}
use Rattle.midst.proofs.Lists.{boxes-are, entries_in, words_in, below-side, list-side, box-side, queue-held, port-held}
use Rattle.midst.proofs.Cuts.{count-made}
use Rattle.midst.proofs.Boxed.{Boxed}
use Rattle.midst.proofs.Goes.{blank}

-- sides

pub two-sides : (P : Bool → Type 0) (writer : Bool) → P writer → P (not writer) → (w : Bool) → P w
two-sides P true x y true = x
two-sides P true x y false = y
two-sides P false x y true = y
two-sides P false x y false = x

pub sides_apart : (w : Bool) (f : ℕ) → f < files → queue_at (not w) f ≡ queue_at w f → ⊥
sides_apart true f h e = omega arith
sides_apart false f h e = omega arith

-- a queue is not one of the other lists
pub queue-range : (w : Bool) (f : ℕ) → f < files → (read_queues ≤ queue_at w f) × (queue_at w f < reply_ports)
queue-range true f h = (omega arith, omega arith)
queue-range false f h = (omega arith, omega arith)

pub queue-files : (v w : Bool) (f g : ℕ) → f < files → g < files → (g ≡ f → ⊥) → queue_at v f ≡ queue_at w g → ⊥
queue-files true true f g h k n e = n (omega arith)
queue-files true false f g h k n e = omega arith
queue-files false true f g h k n e = omega arith
queue-files false false f g h k n e = n (omega arith)

-- file f goes from b to c and the allocation from t to u: other accessors and what other places hold stay, and no other file queues this place
pub record Shift (f p : ℕ) (d : Desk) (t u : Alloc) (b c : Built) : Type 0 where
  pub file : f < files
  pub place : p < places
  pub eight : EightFiles d
  pub was : file_of d f ≡ built b
  pub accs : (x : ℕ) → (p ≡ x → ⊥) → acc_at c x ≡ acc_at b x
  pub held : (j : ℕ) → (j ≡ place_of f p → ⊥) → held_at u j ≡ held_at t j
  pub apart : (w : Bool) (g : ℕ) (y : Built) → g < files → (g ≡ f → ⊥) → file_of d g ≡ built y → (x : ℕ) → 1 ≤ count x (side_queue w y) → place_of g x ≡ place_of f p → ⊥

-- the entry of place p stands on list m, so it stands on no queue of another file
pub once-apart : {xs : List ℕ} {rs : List (List ℕ)} (d : Desk) (t : Alloc) → Boxes xs [] [] (lists_of d t) (boxes_of d t) rs → (i m : ℕ) → m < list_count
    → 1 ≤ count (own_entry (held_at t i)) (list_of d t m) → (w : Bool) (g : ℕ) (y : Built) → g < files → (m ≡ queue_at w g → ⊥) → file_of d g ≡ built y
    → (x : ℕ) → 1 ≤ count x (side_queue w y) → place_of g x ≡ i → ⊥
once-apart d t B i m h k w g y hg n e x c z =
    let F : ℕ → ℕ = λ v. own_entry (held_at t (place_of g v)) in
    let a : 1 ≤ count (F x) (list_of d t (queue_at w g)) = rw (list-side d t g hg y e w) (count-made F x (side_queue w y) c) in
    let a' : 1 ≤ count (own_entry (held_at t i)) (list_of d t (queue_at w g)) = rw z at a in
    omega (
      arith,
      once-two B.lists m (queue_at w g) (own_entry (held_at t i)) n,
      ap (count (own_entry (held_at t i))) (get_or-lists_of d t m h),
      ap (count (own_entry (held_at t i))) (get_or-lists_of d t (queue_at w g) (below-side w g hg)),
    )

-- list l is not one of the five
pub record Off (f i l : ℕ) : Type 0 where
  pub free : l ≡ free_list → ⊥
  pub timers : l ≡ layout.timer_list → ⊥
  pub port : l ≡ reply_port i → ⊥
  pub queue : (w : Bool) → l ≡ queue_at w f → ⊥

module _ {f p : ℕ} {d : Desk} {t u : Alloc} {b c : Built} (C : Shift f p d t u b c) where
  abbrev next : Desk
  next = with_file d f (built c)

  abbrev i : ℕ
  i = place_of f p

  now : file_of next f ≡ built c
  now = file-same d f (built c) C.eight C.file

  acc-other : (j : ℕ) → (j ≡ i → ⊥) → place_acc next j ≡ place_acc d j
  unfolding place_acc
  acc-other j n = go (ℕ_discrete (j / 8) f)
    where
      go : Dec (j / 8 ≡ f) → acc_of (file_of next (j / 8)) (j % 8) ≡ acc_of (file_of d (j / 8)) (j % 8)
      go (yes e) = rw (e, now, C.was) (unfold acc_of in C.accs (j % 8) (λ z. n (unfold place_of in omega arith)))
      go (no k) = ap (λ (y : File). acc_of y (j % 8)) (file-other d f (j / 8) (built c) k)

  acc-here : place_acc next i ≡ acc_at c p
  acc-here = place_acc-of next f p C.place ∙ rw now (unfold acc_of in refl)

  -- every other list

  abbrev Kept : ℕ → Type 0
  Kept l = (list_of next u l ≡ list_of d t l) × (box_of next u l ≡ box_of d t l)

  off-lists : (l : ℕ) → l < list_count → Off f i l → Kept l
  off-lists =
      each-list (λ l. Off f i l → Kept l) (λ o. absurd (o.free refl))
      (λ g h o. let k : g ≡ f → ⊥ = λ e. o.queue false (omega arith) in (
        list_of-read next u g h ∙ queue false (λ b. b.rq) g h k (λ b x z. z) ∙ sym (list_of-read d t g h),
        box_of-read next u g h ∙ ap (λ (y : File). queue_words g y (rq_of y)) (file-other d f g (built c) k) ∙ sym (box_of-read d t g h),
      ))
      (λ g h o. let k : g ≡ f → ⊥ = λ e. o.queue true (omega arith) in (
        list_of-write next u g h ∙ queue true (λ b. b.wq) g h k (λ b x z. z) ∙ sym (list_of-write d t g h),
        box_of-write next u g h ∙ ap (λ (y : File). queue_words g y (wq_of y)) (file-other d f g (built c) k) ∙ sym (box_of-write d t g h),
      ))
      (λ j h o. let k : j ≡ i → ⊥ = λ e. o.port (omega arith) in (
        list_of-port next u j h ∙ ap (λ (a : Option Acc). port_of (req_of a) j u) (acc-other j k) ∙ port-held t u j (req_of (place_acc d j)) (ap own_entry (C.held j k)) ∙ sym (list_of-port d t j h),
        box_of-port next u j h ∙ ap (λ (a : Option Acc). port_words j (req_of a)) (acc-other j k) ∙ sym (box_of-port d t j h),
      ))
      (λ o. absurd (o.timers refl))
    where
      queue : (w : Bool) (q : Built → List ℕ) (g : ℕ) → g < files → (g ≡ f → ⊥) → ((y : Built) (x : ℕ) → 1 ≤ count x (q y) → 1 ≤ count x (side_queue w y))
          → queue_of q g (file_of next g) u ≡ queue_of q g (file_of d g) t
      queue w q g h k s =
          ap (λ (y : File). queue_of q g y u) (file-other d f g (built c) k)
          ∙ queue-held t u q g (file_of d g) (λ y e x z. C.held (place_of g x) (C.apart w g y h k e x (s y x z)))

  -- every row but row k

  off-rows : (k : ℕ) → ((file_row f ≡ k → ⊥) → file_words (built c) ≡ file_words (built b)) → place_words (acc_at c p) ≡ place_words (acc_at b p)
      → (j : ℕ) → j < row_count → (j ≡ k → ⊥) → row_of next j ≡ row_of d j
  off-rows k x y =
      each_row (λ j. (j ≡ k → ⊥) → row_of next j ≡ row_of d j)
      (λ g h n. row_of-file next g h ∙ file g n (ℕ_discrete g f) ∙ sym (row_of-file d g h))
      (λ j h n. row_of-place next j ∙ place j (ℕ_discrete j i) ∙ sym (row_of-place d j))
    where
      file : (g : ℕ) → (g ≡ k → ⊥) → Dec (g ≡ f) → file_words (file_of next g) ≡ file_words (file_of d g)
      file g n (yes e) = rw (e, now, C.was) (x (λ z. n (e ∙ z)))
      file g n (no e) = ap file_words (file-other d f g (built c) e)

      place : (j : ℕ) → Dec (j ≡ i) → place_words (place_acc next j) ≡ place_words (place_acc d j)
      place j (yes e) = rw (e, acc-here) (y ∙ ap place_words (sym (place_acc-of d f p C.place ∙ rw C.was (unfold acc_of in refl))))
      place j (no e) = ap place_words (acc-other j e)

  -- a segment with these lists
  module _ {xs s : List ℕ} {k : ℕ} (S : Seg xs d t k) (ls : ℕ → List ℕ) (ms : ℕ → List (List ℕ)) (B : Boxed s [] [] ls ms S.rows) where
    pub seg_shift : ((file_row f ≡ k → ⊥) → file_words (built c) ≡ file_words (built b)) → place_words (acc_at c p) ≡ place_words (acc_at b p)
        → (ls free_list ≡ u.free) × (ms free_list ≡ blank u.free)
        → (ls layout.timer_list ≡ timer_list u) × (ms layout.timer_list ≡ map timer_words u.clock)
        → (ls (reply_port i) ≡ port_of (req_of (acc_at c p)) i u) × (ms (reply_port i) ≡ port_words i (req_of (acc_at c p)))
        → ((w : Bool) → (ls (queue_at w f) ≡ entries_in f u (side_queue w c)) × (ms (queue_at w f) ≡ words_in f c (side_queue w c)))
        → ((l : ℕ) → l < list_count → Off f i l → (ls l ≡ list_of d t l) × (ms l ≡ box_of d t l))
        → Seg s next u k
    seg_shift x y free timers port queue rest =
        record {
          rows = S.rows;
          boxes = boxes-are next u B.boxes (λ l h. let a = all l h in (B.lists l h ∙ a.0, B.holds l h ∙ a.1));
          same = λ j h n. S.same j h n ∙ sym (off-rows k x y j h n);
        }
      where
        Is : ℕ → Type 0
        Is l = (ls l ≡ list_of next u l) × (ms l ≡ box_of next u l)

        hi : i < files * places
        hi = place-of-desk f p C.file C.place

        at-free : Is free_list
        at-free = (free.0 ∙ sym (list_of-free next u), free.1 ∙ sym (box_of-free next u))

        at-timers : Is layout.timer_list
        at-timers = (timers.0 ∙ sym (list_of-timers next u), timers.1 ∙ sym (box_of-timers next u))

        at-port : Is (reply_port i)
        at-port = (
          port.0 ∙ sym (list_of-port next u i hi ∙ ap (λ (a : Option Acc). port_of (req_of a) i u) acc-here),
          port.1 ∙ sym (box_of-port next u i hi ∙ ap (λ (a : Option Acc). port_words i (req_of a)) acc-here),
        )

        at-queue : (w : Bool) → Is (queue_at w f)
        at-queue w = ((queue w).0 ∙ sym (list-side next u f C.file c now w), (queue w).1 ∙ sym (box-side next u f C.file c now w))

        all : (l : ℕ) → l < list_count → Is l
        all l h = go (ℕ_discrete l free_list) (ℕ_discrete l layout.timer_list) (ℕ_discrete l (reply_port i)) (ℕ_discrete l (queue_at true f)) (ℕ_discrete l (queue_at false f))
          where
            go : Dec (l ≡ free_list) → Dec (l ≡ layout.timer_list) → Dec (l ≡ reply_port i) → Dec (l ≡ queue_at true f) → Dec (l ≡ queue_at false f) → Is l
            go (yes e) _ _ _ _ = rw e at-free
            go (no _) (yes e) _ _ _ = rw e at-timers
            go (no _) (no _) (yes e) _ _ = rw e at-port
            go (no _) (no _) (no _) (yes e) _ = rw e (at-queue true)
            go (no _) (no _) (no _) (no _) (yes e) = rw e (at-queue false)
            go (no n₁) (no n₂) (no n₃) (no n₄) (no n₅) =
                let o : Off f i l = record { free = n₁; timers = n₂; port = n₃; queue = two-sides (λ w. l ≡ queue_at w f → ⊥) true n₄ n₅ } in
                let r = rest l h o in
                let k = off-lists l h o in
                (r.0 ∙ sym k.0, r.1 ∙ sym k.1)
