-- What the memories of a desk hold of one file is what the rules' file is, and nothing else.
use Prim.Native.Nat.{ℕ, zero, suc, ◌+◌, ◌*◌, ◌/◌, ◌%◌, ◌≤◌, ◌<◌}
use mathlib.Core.Path.{◌≡◌, refl, ap, ◌∙◌}
use mathlib.Core.Bool.{Bool, true, false, cond}
use mathlib.Core.List.{List, [], ◌∷◌, map}
use native.Mathlib.Omega.{arith}
use lib.Dec.{ltb, eqb}
use lib.ListN.{length}
use borrow.Author.Tests.{lt-ltb, le-ltb, eqb-true}
use Rattle.words.specs.Word.{zeros}
use Rattle.rules.specs.Limits.{files, places, entries, share_bytes, buffer_bytes}
use Rattle.rules.specs.State.{Timer, File, unbuilt}
use Rattle.rules.specs.Memories.{share_at, share_of, buffers_of}
use Rattle.rules.specs.Desk.{Desk, file_of}
use Rattle.rules.specs.Allocation.{Alloc, place_of, up_from}
use Rattle.rules.proofs.Split.{pick_true, pick-false}
use Rattle.laws.specs.Queues.{Agree}
use Rattle.laws.specs.Entries.{local, sieve, timers_of}
use Rattle.laws.proofs.Files.{on-file}
use Rattle.segment.specs.Layout.{list_count, read_queue, write_queue, reply_port, link_at, place_width, place_row_at}
use Rattle.segment.specs.Layout as layout
use Rattle.segment.specs.Table.{nth, row, data_of}
use Rattle.segment.specs.Fields.{entry_words}
use Rattle.ports.specs.Lists.{Chain}
use Rattle.ports.proofs.Lists.{short}
use Rattle.memory.specs.Memories.{Memories}
use Rattle.memory.specs.Stands.{buffers_at}
use Rattle.memory.specs.Image.{acc_of, file_words, place_words, rq_of, wq_of, queue_words, port_words, timer_words, list_of, box_of}
use Rattle.laws.specs.Outstanding.{req_of}
use Rattle.memory.specs.Fine.{Fine, StandsFor}
use Rattle.memory.proofs.Boxes.{get_or-lists_of, segment-boxes}
use Rattle.memory.proofs.Image.{place_acc-of, box_of-read, box_of-write, box_of-port, box_of-timers}
use Rattle.memory.proofs.Segments.{segment-file, segment-place}
use Rattle.memory.proofs.Once.{agreed-once}
use Rattle.runs.specs.OneFile.{walk, listed, timers_on, OneFile, file_in}
use Rattle.memory.proofs.Bodies.{file-blank}

-- a walk over a list

pub walk-chain : (n : ℕ) (s : List ℕ) (slot : ℕ) (es : List ℕ) → Chain s slot es → length es ≤ n → walk n s slot ≡ map (data_of s) es
unfolding walk Chain
walk-chain zero s slot [] c h = refl
walk-chain zero s slot (x ∷ es) c h = absurd (omega arith)
walk-chain (suc n) s slot [] c h = pick-false (ltb (nth s slot) entries) _ _ (le-ltb (nth s slot) entries (omega (arith, c)))
walk-chain (suc n) s slot (x ∷ es) (e, k, c) h =
    pick_true (ltb (nth s slot) entries) _ _ (lt-ltb (nth s slot) entries (omega (arith, e, k)))
    ∙ ap (λ (y : ℕ). data_of s y ∷ walk n s (link_at y)) e
    ∙ ap (λ (l : List (List ℕ)). data_of s x ∷ l) (walk-chain n s (link_at x) es c (omega arith))

-- the timers of a file, from the desk's

-- a file's timer with its place on the desk
unfoldable pub placed : ℕ → Timer → Timer
placed f t = record { place = place_of f t.place; left = t.left }

placed_local : (f : ℕ) (t : Timer) → t.place / places ≡ f → placed f (local t) ≡ t
unfolding placed local place_of
placed_local f t e =
    let k : 8 * f + t.place % 8 ≡ t.place = omega (arith, e) in
    ap (λ (p : ℕ). record { place = p; left = t.left }) k

timers-sieve : (f : ℕ) (ts : List Timer) → timers_on f (map timer_words ts) ≡ map (λ t. timer_words (placed f t)) (sieve f ts)
unfolding timers_on sieve timer_words entry_words
timers-sieve f [] = refl
timers-sieve f (t ∷ ts) = go (eqb (t.place / places) f) refl (timers-sieve f ts)
  where
    go : (b : Bool) → eqb (t.place / places) f ≡ b → timers_on f (map timer_words ts) ≡ map (λ t. timer_words (placed f t)) (sieve f ts)
        → cond b (timer_words t ∷ timers_on f (map timer_words ts)) (timers_on f (map timer_words ts)) ≡ map (λ t. timer_words (placed f t)) (cond b (local t ∷ sieve f ts) (sieve f ts))
    go true e ih = rw (ih, placed_local f t (eqb-true (t.place / places) f e)) refl
    go false e ih = ih

-- maps that agree below n
map-up : {A : Type 0} (g h : ℕ → A) (n k : ℕ) → ((i : ℕ) → i < k + n → g i ≡ h i) → map g (up_from k n) ≡ map h (up_from k n)
unfolding up_from
map-up g h zero k e = refl
map-up g h (suc n) k e = rw (e k (omega arith), map-up g h n (suc k) (λ i l. e i (omega arith))) refl

-- the file of the rules, written down
unfoldable pub image_of : ℕ → File → OneFile
image_of f x =
    record {
      own = file_words x;
      accessors = map (λ p. place_words (acc_of x p)) (up_from 0 places);
      share = share_of x;
      buffers = buffers_of x;
      reads = queue_words f x (rq_of x);
      writes = queue_words f x (wq_of x);
      ports = map (λ p. port_words (place_of f p) (req_of (acc_of x p))) (up_from 0 places);
      timers = map (λ t. timer_words (placed f t)) (timers_of x);
    }

module _ (m : Memories) (d : Desk) (s : Alloc) (S : StandsFor m d s) where
  -- what is read of list l
  listed-box : (l : ℕ) → l < list_count → listed m.segment l ≡ box_of d s l
  unfolding listed
  listed-box l h =
      let T = S.stands.segment in
      let once = agreed-once d s S.agreed (λ f k. on-file Fine Agree (λ c i. i.queues) (file_of d f) (S.fine f k)) in
      let few : length (list_of d s l) ≤ entries = rw (← get_or-lists_of d s l h) (short (segment-boxes d s m.segment once T).lists l h) in
      walk-chain entries m.segment l (list_of d s l) (T.chains l h) few ∙ T.boxes l h

  module _ (f : ℕ) (h : f < files) where
    low : (p : ℕ) → p < places → place_of f p < files * places
    unfolding place_of
    low p k = omega arith

    rows : (p : ℕ) → p < 0 + places → row m.segment (place_row_at (place_of f p)) place_width ≡ place_words (acc_of (file_of d f) p)
    rows p k = segment-place S.stands.segment (place_of f p) (omega (arith, low p k)) ∙ ap place_words (place_acc-of d f p k)

    ports : (p : ℕ) → p < 0 + places → listed m.segment (reply_port (place_of f p)) ≡ port_words (place_of f p) (req_of (acc_of (file_of d f) p))
    ports p k =
        listed-box (reply_port (place_of f p)) (omega (arith, low p k)) ∙ box_of-port d s (place_of f p) (low p k) ∙ ap (λ a. port_words (place_of f p) (req_of a)) (place_acc-of d f p k)

    timers : timers_on f (listed m.segment layout.timer_list) ≡ map (λ t. timer_words (placed f t)) (timers_of (file_of d f))
    timers =
        ap (timers_on f) (listed-box layout.timer_list (omega arith) ∙ box_of-timers d s) ∙ timers-sieve f s.clock
        ∙ ap (map (λ t. timer_words (placed f t))) (S.agreed.agrees f h).clock

    -- the file, where its bytes are zero if it is not built
    pub file-is : (file_of d f ≡ unbuilt → (share_at f m.blocks ≡ zeros share_bytes) × (buffers_at f m.buffers ≡ zeros (places * buffer_bytes))) → file_in f m ≡ image_of f (file_of d f)
    unfolding file_in image_of
    file-is blank =
        let own = segment-file S.stands.segment f h in
        let (share, buffers) = file-blank (file_of d f) _ _ (S.stands.bodies.each f h) blank in
        let reads = listed-box (read_queue f) (omega arith) ∙ box_of-read d s f h in
        let writes = listed-box (write_queue f) (omega arith) ∙ box_of-write d s f h in
        one own (map-up _ _ places 0 rows) share buffers reads writes (map-up _ _ places 0 ports) timers
      where
        one : {o o' : List ℕ} {a a' : List (List ℕ)} {s s' b b' : List ℕ} {r r' w w' : List (List ℕ)} {p p' : List (List (List ℕ))} {t t' : List (List ℕ)}
            → o ≡ o' → a ≡ a' → s ≡ s' → b ≡ b' → r ≡ r' → w ≡ w' → p ≡ p' → t ≡ t'
            → ◌≡◌ {A = OneFile} (record { own = o; accessors = a; share = s; buffers = b; reads = r; writes = w; ports = p; timers = t })
            (record { own = o'; accessors = a'; share = s'; buffers = b'; reads = r'; writes = w'; ports = p'; timers = t' })
        one e₁ e₂ e₃ e₄ e₅ e₆ e₇ e₈ = rw (e₁, e₂, e₃, e₄, e₅, e₆, e₇, e₈) refl
