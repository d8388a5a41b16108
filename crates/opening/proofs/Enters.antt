-- An accessor enters: what is in the midst of open, and the outcome of open.
use Prim.Native.Nat.{ℕ, ◌+◌, ◌*◌, ◌≤◌, ◌<◌}
use mathlib.Core.Path.{◌≡◌, refl, sym, ap, subst, ◌∙◌}
use mathlib.Core.Bool.{true, false}
use mathlib.Core.List.{List, []}
use native.Mathlib.Omega.{arith}
use lib.ListN.{length}
use Rattle.kinds.specs.declared.Answer.TheVariants.{Opened}
use Rattle.segment.specs.Layout.{place_row_at}
use Rattle.segment.specs.Table.{fill}
use Rattle.segment.specs.Fields.{place_words, file_at}
use Rattle.rules.specs.Limits.{files, places}
use Rattle.rules.specs.State.{Built, File, unbuilt, built}
use Rattle.rules.specs.Requests.{opened, say, with_store, put_rec}
use Rattle.rules.specs.Settle.{settle}
use Rattle.rules.specs.Reply.{Reply, answers, leaves, answering}
use Rattle.rules.specs.Open.{first_free, free_id, new_acc, enter, open_rec, purged, open_reader, open_writer}
use Rattle.rules.specs.Desk.{Desk, file_of}
use Rattle.rules.specs.Allocation.{Alloc, place_of}
use Rattle.rules.specs.Memories.{share_at}
use Rattle.laws.proofs.Calls.{free-id}
use Rattle.ring.specs.Ring.{Ranged}
use Rattle.blocks.specs.Writing.{rec_of, Ready}
use Rattle.blocks.specs.Memory.{blocks_bytes}
use Rattle.memory.specs.Memories.{Memories, memories}
use Rattle.memory.specs.Image as image
use Rattle.memory.specs.Fine.{Fine, StandsFor}
use Rattle.accessors.proofs.Counted.{Rows, file-rows}
use Rattle.accessors.proofs.Rows.{shown}
use Rattle.midst.specs.declared.File as hand
use Rattle.midst.specs.File.{file_of_row}
use Rattle.midst.specs.Mid.{Mid, start}
use Rattle.midst.specs.Outcome.{Sound, Outcome, Done}
use Rattle.midst.proofs.Begins.{mid-begin}
use Rattle.midst.proofs.Rows.{mid-enter}
use Rattle.midst.proofs.Walks.{fine-walks}
use Rattle.store.specs.Door.{Stored, Keeps}
use Rattle.store.proofs.Hands.{fine-stored, mid-known, hand-ready, hand-ranged}
use Rattle.opening.specs.Finding.{free_place, next_id, new_row}
use Rattle.opening.specs.Opens.{Each, Writes, Takes}
use Rattle.opening.proofs.Finds.{free-place-is, next-id-is, free-low}
use Rattle.opening.proofs.Purges.{purged-accs}

-- the file that is built is one
abbrev inner : File → Built → Built
inner unbuilt z = z
inner (built b) z = b

pub each_at : {K : Built → Type 0} {f : ℕ} {m : Memories} → Each K f m → (d : Desk) (s : Alloc) (b : Built) → StandsFor m d s
    → file_of d f ≡ built b → (f < files) × K b
each_at {K} h d s b S e =
    let (hf, c, u, k) = h d s S in
    (hf, subst K (ap (λ (x : File). inner x b) (sym u ∙ e)) k)

module _ {K : Built → Type 0} {f : ℕ} {m : Memories} where
  pub each-file : Sound m × Each K f m → f < files
  each-file ((d, s, S), h) = (h d s S).0

module _ {m : Memories} {d : Desk} {s : Alloc} (S : StandsFor m d s) (f : ℕ) (hf : f < files) (b : Built) (e : file_of d f ≡ built b) where
  began : Mid Fine f (start d s m) m (file_of_row (file_at m.segment f)) b
  began = mid-begin S f b hf e

  eight : length b.accs ≡ places
  eight = (shown S f hf b e).eight

  own-rows : Rows m.segment (places * f) b.accs
  own-rows = file-rows m.segment f b eight (shown S f hf b e).rows

  pub place_found : free_place m.segment f ≡ first_free b.accs
  place_found = free-place-is m.segment f b.accs eight own-rows

  free-below : opened b < places → first_free b.accs < places
  unfolding opened
  free-below h = omega (arith, eight, free-low b.accs (omega (arith, eight, h)))

  pub place-low : (acc : ℕ) → acc ≡ free_place m.segment f → opened b < places → acc < places
  place-low acc a h = omega (arith, a, place_found, free-below h)

  pub row-ranged : Ranged (file_of_row (file_at m.segment f)).ring
  row-ranged = hand-ranged began (fine-stored began.good)

  -- a reader
  pub reader-in : (share acc : ℕ) (x : hand.File) (xs' : List ℕ) → opened b < places → acc ≡ free_place m.segment f → x ≡ file_of_row (file_at m.segment f)
      → xs' ≡ fill m.segment (place_row_at (places * f + acc)) (place_words (new_row 1 0 share)) → Mid Fine f (start d s m) (memories xs' m.blocks m.buffers) x (enter (new_acc false 0 share) b)
  unfolding place_words image.place_words new_acc place_of
  reader-in share acc x xs' h a ex w =
      rw (w, ex, a, place_found) (mid-enter {J = Fine} began (new_acc false 0 share) (new_row 1 0 share) (free-below h) refl (fine-walks.enters share b began.good) refl)

  pub reader-done : (share acc : ℕ) (m' : Memories) → acc ≡ free_place m.segment f
      → ((r : Reply) → Outcome f d s (leaves r (settle (enter (new_acc false 0 share) b))) m m')
      → Done f d s (open_reader share b) m m' (Opened acc 0)
  unfolding open_reader answering leaves
  reader-done share acc m' a out = record { outcome = out _; reply = ap (λ (n : ℕ). answers (Opened n 0) []) (sym (a ∙ place_found)) }

  -- a writer: the file in hand, purged or not, takes its open record
  module _ (access : ℕ) (x : hand.File) (takes : Takes access f m.segment x) where
    abbrev c : Built
    c = purged access b

    at-hand : Mid Stored f (start d s m) m x c
    at-hand = takes (start d s m) m.blocks m.buffers b (mid-known began (fine-stored began.good))

    pub writer-ready : ((length m.blocks ≡ blocks_bytes) × (f < files)) × Ready x.words x.ring (share_at f m.blocks) 0
    unfolding open_rec
    writer-ready = hand-ready at-hand at-hand.good (open_rec 1) (omega arith)

    same_place : first_free c.accs ≡ first_free b.accs
    same_place = ap first_free (purged-accs access b)

    id-found : (id : ℕ) → id ≡ next_id m.segment f → id ≡ free_id c.accs
    id-found id i = i ∙ next-id-is m.segment f b.accs eight own-rows ∙ ap free_id (sym (purged-accs access b))

    pub writer_in : (share acc id : ℕ) (y : hand.File) (xs' blocks' : List ℕ) → Writes access b → acc ≡ free_place m.segment f → id ≡ next_id m.segment f
        → Keeps f (put_rec (rec_of 1 id [])) m.blocks x blocks' y → xs' ≡ fill m.segment (place_row_at (places * f + acc)) (place_words (new_row 2 id share))
        → Mid Fine f (start d s m) (memories xs' blocks' m.buffers) y (enter (new_acc true id share) (put_rec (open_rec id) c))
    unfolding place_words image.place_words new_acc place_of open_rec free_id put_rec say with_store
    writer_in share acc id y xs' blocks' h a i keeps w =
        let u : 1 ≤ id = omega (arith, id-found id i, free-id places 1 c.accs) in
        rw (w, a, place_found, ← same_place)
        (mid-enter {J = Fine} (keeps (start d s m) m.segment m.buffers c at-hand)
        (new_acc true id share) (new_row 2 id share) (omega (arith, same_place, free-below h.0)) refl (fine-walks.joins access id share b u h.1 began.good) refl)

    pub writer-done : (share acc id : ℕ) (m' : Memories) → acc ≡ free_place m.segment f → id ≡ next_id m.segment f
        → ((r : Reply) → Outcome f d s (leaves r (settle (enter (new_acc true id share) (put_rec (open_rec id) c)))) m m')
        → Done f d s (open_writer share c) m m' (Opened acc id)
    unfolding open_writer answering leaves
    writer-done share acc id m' a i out =
        subst (λ (n : ℕ). Done f d s (answering (Opened (first_free c.accs) n) (settle (enter (new_acc true n share) (put_rec (open_rec n) c)))) m m' (Opened acc id)) (id-found id i)
        record { outcome = out _; reply = ap (λ (n : ℕ). answers (Opened n id) []) (same_place ∙ sym (a ∙ place_found)) }
