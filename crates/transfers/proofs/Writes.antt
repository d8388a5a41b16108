-- What an accepted write does: its record is put, or it waits, or it ends.
use Prim.Native.Nat.{ℕ, ◌+◌, ◌*◌, ◌≤◌, ◌<◌}
use mathlib.Core.Path.{◌≡◌, refl, sym, ap, ap₂, ◌∙◌, subst}
use mathlib.Core.Bool.{Bool, true, false, cond, ◌&&◌}
use mathlib.Core.List.{List, [], ◌∷◌}
use mathlib.Core.Option.{some}
use native.Mathlib.Omega.{arith}
use borrow.Author.Tests.{lt-ltb, le-ltb, leb-true}
use lib.Dec.{ltb}
use lib.ListN.{length}
use lib.Seq.{sets}
use Rattle.kinds.specs.declared.Answer.TheVariants.{Written, Status}
use Rattle.occurrences.specs.Count.{bit}
use Rattle.rules.specs.Limits.{entries, buffer_bytes, files}
use Rattle.rules.specs.State.{Rec, Offered, Req, writing, idle, Acc, Built}
use Rattle.rules.specs.TransferCounts.{in_words, count_bytes, log_of}
use Rattle.rules.specs.Requests.{readers, writers, fits, acc_at, with_store, with_accs, alter_acc, say, put_rec, begun, wait}
use Rattle.rules.specs.Settle.{data_rec, settle}
use Rattle.rules.specs.Reply.{answers, leaves, answering, status}
use Rattle.rules.specs.Transfer.{may_wait, is_nil, write_on}
use Rattle.rules.specs.Calls.{ask}
use Rattle.rules.specs.Calls as calls
use Rattle.rules.specs.Desk.{Desk, on, file_of, answered}
use Rattle.rules.specs.Allocation.{Alloc, place_of}
use Rattle.rules.specs.Memories.{share_at}
use Rattle.rules.proofs.Split.{pick_true, pick-false, and_left}
use Rattle.laws.specs.Outstanding.{waits_read, waits_write}
use Rattle.laws.proofs.Accessors.{writers-with_req, wait-keeps}
use Rattle.laws.proofs.Calls.{begun-mild}
use Rattle.segment.specs.declared.PlaceRow.{PlaceRow}
use Rattle.segment.specs.Layout.{write_queue, free_list, segment_bytes}
use Rattle.segment.specs.Table.{nth}
use Rattle.segment.specs.Fields.{entry_words, file_at, place_at}
use Rattle.requests.specs.Moves.{queued, waiting}
use Rattle.rules.specs.Buffers.{filled}
use Rattle.ring.specs.Ring as ring
use Rattle.blocks.specs.Memory.{blocks_bytes}
use Rattle.blocks.specs.Writing.{rec_of, Ready}
use Rattle.accessors.specs.Sides.{count_side}
use Rattle.memory.specs.Memories.{Memories, memories}
use Rattle.memory.specs.Image.{req_words}
use Rattle.memory.specs.Fine.{Fine, StandsFor}
use Rattle.midst.specs.declared.File as hand
use Rattle.midst.specs.File.{file_of_row, RowStands}
use Rattle.midst.specs.Mid.{Start, Mid, start}
use Rattle.midst.specs.Outcome.{refusal_of}
use Rattle.midst.specs.Accepted.{NotRefused, WriteKnown}
use Rattle.midst.proofs.Accepted.{accepted-write}
use Rattle.midst.proofs.Begins.{mid-lengths}
use Rattle.midst.proofs.Changes.{fine-knows, stands-rest}
use Rattle.midst.proofs.Heads.{head-none, head-some}
use Rattle.midst.proofs.Requests.{step-wait-free, step-wait-write}
use Rattle.midst.proofs.Walks.{fine-walks}
use Rattle.store.specs.Door.{put_in, Keeps, fits_ring}
use Rattle.store.proofs.Hands.{fine-stored, hand-ready, through}
use Rattle.store.proofs.Room.{fits-is}
use Rattle.settling.proofs.Beside.{mid-writers}
use Rattle.transfers.specs.Rows.{may_wait_row, admits, write_entry}
use Rattle.transfers.specs.Acts.{Acts}
use Rattle.transfers.proofs.Named.{Named, begin-mid}
use Rattle.transfers.proofs.Fits.{Fit, fit}
use Rattle.transfers.proofs.Begun.{Seen, begun-mid, at-begun, row-id, row-timeout, row-waits, begun-readers, begun-writers, begun-rowed, row-side}

and-false : (t : Bool) → t && false ≡ false
and-false true = refl
and-false false = refl

and-all : (t : Bool) → t && true ≡ t
and-all true = refl
and-all false = refl

-- who waits was open before
wait-writers : (p n : ℕ) (q : Req) (b : Built) → writers (wait true p n q b) ≡ writers b
wait-writers p n q b = wait-keeps (λ (c : Built). writers c ≡ writers b) true p n q b (λ r w ts hs. unfold writers in writers-with_req q b p)

-- the write queue is empty exactly where its head is no entry's number
admits-is : {f : ℕ} {o : Start} {m : Memories} {x : hand.File} {b : Built} → Mid Fine f o m x b → admits m.segment f x.ring ≡ fits b && is_nil b.wq
unfolding admits
admits-is {f} {o} {m} {x} {b} M = go b.wq refl
  where
    go : (l : List ℕ) → b.wq ≡ l → admits m.segment f x.ring ≡ fits b && is_nil l
    go [] e =
        ap (λ (t : Bool). cond t false (fits_ring x.ring (count_side m.segment f 2))) (le-ltb (nth m.segment (write_queue f)) entries (head-none M true e))
        ∙ fits-is M ∙ (unfold is_nil in sym (and-all (fits b)))
    go (p ∷ rest) e =
        ap (λ (t : Bool). cond t false (fits_ring x.ring (count_side m.segment f 2))) (lt-ltb (nth m.segment (write_queue f)) entries (head-some M true p rest e).0)
        ∙ (unfold is_nil in sym (and-false (fits b)))

-- a write that is not refused, of a desk that the memories stand for
pub record Writing (m : Memories) (f p n : ℕ) (v : List ℕ) (d : Desk) (s : Alloc) : Type 0 where
  pub stands : StandsFor m d s
  pub accepted : refusal_of (answered d (on f (calls.write p n v))).reply ≡ 0
  pub size : length v ≡ count_bytes n

-- what the code of a write has seen where the write is taken
pub record Admitted (m : Memories) (f p : ℕ) (x : hand.File) (row : PlaceRow) (xs : List ℕ) : Type 0 where
  pub seen : Seen m f p x row xs
  pub fits : true ≡ admits m.segment f x.ring

-- what the code of a write has seen where the write is not taken; t is whether its count is in words
pub record Untaken (m : Memories) (f p n : ℕ) (x : hand.File) (row : PlaceRow) (xs : List ℕ) (t : Bool) : Type 0 where
  pub seen : Seen m f p x row xs
  pub full : false ≡ admits m.segment f x.ring
  pub words : t ≡ in_words n

module _ {m : Memories} {f p n : ℕ} {v : List ℕ} {d : Desk} {s : Alloc} (W : Writing m f p n v d s) where
  abbrev known : NotRefused (WriteKnown p n v) d f (calls.write p n v)
  known = accepted-write d f p n v W.accepted

  abbrev named : Named d f p
  named = record { file = known.file; b = known.b; stands = known.stands; a = known.known.a; at = known.known.at }

  abbrev b : Built
  b = known.b

  abbrev a : Acc
  a = known.known.a

  abbrev o : Start
  o = start d s m

  abbrev b₁ : Built
  b₁ = alter_acc p begun b

  opens : acc_at b₁ p ≡ some (begun a)
  opens = at-begun W.stands named

  write-short : length v ≤ 2 * b.geo.words
  write-short = omega (arith, W.size, leb-true (count_bytes n) (2 * b.geo.words) known.known.count)

  -- what the code asks
  pub write-fit : Fit m f p
  write-fit = fit W.stands named

  pub write_bytes : length v ≤ buffer_bytes
  write_bytes = omega (arith, write-short, (begin-mid W.stands named refl).good.room.geo.words-high)

  -- it is a writer's
  pub write-side : (place_at m.segment (place_of f p)).side ≡ 2
  write-side = row-side W.stands named refl ∙ ap (λ (t : Bool). 1 + bit t) known.known.side

  -- what a put of its data asks
  pub write-ready : {x : hand.File} → x ≡ file_of_row (file_at m.segment f)
      → ((length m.blocks ≡ blocks_bytes) × (f < files)) × Ready x.words x.ring (share_at f m.blocks) (length v)
  unfolding data_rec
  write-ready took = let M = begin-mid W.stands named took in hand-ready M (fine-stored M.good) (data_rec a v) write-short

  -- the ring's numbers are in their ranges
  pub write-ranged : {x : hand.File} → x ≡ file_of_row (file_at m.segment f) → ring.Ranged x.ring
  write-ranged took = (write-ready took).1.ranged

  -- the code has begun, and has seen what it needs
  module _ {x : hand.File} {row : PlaceRow} {xs₁ : List ℕ} (u : Seen m f p x row xs₁) where
    abbrev M : Mid Fine f o m x b
    M = begin-mid W.stands named u.file

    N : Mid Fine f o (memories xs₁ m.blocks m.buffers) x b₁
    N = begun-mid W.stands named u

    -- the writers that were counted are open still
    pub write-beside : {k : ℕ} → k ≡ count_side m.segment f 2 → k ≡ count_side xs₁ f 2
    write-beside e = e ∙ mid-writers M ∙ sym (begun-writers W.stands named u)

  -- its record is put
  module _ {x : hand.File} {row : PlaceRow} {xs₁ : List ℕ} (h : Admitted m f p x row xs₁) where
    now : fits b && is_nil b.wq ≡ true
    now = sym (admits-is (M h.seen)) ∙ sym h.fits

    abbrev r : Rec
    r = data_rec a v

    fine-put : Fine (put_rec r b₁)
    unfolding put_rec say with_store alter_acc with_accs
    fine-put =
        fine-walks.mild p begun (put_rec r b) begun-mild
        (fine-walks.writes p a v b known.known.at known.known.side write-short (and_left (fits b) _ now) (M h.seen).good)

    put-out : ask (file_of d f) (calls.write p n v) ≡ leaves (answers (Written (log_of (in_words n) (length v))) []) (settle (put_rec r b₁))
    unfolding write_on answering put_rec say with_store alter_acc with_accs
    put-out = known.known.out ∙ pick_true (fits b && is_nil b.wq) _ _ now

    pub write-put : {blocks₁ : List ℕ} {y : hand.File} {id log : ℕ} {t : Bool} → id ≡ row.id → Keeps f (put_rec (rec_of 0 id v)) m.blocks x blocks₁ y → log ≡ log_of t (length v) → t ≡ in_words n
        → Acts f o (ask (file_of d f) (calls.write p n v)) (memories xs₁ blocks₁ m.buffers) y (Written log) []
    unfolding data_rec
    write-put {blocks₁} {y} ei keeps el et = record {
      acted = put_rec r b₁;
      mid =
          through (N h.seen) (put_rec r) blocks₁ y
          (subst (λ (k : ℕ). Keeps f (put_rec (rec_of 0 k v)) m.blocks x blocks₁ y) (ei ∙ row-id W.stands named h.seen.place) keeps) (fine-stored (N h.seen).good) fine-put;
      out = put-out ∙ ap (λ (k : ℕ). leaves (answers (Written k) []) (settle (put_rec r b₁))) (sym (el ∙ ap (λ (w : Bool). log_of w (length v)) et));
    }

    pub write-rowed : {y : hand.File} → y ≡ put_in x → RowStands xs₁ f y
    write-rowed {y} e =
        begun-rowed W.stands named h.seen y
        (ap (λ (z : hand.File). z.words) e) (ap (λ (z : hand.File). z.ring.factor) e) (ap (λ (z : hand.File). z.ring.blocks) e)

  -- it is not
  module _ {x : hand.File} {row : PlaceRow} {xs₁ : List ℕ} {t : Bool} (h : Untaken m f p n x row xs₁ t) where
    abbrev H : Mid Fine f o (memories xs₁ m.blocks m.buffers) x b₁
    H = N h.seen

    never : fits b && is_nil b.wq ≡ false
    never = sym (admits-is (M h.seen)) ∙ sym h.full

    waits-is : may_wait_row (ltb 0 (count_side xs₁ f 1)) row ≡ may_wait (readers b) a
    waits-is = row-waits W.stands named h.seen.place (begun-readers W.stands named h.seen)

    abbrev offered : Offered
    offered = record { by_words = in_words n; bytes = v }

    still : (begun a).req ≡ idle
    unfolding begun
    still = known.known.idles

    -- it waits
    free : (nth xs₁ free_list < entries) × (nth (queued xs₁ (write_queue f) (write_entry (place_of f p) (in_words n) (length v))) free_list < entries)
    unfolding write_entry req_words waits_read waits_write entry_words
    free = step-wait-free fine-knows H p (begun a) opens (stands-rest W.stands f) true row.timeout (writing offered) still refl

    pub write-free : (length xs₁ ≡ segment_bytes) × (nth xs₁ free_list < entries) × (nth (queued xs₁ (write_queue f) (write_entry (place_of f p) t (length v))) free_list < entries)
    write-free =
        (mid-lengths H, free.0, subst (λ (w : Bool). nth (queued xs₁ (write_queue f) (write_entry (place_of f p) w (length v))) free_list < entries) (sym h.words) free.1)

    module _ (waits : true ≡ may_wait_row (ltb 0 (count_side xs₁ f 1)) row) where
      fine-wait : Fine (wait true p a.timeout (writing offered) b₁)
      unfolding begun alter_acc with_accs
      fine-wait = fine-walks.write_waits p a.timeout offered (begun a) b₁ opens still known.known.side write-short H.good

      wait-out : ask (file_of d f) (calls.write p n v) ≡ leaves (answers (Status 4 1) []) (settle (wait true p a.timeout (writing offered) b₁))
      unfolding write_on status answering
      wait-out = known.known.out ∙ pick-false (fits b && is_nil b.wq) _ _ never ∙ pick_true (may_wait (readers b) a) _ _ (sym (waits ∙ waits-is))

      module _ {xs₂ buffers₂ : List ℕ} (ex : xs₂ ≡ waiting xs₁ (write_queue f) (write_entry (place_of f p) t (length v)) (place_of f p) row.timeout)
          (eb : buffers₂ ≡ sets m.buffers (buffer_bytes * place_of f p) (filled v)) where
        wait-mid : Mid Fine f o (memories xs₂ m.blocks buffers₂) x (wait true p a.timeout (writing offered) b₁)
        unfolding write_entry req_words entry_words
        wait-mid =
            subst (λ (ys : List ℕ). Mid Fine f o (memories ys m.blocks buffers₂) x (wait true p a.timeout (writing offered) b₁))
            (sym (ex ∙ ap₂ {C = List ℕ} (λ (w : Bool) (k : ℕ). waiting xs₁ (write_queue f) (write_entry (place_of f p) w (length v)) (place_of f p) k) h.words
            (row-timeout W.stands named h.seen.place)))
            (step-wait-write fine-knows H p (begun a) opens (stands-rest W.stands f) a.timeout still offered buffers₂ write_bytes fine-wait eb)

        pub write-waits : Acts f o (ask (file_of d f) (calls.write p n v)) (memories xs₂ m.blocks buffers₂) x (Status 4 1) []
        write-waits = record { acted = wait true p a.timeout (writing offered) b₁; mid = wait-mid; out = wait-out }

        pub waits-beside : {k : ℕ} → k ≡ count_side m.segment f 2 → k ≡ count_side xs₂ f 2
        waits-beside e = write-beside h.seen e ∙ mid-writers H ∙ sym (wait-writers p a.timeout (writing offered) b₁) ∙ sym (mid-writers wait-mid)

    -- it ends
    pub write-ends : false ≡ may_wait_row (ltb 0 (count_side xs₁ f 1)) row → Acts f o (ask (file_of d f) (calls.write p n v)) (memories xs₁ m.blocks m.buffers) x (Status 4 2) []
    unfolding write_on status answering
    write-ends e = record {
      acted = b₁;
      mid = H;
      out = known.known.out ∙ pick-false (fits b && is_nil b.wq) _ _ never ∙ pick-false (may_wait (readers b) a) _ _ (sym (e ∙ waits-is));
    }
