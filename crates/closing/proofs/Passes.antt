-- The walk along the read queue: the reader at its slot waits on, or ends.
use Prim.Native.Nat.{ℕ, ◌-◌, ◌≤◌, ◌<◌}
use mathlib.Core.Path.{◌≡◌, refl, sym, ap, ◌∙◌, subst}
use mathlib.Core.Bool.{Bool, true, false, cond}
use mathlib.Core.List.{List, [], ◌∷◌, ◌++◌, append_assoc}
use mathlib.Core.Option.{Option, some}
use native.Mathlib.Omega.{arith}
use native.Mathlib.Decide.{ℕ_discrete}
use borrow.Author.Tests.{eq-eqb, ne_eqb}
use lib.Dec.{eqb}
use lib.ListN.{length}
use Rattle.occurrences.specs.Count.{bit, count}
use Rattle.occurrences.proofs.Counts.{bit-eq, count-apart}
use Rattle.rules.specs.Limits.{places}
use Rattle.rules.specs.State.{Wanted, Req, reading, ends, Acc, Built}
use Rattle.rules.specs.Requests.{acc_at, with_accs, with_queues, with_timers, alter_acc, say, without, requeue, leave, finish, read_fails, fail_req, fail, with_buffers, request}
use Rattle.rules.specs.Close.{end_readers}
use Rattle.rules.specs.Buffers.{lies}
use Rattle.rules.specs.Allocation.{Alloc, place_of, held_at, own_entry, ends_at, allot, allot_all}
use Rattle.rules.proofs.Split.{pick_true, pick-false}
use Rattle.segment.specs.declared.PlaceRow.{PlaceRow}
use Rattle.segment.specs.Layout.{link_at, read_queue, desk_places}
use Rattle.segment.specs.Fields.{entry_words, entry_at, place_at, place_row_of}
use Rattle.ports.proofs.Chains.{slot_at, slot-after}
use Rattle.ports.proofs.Maps.{map-append, map-in}
use Rattle.requests.specs.Moves.{completed}
use Rattle.laws.specs.Outstanding.{waits_read, waits_write}
use Rattle.laws.specs.Changes.{Ends, read_ends}
use Rattle.laws.proofs.Happenings.{place-of-desk}
use Rattle.memory.specs.Memories.{Memories, memories}
use Rattle.memory.specs.Image.{req_words}
use Rattle.memory.specs.Image as image
use Rattle.midst.specs.declared.File as hand
use Rattle.midst.specs.Mid.{Start, Mid}
use Rattle.midst.proofs.Begins.{mid-place}
use Rattle.midst.proofs.Changes.{Knows, clear, mid-below}
use Rattle.midst.proofs.Lists.{entries_in}
use Rattle.midst.proofs.Requests.{step-finish}
use Rattle.midst.proofs.Cuts.{without-absent}
use Rattle.midst.proofs.Terms.{ends-other, place_other}
use Rattle.midst.proofs.Waits.{allot-snoc}
use Rattle.midst.proofs.Walks.{Owed, fine-walks}
use Rattle.buffers.specs.Buffer.{emptied}
use Rattle.closing.specs.Walk.{end_words, Walk}
use Rattle.closing.proofs.Walks.{Next, once}

-- while a close record is owed, as much is known of a file as the changes of requests ask
pub owed-knows : (n : ℕ) → Knows (Owed n)
owed-knows n = record { agree = λ b h. h.1.0; bounds = λ b h. h.0.0.0 }

bit-one : (t : Bool) → bit t ≡ 1 → t ≡ true
bit-one true e = refl
bit-one false e = absurd (omega arith)

bit-not-one : (t : Bool) → (bit t ≡ 1 → ⊥) → t ≡ false
bit-not-one true n = absurd (n refl)
bit-not-one false n = refl

-- lists

without-seam : (p : ℕ) (xs ys : List ℕ) → count p xs ≡ 0 → count p ys ≡ 0 → without p (xs ++ p ∷ ys) ≡ xs ++ ys
unfolding without count
without-seam p [] ys h k = rw (eq-eqb p p refl) (without-absent p ys k)
without-seam p (x ∷ xs) ys h k = go (ℕ_discrete x p) (without-seam p xs ys (omega arith) k)
  where
    go : Dec (x ≡ p) → without p (xs ++ p ∷ ys) ≡ xs ++ ys → cond (eqb x p) (without p (xs ++ p ∷ ys)) (x ∷ without p (xs ++ p ∷ ys)) ≡ x ∷ (xs ++ ys)
    go (yes e) r = absurd (omega (arith, bit-eq x p e))
    go (no n) r = rw (ne_eqb x p n) (ap (λ (l : List ℕ). x ∷ l) r)

-- the rules, reader by reader

ends-kept : (p : ℕ) (l : List ℕ) (b : Built) (a : Acc) → acc_at b p ≡ some a → a.extended ≡ true → end_readers (p ∷ l) b ≡ end_readers l b
unfolding end_readers
ends-kept p l b a e h = rw (e, end_readers) (pick_true a.extended (end_readers l b) (end_readers l (fail p 2 b)) h)

fails : (p : ℕ) (b : Built) (a : Acc) (w : Wanted) → acc_at b p ≡ some a → a.req ≡ reading w → fail p 2 b ≡ finish p 2 (read_fails 2) b
unfolding fail fail_req
fails p b a w e r = rw (e, fail) (ap (λ (q : Req). fail_req p 2 q b) r)

ends-one : (p : ℕ) (l : List ℕ) (b : Built) (a : Acc) (w : Wanted) → acc_at b p ≡ some a → a.req ≡ reading w → a.extended ≡ false
    → end_readers (p ∷ l) b ≡ end_readers l (finish p 2 (read_fails 2) b)
unfolding end_readers
ends-one p l b a w e r h =
    let i : end_readers (p ∷ l) b ≡ end_readers l (fail p 2 b) = rw (e, end_readers) (pick-false a.extended (end_readers l b) (end_readers l (fail p 2 b)) h) in
    i ∙ ap (end_readers l) (fails p b a w e r)

module _ {n f : ℕ} {o : Start} {m : Memories} {x : hand.File} {from : Built} {slot left : ℕ} (W : Walk (Owed n) f o m x from slot left) where
  abbrev b : Built
  b = W.file

  abbrev t : Alloc
  t = allot_all f b.past o.alloc

  module _ (e : ℕ) (N : Next f o m.segment b W.rest e) where
    below : N.place < places
    below = mid-below W.mid N.place N.acc N.opens

    pub next_place : (entry_at m.segment e).place < desk_places
    next_place = rw N.entry (place-of-desk f N.place W.mid.file below)

    extended-is : (place_at m.segment (entry_at m.segment e).place).extended ≡ bit N.acc.extended
    unfolding place_row_of image.place_words
    extended-is =
        ap (λ (r : PlaceRow). r.extended) (ap (place_at m.segment) N.entry ∙ mid-place W.mid N.place below)
        ∙ ap (λ (z : Option Acc). (place_row_of (image.place_words z)).extended) N.opens

    queue-is : b.rq ≡ W.kept ++ N.place ∷ N.others
    queue-is = W.queue ∙ ap (λ (l : List ℕ). W.kept ++ l) N.first

    -- the reader waits on
    pub next-kept : (place_at m.segment (entry_at m.segment e).place).extended ≡ 1 → Walk (Owed n) f o m x from (link_at e) (left - 1)
    next-kept h = record {
      file = b;
      kept = W.kept ++ (N.place ∷ []);
      rest = N.others;
      mid = W.mid;
      queue = queue-is ∙ sym (append_assoc W.kept (N.place ∷ []) N.others);
      at = ap (λ (z : ℕ). link_at z) N.own ∙ sym (ap (slot_at (read_queue f)) (map-append (λ y. own_entry (held_at t (place_of f y))) W.kept (N.place ∷ []))
          ∙ slot-after (read_queue f) (entries_in f t W.kept) (own_entry (held_at t (place_of f N.place))));
      few = omega (arith, W.few, ap length N.first);
      same = sym (ends-kept N.place N.others b N.acc N.opens (bit-one N.acc.extended (sym extended-is ∙ h)))
          ∙ ap (λ (l : List ℕ). end_readers l b) (sym N.first) ∙ W.same;
    }

    -- the reader ends
    module _ (h : (place_at m.segment (entry_at m.segment e).place).extended ≡ 1 → ⊥) where
      abbrev c : Built
      c = finish N.place 2 (read_fails 2) b

      only : (count N.place W.kept ≡ 0) × (count N.place N.others ≡ 0)
      only = once W N.place N.others N.first

      ended : allot_all f c.past o.alloc ≡ ends_at (place_of f N.place) t
      unfolding finish leave say with_timers requeue request with_buffers alter_acc with_accs with_queues allot
      ended = allot-snoc f b.past (ends N.place 2) o.alloc

      same_kept : entries_in f (allot_all f c.past o.alloc) W.kept ≡ entries_in f t W.kept
      same_kept =
          map-in (λ y. own_entry (held_at (allot_all f c.past o.alloc) (place_of f y))) (λ y. own_entry (held_at t (place_of f y))) W.kept
          (λ y k. ap own_entry (ap (λ (s : Alloc). held_at s (place_of f y)) ended ∙ ends-other (place_of f N.place) t (place_of f y)
          (place_other f N.place y (count-apart y N.place W.kept k only.0))))

      queue-now : c.rq ≡ W.kept ++ N.others
      unfolding finish leave say with_timers requeue request with_buffers alter_acc with_accs with_queues
      queue-now =
          ap (without N.place) queue-is
          ∙ without-seam N.place W.kept N.others only.0 only.1

      mid_now : (xs' ys' : List ℕ) → xs' ≡ completed m.segment slot (entry_at m.segment e).place (end_words (entry_at m.segment e).place) → ys' ≡ emptied (entry_at m.segment e).place m.buffers
          → Mid (Owed n) f o (memories xs' m.blocks ys') x c
      unfolding end_words req_words waits_read waits_write lies entry_words
      mid_now xs' ys' u v =
          let short : 0 ≤ N.wanted.limit = omega arith in
          let ending : Ends 2 (reading N.wanted) (read_fails 2) = read_ends {x = N.wanted} refl short (omega arith) in
          rw (u, N.entry) (subst (λ (z : ℕ). Mid (Owed n) f o (memories (completed m.segment z (place_of f N.place) (end_words (place_of f N.place))) m.blocks ys') x c) (sym W.at)
          (step-finish (owed-knows n) W.mid N.place N.acc N.opens false 2 (reading N.wanted) (read_fails 2) N.asks refl
          ending W.kept N.others queue-is only.0 ys'
          (fine-walks.endings n N.place 2 (read_fails 2) N.acc (reading N.wanted) b N.opens N.asks ending W.mid.good)
          (clear f N.place (read_fails 2) m.buffers refl (v ∙ ap (λ (i : ℕ). emptied i m.buffers) N.entry))))

      pub next-ended : (xs' ys' : List ℕ) → xs' ≡ completed m.segment slot (entry_at m.segment e).place (end_words (entry_at m.segment e).place) → ys' ≡ emptied (entry_at m.segment e).place m.buffers
          → Walk (Owed n) f o (memories xs' m.blocks ys') x from slot (left - 1)
      next-ended xs' ys' u v = record {
        file = c;
        kept = W.kept;
        rest = N.others;
        mid = mid_now xs' ys' u v;
        queue = queue-now;
        at = W.at ∙ ap (slot_at (read_queue f)) (sym same_kept);
        few = omega (arith, W.few, ap length N.first);
        same = sym (ends-one N.place N.others b N.acc N.wanted N.opens N.asks (bit-not-one N.acc.extended (λ z. h (extended-is ∙ z))))
            ∙ ap (λ (l : List ℕ). end_readers l b) (sym N.first) ∙ W.same;
      }
