-- In the midst of a call records are put and go: the share and the file in hand change, and no list, no row of a place, no buffer.
use Prim.Native.Nat.{ℕ, ◌+◌, ◌*◌, ◌≤◌}
use mathlib.Core.Path.{◌≡◌, refl, sym, ap, ◌∙◌, subst}
use mathlib.Core.Bool.{Bool}
use mathlib.Core.List.{List, [], ◌∷◌, ◌++◌, map}
use mathlib.Core.Option.{Option, none, some}
use native.Mathlib.Omega.{arith}
use lib.ListN.{length}
use lib.Seq.{sets, length-sets}
use Rattle.rules.specs.Limits.{share_bytes}
use Rattle.rules.specs.State.{Rec, Hap, puts, drops, Built, built}
use Rattle.rules.specs.Store.{put, fetch}
use Rattle.rules.specs.Requests.{with_store, say, put_rec, took_by, behind, acc_at}
use Rattle.rules.specs.Memories.{share_at}
use Rattle.rules.specs.Desk.{Desk, with_file}
use Rattle.segment.specs.Layout.{file_row}
use Rattle.rules.specs.Allocation.{Alloc, allot, allot_all}
use Rattle.shares.specs.Holds.{InShare}
use Rattle.shares.proofs.Holds.{share-fetch}
use Rattle.laws.specs.Changes.{GoodGeo}
use Rattle.laws.specs.Midst as laws
use Rattle.laws.proofs.Room.{good-sized}
use Rattle.ring.specs.declared.Ring.{Ring}
use Rattle.ring.specs.Ring as ring
use Rattle.ring.specs.Ring.{geo, Fitted}
use Rattle.ring.specs.Held.{Held}
use Rattle.blocks.specs.Writing.{inscribed}
use Rattle.ring.proofs.Stores.{ring-put}
use Rattle.blocks.proofs.Held.{held-inscribed}
use Rattle.shares.proofs.Put.{length-inscribed}
use Rattle.memory.specs.Memories.{Memories, memories}
use Rattle.memory.specs.Image.{acc_of, rq_of, wq_of}
use Rattle.words.proofs.Parts.{sets-whole}
use Rattle.memory.proofs.Frames.{share_at-sets, share_at-sets-other}
use Rattle.midst.specs.declared.File as hand
use Rattle.midst.specs.File.{in_hand}
use Rattle.midst.specs.Seg.{Seg}
use Rattle.midst.specs.Mid.{Start, Mid}
use Rattle.midst.proofs.Alike.{SameLists, lists-alike, boxes-alike}
use Rattle.midst.proofs.Begins.{rows_same}
use Rattle.records.specs.Fetch.{Stores}
use Rattle.laws.proofs.Midst.{mid-walks}

-- the file in hand changes, except for its accessors, buffers and queues
pub record Storing (b c : Built) : Type 0 where
  pub accs : c.accs ≡ b.accs
  pub buffers : c.buffers ≡ b.buffers
  pub reads : c.rq ≡ b.rq
  pub writes : c.wq ≡ b.wq

alike : (b c : Built) → Storing b c → SameLists (built b) (built c)
unfolding acc_of acc_at rq_of wq_of
alike b c S = record { reads = sym S.reads; writes = sym S.writes; reqs = λ p. rw S.accs }

seg-storing : (xs : List ℕ) (d : Desk) (f : ℕ) (b c : Built) (t u : Alloc) → Storing b c → u ≡ t → Seg xs (with_file d f (built b)) t (file_row f) → Seg xs (with_file d f (built c)) u (file_row f)
unfolding acc_of acc_at
seg-storing xs d f b c t u S e G =
    rw e record {
      rows = G.rows;
      boxes = rw (← lists-alike d f (built b) (built c) (alike b c S) t, ← boxes-alike d f (built b) (built c) (alike b c S) t) G.boxes;
      same = λ i h n. G.same i h n ∙ rows_same d f (built b) (built c) (λ p. rw S.accs) i h n;
    }

module _ {I J : Built → Type 0} {f : ℕ} {o : Start} {ms : Memories} {x : hand.File} {b : Built} (M : Mid I f o ms x b) where
  pub mid-storing : (c : Built) (blocks' : List ℕ) → Storing b c → J c → laws.Mid f o.alloc c → allot_all f c.past o.alloc ≡ allot_all f b.past o.alloc
      → share_at f blocks' ≡ c.store.share → length blocks' ≡ length ms.blocks → ((g : ℕ) → (g ≡ f → ⊥) → share_at g blocks' ≡ share_at g ms.blocks)
      → Mid J f o (memories ms.segment blocks' ms.buffers) (in_hand c) c
  mid-storing c blocks' S j m e s n other = record {
    file = M.file;
    eight = M.eight;
    good = j;
    allots = m;
    segment = seg-storing ms.segment o.desk f b c _ _ S e M.segment;
    row = refl;
    share = s;
    buffer = M.buffer ∙ sym S.buffers;
    blocks-size = n ∙ M.blocks-size;
    buffers-size = M.buffers-size;
    apart = record { shares = λ g h k. other g k ∙ M.apart.shares g h k; others = M.apart.others };
  }

-- what a file in hand and its share are for the functions on blocks
module _ {I : Built → Type 0} {f : ℕ} {o : Start} {m : Memories} {x : hand.File} {b : Built} (M : Mid I f o m x b)
    (k : GoodGeo b.geo) (h : InShare b.geo b.store) where
  in-hand : (P : hand.File → Type 0) → P (in_hand b) → P x
  in-hand P p = subst P (sym M.row) p

  pub mid-fitted : Fitted x.words x.ring
  mid-fitted = in-hand (λ y. Fitted y.words y.ring) (record { words = k.words-high; factor = k.factor-high; sized = good-sized b.geo k })

  pub mid-stores : Stores x.words x.ring (share_at f m.blocks) b.store
  mid-stores = in-hand (λ y. Stores y.words y.ring (share_at f m.blocks) b.store) (record { holds = h; ring = refl; share = sym M.share })

  pub mid-held : Held x.words x.ring (share_at f m.blocks)
  mid-held = record { fitted = mid-fitted; store = b.store; holds = mid-stores.holds; ring = mid-stores.ring; share = mid-stores.share }

-- records go

gone_same : (f p : ℕ) (hs : List Hap) (rs : List Rec) (o : Option Rec) (s : Alloc) → allot_all f (hs ++ (map drops rs ++ took_by p o)) s ≡ allot_all f hs s
unfolding allot_all allot took_by
gone_same f p [] [] none s = refl
gone_same f p [] [] (some r) s = refl
gone_same f p [] (r ∷ rs) o s = gone_same f p [] rs o s
gone_same f p (h ∷ hs) rs o s = gone_same f p hs rs o (allot f h s)

puts-same : (f : ℕ) (hs : List Hap) (r : Rec) (s : Alloc) → allot_all f (hs ++ (puts r ∷ [])) s ≡ allot_all f hs s
unfolding allot_all allot
puts-same f [] r s = refl
puts-same f (h ∷ hs) r s = puts-same f hs r (allot f h s)

module _ {I J : Built → Type 0} {f : ℕ} {o : Start} {ms : Memories} {x : hand.File} {b : Built} (M : Mid I f o ms x b) where
  pub mid-behind : (p : ℕ) (typed keep : Bool) → let c : Built = behind p (fetch b.geo typed keep b.store) b in J c → Mid J f o ms (in_hand c) c
  unfolding behind say with_store
  mid-behind p typed keep j =
      mid-storing {J = J} M _ ms.blocks (record { accs = refl; buffers = refl; reads = refl; writes = refl }) j ((mid-walks f M.file o.alloc).fetches p typed keep b M.allots)
      (gone_same f p b.past (fetch b.geo typed keep b.store).went (fetch b.geo typed keep b.store).took o.alloc) (M.share ∙ sym (share-fetch b.geo typed keep b.store)) refl (λ g n. refl)

  -- a record is put
  pub mid-put : (k : GoodGeo b.geo) (h : InShare b.geo b.store) (r : Rec) → J (put_rec r b) → laws.Mid f o.alloc (put_rec r b)
      → Mid J f o (memories ms.segment (sets ms.blocks (share_bytes * f) (inscribed x.words x.ring r (share_at f ms.blocks))) ms.buffers) (record { words = x.words; ring = ring.put x.ring }) (put_rec r b)
  unfolding put_rec say with_store put mid-held
  mid-put k h r j m =
      subst (λ (y : hand.File). Mid J f o (memories ms.segment (sets ms.blocks (share_bytes * f) (inscribed x.words x.ring r (share_at f ms.blocks))) ms.buffers) y (put_rec r b)) hand-put
      (mid-storing {J = J} M _ _ (record { accs = refl; buffers = refl; reads = refl; writes = refl }) j m (puts-same f b.past r o.alloc)
      share-put (length-sets ms.blocks (share_bytes * f) ys) (λ g n. rw at_zero at (share_at-sets-other f 0 ys ms.blocks long g n)))
    where
      ys : List ℕ
      ys = inscribed x.words x.ring r (share_at f ms.blocks)

      at_zero : share_bytes * f + 0 ≡ share_bytes * f
      at_zero = omega arith

      is : ys ≡ (put b.geo r b.store).share
      is =
          held-inscribed x.words x.ring (share_at f ms.blocks) (mid-held M k h) r
          ∙ ap (λ (y : hand.File). (put (geo y.words y.ring) r b.store).share) M.row

      full : length ys ≡ share_bytes
      full = ap length is ∙ length-inscribed b.geo r b.store ∙ h.long

      long : 0 + length ys ≤ share_bytes
      long = omega (arith, full)

      share-put : share_at f (sets ms.blocks (share_bytes * f) ys) ≡ (put b.geo r b.store).share
      share-put =
          ap (λ (n : ℕ). share_at f (sets ms.blocks n ys)) (sym at_zero) ∙ share_at-sets f 0 ys ms.blocks long
          ∙ sets-whole (share_at f ms.blocks) ys (full ∙ sym (ap length M.share ∙ h.long)) ∙ is

      hand-put : in_hand (put_rec r b) ≡ record { words = x.words; ring = ring.put x.ring }
      hand-put =
          ap (λ (z : Ring). record { words = b.geo.words; ring = z }) (ring-put b.geo r b.store)
          ∙ ap (λ (y : hand.File). record { words = y.words; ring = ring.put y.ring }) (sym M.row)
