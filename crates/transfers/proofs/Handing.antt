-- What an accepted read does: it is handed a record, or it waits, or it ends.
use Prim.Native.Nat.{ℕ, ◌*◌, ◌+◌, ◌≤◌, ◌<◌}
use mathlib.Core.Path.{◌≡◌, refl, sym, ap, ap₂, ◌∙◌, subst}
use mathlib.Core.Bool.{Bool, true, false}
use mathlib.Core.List.{List, []}
use mathlib.Core.Option.{Option, none, some}
use native.Mathlib.Omega.{arith}
use lib.Dec.{ltb, eqb}
use lib.ListN.{length}
use lib.Seq.{sets}
use Rattle.occurrences.specs.Count.{bit}
use Rattle.kinds.specs.declared.Answer.TheVariants.{Read, Status}
use Rattle.words.specs.Word.{zeros}
use Rattle.rules.specs.Limits.{entries, buffer_bytes, answer_head, files}
use Rattle.rules.specs.State.{Rec, Wanted, reading, idle, Acc, Built}
use Rattle.rules.specs.Store.{fetch, Found}
use Rattle.rules.specs.TransferCounts.{in_words, count_bytes, log_of}
use Rattle.rules.specs.Requests.{writers, acc_at, with_store, with_accs, alter_acc, say, behind, begun, wait}
use Rattle.rules.specs.Settle.{handed, settle}
use Rattle.rules.specs.Answers.{answer_bytes}
use Rattle.rules.specs.Reply.{answers, Out, leaves, answering, status}
use Rattle.rules.specs.Transfer.{may_wait, read_on}
use Rattle.rules.specs.Calls.{ask}
use Rattle.rules.specs.Calls as calls
use Rattle.rules.specs.Desk.{Desk, on, file_of, answered}
use Rattle.rules.specs.Allocation.{Alloc, place_of}
use Rattle.rules.specs.Memories.{share_at}
use Rattle.rules.proofs.Split.{pick_true, pick-false}
use Rattle.laws.specs.Outstanding.{waits_read, waits_write}
use Rattle.laws.proofs.Calls.{readable-bytes}
use Rattle.laws.proofs.Walk.{behind-at, length-handed}
use Rattle.segment.specs.declared.PlaceRow.{PlaceRow}
use Rattle.segment.specs.Layout.{read_queue, free_list, segment_bytes}
use Rattle.segment.specs.Table.{nth}
use Rattle.segment.specs.Fields.{entry_words, file_at, place_at}
use Rattle.requests.specs.Moves.{queued, waiting}
use Rattle.blocks.specs.Memory.{blocks_bytes}
use Rattle.ring.specs.Ring.{geo, ring_of}
use Rattle.ring.specs.Held.{Held}
use Rattle.shares.specs.Back.{rec_at}
use Rattle.accessors.specs.Sides.{count_side}
use Rattle.memory.specs.Memories.{Memories, memories}
use Rattle.memory.specs.Image.{req_words}
use Rattle.memory.specs.Fine.{Fine, StandsFor}
use Rattle.midst.specs.declared.File as hand
use Rattle.midst.specs.File.{file_of_row, RowStands}
use Rattle.midst.specs.Mid.{Start, Mid, start}
use Rattle.midst.specs.Outcome.{refusal_of}
use Rattle.midst.specs.Accepted.{NotRefused, ReadKnown}
use Rattle.midst.proofs.Accepted.{accepted-read}
use Rattle.midst.proofs.Begins.{mid-lengths}
use Rattle.midst.proofs.Changes.{fine-knows, stands-rest}
use Rattle.midst.proofs.Requests.{step-wait-free, step-wait-read}
use Rattle.midst.proofs.Walks.{fine-walks}
use Rattle.store.specs.declared.Fetched.{Fetched}
use Rattle.store.specs.Door.{Keeps, fetching, Gets}
use Rattle.store.proofs.Hands.{fine-stored, hand-held}
use Rattle.store.proofs.Readers.{handed-same, fetched-mid, fetched-none, fetched-some}
use Rattle.settling.specs.Turns.{Counts}
use Rattle.settling.proofs.FirstReader.{bit-one}
use Rattle.settling.proofs.Beside.{mid-counts}
use Rattle.transfers.specs.Rows.{may_wait_row, read_entry}
use Rattle.transfers.specs.Acts.{Hands}
use Rattle.transfers.proofs.Named.{Named, begin-mid}
use Rattle.transfers.proofs.Fits.{Fit, fit}
use Rattle.transfers.proofs.Begun.{Seen, begun-mid, begun-rowed, at-begun, row-side, row-timeout, row_keep, row_typed, row-waits, begun-writers}

pick-none : (o : Option Rec) (x : Out) (g : Rec → Out) → o ≡ none → elim o [ some r ↦ g r | none ↦ x ] ≡ x
pick-none o x g e = rw e refl

pick_some : (o : Option Rec) (x : Out) (g : Rec → Out) (d : Rec) → o ≡ some d → elim o [ some r ↦ g r | none ↦ x ] ≡ g d
pick_some o x g d e = rw e refl

-- a read that is not refused, of a desk that the memories stand for
pub record Reading (ms : Memories) (f p n : ℕ) (d : Desk) (s : Alloc) : Type 0 where
  pub stands : StandsFor ms d s
  pub accepted : refusal_of (answered d (on f (calls.read p n))).reply ≡ 0

-- what the code of a read has seen when it has fetched: the two rows, and what the fetch gave
pub record Fetches (ms : Memories) (f p : ℕ) (x : hand.File) (row : PlaceRow) (xs : List ℕ) (z : Fetched) : Type 0 where
  pub seen : Seen ms f p x row xs
  pub keeps : (q : ℕ) → Keeps f (fetching q (eqb row.typed 1) (eqb row.keep 1)) ms.blocks x ms.blocks z.file
  pub gets : Gets f (eqb row.typed 1) (eqb row.keep 1) ms.blocks x z

-- what the code of a read has seen where it finds a record: the file's share, whether types are handed out, and how many bytes at most
pub record Served (ms : Memories) (f p n : ℕ) (x : hand.File) (row : PlaceRow) (xs : List ℕ) (z : Fetched) (own : List ℕ) (typ limit : ℕ) : Type 0 where
  pub fetches : Fetches ms f p x row xs z
  pub got : z.got ≡ true
  pub share : own ≡ share_at f ms.blocks
  pub typed : typ ≡ row.typed
  pub counted : limit ≡ count_bytes n

-- what the code of a read has seen where it finds no record: whether the count is in words, and how many bytes at most
pub record Unserved (ms : Memories) (f p n : ℕ) (x : hand.File) (row : PlaceRow) (xs : List ℕ) (z : Fetched) (t : Bool) (limit : ℕ) : Type 0 where
  pub fetches : Fetches ms f p x row xs z
  pub empty : z.got ≡ false
  pub words : t ≡ in_words n
  pub counted : limit ≡ count_bytes n

module _ {ms : Memories} {f p n : ℕ} {d : Desk} {s : Alloc} (R : Reading ms f p n d s) where
  abbrev known : NotRefused (ReadKnown p n) d f (calls.read p n)
  known = accepted-read d f p n R.accepted

  abbrev named : Named d f p
  named = record { file = known.file; b = known.b; stands = known.stands; a = known.known.a; at = known.known.at }

  abbrev b : Built
  b = known.b

  abbrev a : Acc
  a = known.known.a

  abbrev o : Start
  o = start d s ms

  abbrev F : Found
  F = fetch b.geo a.typed a.keep b.store

  -- the file when it has begun, and after what it finds
  abbrev b₁ : Built
  b₁ = alter_acc p begun b

  abbrev c : Built
  c = behind p F b₁

  opens : acc_at c p ≡ some (begun a)
  opens = behind-at p F b₁ ∙ at-begun R.stands named

  read-limit : count_bytes n ≤ buffer_bytes
  read-limit = readable-bytes n known.known.count

  -- what the code asks
  pub read-fit : Fit ms f p
  read-fit = fit R.stands named

  pub read_held : {x : hand.File} → x ≡ file_of_row (file_at ms.segment f) → ((length ms.blocks ≡ blocks_bytes) × (f < files)) × Held x.words x.ring (share_at f ms.blocks)
  read_held took = let M = begin-mid R.stands named took in hand-held M (fine-stored M.good)

  -- it is a reader's
  pub read-side : (place_at ms.segment (place_of f p)).side ≡ 1
  read-side = row-side R.stands named refl ∙ ap (λ (t : Bool). 1 + bit t) known.known.side

  -- the code has begun, and has seen what it needs
  module _ {x : hand.File} {row : PlaceRow} {xs₁ : List ℕ} {z : Fetched} (v : Fetches ms f p x row xs₁ z) where
    N : Mid Fine f o (memories xs₁ ms.blocks ms.buffers) x b₁
    N = begun-mid R.stands named v.seen

    pub read-counts : Counts f xs₁
    read-counts = mid-counts N N.good.queues N.good.sides

    typed-is : eqb row.typed 1 ≡ a.typed
    typed-is = row_typed R.stands named v.seen.place

    keep-is : row.keep ≡ bit a.keep
    keep-is = row_keep R.stands named v.seen.place

    is-kept : eqb row.keep 1 ≡ a.keep
    is-kept = ap (λ (k : ℕ). eqb k 1) keep-is ∙ bit-one a.keep

    B : Mid Fine f o (memories xs₁ ms.blocks ms.buffers) z.file c
    unfolding alter_acc with_accs
    B = fetched-mid N _ _ z p (v.keeps p) v.gets a.typed a.keep typed-is is-kept

    pub read-rowed : RowStands xs₁ f z.file
    unfolding behind say with_store alter_acc with_accs
    read-rowed =
        begun-rowed R.stands named v.seen z.file
        (ap (λ (y : hand.File). y.words) same) (ap (λ (y : hand.File). y.ring.factor) same) (ap (λ (y : hand.File). y.ring.blocks) same)
      where
        same : ◌≡◌ {A = hand.File} z.file (record { words = x.words; ring = ring_of (geo x.words x.ring) F.store })
        same = B.row ∙ ap (λ (y : hand.File). record { words = y.words; ring = ring_of (geo y.words y.ring) F.store }) (sym N.row)

  -- a record
  module _ {x : hand.File} {row : PlaceRow} {xs₁ : List ℕ} {z : Fetched} {own : List ℕ} {typ limit : ℕ} (w : Served ms f p n x row xs₁ z own typ limit) where
    abbrev r : Rec
    r = rec_at (share_at f ms.blocks) z.at

    abbrev D : List ℕ
    D = handed a.typed (count_bytes n) r

    bytes-are : handed (eqb typ 1) limit (rec_at own z.at) ≡ D
    bytes-are = handed-same _ _ _ _ own _ z.at (ap (λ (k : ℕ). eqb k 1) w.typed ∙ typed-is w.fetches) w.counted w.share

    pub read_short : length (handed (eqb typ 1) limit (rec_at own z.at)) ≤ buffer_bytes
    read_short = omega (arith, ap length bytes-are, length-handed a.typed (count_bytes n) r, read-limit)

    handed_out : ask (file_of d f) (calls.read p n) ≡ leaves (answers (Read (log_of (in_words n) (length D))) D) (settle c)
    unfolding read_on behind say with_store alter_acc with_accs
    handed_out =
        let v = w.fetches in
        known.known.out ∙ pick_some F.got _ _ r (fetched-some (N v) _ _ z p (v.keeps p) v.gets a.typed a.keep (typed-is v) (is-kept v) w.got)

    pub read-gives : {memory memory' : List ℕ} {size log : ℕ} {t : Bool}
        → size ≡ length (handed (eqb typ 1) limit (rec_at own z.at))
        → memory' ≡ sets memory answer_head (handed (eqb typ 1) limit (rec_at own z.at))
        → log ≡ log_of t size → t ≡ in_words n
        → Hands f o (ask (file_of d f) (calls.read p n)) (memories xs₁ ms.blocks ms.buffers) memory memory' z.file (Read log) size
    unfolding answer_bytes
    read-gives {memory = memory} es em el et = record {
      bytes = D;
      acts = record {
        acted = c;
        mid = B w.fetches;
        out = handed_out ∙ ap (λ (k : ℕ). leaves (answers (Read k) D) (settle c)) (sym (el ∙ ap₂ {C = ℕ} log_of et (es ∙ ap length bytes-are)));
      };
      size = es ∙ ap length bytes-are;
      most = omega (arith, es, read_short);
      behind = em ∙ ap (sets memory answer_head) bytes-are;
    }

  -- none
  module _ {x : hand.File} {row : PlaceRow} {xs₁ : List ℕ} {z : Fetched} {t : Bool} {limit : ℕ} (u : Unserved ms f p n x row xs₁ z t limit) where
    abbrev v : Fetches ms f p x row xs₁ z
    v = u.fetches

    abbrev wanted : Wanted
    wanted = record { by_words = in_words n; limit = count_bytes n; keep = a.keep }

    nothing : F.got ≡ none
    unfolding alter_acc with_accs
    nothing = fetched-none (N v) _ _ z p (v.keeps p) v.gets a.typed a.keep (typed-is v) (is-kept v) u.empty

    waits-is : may_wait_row (ltb 0 (count_side xs₁ f 2)) row ≡ may_wait (writers b) a
    waits-is = row-waits R.stands named v.seen.place (begun-writers R.stands named v.seen)

    still : (begun a).req ≡ idle
    unfolding begun
    still = known.known.idles

    -- it waits
    entry-is : read_entry (place_of f p) t limit row.keep ≡ req_words (place_of f p) (reading wanted)
    unfolding read_entry req_words entry_words
    entry-is = rw (u.words, u.counted, keep-is v) refl

    pub read-free : (length xs₁ ≡ segment_bytes) × (nth xs₁ free_list < entries) × (nth (queued xs₁ (read_queue f) (read_entry (place_of f p) t limit row.keep)) free_list < entries)
    unfolding waits_read waits_write
    read-free =
        let e = step-wait-free fine-knows (B v) p (begun a) opens (stands-rest R.stands f) false row.timeout (reading wanted) still refl in
        (mid-lengths (B v), e.0, subst (λ (m : List ℕ). nth (queued xs₁ (read_queue f) m) free_list < entries) (sym entry-is) e.1)

    fine-wait : Fine (wait false p a.timeout (reading wanted) c)
    unfolding begun
    fine-wait = fine-walks.read_waits p a.timeout wanted (begun a) c opens still known.known.side read-limit (B v).good

    wait-out : may_wait (writers b) a ≡ true → ask (file_of d f) (calls.read p n) ≡ leaves (answers (Status 3 1) []) (settle (wait false p a.timeout (reading wanted) c))
    unfolding read_on status answering behind say with_store alter_acc with_accs
    wait-out m = known.known.out ∙ pick-none F.got _ _ nothing ∙ pick_true (may_wait (writers b) a) _ _ m

    pub read-waits : {memory xs₂ ys₂ : List ℕ} → true ≡ may_wait_row (ltb 0 (count_side xs₁ f 2)) row
        → xs₂ ≡ waiting xs₁ (read_queue f) (read_entry (place_of f p) t limit row.keep) (place_of f p) row.timeout
        → ys₂ ≡ sets ms.buffers (buffer_bytes * place_of f p) (zeros buffer_bytes)
        → Hands f o (ask (file_of d f) (calls.read p n)) (memories xs₂ ms.blocks ys₂) memory memory z.file (Status 3 1) 0
    read-waits {ys₂ = ys₂} m e l = record {
      bytes = [];
      acts = record {
        acted = wait false p a.timeout (reading wanted) c;
        mid =
            subst (λ (ys : List ℕ). Mid Fine f o (memories ys ms.blocks ys₂) z.file (wait false p a.timeout (reading wanted) c))
            (sym (e ∙ ap₂ {C = List ℕ} (λ (k : List ℕ) (i : ℕ). waiting xs₁ (read_queue f) k (place_of f p) i) entry-is (row-timeout R.stands named v.seen.place)))
            (step-wait-read fine-knows (B v) p (begun a) opens (stands-rest R.stands f) a.timeout still wanted ys₂ fine-wait l);
        out = wait-out (sym (m ∙ waits-is));
      };
      size = refl;
      most = omega arith;
      behind = refl;
    }

    ends-out : may_wait (writers b) a ≡ false → ask (file_of d f) (calls.read p n) ≡ leaves (answers (Status 3 2) []) (settle c)
    unfolding read_on status answering behind say with_store alter_acc with_accs
    ends-out m = known.known.out ∙ pick-none F.got _ _ nothing ∙ pick-false (may_wait (writers b) a) _ _ m

    -- it ends
    pub read-ends : {memory : List ℕ} → false ≡ may_wait_row (ltb 0 (count_side xs₁ f 2)) row
        → Hands f o (ask (file_of d f) (calls.read p n)) (memories xs₁ ms.blocks ms.buffers) memory memory z.file (Status 3 2) 0
    read-ends m = record {
      bytes = [];
      acts = record { acted = c; mid = B v; out = ends-out (sym (m ∙ waits-is)) };
      size = refl;
      most = omega arith;
      behind = refl;
    }
