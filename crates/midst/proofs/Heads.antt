-- The first of a file's queue, as the segment has it in the midst of a call.
use Prim.Native.Nat.{ℕ, ◌≤◌, ◌<◌}
use mathlib.Core.Path.{◌≡◌, refl, ap, ◌∙◌}
use mathlib.Core.Bool.{Bool}
use mathlib.Core.List.{List, [], ◌∷◌}
use mathlib.Core.Option.{Option, none, some}
use native.Mathlib.Omega.{arith}
use lib.ListN.{length, get_or}
use Rattle.occurrences.specs.Count.{count}
use Rattle.occurrences.proofs.Counts.{count_head}
use Rattle.rules.specs.Limits.{entries}
use Rattle.rules.specs.State.{Wanted, Offered, Req, idle, reading, writing, read_done, write_done, Acc, Built, built}
use Rattle.rules.specs.Requests.{acc_at}
use Rattle.rules.specs.Desk.{Desk, with_file}
use Rattle.rules.specs.Allocation.{Alloc, place_of, allot_all}
use Rattle.laws.specs.Outstanding.{req_at, waits_read, waits_write, req_of}
use Rattle.laws.specs.Outstanding as laws
use Rattle.laws.specs.Queues.{Agree}
use Rattle.segment.specs.Layout.{list_count}
use Rattle.segment.specs.Table.{nth, data_of}
use Rattle.ports.proofs.Boxes.{slot-box, data-box}
use Rattle.ports.proofs.Moves.{none-boxes}
use Rattle.memory.specs.Memories.{Memories}
use Rattle.memory.specs.Image.{req_words, lists_of, boxes_of}
use Rattle.memory.proofs.Boxes.{get_or-lists_of, get_or-boxes_of}
use Rattle.midst.specs.declared.File as hand
use Rattle.midst.specs.Seg.{queue_at, side_queue}
use Rattle.midst.specs.Mid.{Start, Mid}
use Rattle.midst.proofs.Begins.{mid-file}
use Rattle.midst.proofs.Lists.{below-side, list-side, box-side, entries_in, words_in}

-- who waits

-- where a read waits
pub reads_in : (b : Built) (p : ℕ) → 1 ≤ waits_read (req_at b.accs p)
    → (a : Acc) × (x : Wanted) × (acc_at b p ≡ some a) × (a.req ≡ reading x)
unfolding acc_at
reads_in b p one = go (get_or b.accs p none) refl
  where
    ask : (o : Option Acc) (a : Acc) (q : Req) → get_or b.accs p none ≡ o → o ≡ some a → a.req ≡ q
        → (c : Acc) × (x : Wanted) × (o ≡ some c) × (c.req ≡ reading x)
    ask o a (reading q) u v z = (a, q, v, z)
    ask o a idle u v z = absurd (unfold waits_read laws.req_of in omega (arith, one, ap waits_read (ap laws.req_of (u ∙ v) ∙ z)))
    ask o a (writing q) u v z = absurd (unfold waits_read laws.req_of in omega (arith, one, ap waits_read (ap laws.req_of (u ∙ v) ∙ z)))
    ask o a (read_done q) u v z = absurd (unfold waits_read laws.req_of in omega (arith, one, ap waits_read (ap laws.req_of (u ∙ v) ∙ z)))
    ask o a (write_done q) u v z = absurd (unfold waits_read laws.req_of in omega (arith, one, ap waits_read (ap laws.req_of (u ∙ v) ∙ z)))

    go : (o : Option Acc) → get_or b.accs p none ≡ o → (a : Acc) × (x : Wanted) × (o ≡ some a) × (a.req ≡ reading x)
    go none u = absurd (unfold waits_read laws.req_of in omega (arith, one, ap waits_read (ap laws.req_of u)))
    go (some a) u = ask (some a) a a.req u refl refl

pub reads_at : (b : Built) (p : ℕ) (rest : List ℕ) → Agree b → b.rq ≡ p ∷ rest
    → (a : Acc) × (x : Wanted) × (acc_at b p ≡ some a) × (a.req ≡ reading x)
reads_at b p rest A e = reads_in b p (omega (arith, (A p).reads, ap (count p) e, count_head p rest))

pub writes_at : (b : Built) (p : ℕ) (rest : List ℕ) → Agree b → b.wq ≡ p ∷ rest
    → (a : Acc) × (x : Offered) × (acc_at b p ≡ some a) × (a.req ≡ writing x)
unfolding acc_at
writes_at b p rest A e = go (get_or b.accs p none) refl
  where
    one : 1 ≤ waits_write (req_at b.accs p)
    one = omega (arith, (A p).writes, ap (count p) e, count_head p rest)

    ask : (o : Option Acc) (a : Acc) (q : Req) → get_or b.accs p none ≡ o → o ≡ some a → a.req ≡ q
        → (c : Acc) × (x : Offered) × (o ≡ some c) × (c.req ≡ writing x)
    ask o a (writing q) u v z = (a, q, v, z)
    ask o a idle u v z = absurd (unfold waits_write laws.req_of in omega (arith, one, ap waits_write (ap laws.req_of (u ∙ v) ∙ z)))
    ask o a (reading q) u v z = absurd (unfold waits_write laws.req_of in omega (arith, one, ap waits_write (ap laws.req_of (u ∙ v) ∙ z)))
    ask o a (read_done q) u v z = absurd (unfold waits_write laws.req_of in omega (arith, one, ap waits_write (ap laws.req_of (u ∙ v) ∙ z)))
    ask o a (write_done q) u v z = absurd (unfold waits_write laws.req_of in omega (arith, one, ap waits_write (ap laws.req_of (u ∙ v) ∙ z)))

    go : (o : Option Acc) → get_or b.accs p none ≡ o → (a : Acc) × (x : Offered) × (o ≡ some a) × (a.req ≡ writing x)
    go none u = absurd (unfold waits_write laws.req_of in omega (arith, one, ap waits_write (ap laws.req_of u)))
    go (some a) u = ask (some a) a a.req u refl refl

-- what the head and its entry say
module _ {I : Built → Type 0} {f : ℕ} {o : Start} {m : Memories} {x : hand.File} {b : Built} (M : Mid I f o m x b) (w : Bool) where
  abbrev d : Desk
  d = with_file o.desk f (built b)

  abbrev t : Alloc
  t = allot_all f b.past o.alloc

  abbrev l : ℕ
  l = queue_at w f

  h : l < list_count
  h = below-side w f M.file

  entries-are : get_or (lists_of d t) l [] ≡ entries_in f t (side_queue w b)
  entries-are = get_or-lists_of d t l h ∙ list-side d t f M.file b (mid-file M) w

  boxes-hold : get_or (boxes_of d t) l [] ≡ words_in f b (side_queue w b)
  boxes-hold = get_or-boxes_of d t l h ∙ box-side d t f M.file b (mid-file M) w

  pub head-none : side_queue w b ≡ [] → entries ≤ nth m.segment (queue_at w f)
  head-none e = omega (arith, (none-boxes M.segment.boxes l h (entries-are ∙ ap (entries_in f t) e)).0)

  pub head-some : (p : ℕ) (rest : List ℕ) → side_queue w b ≡ p ∷ rest
      → (nth m.segment (queue_at w f) < entries) × (data_of m.segment (nth m.segment (queue_at w f)) ≡ req_words (place_of f p) (req_of (acc_at b p)))
  head-some p rest e =
      let k : 0 < length (get_or (lists_of d t) l []) = rw (entries-are, e) (omega arith) in
      let s = slot-box M.segment.boxes l h 0 k in
      (rw s.0 s.1, rw s.0 (data-box M.segment.boxes l h 0 k ∙ ap (λ (q : List (List ℕ)). get_or q 0 []) (boxes-hold ∙ ap (words_in f b) e)))
