-- The count of the data records, from cursor to cursor.
use Prim.Native.Nat.{ℕ, ◌+◌, ◌≤◌, ◌<◌}
use mathlib.Core.Path.{◌≡◌, ap, ◌∙◌}
use mathlib.Core.Bool.{cond}
use mathlib.Core.List.{List}
use native.Mathlib.Omega.{arith}
use lib.Dec.{eqb}
use borrow.Author.Tests.{eq-eqb, ne_eqb}
use Rattle.rules.specs.FileCounts.{data_count}
use Rattle.shares.specs.Back.{rec_at}
use Rattle.ring.specs.declared.Ring.{Ring}
use Rattle.ring.specs.Ring.{Ranged, advanced}
use Rattle.ring.proofs.Laws.{advanced-held}
use Rattle.records.specs.declared.reading.Record.{Record}
use Rattle.records.specs.declared.cursor.Cursor.{Cursor}
use Rattle.records.specs.Reading.{header_of}
use Rattle.records.specs.Cursor.{held_recs, AtRecord}
use Rattle.records.proofs.cursor.Laws.{recs-none, stands-recs}

-- what a type adds
pub adds_one : (t : ℕ) → t ≡ 0 → (◌≡◌ {A = ℕ} 1 (cond (eqb t 0) 1 0)) × (1 ≤ 1)
adds_one t e = (rw (eq-eqb t 0 e), omega arith)

pub adds_none : (t : ℕ) → (t ≡ 0 → ⊥) → (◌≡◌ {A = ℕ} 0 (cond (eqb t 0) 1 0)) × (0 ≤ 1)
adds_none t e = (rw (ne_eqb t 0 e), omega arith)

-- with the cursor so far the count of the ring's records has lost nothing
pub record Counting (w : ℕ) (xs : List ℕ) (r : Ring) (c : Cursor) (found : ℕ) : Type 0 where
  pub stands : AtRecord w xs c
  pub low : found + c.ring.held ≤ r.held
  pub same : data_count (held_recs w r xs) ≡ found + data_count (held_recs w c.ring xs)

pub count-start : (w : ℕ) (xs : List ℕ) (c : Cursor) → AtRecord w xs c → Counting w xs c.ring c 0
count-start w xs c S = record { stands = S; low = omega arith; same = omega arith }

module _ (w : ℕ) (xs : List ℕ) (r : Ring) (c : Cursor) (found : ℕ) (k : Counting w xs r c found) where
  pub count-end : c.ring.held ≤ 0 → found ≡ data_count (held_recs w r xs)
  unfolding data_count
  count-end l = omega (arith, k.same, ap data_count (recs-none w c.ring xs l))

  module _ (l : 0 < c.ring.held) where
    -- the count fits its 16 bits
    pub count_low : Ranged r → found + 1 < 65536
    count_low o = omega (arith, k.low, l, o.used, o.room)

    -- a turn
    pub count-on : (t : Record) (n : ℕ) → t ≡ header_of (rec_at xs c.at) → n ≡ cond (eqb t.typ 0) 1 0 → n ≤ 1 → (d : Cursor) → d.ring ≡ advanced c.ring → AtRecord w xs d
        → Counting w xs r d (found + n)
    unfolding data_count
    count-on t n a b m d e S =
        let i : n ≡ cond (eqb (rec_at xs c.at).typ 0) 1 0 = b ∙ ap (λ (q : Record). cond (eqb q.typ 0) 1 0) a in
        let z : data_count (held_recs w d.ring xs) ≡ data_count (held_recs w (advanced c.ring) xs) = ap (λ (q : Ring). data_count (held_recs w q xs)) e in
        record {
          stands = S;
          low = omega (arith, k.low, m, ap (λ (q : Ring). q.held) e, advanced-held c.ring l);
          same = omega (arith, k.same, ap data_count (stands-recs w xs c k.stands l), i, z);
        }
