-- Whether a block's bytes are laid out as document 01 says: a test of the bytes alone.
use Rattle.std.specs.Prelude.{ℕ, zero, suc, ◌+◌, ◌*◌, ◌%◌, ◌≤◌, Bool, true, false, ◌&&◌, ◌||◌, ◌≡◌, List, [], leb, eqb, get_or}
use Rattle.words.specs.Word.{word_at}
use Rattle.rules.specs.Limits.{most_type}
use Rattle.rules.specs.State.{Rec, Geo}
use Rattle.rules.specs.Store.{block_bytes}
use Rattle.shares.specs.Back.{next}

-- "types 0 to 2, IDs ≥ 1", "none in open and close records"
pub record GoodRec (r : Rec) : Type 0 where
  pub kind : r.typ ≤ most_type
  pub from : 1 ≤ r.wid
  pub bare : (r.typ ≡ 0 → ⊥) → r.body ≡ []

-- whether a proper record with at most `words` words of data lies at p, whole before e
unfoldable pub fair : ℕ → List ℕ → ℕ → ℕ → Bool
fair words xs e p =
    leb (p + 6) e
    && leb 4 (word_at xs p)
    && leb (word_at xs p) (4 + 2 * words)
    && leb (next xs p) e
    && leb (word_at xs (p + 2)) most_type
    && leb 1 (word_at xs (p + 4))
    && (eqb (word_at xs (p + 2)) 0 || eqb (word_at xs p) 4)
    && (eqb (word_at xs p % 2) 0 || eqb (get_or xs (p + 2 + word_at xs p) 0) 0)

-- whether n proper records lie one after another from p, each whole before e, and the last ends at `end`
unfoldable pub walk : ℕ → List ℕ → ℕ → ℕ → ℕ → ℕ → Bool
walk words xs e end p zero = eqb p end
walk words xs e end p (suc n) = elim (fair words xs e p) [ true ↦ walk words xs e end (next xs p) n | false ↦ false ]

-- whether the block that begins at `at` is laid out so: "word 0 records put, word 1 words used with these two"
unfoldable pub laid : Geo → List ℕ → ℕ → Bool
laid g xs at = walk g.words xs (at + block_bytes g) (at + 2 * word_at xs (at + 2)) (at + 4) (word_at xs at)
