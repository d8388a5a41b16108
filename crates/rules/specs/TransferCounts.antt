-- The count of a read or a write: "A count is signed: n ≥ 0 is n words, below 0 it is −n bytes." Here it is as in the frame, 0 to 65,535.
use Rattle.std.specs.Prelude.{Bool, cond, ℕ, ◌+◌, ◌-◌, ◌*◌, ◌/◌, ltb, leb}
use Rattle.rules.specs.Limits.{most_read_words, most_read_bytes}

unfoldable pub in_words : ℕ → Bool
in_words n = ltb n 32768

unfoldable pub count_bytes : ℕ → ℕ
count_bytes n = cond (in_words n) (2 * n) (65536 - n)

-- "Read counts run from −260 to 130"
unfoldable pub readable : ℕ → Bool
readable n = cond (in_words n) (leb n most_read_words) (leb (count_bytes n) most_read_bytes)

-- "The log is in the unit asked, words rounded up."
unfoldable pub log_of : Bool → ℕ → ℕ
log_of by_words n = cond by_words ((n + 1) / 2) n
