-- The exact bytes of a file's share and of record buffers.
use mathlib.Core.Path.{◌≡◌, refl}
use mathlib.Core.List.{List, [], ◌∷◌, ◌++◌}
use Prim.Native.Nat.{ℕ, ◌+◌, ◌-◌}
use Prim.Native.String.{String}
use lib.ListN.{length}
use Rattle.words.specs.Word.{zeros}
use Rattle.rules.specs.Limits.{share_bytes, buffer_bytes}
use Rattle.rules.specs.Memories.{share_at, blocks, buffer_at, buffers}
use Rattle.rules.specs.Allocation.{place_of}
use Rattle.rules.proofs.All.{All}
use Rattle.rules.proofs.Vocabulary.{said, builds, opens, reads, writes, controls, collects, closes, passes, bytes, built, opened, got, wrote, done, waiting, refused}
use Rattle.rules.proofs.Script.{Exchange, ◌⇒◌, loads, played, Plays}

-- n bytes that begin with these
unfoldable pub starts_with : ℕ → String → List ℕ
starts_with n s = said s ++ zeros (n - length (said s))

-- The share of file f after a session.
unfoldable pub share_played : ℕ → List Exchange → List ℕ
share_played f l = share_at f (blocks (played l))

-- The record buffer of place p of file f after a session.
unfoldable pub buffer_played : ℕ → ℕ → List Exchange → List ℕ
buffer_played f p l = buffer_at (place_of f p) (buffers (played l))

-- R 2, B 2, two data blocks of 12 words: "word 0 records put, word 1 words used with these two"; a record is "a word with the bytes that follow
-- (4 + data), a type word (0 data, 1 open, 2 close), the writer's ID, and data, padded with one zero byte if odd"
pub two_blocks : share_played 1 (
    builds 1 2 2 2 1 ⇒ built 4
    ∷ opens 1 3 1 0 ⇒ opened 0 1
    ∷ writes 1 0 (bytes 3) "414243" ⇒ wrote 3
    ∷ writes 1 0 1 "4445" ⇒ wrote 1
    ∷ [])
    ≡ starts_with share_bytes "0002000A00040001000100070000000141424300000000000001000600060000000144450000000000000000000000"
unfolding All Plays share_played starts_with
two_blocks = refl

-- a file that becomes empty goes on at the next block, although the last was not full; a block is zeroed whole at its first put, and what was read
-- stays in the others
pub next-block : share_played 0 (
    builds 0 2 2 2 1 ⇒ built 4
    ∷ opens 0 3 3 0 ⇒ opened 0 1
    ∷ writes 0 0 1 "4142" ⇒ wrote 1
    ∷ writes 0 0 1 "4344" ⇒ wrote 1
    ∷ opens 0 0 3 0 ⇒ opened 1 0
    ∷ reads 0 1 1 ⇒ got 1 "4142"
    ∷ reads 0 1 1 ⇒ got 1 "4344"
    ∷ writes 0 0 0 "" ⇒ wrote 0
    ∷ reads 0 1 1 ⇒ got 0 ""
    ∷ writes 0 0 1 "FFFE" ⇒ wrote 1
    ∷ [])
    ≡ starts_with share_bytes "00010005000400000001000000000000000000000000000000010006000600000001FFFE00000000000000000000000000"
unfolding All Plays share_played starts_with
next-block = refl

-- a purge of one record at least goes on at the block after the last record's; of an empty file it moves nothing
pub purge-moves : share_played 0 (
    builds 0 1 1 1 1 ⇒ built 3
    ∷ opens 0 1 1 0 ⇒ opened 0 1
    ∷ closes 0 0 ⇒ done
    ∷ opens 0 1 1 0 ⇒ opened 0 1
    ∷ [])
    ≡ starts_with share_bytes "000100050004000100010000000100050004000200010000000100050004000100010000"
unfolding All Plays share_played starts_with
purge-moves = refl

pub purge-of-nothing : share_played 0 (builds 0 1 1 1 1 ⇒ built 3 ∷ opens 0 1 1 0 ⇒ opened 0 1 ∷ []) ≡ starts_with share_bytes "00010005000400010001"
unfolding All Plays share_played starts_with
purge-of-nothing = refl

-- "Load packs the records from the share's first block", and the next put goes on after them
pub packed : share_played 2 (
    loads 2 ("0100020200020003" ∷ "00010007" ∷ "00000007FF" ∷ "00020007" ∷ []) "" 0
    ∷ opens 2 3 0 0 ⇒ refused 42
    ∷ [])
    ≡ starts_with share_bytes "00020009000400010007000500000007FF00000000000000000100050004000200070000000000000000000000000000"
unfolding All Plays share_played starts_with
packed = refl

-- "A completed read's record, or a waiting write's data, lies at the start of the accessor's buffer, which is otherwise zero."
pub waiting-data : buffer_played 0 1 (
    builds 0 4 1 2 1 ⇒ built 4
    ∷ opens 0 3 3 0 ⇒ opened 0 1
    ∷ opens 0 3 3 0 ⇒ opened 1 2
    ∷ writes 0 1 (bytes 3) "414243" ⇒ waiting
    ∷ [])
    ≡ starts_with buffer_bytes "414243"
unfolding All Plays buffer_played starts_with
waiting-data = refl

-- the writer's is zero again once it no longer waits, and the reader's holds the record as it will be answered, until it is collected
unfoldable pub handed-over : List Exchange
handed-over =
    builds 0 4 1 2 1 ⇒ built 4
    ∷ opens 0 3 3 0 ⇒ opened 0 1
    ∷ opens 0 3 3 0 ⇒ opened 1 2
    ∷ writes 0 1 (bytes 3) "414243" ⇒ waiting
    ∷ opens 0 0 3 0 ⇒ opened 2 0
    ∷ reads 0 2 (bytes 2) ⇒ waiting
    ∷ []

pub handed-on : (buffer_played 0 1 handed-over ≡ zeros buffer_bytes)
    × (buffer_played 0 2 handed-over ≡ starts_with buffer_bytes "4142")
    × (buffer_played 0 2 (handed-over ++ (collects 0 2 ⇒ got 2 "4142" ∷ [])) ≡ zeros buffer_bytes)
unfolding All Plays buffer_played starts_with handed-over
handed-on = (refl, refl, refl)

-- it is zero again when the waiting write is aborted, times out, or goes with its accessor
unfoldable pub offers : List Exchange
offers =
    builds 0 4 1 2 1 ⇒ built 4
    ∷ opens 0 3 3 0 ⇒ opened 0 1
    ∷ opens 0 3 3 0 ⇒ opened 1 2
    ∷ controls 0 1 4 9 ⇒ done
    ∷ writes 0 1 (bytes 3) "414243" ⇒ waiting
    ∷ []

pub taken_back : (buffer_played 0 1 (offers ++ (controls 0 1 43 0 ⇒ done ∷ [])) ≡ zeros buffer_bytes)
    × (buffer_played 0 1 (offers ++ (passes 9 ⇒ done ∷ [])) ≡ zeros buffer_bytes)
    × (buffer_played 0 1 (offers ++ (closes 0 1 ⇒ done ∷ [])) ≡ zeros buffer_bytes)
unfolding All Plays buffer_played offers
taken_back = (refl, refl, refl)
