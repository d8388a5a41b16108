-- Which part of which memory look shows.
use Rattle.std.specs.Prelude.{true, false, List, [], ◌∷◌, ℕ, suc, ◌+◌, ◌*◌, ltb, eqb, length, take, drop}
use Rattle.std.proofs.Math.Option.{Option, none, some}
use Rattle.rules.specs.Limits.{files, share_bytes, buffer_bytes}
use Rattle.rules.specs.State.{Rec, Req, idle, reading, writing, read_done, write_done, Built, File, unbuilt, built}
use Rattle.rules.specs.Requests.{acc_at}
use Rattle.rules.specs.Look.{oldest}
use Rattle.rules.specs.Desk.{Desk, file_of}
use Rattle.rules.specs.Allocation.{place_of}
use Rattle.shares.specs.Places as shares
use Rattle.promises.specs.Promise.{Standing}

-- a part of a memory: n bytes of the blocks, or of the record buffers, starting at a place
pub data Part : Type 0 where
  nothing : Part
  of_blocks : ℕ → ℕ → Part
  of_buffers : ℕ → ℕ → Part

unfoldable pub bytes_of : Part → List ℕ → List ℕ → List ℕ
bytes_of nothing blocks buffers = []
bytes_of (of_blocks at n) blocks buffers = take n (drop at blocks)
bytes_of (of_buffers at n) blocks buffers = take n (drop at buffers)

-- the number of records before the oldest data record
unfoldable pub before : List Rec → ℕ
before [] = 0
before (r ∷ l) = elim (eqb r.typ 0) [ true ↦ 0 | false ↦ suc (before l) ]

-- "else the data bytes of the file's oldest data record": after the word with the bytes that follow, the type word and the ID
unfoldable pub of_file : ℕ → Built → Part
of_file f b =
    elim (oldest b.store.recs) [
      | none ↦ nothing
      | some r ↦ of_blocks (share_bytes * f + (shares.place_of b.geo b.store.share b.store.block (b.store.spent + before b.store.recs) + 6)) (length r.body)
    ]

-- "the record lying in that reader's buffer as it will be answered"
unfoldable pub of_req : ℕ → ℕ → Req → Built → Part
of_req f p idle b = of_file f b
of_req f p (reading q) b = of_file f b
of_req f p (writing q) b = of_file f b
of_req f p (read_done q) b = elim (eqb q.status 0) [ true ↦ of_buffers (buffer_bytes * place_of f p) (length q.bytes) | false ↦ of_file f b ]
of_req f p (write_done q) b = of_file f b

unfoldable pub of_reader : ℕ → ℕ → File → Part
of_reader f p unbuilt = nothing
of_reader f p (built b) =
    elim (acc_at b p) [
      | none ↦ nothing
      | some a ↦ elim a.writer [ true ↦ nothing | false ↦ of_req f p a.req b ]
    ]

-- "Refused, it shows an empty part"

unfoldable pub part_on : Desk → ℕ → ℕ → Part
part_on d f p = elim (ltb f files) [ true ↦ of_reader f p (file_of d f) | false ↦ nothing ]

unfoldable pub part_of : Option Standing → ℕ → ℕ → Part
part_of none f p = nothing
part_of (some v) f p = part_on v.desk f p
