-- "then the file settles: while something can be done, serve the first waiting reader, else the first waiting writer."
use Rattle.std.specs.Prelude.{Bool, true, false, cond, List, [], ◌∷◌, ◌++◌, ℕ, zero, suc, ◌+◌, length, take}
use Rattle.std.proofs.Math.Option.{none, some}
use Rattle.words.specs.Word.{word}
use Rattle.rules.specs.State.{Rec, Offered, Req, idle, reading, writing, read_done, write_done, Acc, Built}
use Rattle.rules.specs.Store.{fetch, Found}
use Rattle.rules.specs.TransferCounts.{log_of}
use Rattle.rules.specs.Requests.{acc_at, fits, put_rec, behind, finish}

-- what a read is handed of a record: with control 46 "type and ID words before the data", and "cut to the count"
unfoldable pub handed : Bool → ℕ → Rec → List ℕ
handed typed limit r = take limit (cond typed (word r.typ ++ word r.wid ++ r.body) r.body)

unfoldable pub read_result : Bool → List ℕ → Req
read_result by_words bytes = read_done (record { status = 0; log = log_of by_words (length bytes); bytes = bytes })

unfoldable pub write_result : Offered → Req
write_result q = write_done (record { status = 0; log = log_of q.by_words (length q.bytes) })

unfoldable pub data_rec : Acc → List ℕ → Rec
data_rec a bytes = record { typ = 0; wid = a.ident; body = bytes }

-- one turn: the file after it, and whether a request was served
pub record Turn : Type 0 where
  pub file : Built
  pub moved : Bool

unfoldable pub still : Built → Turn
still b = record { file = b; moved = false }

unfoldable pub onward : Built → Turn
onward b = record { file = b; moved = true }

-- serves the waiting read of the accessor a at p; "as first waiting reader whenever the file settles" it discards open and close records at the head
unfoldable pub serve_reader : ℕ → Acc → Req → Built → Turn
serve_reader p a (reading q) b =
    let f : Found = fetch b.geo a.typed q.keep b.store in
    elim f.got [
      | none ↦ still (behind p f b)
      | some r ↦ onward (finish p 0 (read_result q.by_words (handed a.typed q.limit r)) (behind p f b))
    ]
serve_reader p a idle b = still b
serve_reader p a (writing q) b = still b
serve_reader p a (read_done q) b = still b
serve_reader p a (write_done q) b = still b

unfoldable pub serve_writer : ℕ → Acc → Req → Built → Turn
serve_writer p a (writing q) b =
    elim (fits b) [
      | true ↦ onward (finish p 0 (write_result q) (put_rec (data_rec a q.bytes) b))
      | false ↦ still b
    ]
serve_writer p a idle b = still b
serve_writer p a (reading q) b = still b
serve_writer p a (read_done q) b = still b
serve_writer p a (write_done q) b = still b

-- hands the accessor at the head of a queue to `serve`
unfoldable pub at_head : (ℕ → Acc → Req → Built → Turn) → List ℕ → Built → Turn
at_head serve [] b = still b
at_head serve (p ∷ l) b = elim (acc_at b p) [ none ↦ still b | some a ↦ serve p a a.req b ]

unfoldable pub turn : Built → Turn
turn b =
    let m : Turn = at_head serve_reader b.rq b in
    elim m.moved [ true ↦ m | false ↦ at_head serve_writer b.wq m.file ]

-- the file after at most n turns
unfoldable pub settle_for : ℕ → Built → Built
settle_for zero b = b
settle_for (suc n) b =
    let m : Turn = turn b in
    elim m.moved [ true ↦ settle_for n m.file | false ↦ m.file ]

-- settles the file: a turn that moves serves one waiting request, so as many turns as requests wait are enough (law `settled`)
unfoldable pub settle : Built → Built
settle b = settle_for (length b.rq + length b.wq) b
