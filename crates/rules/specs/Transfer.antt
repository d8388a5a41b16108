-- Read, write and collect.
use Rattle.std.specs.Prelude.{Bool, true, false, ◌&&◌, ◌||◌, List, [], ◌∷◌, ℕ, ◌*◌, ltb, leb, eqb, length}
use Rattle.std.proofs.Math.Option.{none, some}
use Rattle.kinds.specs.declared.Answer.TheVariants.{Read, Written, Collected}
use Rattle.rules.specs.State.{Req, idle, reading, writing, read_done, write_done, Acc, Built}
use Rattle.rules.specs.Store.{fetch, Found}
use Rattle.rules.specs.TransferCounts.{in_words, count_bytes, readable, log_of}
use Rattle.rules.specs.Requests.{writers, readers, fits, alter_acc, put_rec, behind, is_idle, begun, wait, freed}
use Rattle.rules.specs.Settle.{handed, data_rec, settle}
use Rattle.rules.specs.Reply.{answers, Out, leaves, answering, status}

-- "A read that can't be served, or a write that doesn't fit or has writers waiting ahead, waits if the other side has an accessor, or extended wait
-- (45) is on, or it is this accessor's first read or write. Otherwise it ends with status 2."
unfoldable pub may_wait : ℕ → Acc → Bool
may_wait others a = ltb 0 others || a.extended || a.first

unfoldable pub read_on : ℕ → Acc → ℕ → Built → Out
read_on p a n b =
    let f : Found = fetch b.geo a.typed a.keep b.store in
    let c : Built = alter_acc p begun (behind p f b) in
    elim f.got [
      | some r ↦
          let d : List ℕ = handed a.typed (count_bytes n) r in
          leaves (answers (Read (log_of (in_words n) (length d))) d) (settle c)
      | none ↦ elim (may_wait (writers b) a) [
        | true ↦ status 3 1 (settle (wait false p a.timeout (reading (record { by_words = in_words n; limit = count_bytes n; keep = a.keep })) c))
        | false ↦ status 3 2 (settle c)
      ]
    ]

-- read: refused 33 with a request outstanding, 34 by a writer, 35 for a count out of range
unfoldable pub read : ℕ → Acc → ℕ → Built → Out
read p a n b =
    elim (is_idle a.req) [
      | false ↦ status 3 33 b
      | true ↦ elim a.writer [
        | true ↦ status 3 34 b
        | false ↦ elim (readable n) [ false ↦ status 3 35 b | true ↦ read_on p a n b ]
      ]
    ]

unfoldable pub is_nil : List ℕ → Bool
is_nil [] = true
is_nil (x ∷ l) = false

-- "a write that doesn't fit or has writers waiting ahead"
unfoldable pub write_on : ℕ → Acc → ℕ → List ℕ → Built → Out
write_on p a n d b =
    elim (fits b && is_nil b.wq) [
      | true ↦ answering (Written (log_of (in_words n) (length d))) (settle (alter_acc p begun (put_rec (data_rec a d) b)))
      | false ↦ elim (may_wait (readers b) a) [
        | true ↦ status 4 1 (settle (wait true p a.timeout (writing (record { by_words = in_words n; bytes = d })) (alter_acc p begun b)))
        | false ↦ status 4 2 (settle (alter_acc p begun b))
      ]
    ]

-- write: refused 33 with a request outstanding, 34 by a reader, 35 unless "a write has at most 2R bytes"
unfoldable pub write : ℕ → Acc → ℕ → List ℕ → Built → Out
write p a n d b =
    elim (is_idle a.req) [
      | false ↦ status 4 33 b
      | true ↦ elim a.writer [
        | false ↦ status 4 34 b
        | true ↦ elim (leb (count_bytes n) (2 * b.geo.words)) [ false ↦ status 4 35 b | true ↦ write_on p a n d b ]
      ]
    ]

-- "Collect of a waiting request answers 1; of a completed one its status, and frees it."
unfoldable pub collected : ℕ → ℕ → List ℕ → ℕ → Built → Out
collected st log d p b =
    elim (eqb st 0) [
      | true ↦ leaves (answers (Collected log) d) (freed p b)
      | false ↦ status 6 st (freed p b)
    ]

-- collect: refused 39 with nothing outstanding
unfoldable pub collect : ℕ → Req → Built → Out
collect p idle b = status 6 39 b
collect p (reading q) b = status 6 1 b
collect p (writing q) b = status 6 1 b
collect p (read_done q) b = collected q.status q.log q.bytes p b
collect p (write_done q) b = collected q.status q.log [] p b
