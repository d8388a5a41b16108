-- Accessors and their requests: who is open, what fits, and how a request waits, completes, or is cancelled.
use Rattle.std.specs.Prelude.{Bool, true, false, cond, not, ◌&&◌, List, [], ◌∷◌, ◌++◌, map, ℕ, zero, suc, ◌+◌, leb, eqb, get_or}
use Rattle.std.proofs.Math.Option.{Option, none, some}
use Rattle.rules.specs.Geometry.{capacity}
use Rattle.rules.specs.Buffers.{refilled}
use Rattle.rules.specs.State.{Rec, Req, idle, reading, writing, read_done, write_done, Acc, Store, Timer, Hap, puts, takes, drops, waits, arms, ends, cancels, collects, Built}
use Rattle.rules.specs.Store.{used, put, Found}

-- who is open

-- how many open accessors pass a test
unfoldable pub count_acc : (Acc → Bool) → List (Option Acc) → ℕ
count_acc t [] = 0
count_acc t (none ∷ l) = count_acc t l
count_acc t (some a ∷ l) = cond (t a) 1 0 + count_acc t l

unfoldable pub is_writer : Acc → Bool
is_writer a = a.writer

unfoldable pub is_reader : Acc → Bool
is_reader a = not a.writer

unfoldable pub any_acc : Acc → Bool
any_acc a = true

unfoldable pub writers : Built → ℕ
writers b = count_acc is_writer b.accs

unfoldable pub readers : Built → ℕ
readers b = count_acc is_reader b.accs

unfoldable pub opened : Built → ℕ
opened b = count_acc any_acc b.accs

unfoldable pub acc_at : Built → ℕ → Option Acc
acc_at b p = get_or b.accs p none

unfoldable pub capacity_of : Built → ℕ
capacity_of b = capacity b.geo.factor b.geo.blocks

-- "With W writers open, a data record fits exactly when used + W + 1 ≤ C: one place is kept for each close record."
unfoldable pub fits : Built → Bool
fits b = leb (used b.store + writers b + 1) (capacity_of b)

-- the file with one part changed

unfoldable pub with_store : Store → Built → Built
with_store s b = record { geo = b.geo; store = s; accs = b.accs; buffers = b.buffers; rq = b.rq; wq = b.wq; timers = b.timers; past = b.past }

unfoldable pub with_accs : List (Option Acc) → Built → Built
with_accs l b = record { geo = b.geo; store = b.store; accs = l; buffers = b.buffers; rq = b.rq; wq = b.wq; timers = b.timers; past = b.past }

unfoldable pub with_buffers : List ℕ → Built → Built
with_buffers xs b = record { geo = b.geo; store = b.store; accs = b.accs; buffers = xs; rq = b.rq; wq = b.wq; timers = b.timers; past = b.past }

unfoldable pub with_queues : List ℕ → List ℕ → Built → Built
with_queues r w b = record { geo = b.geo; store = b.store; accs = b.accs; buffers = b.buffers; rq = r; wq = w; timers = b.timers; past = b.past }

unfoldable pub with_timers : List Timer → Built → Built
with_timers ts b = record { geo = b.geo; store = b.store; accs = b.accs; buffers = b.buffers; rq = b.rq; wq = b.wq; timers = ts; past = b.past }

-- adds to what has happened
unfoldable pub say : List Hap → Built → Built
say hs b = record { geo = b.geo; store = b.store; accs = b.accs; buffers = b.buffers; rq = b.rq; wq = b.wq; timers = b.timers; past = b.past ++ hs }

-- changes the accessor at a place, if there is one
unfoldable pub alter : (Acc → Acc) → List (Option Acc) → ℕ → List (Option Acc)
alter f [] p = []
alter f (none ∷ l) zero = none ∷ l
alter f (some a ∷ l) zero = some (f a) ∷ l
alter f (x ∷ l) (suc p) = x ∷ alter f l p

unfoldable pub alter_acc : ℕ → (Acc → Acc) → Built → Built
alter_acc p f b = with_accs (alter f b.accs p) b

unfoldable pub put_rec : Rec → Built → Built
put_rec r b = say (puts r ∷ []) (with_store (put b.geo r b.store) b)

-- the happening that the read at p took a record, if it took one
unfoldable pub took_by : ℕ → Option Rec → List Hap
took_by p none = []
took_by p (some r) = takes p r ∷ []

-- the file after the read at p, which found f
unfoldable pub behind : ℕ → Found → Built → Built
behind p f b = say (map drops f.went ++ took_by p f.took) (with_store f.store b)

-- requests

unfoldable pub is_idle : Req → Bool
is_idle idle = true
is_idle (reading q) = false
is_idle (writing q) = false
is_idle (read_done q) = false
is_idle (write_done q) = false

unfoldable pub with_req : Req → Acc → Acc
with_req q a = record { writer = a.writer; ident = a.ident; sharing = a.sharing; timeout = a.timeout; extended = a.extended; typed = a.typed; keep = a.keep; first = a.first; req = q }

-- the accessor after an accepted read or write: the next one is not its first; 47: "The setting is spent by that read", so a write leaves it
unfoldable pub begun : Acc → Acc
begun a = record { writer = a.writer; ident = a.ident; sharing = a.sharing; timeout = a.timeout; extended = a.extended; typed = a.typed; keep = a.writer && a.keep; first = false; req = a.req }

unfoldable pub without : ℕ → List ℕ → List ℕ
without p [] = []
without p (q ∷ l) = cond (eqb q p) (without p l) (q ∷ without p l)

unfoldable pub without_timer : ℕ → List Timer → List Timer
without_timer p [] = []
without_timer p (t ∷ l) = cond (eqb t.place p) (without_timer p l) (t ∷ without_timer p l)

-- "smallest first, equals in arming order": a new timer goes after all that have as little left
unfoldable pub arm_in : Timer → List Timer → List Timer
arm_in t [] = t ∷ []
arm_in t (u ∷ l) = cond (leb u.left t.left) (u ∷ arm_in t l) (t ∷ u ∷ l)

-- sets the request at p to q; the buffer of p then has what lies there, and zeros after it
unfoldable pub request : ℕ → Req → Built → Built
request p q b = with_buffers (refilled p q b.buffers) (alter_acc p (with_req q) b)

-- sets the request at p, which begins or ceases to wait, to q, and the queues to r and w
unfoldable pub requeue : ℕ → Req → List ℕ → List ℕ → Built → Built
requeue p q r w b = request p q (with_queues r w b)

-- takes the request at p out of its queue and sets it to q; its timer "goes when it completes"
unfoldable pub leave : ℕ → Req → Built → Built
leave p q b = with_timers (without_timer p b.timers) (requeue p q (without p b.rq) (without p b.wq) b)

-- completes a waiting request with a status
unfoldable pub finish : ℕ → ℕ → Req → Built → Built
finish p st q b = say (ends p st ∷ []) (leave p q b)

unfoldable pub cancel : ℕ → Built → Built
cancel p b = say (cancels p ∷ []) (leave p idle b)

-- a read that completed with a status other than 0 and brings nothing; `write_fails` is such a write
abbrev pub read_fails : ℕ → Req
read_fails st = read_done (record { status = st; log = 0; bytes = [] })

abbrev pub write_fails : ℕ → Req
write_fails st = write_done (record { status = st; log = 0 })

-- completes a waiting request with a status other than 0; any other request stays as it is
unfoldable pub fail_req : ℕ → ℕ → Req → Built → Built
fail_req p st idle b = b
fail_req p st (reading q) b = finish p st (read_fails st) b
fail_req p st (writing q) b = finish p st (write_fails st) b
fail_req p st (read_done q) b = b
fail_req p st (write_done q) b = b

unfoldable pub fail : ℕ → ℕ → Built → Built
fail p st b = elim (acc_at b p) [ none ↦ b | some a ↦ fail_req p st a.req b ]

-- "A timeout of 0 disables; the timer starts when the request waits"
unfoldable pub arm : ℕ → ℕ → Built → Built
arm p n b =
    elim (eqb n 0) [
      | true ↦ b
      | false ↦ say (arms p n ∷ []) (with_timers (arm_in (record { place = p; left = n }) b.timers) b)
    ]

-- makes the request q at p, of a writer or of a reader, wait after those of its side
unfoldable pub wait : (writer : Bool) (p seconds : ℕ) → Req → Built → Built
wait true p n q b = arm p n (say (waits p ∷ []) (requeue p q b.rq (b.wq ++ (p ∷ [])) b))
wait false p n q b = arm p n (say (waits p ∷ []) (requeue p q (b.rq ++ (p ∷ [])) b.wq b))

-- collects a completed request
unfoldable pub freed : ℕ → Built → Built
freed p b = say (collects p ∷ []) (request p idle b)
