-- Build and open.
use Rattle.std.specs.Prelude.{Bool, true, false, cond, not, ◌&&◌, ◌||◌, List, [], ◌∷◌, ℕ, zero, suc, ◌+◌, ◌*◌, ltb, leb, eqb, set, replicate}
use Rattle.std.proofs.Math.Option.{Option, none, some}
use Rattle.words.specs.Word.{zeros}
use Rattle.kinds.specs.declared.Answer.TheVariants.{Opened, Status}
use Rattle.kinds.specs.declared.Answer.TheVariants as answer
use Rattle.rules.specs.Limits.{places, buffer_bytes, most_mode}
use Rattle.rules.specs.Geometry.{data_blocks, capacity, in_range, fits_share}
use Rattle.rules.specs.State.{Rec, idle, Acc, Geo, Store, made, purges, Built}
use Rattle.rules.specs.Store.{used, empty_store, purge}
use Rattle.rules.specs.Requests.{count_acc, writers, readers, opened, capacity_of, with_store, with_accs, say, put_rec}
use Rattle.rules.specs.Settle.{settle}
use Rattle.rules.specs.Reply.{answers, Out, answering, status, unmade}

-- a new file, with no accessor and zero buffers; its first happening is that it was made
unfoldable pub new_file : Geo → Store → Built
new_file g s = record { geo = g; store = s; accs = replicate places none; buffers = zeros (places * buffer_bytes); rq = []; wq = []; timers = []; past = made g ∷ [] }

unfoldable pub geo_of : ℕ → ℕ → ℕ → Geo
geo_of r b d = record { words = r; factor = b; blocks = d }

-- build: refused 35 for a number outside its range, 38 for more than the share
unfoldable pub build : ℕ → ℕ → ℕ → ℕ → Out
build r b n x =
    let d : ℕ = data_blocks n b x in
    elim (in_range r b n x) [
      | false ↦ unmade (answers (Status 1 35) [])
      | true ↦ elim (fits_share r b d) [
        | false ↦ unmade (answers (Status 1 38) [])
        | true ↦ answering (answer.Built (capacity b d)) (new_file (geo_of r b d) empty_store)
      ]
    ]

-- "Share 0 counts as 1"
unfoldable pub sharing_of : ℕ → ℕ
sharing_of s = cond (eqb s 0) 1 s

unfoldable pub other_share : ℕ → Acc → Bool
other_share s a = not (eqb a.sharing s)

-- "1 (one reader, one writer), 2 is one reader and many writers, 3 is many of both": whether the share forbids a second accessor
unfoldable pub crowded : Bool → ℕ → Built → Bool
crowded writer s b = cond writer (eqb s 1 && ltb 0 (writers b)) (ltb s 3 && ltb 0 (readers b))

-- "Accessor: the smallest free place."
unfoldable pub first_free : List (Option Acc) → ℕ
first_free [] = 0
first_free (none ∷ l) = 0
first_free (some a ∷ l) = suc (first_free l)

unfoldable pub holds_id : ℕ → Acc → Bool
holds_id n a = a.writer && eqb a.ident n

unfoldable pub free_id_from : ℕ → ℕ → List (Option Acc) → ℕ
free_id_from zero n l = n
free_id_from (suc k) n l = elim (eqb (count_acc (holds_id n) l) 0) [ true ↦ n | false ↦ free_id_from k (n + 1) l ]

-- "Writer ID: the smallest number from 1 that no open writer of the file holds": with eight places eight steps are enough (law `smallest-id`)
unfoldable pub free_id : List (Option Acc) → ℕ
free_id l = free_id_from places 1 l

unfoldable pub new_acc : Bool → ℕ → ℕ → Acc
new_acc writer n s = record { writer = writer; ident = n; sharing = s; timeout = 0; extended = false; typed = false; keep = false; first = true; req = idle }

unfoldable pub enter : Acc → Built → Built
enter a b = with_accs (set b.accs (first_free b.accs) (some a)) b

unfoldable pub open_rec : ℕ → Rec
open_rec n = record { typ = 1; wid = n; body = [] }

-- access 1 "purges if no accessor is open, else appends"
unfoldable pub purged : ℕ → Built → Built
purged access b =
    elim (eqb access 1 && eqb (opened b) 0) [
      | true ↦ say (purges ∷ []) (with_store (purge b.geo b.store) b)
      | false ↦ b
    ]

unfoldable pub open_reader : ℕ → Built → Out
open_reader s b = answering (Opened (first_free b.accs) 0) (settle (enter (new_acc false 0 s) b))

-- "A writer puts an open record"
unfoldable pub open_writer : ℕ → Built → Out
open_writer s b =
    let n : ℕ = free_id b.accs in
    answering (Opened (first_free b.accs) n) (settle (enter (new_acc true n s) (put_rec (open_rec n) b)))

-- "and needs used + W + 2 ≤ C, with W before it and after any purge"
unfoldable pub room_to_open : ℕ → Built → Bool
room_to_open access b = leb (used (purged access b).store + writers b + 2) (capacity_of b)

-- open: refused 35 for a number above 3, 40 for multiaccess 3, another share or one that forbids it, 41 with eight accessors open, 42 with no room
-- for the open record; "Access 0 reads"; "Multiaccess 0 counts as 2", and 1 and 2 mean the same
unfoldable pub open_file : ℕ → ℕ → ℕ → Built → Out
open_file access share multi b =
    let writer : Bool = ltb 0 access in
    let s : ℕ = sharing_of share in
    elim (leb access most_mode && leb share most_mode && leb multi most_mode) [
      | false ↦ status 2 35 b
      | true ↦ elim (eqb multi 3 || ltb 0 (count_acc (other_share s) b.accs) || crowded writer s b) [
        | true ↦ status 2 40 b
        | false ↦ elim (leb places (opened b)) [
          | true ↦ status 2 41 b
          | false ↦ elim writer [
            | false ↦ open_reader s b
            | true ↦ elim (room_to_open access b) [
              | false ↦ status 2 42 b
              | true ↦ open_writer s (purged access b)
            ]
          ]
        ]
      ]
    ]
