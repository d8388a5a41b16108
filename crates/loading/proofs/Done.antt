-- What load leaves: nothing changed, or the file that the sheet says.
use Prim.Native.Nat.{ℕ, ◌*◌, ◌≤◌, ◌<◌}
use mathlib.Core.Path.{◌≡◌, refl, sym, ap, subst, ◌∙◌}
use mathlib.Core.Bool.{cond}
use mathlib.Core.List.{List, []}
use mathlib.Core.Logic.{◌⊎◌, inl, inr}
use mathlib.Core.Option.{Option, none, some}
use native.Mathlib.Omega.{arith}
use lib.Dec.{ltb}
use lib.ListN.{length}
use lib.Seq.{sets}
use borrow.Author.Tests.{le-ltb}
use Rattle.words.specs.Word.{zeros, Bytes}
use Rattle.segment.specs.Layout.{segment_bytes, file_row_at}
use Rattle.segment.specs.Table.{fill}
use Rattle.rules.specs.Limits.{files, places, share_bytes, buffer_bytes}
use Rattle.rules.specs.State.{puts, Store, File, unbuilt}
use Rattle.rules.specs.Store.{empty_store, put_all}
use Rattle.rules.specs.Requests.{say}
use Rattle.rules.specs.Reply.{shows, Out, hushed, leaves}
use Rattle.rules.specs.Open.{new_file}
use Rattle.rules.specs.Sheet.{Sheet, read_sheet, loaded}
use Rattle.rules.specs.Sheet as sheets
use Rattle.rules.specs.Calls.{ask_unbuilt, ask}
use Rattle.rules.specs.Calls as calls
use Rattle.rules.specs.Desk.{Desk, load, asked, file_of, respond}
use Rattle.rules.specs.Allocation.{Alloc, allot, allot_all}
use Rattle.shares.proofs.PutAll.{holds-loaded}
use Rattle.laws.specs.Bounds.{least_refusal}
use Rattle.laws.proofs.Made.{sheet-good}
use Rattle.laws.proofs.Midst.{allot_all-quiet}
use Rattle.laws.proofs.Comes.{puts-quiet}
use Rattle.laws.proofs.Room.{good-sized, small}
use Rattle.blocks.specs.Memory.{blocks_bytes}
use Rattle.memory.specs.Memories.{Memories}
use Rattle.memory.specs.Image.{file_words}
use Rattle.memory.specs.Fine.{StandsFor}
use Rattle.midst.specs.declared.File as hand
use Rattle.midst.specs.File.{file_row_words, in_hand}
use Rattle.midst.specs.Outcome.{reply_status, refusal_of, Outcome, Stays}
use Rattle.midst.proofs.Refused.{stands-refused}
use Rattle.midst.proofs.New.{made}
use Rattle.midst.proofs.StandsBehind.{Built', outcome-stays, still-stays}
use Rattle.promises.specs.Promise.{status, Standing, Seen, unsound, stands, reply_of, said, Behind, Promise}
use Rattle.promises.specs.Promise as host
use Rattle.promises.proofs.Seen.{sees}
use Rattle.loading.specs.LaidOut.{laid_out}
use Rattle.loading.proofs.Judged.{gives, Loads, load-case, Judges}

-- the file's row, share and buffers are written
pub lays : (f : ℕ) (s : Sheet) (m m' : Memories) (x : hand.File) → x ≡ in_hand (loaded s) → m'.segment ≡ fill m.segment (file_row_at f) (file_row_words x)
    → m'.blocks ≡ sets m.blocks (share_bytes * f) (loaded s).store.share → m'.buffers ≡ sets m.buffers (places * buffer_bytes * f) (zeros (places * buffer_bytes))
    → m' ≡ laid_out f (loaded s) m
unfolding laid_out file_row_words file_words
lays f s m m' x e w b u = rw (w, e, b, u)

module _ (m : Memories) (f : ℕ) (t : List ℕ) where
  -- 29, 31, 43

  refused-stays : (r : ℕ) → Judges m f t r → (r ≡ 0 → ⊥) → (d : Desk) (s : Alloc) → StandsFor m d s
      → Stays d s (load f t) m m
  unfolding respond asked reply_of refusal_of
  refused-stays r j n d s S =
      let e : r ≡ gives d f t = j _ (stands d s S) in
      let R = stands-refused f (calls.load t) S (λ z. n (e ∙ high (load-case d f t) e ∙ z)) in
      still-stays S (load f t) R.desk R.alloc
    where
      high : ((gives d f t ≡ 0) × Loads d f t) ⊎ (least_refusal ≤ gives d f t) → r ≡ gives d f t → gives d f t ≡ cond (ltb (gives d f t) least_refusal) 0 (gives d f t)
      high (inl (z, L)) e = absurd (n (e ∙ z))
      high (inr l) e = rw (le-ltb (gives d f t) least_refusal l) refl

  pub refused-load : (r : ℕ) → Judges m f t r → (r ≡ 0 → ⊥) → Promise m (host.load f t) (status r) m
  unfolding Promise said
  refused-load r j n v k = (ap status (j v k), go v k)
    where
      go : (v : Option Standing) → Seen m v → Behind v (load f t) m m
      go none k = unfold Behind in refl
      go (some v) (stands d s S) = unfold Behind in refused-stays r j n d s S

  -- 0

  unsound-zero : 0 ≡ reply_status (reply_of none (load f t)) → ⊥
  unfolding reply_of reply_status
  unsound-zero e = omega arith

  loads-of : (d : Desk) → 0 ≡ gives d f t → Loads d f t
  loads-of d e = go (load-case d f t)
    where
      go : ((gives d f t ≡ 0) × Loads d f t) ⊎ (least_refusal ≤ gives d f t) → Loads d f t
      go (inl (z, L)) = L
      go (inr l) = absurd (omega arith)

  abbrev pub Asks : Type 0
  Asks =
      ((length m.segment ≡ segment_bytes) × (length m.blocks ≡ blocks_bytes) × (length m.buffers ≡ places * buffer_bytes * files) × (f < files)) × ((s : Sheet) × (read_sheet t ≡ some s))

  -- what is asked to do it
  pub done-asks : Bytes m.segment → Bytes m.blocks → Bytes m.buffers → Judges m f t 0 → Asks
  unfolding reply_of reply_status
  done-asks bs bb bf j = let (v, k) = sees bs bb bf in go v k (j v k)
    where
      go : (v : Option Standing) → Seen m v → 0 ≡ reply_status (reply_of v (load f t)) → Asks
      go v (unsound u) e = absurd (unsound-zero e)
      go v (stands d s S) e =
          let L = loads-of d e in
          ((S.stands.segment.size, S.stands.bodies.blocks-size, S.stands.bodies.buffers-size, L.file), (L.sheet, L.reads))

  module _ (j : Judges m f t 0) (ms' : Memories) (h : (s : Sheet) → read_sheet t ≡ some s → ms' ≡ laid_out f (loaded s) m) where
    -- the store that is packed
    packed : Sheet → Store
    packed s = put_all s.geo s.recs empty_store

    long : (s : Sheet) → read_sheet t ≡ some s → length (packed s).share ≡ share_bytes
    unfolding packed
    long s e = let k = sheet-good t s e in (holds-loaded s.geo s.recs (good-sized s.geo k.geo) (small s.geo.words s.recs k.recs) k.few).long

    asked-load : (d : Desk) → file_of d f ≡ unbuilt → (s : Sheet) → read_sheet t ≡ some s → ask (file_of d f) (calls.load t) ≡ leaves (shows 0 []) (loaded s)
    unfolding ask ask_unbuilt sheets.load
    asked-load d u s e = ap (λ (x : File). ask x (calls.load t)) u ∙ rw (e, sheets.load)

    quiet : (s : Sheet) (a : Alloc) → allot_all f (leaves (shows 0 []) (loaded s)).haps a ≡ a
    unfolding leaves loaded say new_file allot_all allot
    quiet s a = allot_all-quiet f puts (puts-quiet f) s.recs a

    done-stays : Bytes ms'.segment → Bytes ms'.blocks → Bytes ms'.buffers → (d : Desk) (a : Alloc) → StandsFor m d a → Stays d a (load f t) m ms'
    unfolding reply_of asked laid_out packed leaves hushed loaded say new_file file_words
    done-stays bs bb bf d a S =
        let L = loads-of d (j _ (stands d a S)) in
        let s : Sheet = L.sheet in
        let e = asked-load d L.new s L.reads in
        let k = h s L.reads in
        let O = made S f L.file L.new s.geo (packed s) (long s L.reads) ms' (ap (λ (x : Memories). x.segment) k) (ap (λ (x : Memories). x.blocks) k) (ap (λ (x : Memories). x.buffers) k)
        bs bb bf (leaves (shows 0 []) (loaded s)) refl (quiet s a) in
        outcome-stays S (load f t) f (calls.load t) refl L.file (subst Built' (sym e) (record { file = hushed (loaded s); is = refl }))
        (subst (λ (x : Out). Outcome f d a x m ms') (sym e) O)

    pub done-load : Bytes ms'.segment → Bytes ms'.blocks → Bytes ms'.buffers → Promise m (host.load f t) (status 0) ms'
    unfolding Promise said
    done-load bs bb bf v k = (ap status (j v k), go v k)
      where
        go : (v : Option Standing) → Seen m v → Behind v (load f t) m ms'
        go none k = absurd (unsound-zero (j none k))
        go (some v) (stands d s S) = unfold Behind in done-stays bs bb bf d s S
