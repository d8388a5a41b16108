-- What save gives, on each way out.
use Prim.Native.Nat.{ℕ, ◌≤◌, ◌<◌}
use mathlib.Core.Path.{◌≡◌, refl, sym, ap, ◌∙◌}
use mathlib.Core.List.{List, []}
use mathlib.Core.Bool.{true, false}
use mathlib.Core.Option.{Option}
use native.Mathlib.Omega.{arith}
use native.Mathlib.Decide.{dec_lt}
use lib.ListN.{length}
use lib.Seq.{sets}
use borrow.Author.Tests.{lt-ltb, le-ltb, le-leb, lt-leb}
use Rattle.rules.specs.Limits.{files}
use Rattle.rules.specs.State.{Built, File, unbuilt, built}
use Rattle.rules.specs.Reply.{Reply, shows, leaves, unmade}
use Rattle.rules.specs.Sheet.{sheet, save}
use Rattle.rules.specs.Calls.{refusal, ask_built, ask_unbuilt, ask}
use Rattle.rules.specs.Calls as calls
use Rattle.rules.specs.Desk.{Desk, file_of, reply_bytes, asked, answered, respond}
use Rattle.rules.specs.Desk as rules
use Rattle.rules.specs.Allocation.{Alloc}
use Rattle.rules.specs.Memories.{share_at}
use Rattle.shares.proofs.Back.{back}
use Rattle.laws.proofs.Room.{good-sized}
use Rattle.segment.specs.Fields.{file_at}
use Rattle.memory.specs.Memories.{Memories, memories}
use Rattle.memory.specs.Fine.{StandsFor}
use Rattle.midst.specs.declared.File as hand
use Rattle.midst.specs.File.{file_of_row}
use Rattle.midst.specs.Outcome.{reply_status}
use Rattle.accessors.specs.Accessors.{words_at}
use Rattle.accessors.proofs.Names.{words-low, is-built, not-built}
use Rattle.midst.specs.FileStands.{FileStands}
use Rattle.midst.proofs.FileStands.{row_is, share-is, room}
use Rattle.sound.specs.Sound.{soundly}
use Rattle.promises.specs.Promise.{Given, written, Standing, Seen, reply_of, shown, Promise}
use Rattle.promises.specs.Promise as host
use Rattle.promises.proofs.Seen.{seen_none, seen-some}
use Rattle.promises.proofs.Still.{save-behind}
use Rattle.saving.specs.Sheets.{sheet_of}

-- refused: nothing is written
refused_as : (st : ℕ) (out : List ℕ) (r : Reply) → r ≡ shows st [] → written st 0 out ≡ shown out r
unfolding shown reply_status reply_bytes
refused_as st out r e = rw e

-- written
written_as : (t out out' : List ℕ) (n : ℕ) (r : Reply) → r ≡ shows 0 t → n ≡ length t → out' ≡ sets out 0 t → written 0 n out' ≡ shown out r
unfolding shown reply_status reply_bytes
written_as t out out' n r e u v = rw (e, u, v)

save-fits : (n : ℕ) (b : Built) → length (sheet b.geo b.store.recs) ≤ n → (save n b).reply ≡ shows 0 (sheet b.geo b.store.recs)
unfolding save leaves
save-fits n b h = rw (le-leb (length (sheet b.geo b.store.recs)) n h, save) refl

save-short : (n : ℕ) (b : Built) → n < length (sheet b.geo b.store.recs) → (save n b).reply ≡ shows 44 []
unfolding save leaves
save-short n b h = rw (lt-leb (length (sheet b.geo b.store.recs)) n h, save) refl

-- a built file, as the code has it in hand, and its share
module _ {m : Memories} {d : Desk} {s : Alloc} (S : StandsFor m d s) (f : ℕ) (l : f < files) (b : Built) (e : file_of d f ≡ built b)
    (x : hand.File) (ys : List ℕ) (h : x ≡ file_of_row (file_at m.segment f)) (k : ys ≡ share_at f m.blocks) where
  sheet-is : sheet_of x.words x.ring ys ≡ sheet b.geo b.store.recs
  sheet-is =
      let R = room S f l b e in
      rw (h ∙ row_is S f l b e, k ∙ share-is S f l b e) (ap (sheet b.geo) (back b.geo b.store (good-sized b.geo R.geo) R.holds))

  module _ (n : ℕ) (u : n ≡ length (sheet_of x.words x.ring ys)) (out : List ℕ) where
    -- 44: output too short
    pub short-as : length out < n → written 44 0 out ≡ shown out (save (length out) b).reply
    short-as c = refused_as 44 out (save (length out) b).reply (save-short (length out) b (omega (arith, c, u, ap length sheet-is)))

    pub sheet-as : n ≤ length out → (out' : List ℕ) → out' ≡ sets out 0 (sheet_of x.words x.ring ys)
        → written 0 n out' ≡ shown out (save (length out) b).reply
    sheet-as c out' v =
        written_as (sheet b.geo b.store.recs) out out' n (save (length out) b).reply (save-fits (length out) b (omega (arith, c, u, ap length sheet-is)))
        (u ∙ ap length sheet-is) (v ∙ ap (sets out 0) sheet-is)

-- The call.

on-file : (d : Desk) (f n : ℕ) (x : File) → f < files → file_of d f ≡ x → (respond d (rules.save f n)).reply ≡ (ask x (calls.save n)).reply
unfolding respond asked answered
on-file d f n x h e = rw (lt-ltb f files h, answered) (ap (λ (y : File). (ask y (calls.save n)).reply) e)

above : (d : Desk) (f n : ℕ) → files ≤ f → (respond d (rules.save f n)).reply ≡ shows 31 []
unfolding respond asked answered refusal
above d f n h = rw (le-ltb f files h, answered) refl

-- the memories are lent to be read, and are what the rules leave
pub saves : (m : Memories) (f : ℕ) (out : List ℕ) (g : Given) → ((v : Option Standing) → Seen m v → g ≡ shown out (reply_of v (rules.save f (length out))))
    → Promise m (host.save f out) g m
unfolding Promise
saves m f out g h v S = (h v S, save-behind m v S f (length out))

-- a file whose R is not 0 is built
pub save-stands : {m : Memories} {d : Desk} {s : Alloc} (f w : ℕ) → w ≡ words_at m.segment f → (w ≡ 0 → ⊥) → StandsFor m d s → FileStands m.segment m.blocks f
save-stands {m} {d = d} {s = s} f w e h S =
    let (b, k) = is-built S f w e h in
    record { file = words-low m.segment f w e h; buffers = m.buffers; d = d; s = s; b = b; stands = S; is = k }

abbrev Comes : ℕ → List ℕ → ℕ → ℕ → List ℕ → Option Standing → Type 0
Comes f out st n out' v = written st n out' ≡ shown out (reply_of v (rules.save f (length out)))

module _ {m : Memories} (f : ℕ) (out : List ℕ) where
  -- 29
  pub save-unsound : soundly m ≡ false → (v : Option Standing) → Seen m v → Comes f out 29 0 out v
  unfolding reply_of
  save-unsound t = seen_none (Comes f out 29 0 out) t (refused_as 29 out (shows 29 []) refl)

  module _ (t : soundly m ≡ true) (w : ℕ) (e : w ≡ words_at m.segment f) where
    -- 31: file above 7 or not built
    pub save-unbuilt : w ≡ 0 → (v : Option Standing) → Seen m v → Comes f out 31 0 out v
    unfolding reply_of ask ask_unbuilt refusal unmade
    save-unbuilt z =
        seen-some (Comes f out 31 0 out) t
        (λ d s S. refused_as 31 out (respond d (rules.save f (length out))).reply (go d s S (dec_lt f files)))
      where
        go : (d : Desk) (s : Alloc) → StandsFor m d s → Dec (f < files) → (respond d (rules.save f (length out))).reply ≡ shows 31 []
        go d s S (yes h) = on-file d f (length out) unbuilt h (not-built S f w e h z)
        go d s S (no h) = above d f (length out) (omega arith)

    pub save-built : (w ≡ 0 → ⊥) → (st n : ℕ) (out' : List ℕ)
        → ((buffers : List ℕ) (d : Desk) (s : Alloc) (b : Built) → StandsFor (memories m.segment m.blocks buffers) d s → file_of d f ≡ built b → written st n out' ≡ shown out (save (length out) b).reply)
        → (v : Option Standing) → Seen m v → Comes f out st n out' v
    unfolding reply_of ask ask_built
    save-built h st n out' g =
        seen-some (Comes f out st n out') t
        (λ d s S. let (b, k) = is-built S f w e h in
        g m.buffers d s b S k ∙ ap (λ (r : Reply). shown out r) (sym (on-file d f (length out) (built b) (words-low m.segment f w e h) k)))
