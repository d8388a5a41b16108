-- What is found of a file's oldest data record is what each desk says that the memories stand for.
use Prim.Native.Nat.{ℕ, ◌+◌, ◌-◌, ◌*◌, ◌≤◌, ◌<◌}
use mathlib.Core.Path.{◌≡◌, sym, ap, ◌∙◌}
use mathlib.Core.List.{List}
use mathlib.Core.Option.{some}
use native.Mathlib.Omega.{arith}
use lib.ListN.{length, drop, length-drop}
use lib.Seq.{length-take-le}
use Rattle.words.specs.Word.{word_at}
use Rattle.rules.specs.Limits.{files, share_bytes}
use Rattle.rules.specs.State.{Built, built}
use Rattle.rules.specs.Reply.{leaves}
use Rattle.rules.specs.Look.{oldest, look_file}
use Rattle.rules.specs.Desk.{Desk, file_of}
use Rattle.rules.specs.Allocation.{Alloc}
use Rattle.rules.specs.Memories.{share_at}
use Rattle.shares.specs.Back.{rec_at}
use Rattle.shares.specs.Places.{place_of}
use Rattle.laws.proofs.Room.{good-sized}
use Rattle.segment.specs.Fields.{file_at}
use Rattle.records.specs.declared.reading.Record.{Record}
use Rattle.std.specs.Prelude as std
use Rattle.ring.specs.Ring.{geo}
use Rattle.ring.specs.Held.{Held}
use Rattle.records.specs.Reading.{Readable, header_of}
use Rattle.records.specs.Fetch.{oldest_of}
use Rattle.ring.proofs.Held.{held-long}
use Rattle.memory.specs.Memories.{memories}
use Rattle.memory.specs.Fine.{StandsFor}
use Rattle.midst.specs.declared.File as hand
use Rattle.midst.specs.File.{file_of_row}
use Rattle.midst.specs.Outcome.{reply_status}
use Rattle.midst.proofs.Begins.{mid-begin}
use Rattle.midst.specs.FileStands.{FileStands}
use Rattle.midst.proofs.FileStands.{held-file}
use Rattle.promises.specs.Parts.{nothing, of_blocks, before, of_file}
use Rattle.looking.specs.declared.finding.Shown.TheVariants.{Block}
use Rattle.kinds.specs.declared.refusals.Refusal.TheVariants as refusal
use Rattle.std.specs.Prelude.{Ok, Err}
use Rattle.looking.specs.Shown.{part_shown, status_shown, Inside, OfFile, Finds}
use Rattle.looking.proofs.Oldest.{oldest-place, oldest-some, oldest-none}

module _ (xs blocks : List ℕ) (f : ℕ) (x : hand.File) (ys : List ℕ) (row : x ≡ file_of_row (file_at xs f)) (own : ys ≡ share_at f blocks) where
  -- what the search asks
  pub file-asks : FileStands xs blocks f → Held x.words x.ring ys
  file-asks P = held-file P.stands f P.file P.b P.is x ys row own

  -- the bytes of a record are within the share
  pub body-inside : FileStands xs blocks f → (q : ℕ) → Readable ys q → q + 6 + length (rec_at ys q).body ≤ share_bytes
  unfolding rec_at
  body-inside P q k =
      let n = length-take-le (word_at ys q - 4) (drop (q + 6) ys) (rw length-drop (omega (arith, k.low, k.inside))) in
      omega (arith, n, k.low, k.inside, held-long _ _ _ (file-asks P))

  module _ {buffers : List ℕ} {d : Desk} {s : Alloc} (S : StandsFor (memories xs blocks buffers) d s) (h : f < files) (b : Built) (is : file_of d f ≡ built b) where
    -- the search was made in the file's own store
    searched : (z : std.Option ℕ) → z ≡ oldest_of (geo x.words x.ring) ys x.ring.block x.ring.spent x.ring.held
        → oldest_of b.geo b.store.share b.store.block b.store.spent (length b.store.recs) ≡ z
    searched z e = let M = mid-begin S f b h is in sym (rw (row ∙ M.row, own ∙ M.share) at e)

    -- a data record at q of the share, or none
    at_part : (q : ℕ) → oldest_of (geo x.words x.ring) ys x.ring.block x.ring.spent x.ring.held ≡ std.Some q
        → (of_file f b ≡ of_blocks (share_bytes * f + q + 6) (length (rec_at ys q).body)) × (reply_status (look_file b).reply ≡ 0)
    unfolding of_file look_file leaves reply_status
    at_part q e =
        let M = mid-begin S f b h is in
        let o = good-sized b.geo M.good.room.geo in
        let k = searched (std.Some q) (sym e) in
        let z : oldest b.store.recs ≡ some (rec_at ys q) =
        oldest-some b.geo b.store o M.good.room.holds q k ∙ ap (λ (y : List ℕ). some (rec_at y q)) (sym (own ∙ M.share)) in
        let n : share_bytes * f + (place_of b.geo b.store.share b.store.block (b.store.spent + before b.store.recs) + 6) ≡ share_bytes * f + q + 6 =
        omega (arith, oldest-place b.geo b.store o M.good.room.holds q k) in
        (rw (of_file, z) (ap (λ (i : ℕ). of_blocks i (length (rec_at ys q).body)) n), rw (look_file, z))

    no_part : oldest_of (geo x.words x.ring) ys x.ring.block x.ring.spent x.ring.held ≡ std.None
        → (of_file f b ≡ nothing) × (reply_status (look_file b).reply ≡ 39)
    unfolding of_file look_file leaves reply_status
    no_part e =
        let M = mid-begin S f b h is in
        let z = oldest-none b.geo b.store (good-sized b.geo M.good.room.geo) M.good.room.holds (searched std.None (sym e)) in
        (rw (of_file, z), rw (look_file, z))

  module _ (P : FileStands xs blocks f) (z : std.Option ℕ) (sought : z ≡ oldest_of (geo x.words x.ring) ys x.ring.block x.ring.spent x.ring.held) where
    pub file-found : (q : ℕ) (m : Record) → z ≡ std.Some q → Readable ys q → m ≡ header_of (rec_at ys q) → Finds (OfFile f) xs blocks (Ok (Block (share_bytes * f + q + 6) m.size))
    unfolding Inside part_shown status_shown
    file-found q m e k u =
        let n : m.size ≡ length (rec_at ys q).body = ap (λ (t : Record). t.size) u in
        record {
          inside = omega (arith, n, body-inside P q k, P.file);
          tells = λ buffers d s S b is.
              let t = at_part S P.file b is q (sym sought ∙ e) in
              record { shows = ap (of_blocks (share_bytes * f + q + 6)) n ∙ sym t.0; status = sym t.1 };
        }

    pub file-empty : z ≡ std.None → Finds (OfFile f) xs blocks (Err refusal.Nothing)
    unfolding Inside part_shown status_shown
    file-empty e = record {
      inside = tt;
      tells = λ buffers d s S b is. let t = no_part S P.file b is (sym sought ∙ e) in record { shows = sym t.0; status = sym t.1 };
    }
