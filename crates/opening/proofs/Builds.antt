-- A file is built: its row is written, and its share and its buffers are zeros.
use Prim.Native.Nat.{ℕ, ◌*◌, ◌≤◌, ◌<◌}
use mathlib.Core.Path.{◌≡◌, refl}
use lib.ListN.{length}
use lib.Seq.{sets}
use Rattle.words.specs.Word.{zeros, Bytes}
use Rattle.words.proofs.Runs.{length-zeros}
use Rattle.kinds.specs.declared.Answer.TheVariants as answer
use Rattle.geometry.proofs.Sizes.{in-range-is, fits-capacity}
use Rattle.segment.specs.Layout.{segment_bytes, file_row_at}
use Rattle.segment.specs.Table.{fill}
use Rattle.segment.specs.Fields.{file_words}
use Rattle.rules.specs.Limits.{files, places, share_bytes, buffer_bytes, most_factor, most_records, most_extents, share_words}
use Rattle.rules.specs.State.{Geo}
use Rattle.rules.specs.Geometry.{data_blocks, capacity}
use Rattle.rules.specs.Store.{empty_store}
use Rattle.rules.specs.Reply.{leaves, answering}
use Rattle.rules.specs.Open.{new_file, geo_of}
use Rattle.rules.specs.Calls.{ask}
use Rattle.rules.specs.Calls as calls
use Rattle.rules.specs.Desk.{Desk, file_of}
use Rattle.rules.specs.Allocation.{Alloc, allot, allot_all}
use Rattle.memory.specs.Memories.{Memories}
use Rattle.memory.specs.Image as image
use Rattle.memory.specs.Fine.{StandsFor}
use Rattle.midst.specs.Outcome.{Sound, Accepted, Done}
use Rattle.midst.proofs.Accepted.{accepted-build}
use Rattle.midst.proofs.New.{made}

-- build, its numbers judged
module _ {ms : Memories} (f r b n x : ℕ) where
  pub build-file : Sound ms × Accepted f (calls.build r b n x) ms → f < files
  build-file (k, a) = (accepted-build k.0 f r b n x (a k.0 k.1 k.2)).file

  pub build-numbers : Sound ms × Accepted f (calls.build r b n x) ms → ((1 ≤ n) × (n ≤ most_records)) × ((1 ≤ b) × (b ≤ most_factor)) × ((1 ≤ x) × (x ≤ most_extents))
  build-numbers (k, a) =
      let i = in-range-is r b n x (accepted-build k.0 f r b n x (a k.0 k.1 k.2)).known.numbers in
      (i.2, i.1, i.3)

  -- what is built has no more records than its share has words
  pub build-room : Sound ms × Accepted f (calls.build r b n x) ms → (m : ℕ) → m ≡ data_blocks n b x → capacity b m ≤ share_words
  build-room (k, a) m e = rw e (fits-capacity r b (data_blocks n b x) (accepted-build k.0 f r b n x (a k.0 k.1 k.2)).known.fits)

  pub build-sizes : Sound ms × Accepted f (calls.build r b n x) ms → (length ms.segment ≡ segment_bytes) × (length ms.blocks ≡ share_bytes * files) × (length ms.buffers ≡ places * buffer_bytes * files)
  build-sizes (k, a) = (k.2.stands.segment.size, k.2.stands.bodies.blocks-size, k.2.stands.bodies.buffers-size)

  pub build-done : Sound ms × Accepted f (calls.build r b n x) ms → (m c : ℕ) (ms' : Memories) → m ≡ data_blocks n b x → c ≡ capacity b m
      → ms'.segment ≡ fill ms.segment (file_row_at f) (file_words (record { words = r; factor = b; blocks = m; block = 0; spent = 0; held = 0 }))
      → ms'.blocks ≡ sets ms.blocks (share_bytes * f) (zeros share_bytes) → ms'.buffers ≡ sets ms.buffers (places * buffer_bytes * f) (zeros (places * buffer_bytes)) → Bytes ms'.segment → Bytes ms'.blocks → Bytes ms'.buffers
      → (d : Desk) (s : Alloc) → StandsFor ms d s
      → Done f d s (ask (file_of d f) (calls.build r b n x)) ms ms' (answer.Built c)
  unfolding answering leaves geo_of new_file empty_store allot_all allot file_words image.file_words
  build-done (k, a) m c ms' em ec wrote zeroed blank xb bb ub d s S =
      let A = accepted-build d f r b n x (a d s S) in
      let g : Geo = geo_of r b (data_blocks n b x) in
      rw A.known.out record {
        outcome = made S f A.file A.stands g empty_store (length-zeros share_bytes) ms' (rw (← em) wrote) zeroed blank xb bb ub (answering (answer.Built (capacity b (data_blocks n b x))) (new_file g empty_store)) refl refl;
        reply = rw (ec, em);
      }
