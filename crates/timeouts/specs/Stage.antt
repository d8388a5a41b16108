-- The midst of the passing of time: what the memories stand for while some of the due requests have completed and others have not.
use Rattle.std.specs.Prelude.{ℕ, ◌*◌, ◌≤◌, ◌<◌, ◌≡◌, List, length}
use Rattle.segment.specs.Layout.{row_count}
use Rattle.rules.specs.Limits.{files, places, buffer_bytes}
use Rattle.rules.specs.State.{Built, File, unbuilt, built}
use Rattle.rules.specs.Time.{due, fail_all}
use Rattle.rules.specs.Desk.{Desk, file_of}
use Rattle.rules.specs.Allocation.{Alloc, end_all}
use Rattle.laws.specs.Runs.{OnFile}
use Rattle.laws.specs.Queues.{Agree}
use Rattle.laws.specs.Sides.{Sides}
use Rattle.laws.specs.Entries.{accs_of, timers_of}
use Rattle.laws.specs.Midst.{here, Matches}
use Rattle.laws.specs.EightFiles.{EightFiles}
use Rattle.memory.specs.Stands.{buffers_at}
use Rattle.midst.specs.Seg.{Seg}

-- what is kept of a built file
pub record Steady (b : Built) : Type 0 where
  pub queues : Agree b
  pub sides : Sides b

-- the segment and the buffers stand for a desk and an allocation that agree
pub record Stage (xs ys : List ℕ) (d : Desk) (t : Alloc) : Type 0 where
  pub segment : Seg xs d t row_count
  pub eight : EightFiles d
  pub matches : (f : ℕ) → f < files → Matches f t t (accs_of (file_of d f)) (timers_of (file_of d f))
  pub steady : (f : ℕ) → f < files → OnFile Steady (file_of d f)
  pub buffers : (f : ℕ) → f < files → OnFile (λ b. buffers_at f ys ≡ b.buffers) (file_of d f)
  pub size : length ys ≡ places * buffer_bytes * files

-- the file after the requests at these places fail, if it is built
unfoldable pub fail_file : List ℕ → File → File
fail_file l unbuilt = unbuilt
fail_file l (built b) = built (fail_all 22 l b)

-- a stage reached from desk d, allocation s and buffers ys₀ as n seconds pass: ending what is due now gives the same as ending what was due at first
pub record Reached (n k : ℕ) (ys₀ : List ℕ) (d : Desk) (s : Alloc) (xs ys : List ℕ) : Type 0 where
  pub desk : Desk
  pub alloc : Alloc
  pub stage : Stage xs ys desk alloc
  pub each : (f : ℕ) → f < files → fail_file (here f (due n alloc.clock)) (file_of desk f) ≡ fail_file (here f (due n s.clock)) (file_of d f)
  pub whole : end_all (due n alloc.clock) alloc ≡ end_all (due n s.clock) s
  pub apart : (f : ℕ) → f < files → file_of d f ≡ unbuilt → (file_of desk f ≡ unbuilt) × (buffers_at f ys ≡ buffers_at f ys₀)
  -- no more than k timers are left
  pub few : length alloc.clock ≤ k

-- the stage reached when nothing is due any more
pub record Quiet (n : ℕ) (ys₀ : List ℕ) (d : Desk) (s : Alloc) (xs ys : List ℕ) : Type 0 where
  pub desk : Desk
  pub stage : Stage xs ys desk (end_all (due n s.clock) s)
  pub each : (f : ℕ) → f < files → file_of desk f ≡ fail_file (here f (due n s.clock)) (file_of d f)
  pub apart : (f : ℕ) → f < files → file_of d f ≡ unbuilt → buffers_at f ys ≡ buffers_at f ys₀
