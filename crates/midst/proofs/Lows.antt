-- The members of a file's queues are places: so it is where queues and requests agree.
use Prim.Native.Nat.{ℕ, ◌<◌}
use mathlib.Core.Path.{◌≡◌, ap, ◌∙◌}
use mathlib.Core.Option.{none}
use native.Mathlib.Omega.{arith}
use native.Mathlib.Decide.{dec_lt}
use lib.ListN.{length, get_or-eq_default}
use Rattle.occurrences.specs.Count.{count}
use Rattle.rules.specs.Limits.{files, places}
use Rattle.rules.specs.State.{idle, Built, File, unbuilt, built}
use Rattle.rules.specs.Desk.{Desk, file_of}
use Rattle.rules.specs.Allocation.{Alloc}
use Rattle.laws.specs.Runs.{OnFile}
use Rattle.laws.specs.Outstanding.{req_of, req_at, waits_read, waits_write}
use Rattle.laws.specs.Queues.{Agree}
use Rattle.laws.specs.Entries.{accs_of, Agreed}
use Rattle.memory.specs.Image.{rq_of, wq_of}
use Rattle.midst.proofs.Lists.{Low}

-- the queues of one file have places as members
pub agree-low : (b : Built) → Agree b → length b.accs ≡ places → Low (built b)
unfolding rq_of wq_of req_of waits_read waits_write
agree-low b A n x h = go (dec_lt x places)
  where
    go : Dec (x < places) → x < places
    go (yes k) = k
    go (no k) =
        let e : req_at b.accs x ≡ idle = ap req_of (get_or-eq_default b.accs none (omega arith)) in
        absurd (omega (arith, (A x).reads ∙ ap waits_read e, (A x).writes ∙ ap waits_write e))

file-low : (y : File) → OnFile Agree y → length (accs_of y) ≡ places → Low y
unfolding OnFile accs_of
file-low unbuilt A n x h = absurd (unfold rq_of wq_of count in omega arith)
file-low (built b) A n x h = agree-low b A n x h

-- the queues of every file of a desk with which an allocation agrees
pub agreed-low : (d : Desk) (s : Alloc) → Agreed d s → ((f : ℕ) → f < files → OnFile Agree (file_of d f)) → (g : ℕ) → g < files → Low (file_of d g)
agreed-low d s A Q g h = file-low (file_of d g) (Q g h) (A.agrees g h).eight
