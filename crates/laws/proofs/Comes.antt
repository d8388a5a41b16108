-- Every call of a file keeps what its places hold in agreement with it.
use mathlib.Core.Path.{◌≡◌, refl}
use mathlib.Core.List.{[]}
use Prim.Native.Nat.{ℕ, ◌<◌}
use native.Mathlib.Omega.{arith}
use Rattle.rules.specs.Limits.{files}
use Rattle.rules.specs.State.{Rec, Geo, Store, puts, Built, File, unbuilt, built}
use Rattle.rules.specs.Store.{empty_store}
use Rattle.rules.specs.Requests.{say}
use Rattle.rules.specs.Reply.{Reply, hushed, leaves, unmade}
use Rattle.rules.specs.Open.{new_file}
use Rattle.rules.specs.Sheet.{Sheet, loaded}
use Rattle.rules.specs.Calls.{Ask, ask_unbuilt, ask}
use Rattle.rules.specs.Allocation.{Alloc, allot, allot_all}
use Rattle.laws.specs.Runs.{OnFile, Proper}
use Rattle.laws.specs.Entries.{accs_of, timers_of, Calm, draws, Fed}
use Rattle.laws.specs.Midst.{Matches, Mid, Comes}
use Rattle.laws.proofs.Calls.{walked}
use Rattle.laws.proofs.Made.{made}
use Rattle.laws.proofs.Lift.{Any, any}
use Rattle.laws.proofs.Midst.{allot_all-quiet, fed-quiet, mid-walks}

pub puts-quiet : (f : ℕ) (r : Rec) (s : Alloc) → (allot f (puts r) s ≡ s) × (draws (puts r) ≡ 0)
unfolding allot draws
puts-quiet f r s = (refl, refl)

module _ (f : ℕ) (hf : f < files) (s : Alloc) where
  mid-comes : (r : Reply) (b : Built) → Mid f s b → Comes f s (leaves r b)
  unfolding leaves hushed accs_of timers_of OnFile
  mid-comes r b m = record { matches = m.matches; fed = m.fed; calm = refl }

  -- a file that is not built, and one that is new
  module _ (M : Matches f s s (accs_of unbuilt) (timers_of unbuilt)) where
    none-comes : (r : Reply) → Comes f s (unmade r)
    unfolding unmade allot_all Fed OnFile
    none-comes r = record { matches = M; fed = tt; calm = tt }

    new-mid : (g : Geo) (t : Store) → Mid f s (new_file g t)
    unfolding new_file allot_all allot Fed draws accs_of timers_of
    new-mid g t = record { matches = M; fed = (omega arith, tt) }

    loaded-mid : (t : Sheet) → Mid f s (loaded t)
    unfolding loaded new_file say allot_all allot Fed draws accs_of timers_of
    loaded-mid t = record { matches = rw (allot_all-quiet f puts (puts-quiet f) t.recs s) M; fed = (omega arith, fed-quiet f puts (puts-quiet f) t.recs s) }

    new-comes : (q : Ask) → Comes f s (ask_unbuilt q)
    new-comes q = made (Comes f s) none-comes (λ r g _. mid-comes r _ (new-mid g empty_store)) (λ r t _. mid-comes r _ (loaded-mid t)) q

  start : (b : Built) → b.past ≡ [] → Matches f s s b.accs b.timers → Mid f s b
  unfolding allot_all Fed
  start b e M = record { matches = rw e M; fed = rw e tt }

  pub comes : (x : File) (q : Ask) → Proper q → Calm x → Matches f s s (accs_of x) (timers_of x) → Comes f s (ask x q)
  unfolding ask OnFile accs_of timers_of
  comes unbuilt q k c M = new-comes M q
  comes (built b) q k c M = walked (Mid f s) Any (λ n. Mid f s) (mid-walks f hf s) (any (Mid f s)) (Comes f s) (λ r b m _. mid-comes r b m) b q k (start b c M) tt
