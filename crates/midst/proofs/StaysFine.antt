-- A call leaves every file fine.
use Prim.Native.Nat.{ℕ, ◌<◌}
use mathlib.Core.Path.{◌≡◌, ◌∙◌}
use native.Mathlib.Decide.{ℕ_discrete}
use borrow.Author.Tests.{lt-ltb, ne_eqb}
use Rattle.rules.specs.Limits.{files}
use Rattle.rules.specs.State.{Built, File, built}
use Rattle.rules.specs.Reply.{hushed}
use Rattle.rules.specs.Time.{lapse, file_time}
use Rattle.rules.specs.Calls.{Ask, ask}
use Rattle.rules.specs.Desk.{Desk, Asked, on, time, bad, file_of, answered}
use Rattle.laws.specs.Runs.{OnFile, Proper}
use Rattle.laws.specs.Changes.{Starts}
use Rattle.laws.specs.EightFiles.{EightFiles}
use Rattle.laws.proofs.Files.{on-file}
use Rattle.laws.proofs.Lift.{Any, any, any-start, asks, lasts}
use Rattle.laws.proofs.Proper.{ProperAsked}
use Rattle.laws.proofs.Isolation.{own_file, answered-named, answered-other, answered-time}
use Rattle.laws.proofs.Timers.{timed-starts, timed-lapse, timed-hushed}
use Rattle.laws.proofs.Lying.{lying-starts, lying-lapse, lying-hushed}
use Rattle.laws.proofs.Records.{whole-starts, whole-lapse, whole-hushed}
use Rattle.memory.specs.Fine.{Fine}
use Rattle.midst.proofs.Walks.{Owed, whole, ticks, lain, fine, fine-walks}

fine-starts : Starts Fine
fine-starts = record { built = λ g k. fine (whole-starts.built g k) (timed-starts.built g k) (lying-starts.built g k); loads = λ s k. fine (whole-starts.loads s k) (timed-starts.loads s k) (lying-starts.loads s k) }

fine-lapse : (e : ℕ) (b : Built) → Fine b → Fine (lapse e b)
fine-lapse e b i = fine (whole-lapse e b (whole i)) (timed-lapse e b (ticks i)) (lying-lapse e b (lain i))

pub fine-hushed : (b : Built) → Fine b → Fine (hushed b)
fine-hushed b i = fine (whole-hushed b (whole i)) (timed-hushed b (ticks i)) (lying-hushed b (lain i))

both : (b : Built) → Fine b → Any b → Fine (hushed b) × Any (hushed b)
both b i _ = (fine-hushed b i, tt)

more : (x : File) → OnFile Fine x → OnFile (λ b. Fine b × Any b) x
more x h = on-file Fine (λ b. Fine b × Any b) (λ b i. (i, tt)) x h

pub asks-fine : (x : File) (q : Ask) → Proper q → OnFile Fine x → OnFile Fine (ask x q).file
asks-fine x q k h =
    on-file (λ b. Fine b × Any b) Fine (λ b i. i.0) (ask x q).file
    (asks Fine Any Owed fine-walks fine-lapse (any Fine) fine-starts any-start both x q k (more x h))

pub lasts-fine : (e : ℕ) (x : File) → OnFile Fine x → OnFile Fine (file_time e x)
lasts-fine e x h =
    on-file (λ b. Fine b × Any b) Fine (λ b i. i.0) (file_time e x)
    (lasts Fine Any Owed fine-walks fine-lapse (any Fine) fine-starts any-start both e x (more x h))

-- every file stays fine
pub answered-fine : (d : Desk) (a : Asked) → EightFiles d → ProperAsked a → ((f : ℕ) → f < files → OnFile Fine (file_of d f))
    → (f : ℕ) → f < files → OnFile Fine (file_of (answered d a).desk f)
unfolding ProperAsked
answered-fine d (on g q) n k h f l = go (ℕ_discrete g f)
  where
    go : Dec (g ≡ f) → OnFile Fine (file_of (answered d (on g q)).desk f)
    go (yes e) =
        let hg : g < files = rw e l in
        let m : file_of (answered d (on g q)).desk g ≡ (ask (file_of d g) q).file = (answered-named d g q n).0 ∙ (unfold own_file in rw (lt-ltb g files hg, own_file)) in
        rw (← e, m) (asks-fine (file_of d g) q k (h g hg))
    go (no e) = rw (answered-other d f g q (ne_eqb g f e)) (h f l)
answered-fine d (time e) n k h f l = rw (answered-time d f e) (lasts-fine e (file_of d f) (h f l))
answered-fine d bad n k h f l = unfold answered in h f l
