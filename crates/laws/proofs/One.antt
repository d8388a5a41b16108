-- Each accessor has at most one outstanding request, after any run from a fresh desk.
use mathlib.Core.List.{List}
use Prim.Native.Nat.{ℕ}
use native.Mathlib.Omega.{arith}
use Rattle.rules.specs.State.{Built}
use Rattle.rules.specs.Desk.{Call, fresh_desk, file_of, after}
use Rattle.laws.specs.Runs.{OnFile}
use Rattle.laws.specs.Outstanding.{req_at}
use Rattle.laws.specs.Queues.{Agree}
use Rattle.laws.specs.One.{One}
use Rattle.laws.proofs.Files.{on-file}
use Rattle.laws.proofs.Outstanding.{outstanding-most}
use Rattle.laws.proofs.Queues.{agreeing}

agree-one : (b : Built) → Agree b → One b
agree-one b s x = record {
  one = omega (arith, (s x).reads, (s x).writes, outstanding-most (req_at b.accs x));
  timed = omega (arith, (s x).reads, (s x).writes, (s x).times);
}

pub one-request : (f : ℕ) (cs : List Call) → OnFile One (file_of (after fresh_desk cs) f)
one-request f cs = on-file Agree One agree-one (file_of (after fresh_desk cs) f) (agreeing f cs)
