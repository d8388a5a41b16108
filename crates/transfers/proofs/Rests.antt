-- A call has acted, the file has settled, and its row is written back: the outcome of the call.
use Prim.Native.Nat.{ℕ}
use mathlib.Core.Path.{sym, ap, subst}
use mathlib.Core.List.{List, []}
use Rattle.kinds.specs.declared.Answer.{Answer}
use Rattle.rules.specs.State.{Built}
use Rattle.rules.specs.Settle.{settle}
use Rattle.rules.specs.Reply.{Reply, Out, answers, leaves}
use Rattle.rules.specs.Desk.{Desk}
use Rattle.rules.specs.Allocation.{Alloc}
use Rattle.memory.specs.Memories.{Memories}
use Rattle.memory.specs.Stands.{Bodies}
use Rattle.memory.specs.Fine.{Fine}
use Rattle.midst.specs.declared.File as hand
use Rattle.midst.specs.Mid.{Start, Mid, start}
use Rattle.midst.specs.Outcome.{Outcome, Done, Gave}
use Rattle.transfers.specs.Acts.{Acts, Hands}

-- from the act to the settled file
module _ {f : ℕ} {d : Desk} {s : Alloc} {x : Out} {m m₁ m' : Memories} {file : hand.File} {a : Answer}
    (settles : (o : Start) (b : Built) → Mid Fine f o m₁ file b → Bodies o.memories o.desk → (r : Reply)
    → Outcome f o.desk o.alloc (leaves r (settle b)) o.memories m')
    (B : Bodies m d) where
  outcome-of : {bytes : List ℕ} → Acts f (start d s m) x m₁ file a bytes → Outcome f d s x m m'
  outcome-of {bytes} A =
      subst (λ (y : Out). Outcome f d s y m m') (sym A.out) (settles (start d s m) A.acted A.mid B (answers a bytes))

  pub done-of : Acts f (start d s m) x m₁ file a [] → Done f d s x m m' a
  unfolding leaves
  done-of A = record { outcome = outcome-of A; reply = ap (λ (y : Out). y.reply) A.out }

  pub gave-of : {memory memory' : List ℕ} {n : ℕ} → Hands f (start d s m) x m₁ memory memory' file a n
      → Gave f d s x m memory m' memory' a n
  unfolding leaves
  gave-of H = record {
    outcome = outcome-of H.acts;
    bytes = H.bytes;
    reply = ap (λ (y : Out). y.reply) H.acts.out;
    size = H.size;
    most = H.most;
    behind = H.behind;
  }
