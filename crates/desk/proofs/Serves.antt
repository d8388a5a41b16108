-- An accepted event, answered.
use Prim.Native.Nat.{ℕ, ◌+◌, ◌≤◌}
use mathlib.Core.Path.{◌≡◌, sym, subst}
use mathlib.Core.List.{List}
use lib.ListN.{length}
use lib.Seq.{sets}
use Rattle.kinds.specs.declared.Answer.{Answer}
use Rattle.rules.specs.Limits.{buffer_bytes}
use Rattle.rules.specs.Answers.{answer_bytes}
use Rattle.rules.specs.Reply.{Reply}
use Rattle.rules.specs.Desk.{Desk, Call}
use Rattle.rules.specs.Allocation.{Alloc}
use Rattle.midst.specs.Outcome.{Told}
use Rattle.desk.specs.Acted.{Acted, Responds}
use Rattle.desk.proofs.Tells.{tells}
use Rattle.memory.specs.Memories.{Memories}

pub served : {d : Desk} {s : Alloc} {c : Call} {m m' : Memories} {memory memory₁ memory' : List ℕ} {a : Answer} {k n : ℕ}
    → Acted d s c m memory m' memory₁ a n → k ≡ length (answer_bytes a) → memory' ≡ sets memory₁ 0 (answer_bytes a) → length (answer_bytes a) ≤ length memory
    → Responds d s c m memory m' memory' (k + n)
served {memory = memory} {memory₁ = memory₁} {memory' = memory'} {a = a} {k = k} {n = n} A e m l = record {
  stays = A.stays;
  told = subst (λ (r : Reply). Told r memory memory' (k + n)) (sym A.reply) (tells a A.bytes memory memory₁ memory' k n l A.behind m e A.size);
}

-- the lengths that are added are small
pub served-short : {d : Desk} {s : Alloc} {c : Call} {m m' : Memories} {memory memory₁ : List ℕ} {a : Answer} {n : ℕ}
    → Acted d s c m memory m' memory₁ a n → n ≤ buffer_bytes
served-short A = A.most
