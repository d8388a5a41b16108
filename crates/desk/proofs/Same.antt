-- The contracts of the functions that act leave nothing open: two results that meet one are the same, in the answer and in all lent memories.
use Prim.Native.Nat.{ℕ, ◌<◌}
use mathlib.Core.Path.{◌≡◌, refl, sym, ap, ◌∙◌, ap₂}
use mathlib.Core.List.{List}
use native.Mathlib.Decide.{ℕ_discrete}
use lib.ListN.{length}
use lib.Seq.{sets}
use borrow.Author.Tests.{lt-ltb}
use Rattle.kinds.specs.declared.Answer.{Answer}
use Rattle.kinds.specs.declared.Answer.TheVariants.{Passed}
use Rattle.rules.specs.Limits.{files}
use Rattle.rules.specs.State.{unbuilt}
use Rattle.rules.specs.Answers.{answer_bytes}
use Rattle.rules.specs.Reply.{Reply, answers, shows}
use Rattle.rules.specs.Calls.{Ask, ask}
use Rattle.rules.specs.Calls as calls
use Rattle.rules.specs.Desk.{Desk, on, time, file_of, with_file, desk_time, answered}
use Rattle.rules.specs.Allocation.{Alloc, allot_all, alloc_time, alloc_asked}
use Rattle.rules.specs.Memories.{share_at}
use Rattle.laws.specs.Runs.{Proper, OnFile}
use Rattle.laws.specs.Queues.{Agree}
use Rattle.laws.specs.Entries.{Agreed}
use Rattle.laws.proofs.Files.{on-file}
use Rattle.laws.proofs.Proper.{ProperAsked}
use Rattle.laws.proofs.Allocated.{happens-here}
use Rattle.laws.proofs.Allocated as laws
use Rattle.memory.specs.Memories.{Memories, memories}
use Rattle.memory.specs.Stands.{Stands, buffers_at}
use Rattle.memory.specs.Covers.{Covers, Alike}
use Rattle.memory.specs.Fine.{Fine, StandsFor}
use Rattle.memory.proofs.Once.{agreed-covers}
use Rattle.memory.proofs.Determined.{stands_same}
use Rattle.midst.specs.Outcome.{refusal_of, Outcome, Done, Gave}
use Rattle.midst.proofs.Accepted.{accepted-file}
use Rattle.midst.proofs.StaysFine.{answered-fine}
use Rattle.midst.proofs.StandsBehind.{Built'}
use Rattle.promises.proofs.Unbuilt.{not-both, time-unbuilt}
use Rattle.desk.proofs.Known.{built-build, built-open, built-read, built-write, built-control, built-collect, built-close}
use Rattle.laws.proofs.Isolation.{answered-time}
use Rattle.laws.proofs.EightFiles.{file-same}

answer_of : Reply → Answer
answer_of (answers a d) = a
answer_of (shows st d) = Passed

data_of : Reply → List ℕ
data_of (answers a d) = d
data_of (shows st d) = d

covered : (e : Desk) (t : Alloc) → Agreed e t → ((g : ℕ) → g < files → OnFile Fine (file_of e g)) → Covers e t
covered e t A F = agreed-covers e t A (λ g h. on-file Fine Agree (λ c i. i.queues) (file_of e g) (F g h))

-- build, open, read, write, control, collect and close
unfoldable pub Acts : Ask → Type 0
Acts (calls.build r b n x) = Unit {0}
Acts (calls.opens a s m) = Unit {0}
Acts (calls.read p n) = Unit {0}
Acts (calls.write p n t) = Unit {0}
Acts (calls.control p c) = Unit {0}
Acts (calls.collect p) = Unit {0}
Acts (calls.close p) = Unit {0}
Acts calls.counts = ⊥
Acts (calls.load t) = ⊥
Acts (calls.save n) = ⊥
Acts (calls.look p) = ⊥

-- where they are not refused, the file is built then
acts-built : (d : Desk) (f : ℕ) (q : Ask) → Acts q → Proper q → refusal_of (answered d (on f q)).reply ≡ 0 → Built' (ask (file_of d f) q)
unfolding Acts Proper
acts-built d f (calls.build r b n x) a k e = built-build d f r b n x e
acts-built d f (calls.opens m s n) a k e = built-open d f m s n e
acts-built d f (calls.read p n) a k e = built-read d f p n e
acts-built d f (calls.write p n t) a k e = built-write d f p n t k e
acts-built d f (calls.control p c) a k e = built-control d f p c e
acts-built d f (calls.collect p) a k e = built-collect d f p e
acts-built d f (calls.close p) a k e = built-close d f p e
acts-built d f calls.counts a k e = absurd a
acts-built d f (calls.load t) a k e = absurd a
acts-built d f (calls.save n) a k e = absurd a
acts-built d f (calls.look p) a k e = absurd a

module _ {m : Memories} {d : Desk} {s : Alloc} (S : StandsFor m d s) (f : ℕ) (q : Ask) (acts : Acts q) (k : Proper q)
    (ok : refusal_of (answered d (on f q)).reply ≡ 0) where
  B : Built' (ask (file_of d f) q)
  B = acts-built d f q acts k ok

  low : f < files
  low = accepted-file d f q ok

  desk-is : (answered d (on f q)).desk ≡ with_file d f (ask (file_of d f) q).file
  unfolding answered
  desk-is = rw (lt-ltb f files low, answered)

  alloc-is : alloc_asked d (on f q) s ≡ allot_all f (ask (file_of d f) q).haps s
  unfolding alloc_asked
  alloc-is = rw (alloc_asked, happens-here f d q low)

  covers : Covers (with_file d f (ask (file_of d f) q).file) (allot_all f (ask (file_of d f) q).haps s)
  unfolding ProperAsked
  covers =
      rw (← desk-is, ← alloc-is)
      (covered (answered d (on f q)).desk (alloc_asked d (on f q) s) (laws.answers d s (on f q) k S.agreed) (answered-fine d (on f q) S.agreed.eight k S.fine))

  module _ (n n' : Memories) (O : Outcome f d s (ask (file_of d f) q) m n) (P : Outcome f d s (ask (file_of d f) q) m n') where
    alike : Alike (with_file d f (ask (file_of d f) q).file) n n'
    alike g h u = go (ℕ_discrete g f)
      where
        go : Dec (g ≡ f) → (share_at g n.blocks ≡ share_at g n'.blocks) × (buffers_at g n.buffers ≡ buffers_at g n'.buffers)
        go (yes e) = absurd (not-both (file_of (with_file d f (ask (file_of d f) q).file) g) B.file (ap (file_of (with_file d f (ask (file_of d f) q).file)) e ∙ file-same d f (ask (file_of d f) q).file S.agreed.eight low ∙ B.is) u)
        go (no k) = (O.apart.shares g h k ∙ sym (P.apart.shares g h k), O.apart.others g h k ∙ sym (P.apart.others g h k))

    pub outcome-same : n ≡ n'
    outcome-same = stands_same (with_file d f (ask (file_of d f) q).file) (allot_all f (ask (file_of d f) q).haps s) n n' covers O.stands P.stands alike

  -- build, open, write, control and close answer with no data
  pub done-same : (n n' : Memories) (a a' : Answer) → Done f d s (ask (file_of d f) q) m n a → Done f d s (ask (file_of d f) q) m n' a' → (a ≡ a') × (n ≡ n')
  unfolding answer_of
  done-same n n' a a' D E = (ap answer_of (sym D.reply ∙ E.reply), outcome-same n n' D.outcome E.outcome)

  -- read and collect
  pub gave-same : (memory : List ℕ) (n : Memories) (t : List ℕ) (n' : Memories) (t' : List ℕ) (a a' : Answer) (size size' : ℕ) → Gave f d s (ask (file_of d f) q) m memory n t a size
      → Gave f d s (ask (file_of d f) q) m memory n' t' a' size' → (a ≡ a') × (size ≡ size') × (t ≡ t') × (n ≡ n')
  unfolding answer_of data_of
  gave-same memory n t n' t' a a' size size' G H =
      let e : G.bytes ≡ H.bytes = ap data_of (sym G.reply ∙ H.reply) in
      let i : a ≡ a' = ap answer_of (sym G.reply ∙ H.reply) in (
        i,
        G.size ∙ ap length e ∙ sym H.size,
        G.behind ∙ ap₂ {C = List ℕ} (λ (z : Answer) (zs : List ℕ). sets memory (length (answer_bytes z)) zs) i e ∙ sym H.behind,
        outcome-same n n' G.outcome H.outcome,
      )

-- time, which is lent no blocks
module _ {m : Memories} {d : Desk} {s : Alloc} (S : StandsFor m d s) (e : ℕ) where
  abbrev Passes : List ℕ → List ℕ → Type 0
  Passes x y =
      Stands (memories x m.blocks y) (desk_time e d) (alloc_time e s) × ((g : ℕ) → g < files → file_of d g ≡ unbuilt → buffers_at g y ≡ buffers_at g m.buffers)

  pub passed-same : (x y x' y' : List ℕ) → Passes x y → Passes x' y' → memories x m.blocks y ≡ memories x' m.blocks y'
  unfolding answered alloc_asked ProperAsked
  passed-same x y x' y' (T, o) (U, p) =
      let c = covered (desk_time e d) (alloc_time e s) (laws.answers d s (time e) tt S.agreed) (answered-fine d (time e) S.agreed.eight tt S.fine) in
      stands_same (desk_time e d) (alloc_time e s) (memories x m.blocks y) (memories x' m.blocks y') c T U
      (λ g h u. (refl, o g h (time-unbuilt e (file_of d g) (sym (answered-time d g e) ∙ u)) ∙ sym (p g h (time-unbuilt e (file_of d g) (sym (answered-time d g e) ∙ u)))))
