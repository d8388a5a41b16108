-- The file is built after each accepted event.
use Prim.Native.Nat.{ℕ, ◌<◌}
use mathlib.Core.Path.{◌≡◌, refl, sym, ap, ◌∙◌, subst}
use mathlib.Core.List.{List, []}
use mathlib.Core.Option.{Option}
use lib.ListN.{length}
use Rattle.kinds.specs.declared.Answer.{Answer}
use Rattle.kinds.specs.declared.Control.{Control}
use Rattle.rules.specs.Limits.{files}
use Rattle.rules.specs.State.{Hap, Built, built}
use Rattle.rules.specs.TransferCounts.{count_bytes}
use Rattle.rules.specs.Reply.{Out, hushed, leaves, answering}
use Rattle.rules.specs.Transfer.{collect}
use Rattle.rules.specs.Calls.{ask}
use Rattle.rules.specs.Calls as calls
use Rattle.rules.specs.FileCounts as counting
use Rattle.rules.specs.Desk.{Desk, on, file_of, with_file, answered}
use Rattle.rules.specs.Allocation.{Alloc, allot_all}
use Rattle.laws.specs.Runs.{OnFile, Proper}
use Rattle.laws.proofs.EightFiles.{file-here}
use Rattle.memory.specs.Memories.{Memories}
use Rattle.memory.specs.Fine.{StandsFor}
use Rattle.midst.specs.Outcome.{refusal_of, Done}
use Rattle.midst.proofs.Accepted.{accepted-build, accepted-open, accepted-read, accepted-write, accepted-control, accepted-collect, accepted-close, accepted-counts}
use Rattle.midst.proofs.StandsBehind.{Built'}
use Rattle.desk.proofs.Accepts.{built-stays}

-- the file is built

module _ (d : Desk) (f : ℕ) where
  pub built-build : (r b n x : ℕ) → refusal_of (answered d (on f (calls.build r b n x))).reply ≡ 0 → Built' (ask (file_of d f) (calls.build r b n x))
  unfolding answering leaves
  built-build r b n x e = let k = (accepted-build d f r b n x e).known.out in record { file = _; is = ap (λ (o : Out). o.file) k }

  pub built-open : (a s m : ℕ) → refusal_of (answered d (on f (calls.opens a s m))).reply ≡ 0 → Built' (ask (file_of d f) (calls.opens a s m))
  unfolding Proper
  built-open a s m e = let k = accepted-open d f a s m e in built-stays d f _ k.b tt k.stands

  pub built-read : (p n : ℕ) → refusal_of (answered d (on f (calls.read p n))).reply ≡ 0 → Built' (ask (file_of d f) (calls.read p n))
  unfolding Proper
  built-read p n e = let k = accepted-read d f p n e in built-stays d f _ k.b tt k.stands

  pub built-write : (p n : ℕ) (t : List ℕ) → length t ≡ count_bytes n → refusal_of (answered d (on f (calls.write p n t))).reply ≡ 0 → Built' (ask (file_of d f) (calls.write p n t))
  unfolding Proper
  built-write p n t l e = let k = accepted-write d f p n t e in built-stays d f _ k.b l k.stands

  pub built-control : (p : ℕ) (c : Option Control) → refusal_of (answered d (on f (calls.control p c))).reply ≡ 0 → Built' (ask (file_of d f) (calls.control p c))
  unfolding Proper
  built-control p c e = let k = accepted-control d f p c e in built-stays d f _ k.b tt k.stands

  pub built-collect : (p : ℕ) → refusal_of (answered d (on f (calls.collect p))).reply ≡ 0 → Built' (ask (file_of d f) (calls.collect p))
  unfolding Proper
  built-collect p e = let k = accepted-collect d f p e in built-stays d f _ k.b tt k.stands

  pub built-close : (p : ℕ) → refusal_of (answered d (on f (calls.close p))).reply ≡ 0 → Built' (ask (file_of d f) (calls.close p))
  unfolding Proper
  built-close p e = let k = accepted-close d f p e in built-stays d f _ k.b tt k.stands

  pub built-counts : refusal_of (answered d (on f calls.counts)).reply ≡ 0 → Built' (ask (file_of d f) calls.counts)
  unfolding Proper
  built-counts e = let k = accepted-counts d f e in built-stays d f _ k.b tt k.stands

-- counts changes nothing

hushed-same : (b : Built) → b.past ≡ [] → hushed b ≡ b
unfolding hushed
hushed-same b e = ap {B = Built} (λ (l : List Hap). record { geo = b.geo; store = b.store; accs = b.accs; buffers = b.buffers; rq = b.rq; wq = b.wq; timers = b.timers; past = l }) (sym e)

pub counts-done : {m : Memories} {d : Desk} {s : Alloc} → StandsFor m d s → (f : ℕ) (r : Answer) → f < files → (b : Built) → file_of d f ≡ built b
    → counting.counts b ≡ answering r b → Done f d s (ask (file_of d f) calls.counts) m m r
unfolding ask calls.ask_built
counts-done {m} {d} {s} S f r hf b e q = rw (e, ask) (subst (λ (o : Out). Done f d s o m m r) (sym q) same)
  where
    calm : b.past ≡ []
    calm = unfold OnFile in (rw e at (S.agreed.calm f hf))

    file-same : with_file d f (built (hushed b)) ≡ d
    file-same = ap (λ (c : Built). with_file d f (built c)) (hushed-same b calm) ∙ file-here d f (built b) e

    same : Done f d s (answering r b) m m r
    same = unfold answering leaves allot_all in record {
      outcome = record {
        stands = rw (file-same, calm, allot_all) S.stands;
        apart = record { shares = λ g h k. refl; others = λ g h k. refl };
      };
      reply = refl;
    }
