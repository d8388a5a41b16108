-- The refusal number of each call on a desk, by the file and the accessor that it names.
use Prim.Native.Nat.{ℕ, ◌<◌, ◌≤◌}
use mathlib.Core.Path.{◌≡◌, refl, ap, ◌∙◌}
use mathlib.Core.List.{List}
use mathlib.Core.Option.{Option, none, some}
use native.Mathlib.Omega.{arith}
use borrow.Author.Tests.{lt-ltb, le-ltb, ltb-true, ltb-false}
use lib.Dec.{ltb}
use Rattle.kinds.specs.declared.Control.{Control}
use Rattle.rules.specs.Limits.{files}
use Rattle.rules.specs.State.{Acc, Built, File, unbuilt, built}
use Rattle.rules.specs.Requests.{acc_at}
use Rattle.rules.specs.Reply.{Out, leaves, unmade}
use Rattle.rules.specs.Calls.{Ask, read, write, control, collect, close, refusal, on_acc, ask_built, ask_unbuilt, ask}
use Rattle.rules.specs.Transfer as transfer
use Rattle.rules.specs.Controls as controls
use Rattle.rules.specs.Close as closing
use Rattle.rules.specs.Desk.{Desk, file_of, on, answered}
use Rattle.rules.specs.Allocation.{Alloc}
use Rattle.rules.proofs.Split.{by_cases}
use Rattle.laws.specs.Bounds.{least_refusal}
use Rattle.laws.specs.Runs.{OnFile}
use Rattle.laws.specs.Outstanding.{req_of}
use Rattle.laws.proofs.Files.{on-file}
use Rattle.memory.specs.Memories.{Memories}
use Rattle.memory.specs.Fine.{Fine, StandsFor}
use Rattle.midst.specs.Outcome.{refusal_of}
use Rattle.midst.specs.Accepted.{end_of, Ended}
use Rattle.midst.proofs.Judged.{refusal-back}
use Rattle.midst.proofs.Refused.{fine-ended}
use Rattle.kinds.specs.declared.Outstanding.{Outstanding}
use Rattle.accessors.specs.Sides.{side_of}
use Rattle.accessors.specs.Outstanding.{outstanding_of}
use Rattle.accessors.specs.Accessors.{accessor_in, accessor_on, accessor_of}
use Rattle.judges.specs.Verdicts.{judged}
use Rattle.refusing.specs.Verdicts.{write_refusal, control_refusal, nothing_refusal, read_refusal, close_refusal, code_refusal}
use Rattle.judges.proofs.Verdicts.{read-comes, write-comes, collect-comes, control-comes, code-comes, close-comes}

-- in file f no request completed with a refusal's number, as in every file of a desk that a segment stands for
abbrev pub Ends : Desk → ℕ → Type 0
Ends d f = f < files → OnFile Ended (file_of d f)

pub stands-ends : {m : Memories} {d : Desk} {s : Alloc} → StandsFor m d s → (f : ℕ) → Ends d f
stands-ends {d = d} S f h = on-file Fine Ended fine-ended (file_of d f) (S.fine f h)

-- the reply is that of the file; 31 where it is above 7
reply-low : (d : Desk) (f : ℕ) (q : Ask) → f < files → (answered d (on f q)).reply ≡ (ask (file_of d f) q).reply
unfolding answered
reply-low d f q h = rw (answered, lt-ltb f files h)

pub number-high : (d : Desk) (f : ℕ) (q : Ask) → files ≤ f → refusal_of (answered d (on f q)).reply ≡ 31
unfolding answered
number-high d f q h = rw (answered, le-ltb f files h) (refusal-back q 31 (omega arith))

-- the outcome of a call of an accessor: g gives it for an open one
module _ (q : Ask) (p : ℕ) (body : Acc → Built → Out) (g : ℕ → ℕ → Outstanding → ℕ)
    (is : (b : Built) → ask_built b q ≡ on_acc q p (λ a. body a b) b) (un : ask_unbuilt q ≡ unmade (refusal q 31))
    (number : (a : Acc) (b : Built) → end_of a.req < least_refusal → refusal_of (body a b).reply ≡ g b.geo.words (side_of (some a)) (outstanding_of a.req)) where
  by_place : (b : Built) (o : Option Acc) → acc_at b p ≡ o → end_of (req_of o) < least_refusal → refusal_of (ask_built b q).reply ≡ judged g (accessor_in b.geo.words o)
  unfolding on_acc leaves judged accessor_in req_of
  by_place b none e z = rw (is b, on_acc, e) (refusal-back q 32 (omega arith))
  by_place b (some a) e z = rw (is b, on_acc, e) (number a b z)

  by-file : (x : File) → OnFile Ended x → refusal_of (ask x q).reply ≡ judged g (accessor_on x p)
  unfolding ask accessor_on judged unmade OnFile acc_at
  by-file unbuilt z = rw un (refusal-back q 31 (omega arith))
  by-file (built b) z = by_place b (acc_at b p) refl (z p)

  by-accessor : (d : Desk) (f : ℕ) → Ends d f → refusal_of (answered d (on f q)).reply ≡ judged g (accessor_of d f p)
  unfolding accessor_of judged
  by-accessor d f z =
      by_cases (ltb f files)
      (λ e. rw (reply-low d f q (ltb-true f files e), accessor_of, e) (by-file (file_of d f) (z (ltb-true f files e))))
      (λ e. rw (accessor_of, e) (number-high d f q (ltb-false f files e)))

module _ (d : Desk) (f : ℕ) (z : Ends d f) (p : ℕ) where
  pub read-judged : (n : ℕ) → refusal_of (answered d (on f (read p n))).reply ≡ judged (λ words. read_refusal n) (accessor_of d f p)
  unfolding ask_built ask_unbuilt
  read-judged n = by-accessor (read p n) p (λ a b. transfer.read p a n b) (λ words. read_refusal n) (λ b. refl) refl (λ a b _. read-comes p n a b) d f z

  pub write-judged : (n : ℕ) (t : List ℕ) → refusal_of (answered d (on f (write p n t))).reply ≡ judged (write_refusal n) (accessor_of d f p)
  unfolding ask_built ask_unbuilt
  write-judged n t = by-accessor (write p n t) p (λ a b. transfer.write p a n t b) (write_refusal n) (λ b. refl) refl (λ a b _. write-comes p n t a b) d f z

  pub control-judged : (c : Control) → refusal_of (answered d (on f (control p (some c)))).reply ≡ judged (λ words. control_refusal c) (accessor_of d f p)
  unfolding ask_built ask_unbuilt
  control-judged c =
      by-accessor (control p (some c)) p (λ a b. controls.control p a (some c) b) (λ words. control_refusal c) (λ b. refl) refl (λ a b _. control-comes p c a b) d f z

  pub code-judged : refusal_of (answered d (on f (control p none))).reply ≡ judged (λ words side. code_refusal) (accessor_of d f p)
  unfolding ask_built ask_unbuilt
  code-judged = by-accessor (control p none) p (λ a b. controls.control p a none b) (λ words side. code_refusal) (λ b. refl) refl (λ a b _. code-comes p a b) d f z

  pub collect-judged : refusal_of (answered d (on f (collect p))).reply ≡ judged (λ words side. nothing_refusal) (accessor_of d f p)
  unfolding ask_built ask_unbuilt
  collect-judged = by-accessor (collect p) p (λ a b. transfer.collect p a.req b) (λ words side. nothing_refusal) (λ b. refl) refl (λ a b. collect-comes p a.req b) d f z

  pub close-judged : refusal_of (answered d (on f (close p))).reply ≡ judged (λ words side. close_refusal) (accessor_of d f p)
  unfolding ask_built ask_unbuilt
  close-judged = by-accessor (close p) p (λ a b. closing.close p a a.req b) (λ words side. close_refusal) (λ b. refl) refl (λ a b _. close-comes p a a.req b) d f z

-- calls of a file

pub number-built : (d : Desk) (f : ℕ) (q : Ask) (b : Built) → f < files → file_of d f ≡ built b → refusal_of (answered d (on f q)).reply ≡ refusal_of (ask_built b q).reply
unfolding ask
number-built d f q b h e = ap refusal_of (reply-low d f q h ∙ ap (λ x. (ask x q).reply) e)

pub number-unbuilt : (d : Desk) (f : ℕ) (q : Ask) → f < files → file_of d f ≡ unbuilt → refusal_of (answered d (on f q)).reply ≡ refusal_of (ask_unbuilt q).reply
unfolding ask
number-unbuilt d f q h e = ap refusal_of (reply-low d f q h ∙ ap (λ x. (ask x q).reply) e)
