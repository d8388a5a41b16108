-- What each judge of an accessor's call has found out is the refusal number, by the way out.
use Prim.Native.Nat.{ℕ}
use mathlib.Core.Path.{◌≡◌, refl, sym, ap, ◌∙◌}
use mathlib.Core.List.{List}
use mathlib.Core.Option.{none, some}
use Rattle.kinds.specs.declared.Control.{Control}
use Rattle.rules.specs.Calls.{Ask, read, write, control, collect, close}
use Rattle.rules.specs.Desk.{Desk, on, answered}
use Rattle.midst.specs.Outcome.{refusal_of}
use Rattle.kinds.specs.declared.Outstanding.{Outstanding}
use Rattle.accessors.specs.declared.Accessor.{Accessor}
use Rattle.kinds.specs.declared.refusals.Refusal.{Refusal}
use Rattle.kinds.specs.Refusals.{number}
use Rattle.std.specs.Prelude.{Result, Ok, Err}
use Rattle.accessors.specs.Accessors.{accessor_at, accessor_of}
use Rattle.judges.specs.Verdicts.{judged}
use Rattle.refusing.specs.Verdicts.{write_refusal, control_refusal, nothing_refusal, read_refusal, close_refusal, code_refusal}
use Rattle.judges.specs.Refused.{Refuses}
use Rattle.accessors.proofs.Names.{accessor-is}
use Rattle.judges.proofs.Judged.{Ends, stands-ends, read-judged, write-judged, control-judged, code-judged, close-judged, collect-judged}

-- the accessor was found, or refused, and the rules judge by g
module _ (q : Ask) (g : ℕ → ℕ → Outstanding → ℕ) (f p : ℕ) (rules : (d : Desk) → Ends d f → refusal_of (answered d (on f q)).reply ≡ judged g (accessor_of d f p))
    (xs : List ℕ) where
  said : {x : Result Accessor Refusal} {n : ℕ} → x ≡ accessor_at xs f p → n ≡ judged g x → Refuses xs (on f q) n
  said found e blocks buffers d s S = e ∙ ap (judged g) (found ∙ accessor-is S f p) ∙ sym (rules d (stands-ends S f))

  refused : {r : Refusal} → Err r ≡ accessor_at xs f p → Refuses xs (on f q) (number r)
  unfolding judged
  refused found = said found refl

  open_said : {a : Accessor} {n : ℕ} → Ok a ≡ accessor_at xs f p → n ≡ g a.words a.side a.request → Refuses xs (on f q) n
  unfolding judged
  open_said found e = said found e

module _ (xs : List ℕ) (f p : ℕ) where
  module _ {r : Refusal} (found : Err r ≡ accessor_at xs f p) where
    pub read-refused : (k : ℕ) → Refuses xs (on f (read p k)) (number r)
    read-refused k = refused _ _ f p (λ d z. read-judged d f z p k) xs found

    pub write-refused : (k : ℕ) (t : List ℕ) → Refuses xs (on f (write p k t)) (number r)
    write-refused k t = refused _ _ f p (λ d z. write-judged d f z p k t) xs found

    pub control-refused : (c : Control) → Refuses xs (on f (control p (some c))) (number r)
    control-refused c = refused _ _ f p (λ d z. control-judged d f z p c) xs found

    pub code-refused : Refuses xs (on f (control p none)) (number r)
    code-refused = refused _ _ f p (λ d z. code-judged d f z p) xs found

    pub collect-refused : Refuses xs (on f (collect p)) (number r)
    collect-refused = refused _ _ f p (λ d z. collect-judged d f z p) xs found

    pub close-refused : Refuses xs (on f (close p)) (number r)
    close-refused = refused _ _ f p (λ d z. close-judged d f z p) xs found

  module _ {a : Accessor} (found : Ok a ≡ accessor_at xs f p) {n : ℕ} where
    pub read-said : (k : ℕ) → n ≡ read_refusal k a.side a.request → Refuses xs (on f (read p k)) n
    read-said k = open_said _ _ f p (λ d z. read-judged d f z p k) xs found

    pub write-said : (k : ℕ) (t : List ℕ) → n ≡ write_refusal k a.words a.side a.request → Refuses xs (on f (write p k t)) n
    write-said k t = open_said _ _ f p (λ d z. write-judged d f z p k t) xs found

    pub control-said : (c : Control) → n ≡ control_refusal c a.side a.request → Refuses xs (on f (control p (some c))) n
    control-said c = open_said _ _ f p (λ d z. control-judged d f z p c) xs found

    pub code-said : n ≡ code_refusal a.request → Refuses xs (on f (control p none)) n
    code-said = open_said _ _ f p (λ d z. code-judged d f z p) xs found

    pub collect-said : n ≡ nothing_refusal a.request → Refuses xs (on f (collect p)) n
    collect-said = open_said _ _ f p (λ d z. collect-judged d f z p) xs found

    pub close-said : n ≡ close_refusal a.request → Refuses xs (on f (close p)) n
    close-said = open_said _ _ f p (λ d z. close-judged d f z p) xs found
