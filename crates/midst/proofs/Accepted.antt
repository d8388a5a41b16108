-- What is known of a call of a desk that is not refused.
use mathlib.Core.Path.{◌≡◌, refl, sym, ap, ◌∙◌}
use mathlib.Core.List.{List}
use mathlib.Core.Option.{Option, some}
use Prim.Native.Nat.{ℕ, ◌<◌}
use native.Mathlib.Omega.{arith}
use lib.Dec.{ltb}
use borrow.Author.Tests.{ltb-true}
use Rattle.kinds.specs.declared.Control.{Control}
use Rattle.kinds.specs.declared.Control.TheVariants.{Timeout, Verify, Abort, Extended, Typed, Keep}
use Rattle.rules.specs.Limits.{files}
use Rattle.rules.specs.State.{Built, File, unbuilt, built}
use Rattle.rules.specs.Reply.{leaves, unmade}
use Rattle.rules.specs.Controls.{set_timeout, set_extended, set_typed, set_keep}
use Rattle.rules.specs.FileCounts.{counts}
use Rattle.rules.specs.Calls.{Ask, ask_built, ask_unbuilt, ask}
use Rattle.rules.specs.Calls as calls
use Rattle.rules.specs.Desk.{Desk, on, file_of, Responded, answered}
use Rattle.rules.proofs.Split.{both}
use Rattle.midst.specs.Outcome.{refusal_of}
use Rattle.midst.specs.Accepted.{ReadKnown, WriteKnown, CollectKnown, CloseKnown, SetKnown, VerifyKnown, SwitchKnown, ReaderKnown, AbortKnown, ControlKnown, OpenKnown, BuildKnown, Known, KnownNew, NotRefused, NotRefusedNew}
use Rattle.midst.proofs.Judged.{refusal-back, passed, judged, judged-new}

-- the file is one of the eight, and it is the file that does not refuse
passes : (d : Desk) (f : ℕ) (q : Ask) → refusal_of (answered d (on f q)).reply ≡ 0 → (f < files) × (refusal_of (ask (file_of d f) q).reply ≡ 0)
unfolding answered
passes d f q =
    both (λ (r : Responded). refusal_of r.reply ≡ 0 → (f < files) × (refusal_of (ask (file_of d f) q).reply ≡ 0)) (ltb f files)
    (λ t e. (ltb-true f files t, e))
    (λ _ e. absurd (omega (arith, sym (refusal-back q 31 (omega arith)) ∙ e)))

pub accepted-file : (d : Desk) (f : ℕ) (q : Ask) → refusal_of (answered d (on f q)).reply ≡ 0 → f < files
accepted-file d f q e = (passes d f q e).0

-- a call that only a built file takes
on-built : (d : Desk) (f : ℕ) (q : Ask) → (KnownNew q (ask_unbuilt q) → ⊥) → refusal_of (answered d (on f q)).reply ≡ 0 → NotRefused (Known q) d f q
unfolding ask leaves unmade
on-built d f q h e = go (file_of d f) refl
  where
    go : (x : File) → file_of d f ≡ x → NotRefused (Known q) d f q
    go unbuilt k = absurd (h (passed q unmade _ _ (λ r. refl) (judged-new q) (ap (λ (x : File). refusal_of (ask x q).reply) (sym k) ∙ (passes d f q e).1)))
    go (built b) k =
        record {
          file = (passes d f q e).0;
          b = b;
          stands = k;
          known = rw k (passed q (λ r. leaves r b) (Known q b) (ask_built b q) (λ r. refl) (judged b q) (ap (λ (x : File). refusal_of (ask x q).reply) (sym k) ∙ (passes d f q e).1));
        }

-- a call that only a file that is not built accepts
on-new : (d : Desk) (f : ℕ) (q : Ask) → ((b : Built) → Known q b (ask_built b q) → ⊥) → refusal_of (answered d (on f q)).reply ≡ 0 → NotRefusedNew (KnownNew q) d f q
unfolding ask leaves unmade
on-new d f q h e = go (file_of d f) refl
  where
    go : (x : File) → file_of d f ≡ x → NotRefusedNew (KnownNew q) d f q
    go unbuilt k =
        record {
          file = (passes d f q e).0;
          stands = k;
          known = rw k (passed q unmade (KnownNew q) (ask_unbuilt q) (λ r. refl) (judged-new q) (ap (λ (x : File). refusal_of (ask x q).reply) (sym k) ∙ (passes d f q e).1));
        }
    go (built b) k = absurd (h b (passed q (λ r. leaves r b) _ _ (λ r. refl) (judged b q) (ap (λ (x : File). refusal_of (ask x q).reply) (sym k) ∙ (passes d f q e).1)))

-- call by call

pub accepted-build : (d : Desk) (f r b n x : ℕ) → refusal_of (answered d (on f (calls.build r b n x))).reply ≡ 0 → NotRefusedNew (BuildKnown r b n x) d f (calls.build r b n x)
unfolding Known KnownNew
accepted-build d f r b n x e = on-new d f (calls.build r b n x) (λ _ k. k) e

pub accepted-open : (d : Desk) (f access share multi : ℕ) → refusal_of (answered d (on f (calls.opens access share multi))).reply ≡ 0
    → NotRefused (OpenKnown access share multi) d f (calls.opens access share multi)
unfolding Known KnownNew
accepted-open d f access share multi e = on-built d f (calls.opens access share multi) (λ k. k) e

pub accepted-read : (d : Desk) (f p n : ℕ) → refusal_of (answered d (on f (calls.read p n))).reply ≡ 0 → NotRefused (ReadKnown p n) d f (calls.read p n)
unfolding Known KnownNew
accepted-read d f p n e = on-built d f (calls.read p n) (λ k. k) e

pub accepted-write : (d : Desk) (f p n : ℕ) (t : List ℕ) → refusal_of (answered d (on f (calls.write p n t))).reply ≡ 0 → NotRefused (WriteKnown p n t) d f (calls.write p n t)
unfolding Known KnownNew
accepted-write d f p n t e = on-built d f (calls.write p n t) (λ k. k) e

-- by the control it is SetKnown, VerifyKnown, SwitchKnown, ReaderKnown or AbortKnown, and of no control nothing
pub accepted-control : (d : Desk) (f p : ℕ) (c : Option Control) → refusal_of (answered d (on f (calls.control p c))).reply ≡ 0 → NotRefused (ControlKnown p c) d f (calls.control p c)
unfolding Known KnownNew
accepted-control d f p c e = on-built d f (calls.control p c) (λ k. k) e

pub accepted-timeout : (d : Desk) (f p v : ℕ) → refusal_of (answered d (on f (calls.control p (some (Timeout v))))).reply ≡ 0
    → NotRefused (SetKnown p (set_timeout v)) d f (calls.control p (some (Timeout v)))
unfolding ControlKnown
accepted-timeout d f p v e = accepted-control d f p (some (Timeout v)) e

pub accepted-verify : (d : Desk) (f p v : ℕ) → refusal_of (answered d (on f (calls.control p (some (Verify v))))).reply ≡ 0
    → NotRefused (VerifyKnown p) d f (calls.control p (some (Verify v)))
unfolding ControlKnown
accepted-verify d f p v e = accepted-control d f p (some (Verify v)) e

pub accepted-abort : (d : Desk) (f p v : ℕ) → refusal_of (answered d (on f (calls.control p (some (Abort v))))).reply ≡ 0
    → NotRefused (AbortKnown p) d f (calls.control p (some (Abort v)))
unfolding ControlKnown
accepted-abort d f p v e = accepted-control d f p (some (Abort v)) e

pub accepted-extended : (d : Desk) (f p v : ℕ) → refusal_of (answered d (on f (calls.control p (some (Extended v))))).reply ≡ 0
    → NotRefused (SwitchKnown p v set_extended) d f (calls.control p (some (Extended v)))
unfolding ControlKnown
accepted-extended d f p v e = accepted-control d f p (some (Extended v)) e

pub accepted-typed : (d : Desk) (f p v : ℕ) → refusal_of (answered d (on f (calls.control p (some (Typed v))))).reply ≡ 0
    → NotRefused (ReaderKnown p v set_typed) d f (calls.control p (some (Typed v)))
unfolding ControlKnown
accepted-typed d f p v e = accepted-control d f p (some (Typed v)) e

pub accepted-keep : (d : Desk) (f p v : ℕ) → refusal_of (answered d (on f (calls.control p (some (Keep v))))).reply ≡ 0
    → NotRefused (ReaderKnown p v set_keep) d f (calls.control p (some (Keep v)))
unfolding ControlKnown
accepted-keep d f p v e = accepted-control d f p (some (Keep v)) e

-- a code that is no control
pub accepted-code : (d : Desk) (f p : ℕ) → refusal_of (answered d (on f (calls.control p Option.none))).reply ≡ 0 → ⊥
unfolding ControlKnown
accepted-code d f p e = (accepted-control d f p Option.none e).known

pub accepted-collect : (d : Desk) (f p : ℕ) → refusal_of (answered d (on f (calls.collect p))).reply ≡ 0 → NotRefused (CollectKnown p) d f (calls.collect p)
unfolding Known KnownNew
accepted-collect d f p e = on-built d f (calls.collect p) (λ k. k) e

pub accepted-close : (d : Desk) (f p : ℕ) → refusal_of (answered d (on f (calls.close p))).reply ≡ 0 → NotRefused (CloseKnown p) d f (calls.close p)
unfolding Known KnownNew
accepted-close d f p e = on-built d f (calls.close p) (λ k. k) e

pub accepted-counts : (d : Desk) (f : ℕ) → refusal_of (answered d (on f calls.counts)).reply ≡ 0 → NotRefused (λ b o. o ≡ counts b) d f calls.counts
unfolding Known KnownNew
accepted-counts d f e = on-built d f calls.counts (λ k. k) e
