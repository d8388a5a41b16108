-- A file that is not built after a call was not built before it.
use Prim.Native.Nat.{ℕ, ◌<◌}
use mathlib.Core.Path.{◌≡◌, refl, sym, ap, ◌∙◌}
use mathlib.Core.Bool.{true≢false}
use lib.Dec.{eqb}
use borrow.Author.Tests.{lt-ltb, eqb-true}
use Rattle.rules.specs.Limits.{files}
use Rattle.rules.specs.State.{Built, File, unbuilt, built}
use Rattle.rules.specs.Calls.{Ask, ask}
use Rattle.rules.specs.Desk.{Desk, Call, Asked, on, time, bad, asked, answered, respond, file_of}
use Rattle.rules.specs.Time.{file_time}
use Rattle.rules.proofs.Split.{by_cases, pick_true}
use Rattle.laws.specs.Runs.{call, Proper}
use Rattle.laws.specs.EightFiles.{EightFiles}
use Rattle.laws.proofs.Proper.{ProperAsked, asked-proper}
use Rattle.laws.proofs.Isolation.{own_file, answered-named, answered-other, answered-time}
use Rattle.midst.proofs.StandsBehind.{stays-built, is-built}

pub not-both : (x : File) (b : Built) → x ≡ built b → x ≡ unbuilt → ⊥
unfolding is-built
not-both x b e u = true≢false (ap is-built (sym e ∙ u))

asks-unbuilt : (x : File) (q : Ask) → Proper q → (ask x q).file ≡ unbuilt → x ≡ unbuilt
asks-unbuilt unbuilt q k h = refl
asks-unbuilt (built b) q k h = unfold ask in absurd (not-both (ask (built b) q).file _ (stays-built b q k).is h)

pub time-unbuilt : (e : ℕ) (x : File) → file_time e x ≡ unbuilt → x ≡ unbuilt
unfolding file_time
time-unbuilt e unbuilt h = refl
time-unbuilt e (built b) h = absurd (not-both (file_time e (built b)) _ refl h)

was-unbuilt : (d : Desk) (a : Asked) → ProperAsked a → (f : ℕ) → f < files → EightFiles d → file_of (answered d a).desk f ≡ unbuilt → file_of d f ≡ unbuilt
unfolding ProperAsked
was-unbuilt d (on g q) k f h n u =
    by_cases (eqb g f)
    (λ e.
    let z : g ≡ f = eqb-true g f e in
    let w : file_of (answered d (on f q)).desk f ≡ unbuilt = ap (λ (x : ℕ). file_of (answered d (on x q)).desk f) (sym z) ∙ u in
    let v : own_file f (file_of d f) (call q) ≡ (ask (file_of d f) q).file = unfold own_file in pick_true _ _ _ (lt-ltb f files h) in
    asks-unbuilt (file_of d f) q k (sym v ∙ sym (answered-named d f q n).0 ∙ w))
    (λ e. sym (answered-other d f g q e) ∙ u)
was-unbuilt d (time e) k f h n u = time-unbuilt e (file_of d f) (sym (answered-time d f e) ∙ u)
was-unbuilt d bad k f h n u = unfold answered in u

pub unbuilt-before : (d : Desk) (c : Call) (f : ℕ) → f < files → EightFiles d → file_of (respond d c).desk f ≡ unbuilt → file_of d f ≡ unbuilt
unfolding respond
unbuilt-before d c f h n u = was-unbuilt d (asked c) (asked-proper c) f h n u
