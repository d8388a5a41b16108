-- A file's queues are never both non-empty: where a reader waits the file is empty, so a record fits.
use mathlib.Core.Path.{◌≡◌, refl, sym, ap, ◌∙◌}
use mathlib.Core.Bool.{true, true≢false}
use mathlib.Core.List.{List, [], ◌∷◌}
use Prim.Native.Nat.{ℕ, ◌+◌}
use native.Mathlib.Omega.{arith}
use lib.ListN.{length}
use borrow.Author.Tests.{le-leb}
use Rattle.rules.specs.State.{Built}
use Rattle.rules.specs.Store.{used}
use Rattle.rules.specs.Requests.{writers, capacity_of, fits}
use Rattle.rules.specs.Desk.{Call, fresh_desk, file_of, after}
use Rattle.shares.proofs.Says.{spent-empty}
use Rattle.laws.specs.Runs.{OnFile}
use Rattle.laws.specs.Room.{Roomy}
use Rattle.laws.specs.Queues.{Agree}
use Rattle.laws.specs.Rest.{Rest}
use Rattle.laws.specs.Apart.{Apart}
use Rattle.laws.proofs.Files.{on-file, on_both}
use Rattle.laws.proofs.Room.{roomy}
use Rattle.laws.proofs.Rest.{at_rest}

-- in an empty file a record fits
fits-empty : (b : Built) → Roomy b → b.store.recs ≡ [] → fits b ≡ true
unfolding fits used capacity_of
fits-empty b k e = le-leb (used b.store + writers b + 1) (capacity_of b) (omega (arith, spent-empty b.geo b.store k.holds e, ap length e, k.one_more))

rest-apart : (b : Built) → Roomy b → Rest b → Apart b
rest-apart b k r p l e = go b.wq refl
  where
    go : (w : List ℕ) → b.wq ≡ w → w ≡ []
    go [] h = refl
    go (q ∷ m) h = absurd (true≢false (sym (fits-empty b k (r.reads p l e)) ∙ r.writes q m h))

pub apart : (f : ℕ) (cs : List Call) → OnFile Apart (file_of (after fresh_desk cs) f)
apart f cs =
    let x = file_of (after fresh_desk cs) f in
    on-file (λ b. Roomy b × (Agree b × Rest b)) Apart (λ b h. rest-apart b h.0 h.1.1) x (on_both Roomy (λ b. Agree b × Rest b) x (roomy f cs) (at_rest f cs))
