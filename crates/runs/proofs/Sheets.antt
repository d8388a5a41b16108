-- A saved sheet loads back to the same geometry and records, and saving that gives the same sheet, over runs: whatever run came before, what save wrote
-- loads into any file that is not built then, in this or any other run.
use Prim.Native.Nat.{ℕ, ◌<◌}
use mathlib.Core.Path.{◌≡◌, refl, sym, ap}
use mathlib.Core.Bool.{Bool, true, false}
use mathlib.Core.List.{List, [], ◌∷◌}
use native.Mathlib.Omega.{arith}
use lib.Dec.{ltb}
use lib.ListN.{length, take}
use borrow.Author.Tests.{ltb-true}
use Rattle.rules.specs.Limits.{files}
use Rattle.rules.specs.State.{Built, File, unbuilt, built}
use Rattle.rules.specs.Reply.{unmade}
use Rattle.rules.specs.Calls.{ask_unbuilt, ask, refusal}
use Rattle.rules.specs.Calls as calls
use Rattle.rules.specs.Desk.{Desk, asked, answered, respond, file_of, fresh_desk, after}
use Rattle.rules.specs.Desk as rules
use Rattle.midst.specs.Outcome.{reply_status}
use Rattle.promises.specs.Promise.{HostCall, fresh, save, load, Given, status, written, given_status, stands, reply_of, shown, sized, Promise}
use Rattle.roundtrip.specs.Carried.{Carried}
use Rattle.roundtrip.proofs.Carried.{carried}
use Rattle.runs.specs.Run.{Run}
use Rattle.runs.specs.Condition2.{since}
use Rattle.runs.proofs.Condition2.{condition-2}
use Rattle.memory.specs.Memories.{Memories}

-- what is saved is built
save-built : (d : Desk) (f n : ℕ) → reply_status (respond d (rules.save f n)).reply ≡ 0 → (f < files) × ((b : Built) × (file_of d f ≡ built b))
unfolding respond asked
save-built d f n = go (ltb f files) refl
  where
    file : f < files → (x : File) → file_of d f ≡ x → reply_status (ask x (calls.save n)).reply ≡ 0 → (f < files) × ((b : Built) × (file_of d f ≡ built b))
    file h unbuilt e z = absurd (unfold ask ask_unbuilt unmade refusal reply_status in omega (arith, z))
    file h (built b) e z = (h, (b, e))

    go : (t : Bool) → ltb f files ≡ t → reply_status (answered d (rules.on f (calls.save n))).reply ≡ 0 → (f < files) × ((b : Built) × (file_of d f ≡ built b))
    go true e z = file (ltb-true f files e) (file_of d f) refl (unfold answered in rw (e, answered) at z)
    go false e z = absurd (unfold answered refusal reply_status in omega (arith, rw (e, answered) at z))

pub sheet-over-runs : (m n : Memories) (xs : List HostCall) (gs : List Given) → sized m ≡ true → Run m (fresh ∷ xs) gs n
    → (f k : ℕ) (output output' : List ℕ) (n' : Memories) → Promise n (save f output) (written 0 k output') n'
    → (p q : Memories) (ys : List HostCall) (hs : List Given) → sized p ≡ true → Run p (fresh ∷ ys) hs q
    → (g : ℕ) → g < files → file_of (after fresh_desk (since [] ys)) g ≡ unbuilt
    → (st : ℕ) (q' : Memories) → Promise q (load g (take k output')) (status st) q'
    → (b : Built) × (file_of (after fresh_desk (since [] xs)) f ≡ built b) × Carried b (take k output') (after fresh_desk (since [] ys)) g st q'
unfolding Promise reply_of shown given_status
sheet-over-runs m n xs gs z R f k output output' n' S p q ys hs w Q g h u st q' L =
    let H = (condition-2 m n xs gs z R).memories in
    let K = (condition-2 p q ys hs w Q).memories in
    let (lf, (b, e)) = save-built (after fresh_desk (since [] xs)) f (length output) (sym (ap given_status (S _ (stands _ _ H.stands)).0)) in
    (b, e, carried n n' H.stands f lf b e output output' k S q q' K.stands g h u st L)
