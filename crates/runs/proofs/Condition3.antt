-- Condition 3, over all runs: by condition 2 what the host finds is what the rules say, and on the rules a file depends on its own calls and on time alone.
use Prim.Native.Nat.{ℕ, ◌<◌}
use mathlib.Core.Path.{◌≡◌, sym, ap, ap₂, ◌∙◌}
use mathlib.Core.Bool.{true}
use mathlib.Core.List.{List, [], ◌∷◌}
use native.Mathlib.Omega.{arith}
use mathlib.Core.Option.{Option, some}
use lib.ListN.{length}
use Rattle.rules.specs.Limits.{files, answer_room}
use Rattle.rules.specs.Allocation.{Alloc}
use Rattle.rules.specs.Desk.{Desk, Call, bad, asked, respond, file_of, fresh_desk, replies, after}
use Rattle.rules.specs.Desk as rules
use Rattle.laws.specs.Runs.{only, theirs, OnFile}
use Rattle.laws.proofs.Isolation.{isolation}
use Rattle.laws.proofs.EightFiles.{eight-fresh, fresh-file}
use Rattle.promises.specs.Promise.{HostCall, fresh, event, Given, Standing, stands, reply_of, answered, said, sized, Promise}
use Rattle.promises.proofs.Events.{room-right}
use Rattle.promises.proofs.Room.{event-fits}
use Rattle.promises.proofs.Fits.{FineDesk}
use Rattle.runs.specs.Run.{Run, meant, Holds}
use Rattle.runs.specs.Condition2.{stretch, heard}
use Rattle.runs.specs.OneFile.{file_in}
use Rattle.runs.specs.Condition3.{sort_of, names_file, ours, never_fresh, Found, found, finds, Condition3}
use Rattle.runs.proofs.Condition2.{condition-2}
use Rattle.runs.proofs.OneFile.{image_of, file-is}
use Rattle.runs.proofs.Stays.{run-stays}
use Rattle.runs.proofs.isolation.Cases.{since-all}
use Rattle.runs.proofs.isolation.Asks.{asks_all, only-ours}
use Rattle.runs.proofs.isolation.Found.{found_all, finds-ours, answer-found, shape-reply, shape-found}
use Rattle.memory.specs.Memories.{Memories}

fine-fresh : FineDesk fresh_desk
unfolding OnFile
fine-fresh g h = rw (fresh-file g) tt

module _ (f : ℕ) (m n : Memories) (xs : List HostCall) (gs : List Given) (z : sized m ≡ true) (u : never_fresh xs ≡ true) (R : Run m (fresh ∷ xs) gs n) where
  found-ours : finds f (fresh ∷ xs) gs ≡ found_all f (ours f xs) (theirs f (stretch xs) (replies fresh_desk (stretch xs)))
  unfolding finds heard meant sort_of names_file
  found-ours = ap (finds f (fresh ∷ xs)) (condition-2 m n xs gs z R).given ∙ finds-ours f xs fresh_desk eight-fresh fine-fresh u

  file-ours : f < files → file_in f n ≡ image_of f (file_of (after fresh_desk (stretch xs)) f)
  file-ours h =
      let H = (condition-2 m n xs gs z R).memories in
      file-is n _ _ H.stands f h (H.blank f h) ∙ ap (λ (cs : List Call). image_of f (file_of (after fresh_desk cs) f)) (since-all xs [] u)

-- for every file number, also above 7
pub condition-3 : (f : ℕ) (m n p q : Memories) (xs ys : List HostCall) (gs hs : List Given)
    → sized m ≡ true → never_fresh xs ≡ true → Run m (fresh ∷ xs) gs n
    → sized p ≡ true → never_fresh ys ≡ true → Run p (fresh ∷ ys) hs q
    → ours f xs ≡ ours f ys → Condition3 f xs ys gs hs n q
condition-3 f m n p q xs ys gs hs z u R w v Q e =
    let same : only f (stretch xs) ≡ only f (stretch ys) = only-ours f xs u ∙ ap (asks_all f) e ∙ sym (only-ours f ys v) in
    let A = isolation f (stretch xs) (stretch ys) same in
    record {
      answers = found-ours f m n xs gs z u R ∙ ap₂ {C = List Found} (found_all f) e A.hear ∙ sym (found-ours f p q ys hs w v Q);
      stay = (run-stays m n xs gs z R, run-stays p q ys hs w Q);
      state = λ h. file-ours f m n xs gs z u R h ∙ ap (image_of f) A.keep ∙ sym (file-ours f p q ys hs w v Q h);
    }

-- a frame that names no file: 30 is answered the same on every desk
pub no-file : (m n : Memories) (d : Desk) (s : Alloc) → Holds m d s → (memory frame : List ℕ) (g : Given) → length memory ≡ answer_room → asked (rules.event frame) ≡ bad
    → Promise m (event memory frame) g n → found g ≡ record { status = 30; size = 2; bytes = 0 ∷ 30 ∷ [] }
unfolding Promise reply_of
no-file m n d s H memory frame g e b P =
    let v : Option Standing = some (record { desk = d; alloc = s }) in
    let said : g ≡ answered memory (respond d (rules.event frame)).reply = (P v (stands d s H.stands)).0 ∙ ap (λ (w : Option Standing). answered memory (reply_of w (rules.event frame))) (room-right answer_room memory v e) in
    ap found said ∙ answer-found memory (respond d (rules.event frame)).reply (omega (arith, event-fits d H.stands.fine frame, e)) ∙ shape-found (respond d (rules.event frame)).reply (shape-reply d frame b)
