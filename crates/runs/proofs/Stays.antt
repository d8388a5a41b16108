-- Stayed what is handed out every memory stays as it was lent.
use Prim.Native.Nat.{ℕ, ◌+◌, ◌≤◌}
use mathlib.Core.Path.{◌≡◌, refl, sym, ap, subst, ◌∙◌}
use mathlib.Core.Bool.{Bool, true, false}
use mathlib.Core.List.{List, [], ◌∷◌}
use mathlib.Core.Option.{Option, none, some}
use native.Mathlib.Omega.{arith}
use lib.Dec.{eqb}
use lib.ListN.{length, drop}
use lib.Seq.{sets, sets-eq, drop_at}
use borrow.Author.Tests.{eqb-true}
use Rattle.rules.specs.Limits.{record_room, answer_room}
use Rattle.rules.specs.Reply.{Reply}
use Rattle.rules.specs.Desk.{Desk, Call, respond, reply_bytes, fresh_desk, after}
use Rattle.rules.specs.Desk as rules
use Rattle.rules.specs.Allocation.{Alloc, fresh_alloc, alloc_after}
use Rattle.promises.specs.Promise.{HostCall, fresh, event, look, save, load, Given, given_size, given_memory, Standing, stands, with_room, reply_of, answered, shown, said, sized, Promise}
use Rattle.promises.proofs.Room.{event-fits}
use Rattle.promises.proofs.Fits.{look-fits, save-fits}
use Rattle.runs.specs.Run.{Run, ended, then, Holds}
use Rattle.runs.specs.Condition3.{lent_by, Stay}
use Rattle.runs.proofs.Steps.{fresh-first, size-true}
use Rattle.runs.proofs.Condition2.{Since, since_none, step-since}
use Rattle.memory.specs.Memories.{Memories}

drop-put : (memory bs : List ℕ) → length bs ≤ length memory → drop (length bs) (sets memory 0 bs) ≡ drop (length bs) memory
drop-put memory bs h =
    let e : 0 + length bs ≡ length bs = omega arith in
    rw (sets-eq bs memory 0 (omega (arith, h))) (drop_at bs (drop (0 + length bs) memory) (length bs) refl ∙ ap (λ (k : ℕ). drop k memory) e)

-- what is handed out of a reply that fits
abbrev Stayed : Given → List ℕ → Type 0
Stayed g memory = drop (given_size g) (given_memory g) ≡ drop (given_size g) memory

answer-behind : (memory : List ℕ) (r : Reply) → length (reply_bytes r) ≤ length memory → Stayed (answered memory r) memory
unfolding answered given_size given_memory
answer-behind memory r h = drop-put memory (reply_bytes r) h

shown-behind : (memory : List ℕ) (r : Reply) → length (reply_bytes r) ≤ length memory → Stayed (shown memory r) memory
unfolding shown given_size given_memory
shown-behind memory r h = drop-put memory (reply_bytes r) h

module _ (m n : Memories) (d : Desk) (s : Alloc) (H : Holds m d s) where
  abbrev seen : Option Standing
  seen = some (record { desk = d; alloc = s })

  -- what replies to a call that is lent memory of a size fits that memory
  room_fits : (size : ℕ) (memory : List ℕ) (c : Call) → length (reply_bytes (respond d c).reply) ≤ size → length (reply_bytes (reply_of (with_room size memory seen) c)) ≤ length memory
  unfolding with_room
  room_fits size memory c h = go (eqb (length memory) size) refl
    where
      go : (t : Bool) → eqb (length memory) size ≡ t → length (reply_bytes (reply_of (elim t as (λ (b : Bool). Option Standing) [ true ↦ seen | false ↦ none ]) c)) ≤ length memory
      go true e = unfold reply_of in omega (arith, h, eqb-true (length memory) size e)
      go false e = unfold reply_of reply_bytes in omega arith

  step_stays : (x : HostCall) (g : Given) → Promise m x g n → Stayed g (lent_by x)
  unfolding Promise lent_by
  step_stays fresh g P = subst (λ (h : Given). Stayed h []) (sym (fresh-first m n g (size-true m n d s H) P).0) (unfold given_size given_memory in refl)
  step_stays (event memory frame) g P =
      subst (λ (h : Given). Stayed h memory) (sym (P seen (stands d s H.stands)).0)
      (answer-behind memory _ (room_fits answer_room memory (rules.event frame) (event-fits d H.stands.fine frame)))
  step_stays (look f p memory) g P =
      subst (λ (h : Given). Stayed h memory) (sym (P seen (stands d s H.stands)).0) (shown-behind memory _ (room_fits record_room memory (rules.look f p) (look-fits d H.stands.fine f p)))
  step_stays (save f output) g P =
      subst (λ (h : Given). Stayed h output) (sym (P seen (stands d s H.stands)).0) (unfold reply_of in shown-behind output _ (save-fits d f (length output)))
  step_stays (load f text) g P = subst (λ (h : Given). Stayed h []) (sym (P seen (stands d s H.stands)).0) (unfold said given_size given_memory in refl)

stays_on : (xs : List HostCall) (gs : List Given) (cs : List Call) (m n : Memories) → Since cs m → Run m xs gs n → Stay xs gs
unfolding Stay
stays_on [] (g ∷ gs) cs m n H x4 = elim x4 [ ]
stays_on (x ∷ xs) [] cs m n H x5 = elim x5 [ ]
stays_on [] [] cs m n H ended = tt
stays_on (x ∷ xs) (g ∷ gs) cs m n H (then {n = k} P R) =
    let (ds, K) = step-since cs m k x g H P in
    (step_stays m k (after fresh_desk cs) (alloc_after fresh_desk cs fresh_alloc) H x g P, stays_on xs gs ds k n K R)

pub run-stays : (m n : Memories) (xs : List HostCall) (gs : List Given) → sized m ≡ true → Run m (fresh ∷ xs) gs n → Stay (fresh ∷ xs) gs
unfolding Stay lent_by
run-stays m n xs [] h x'' = elim x'' [ ]
run-stays m n xs (g ∷ gs) h (then {n = k} P R) =
    let (e, H) = fresh-first m k g h P in
    (subst (λ (y : Given). Stayed y []) (sym e) (unfold given_size given_memory in refl), stays_on xs gs [] k n (since_none k H) R)
