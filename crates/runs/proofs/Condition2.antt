-- Condition 2, over all runs.
use mathlib.Core.Path.{◌≡◌, refl, ap, ap₂, ◌∙◌}
use mathlib.Core.Bool.{true}
use mathlib.Core.List.{List, [], ◌∷◌, ◌++◌}
use lib.ListN.{get_or, drop}
use Rattle.rules.specs.Reply.{shows}
use Rattle.rules.specs.Desk.{Desk, Call, asked, respond, fresh_desk, replies, after}
use Rattle.rules.specs.Allocation.{Alloc, fresh_alloc, alloc_asked, alloc_after}
use Rattle.midst.specs.Outcome.{reply_status}
use Rattle.promises.specs.Promise.{HostCall, fresh, Given, said, sized, Promise}
use Rattle.runs.specs.Run.{Run, ended, then, Meant, anew, unfit, asks, meant, gives, Holds}
use Rattle.runs.specs.Condition2.{stretch, heard, since, Condition2}
use Rattle.runs.proofs.Holds.{holds-bodies}
use Rattle.runs.proofs.Shown.{desk-shown, records-are}
use Rattle.runs.proofs.Steps.{Comes, step-comes, fresh-first}
use Rattle.memory.specs.Memories.{Memories, memories}

-- the desk and the allocation after calls and one more

after_more : (d : Desk) (cs : List Call) (c : Call) → after d (cs ++ (c ∷ [])) ≡ (respond (after d cs) c).desk
unfolding after
after_more d [] c = refl
after_more d (b ∷ cs) c = after_more (respond d b).desk cs c

alloc-more : (d : Desk) (cs : List Call) (c : Call) (s : Alloc) → alloc_after d (cs ++ (c ∷ [])) s ≡ alloc_asked (after d cs) (asked c) (alloc_after d cs s)
unfolding after alloc_after
alloc-more d [] c s = refl
alloc-more d (b ∷ cs) c s = alloc-more (respond d b).desk cs c (alloc_asked d (asked b) s)

-- the memories after the calls cs since the desk was fresh
abbrev pub Since : List Call → Memories → Type 0
Since cs m = Holds m (after fresh_desk cs) (alloc_after fresh_desk cs fresh_alloc)

pub since_none : (m : Memories) → Holds m fresh_desk fresh_alloc → Since [] m
unfolding after alloc_after
since_none m H = H

since-more : (cs : List Call) (c : Call) (m : Memories) → Holds m (respond (after fresh_desk cs) c).desk (alloc_asked (after fresh_desk cs) (asked c) (alloc_after fresh_desk cs fresh_alloc))
    → Since (cs ++ (c ∷ [])) m
since-more cs c m H = rw (after_more fresh_desk cs c, alloc-more fresh_desk cs c fresh_alloc) H

pub run-says : (xs : List HostCall) (gs : List Given) (cs : List Call) (m n : Memories) → Since cs m → Run m xs gs n
    → (gs ≡ heard xs (replies (after fresh_desk cs) (stretch xs))) × Since (since cs xs) n
unfolding heard stretch since
run-says [] (g ∷ gs) cs m n H x4 = elim x4 [ ]
run-says (x ∷ xs) [] cs m n H x5 = elim x5 [ ]
run-says [] [] cs m n H ended = (refl, H)
run-says (x ∷ xs) (g ∷ gs) cs m n H (then {n = k} P R) =
    go (meant x) (step-comes m k (after fresh_desk cs) (alloc_after fresh_desk cs fresh_alloc) H x g P) (λ ds K. run-says xs gs ds k n K R)
  where
    d : Desk
    d = after fresh_desk cs

    go : (w : Meant) → Comes w d (alloc_after fresh_desk cs fresh_alloc) x g k
        → ((ds : List Call) → Since ds k → (gs ≡ heard xs (replies (after fresh_desk ds) (stretch xs))) × Since (since ds xs) n)
        → (g ∷ gs ≡ elim w as (λ (v : Meant). List Given) [
          | anew ↦ gives x (shows 0 []) ∷ heard xs (replies fresh_desk (stretch xs))
          | unfit ↦ gives x (shows 29 []) ∷ heard xs (replies d (elim w as (λ (v : Meant). List Call) [ anew ↦ [] | unfit ↦ stretch xs | asks c ↦ c ∷ stretch xs ]))
          | asks c ↦ gives x (get_or (replies d (elim w as (λ (v : Meant). List Call) [ anew ↦ [] | unfit ↦ stretch xs | asks c ↦ c ∷ stretch xs ])) 0 (shows 29 [])) ∷ heard xs (drop 1 (replies d (elim w as (λ (v : Meant). List Call) [ anew ↦ [] | unfit ↦ stretch xs | asks c ↦ c ∷ stretch xs ])))
        ]) × Since (elim w as (λ (v : Meant). List Call) [ anew ↦ since [] xs | unfit ↦ since cs xs | asks c ↦ since (cs ++ (c ∷ [])) xs ]) n
    go anew C next = unfold Comes in let (es, K) = next [] (since_none k C.1) in (ap₂ {C = List Given} (λ (a : Given) (l : List Given). a ∷ l) C.0 (unfold after in es), K)
    go unfit C next = unfold Comes in let (es, K) = next cs C.1 in (ap₂ {C = List Given} (λ (a : Given) (l : List Given). a ∷ l) C.0 es, K)
    go (asks c) C next =
        unfold Comes replies in
        let (es, K) = next (cs ++ (c ∷ [])) (since-more cs c k C.1) in
        (ap₂ {C = List Given} (λ (a : Given) (l : List Given). a ∷ l) C.0 (es ∙ ap (λ (e : Desk). heard xs (replies e (stretch xs))) (after_more fresh_desk cs c)), K)

-- memories that some calls since the desk was fresh left
pub step-since : (cs : List Call) (m n : Memories) (x : HostCall) (g : Given) → Since cs m → Promise m x g n → (ds : List Call) × Since ds n
step-since cs m n x g H P = go (meant x) (step-comes m n (after fresh_desk cs) (alloc_after fresh_desk cs fresh_alloc) H x g P)
  where
    go : (w : Meant) → Comes w (after fresh_desk cs) (alloc_after fresh_desk cs fresh_alloc) x g n → (ds : List Call) × Since ds n
    go anew C = unfold Comes in ([], since_none n C.1)
    go unfit C = unfold Comes in (cs, C.1)
    go (asks c) C = unfold Comes in (cs ++ (c ∷ []), since-more cs c n C.1)

-- The theorem: memories of any content and the right lengths, made fresh, and then any calls, fresh among them.
pub condition-2 : (m n : Memories) (xs : List HostCall) (gs : List Given) → sized m ≡ true → Run m (fresh ∷ xs) gs n → Condition2 xs gs n
unfolding heard meant gives said reply_status
condition-2 m n xs [] h x'' = elim x'' [ ]
condition-2 m n xs (g ∷ gs) h (then {n = k} P R) =
    let (e, H) = fresh-first m k g h P in
    let (es, K) = run-says xs gs [] k n (since_none k H) R in
    let (b, u) = holds-bodies n _ _ K in
    record {
      given = ap₂ {C = List Given} (λ (a : Given) (l : List Given). a ∷ l) e (unfold after in es);
      records = records-are n _ _ K.stands;
      shown = desk-shown n _ _ K.stands;
      memories = K;
      blocks = b;
      buffers = u;
    }
