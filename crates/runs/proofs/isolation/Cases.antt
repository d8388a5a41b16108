-- A call after the first is asked of the rules, or has a wrong length of answer or record memory (29): what each does to a run.
use mathlib.Core.Path.{◌≡◌, refl, sym, ap, ◌∙◌}
use mathlib.Core.Bool.{Bool, true, false, false≢true}
use mathlib.Core.List.{List, [], ◌∷◌, ◌++◌, append_assoc, append-nil}
use lib.Dec.{eqb}
use lib.ListN.{length, get_or, drop}
use Rattle.rules.specs.Limits.{record_room, answer_room}
use Rattle.rules.specs.Reply.{Reply, shows}
use Rattle.rules.specs.Desk.{Call, fresh_desk, replies}
use Rattle.rules.specs.Desk as rules
use Rattle.rules.proofs.Split.{pick_true, pick-false}
use Rattle.promises.specs.Promise.{HostCall, fresh, event, look, save, load, Given}
use Rattle.runs.specs.Run.{Meant, anew, unfit, asks, lending, meant, gives}
use Rattle.runs.specs.Condition2.{stretch, heard, since}
use Rattle.runs.specs.Condition3.{Sort, made, sort_of, never_fresh}
use Rattle.runs.specs.Condition3 as sort

-- the call of the rules that a call asks for if its lengths are right
unfoldable pub call_in : Sort → Call
call_in made = rules.event []
call_in (sort.event n frame) = rules.event frame
call_in (sort.look f p n) = rules.look f p
call_in (sort.save f n) = rules.save f n
call_in (sort.load f text) = rules.load f text

-- whether the answer or the record memory has its length
unfoldable pub right : Sort → Bool
right made = false
right (sort.event n frame) = eqb n answer_room
right (sort.look f p n) = eqb n record_room
right (sort.save f n) = true
right (sort.load f text) = true

-- a call that is not fresh is asked of the rules, or has a wrong length
pub data Case (x : HostCall) : Type 0 where
  fits : right (sort_of x) ≡ true → meant x ≡ asks (call_in (sort_of x)) → Case x
  misfits : right (sort_of x) ≡ false → meant x ≡ unfit → Case x

-- what is left of a run after a call
abbrev Rest : Meant → List HostCall → Bool
Rest w xs = elim w as (λ (v : Meant). Bool) [ anew ↦ false | unfit ↦ never_fresh xs | asks c ↦ never_fresh xs ]

pub case-of : (x : HostCall) (xs : List HostCall) → never_fresh (x ∷ xs) ≡ true → Case x × (never_fresh xs ≡ true)
unfolding never_fresh meant lending right sort_of call_in
case-of fresh xs u = absurd (false≢true u)
case-of (event memory frame) xs u = go (eqb (length memory) answer_room) refl u
  where
    go : (t : Bool) → eqb (length memory) answer_room ≡ t → Rest (elim t as (λ (b : Bool). Meant) [ true ↦ asks (rules.event frame) | false ↦ unfit ]) xs ≡ true
        → Case (event memory frame) × (never_fresh xs ≡ true)
    go true e k = (fits e (pick_true (eqb (length memory) answer_room) _ _ e), k)
    go false e k = (misfits e (pick-false (eqb (length memory) answer_room) _ _ e), k)
case-of (look f p memory) xs u = go (eqb (length memory) record_room) refl u
  where
    go : (t : Bool) → eqb (length memory) record_room ≡ t → Rest (elim t as (λ (b : Bool). Meant) [ true ↦ asks (rules.look f p) | false ↦ unfit ]) xs ≡ true
        → Case (look f p memory) × (never_fresh xs ≡ true)
    go true e k = (fits e (pick_true (eqb (length memory) record_room) _ _ e), k)
    go false e k = (misfits e (pick-false (eqb (length memory) record_room) _ _ e), k)
case-of (save f output) xs u = (fits refl refl, u)
case-of (load f text) xs u = (fits refl refl, u)

-- Runs by what a call means.

module _ (x : HostCall) (xs : List HostCall) where
  module _ (e : meant x ≡ unfit) where
    pub stretch-unfit : stretch (x ∷ xs) ≡ stretch xs
    unfolding stretch
    stretch-unfit = ap (λ (w : Meant). elim w as (λ (v : Meant). List Call) [ anew ↦ [] | unfit ↦ stretch xs | asks c ↦ c ∷ stretch xs ]) e

    pub heard-unfit : (rs : List Reply) → heard (x ∷ xs) rs ≡ gives x (shows 29 []) ∷ heard xs rs
    unfolding heard
    heard-unfit rs =
        ap (λ (w : Meant). elim w as (λ (v : Meant). List Given) [
          | anew ↦ gives x (shows 0 []) ∷ heard xs (replies fresh_desk (stretch xs))
          | unfit ↦ gives x (shows 29 []) ∷ heard xs rs
          | asks c ↦ gives x (get_or rs 0 (shows 29 [])) ∷ heard xs (drop 1 rs)
        ]) e

    since-unfit : (cs : List Call) → since cs (x ∷ xs) ≡ since cs xs
    unfolding since
    since-unfit cs = ap (λ (w : Meant). elim w as (λ (v : Meant). List Call) [ anew ↦ since [] xs | unfit ↦ since cs xs | asks c ↦ since (cs ++ (c ∷ [])) xs ]) e

  module _ (c : Call) (e : meant x ≡ asks c) where
    pub stretch-asks : stretch (x ∷ xs) ≡ c ∷ stretch xs
    unfolding stretch
    stretch-asks = ap (λ (w : Meant). elim w as (λ (v : Meant). List Call) [ anew ↦ [] | unfit ↦ stretch xs | asks c ↦ c ∷ stretch xs ]) e

    pub heard-asks : (rs : List Reply) → heard (x ∷ xs) rs ≡ gives x (get_or rs 0 (shows 29 [])) ∷ heard xs (drop 1 rs)
    unfolding heard
    heard-asks rs =
        ap (λ (w : Meant). elim w as (λ (v : Meant). List Given) [
          | anew ↦ gives x (shows 0 []) ∷ heard xs (replies fresh_desk (stretch xs))
          | unfit ↦ gives x (shows 29 []) ∷ heard xs rs
          | asks c ↦ gives x (get_or rs 0 (shows 29 [])) ∷ heard xs (drop 1 rs)
        ]) e

    since-asks : (cs : List Call) → since cs (x ∷ xs) ≡ since (cs ++ (c ∷ [])) xs
    unfolding since
    since-asks cs = ap (λ (w : Meant). elim w as (λ (v : Meant). List Call) [ anew ↦ since [] xs | unfit ↦ since cs xs | asks c ↦ since (cs ++ (c ∷ [])) xs ]) e

-- where the desk is not made fresh again, all calls are made since it was
pub since-all : (xs : List HostCall) (cs : List Call) → never_fresh xs ≡ true → since cs xs ≡ cs ++ stretch xs
unfolding since stretch
since-all [] cs u = sym (append-nil cs)
since-all (x ∷ xs) cs u = let (k, v) = case-of x xs u in go k (since-all xs cs v) (λ c. since-all xs (cs ++ (c ∷ [])) v)
  where
    go : Case x → since cs xs ≡ cs ++ stretch xs → ((c : Call) → since (cs ++ (c ∷ [])) xs ≡ (cs ++ (c ∷ [])) ++ stretch xs) → since cs (x ∷ xs) ≡ cs ++ stretch (x ∷ xs)
    go (misfits r e) ih more = since-unfit x xs e cs ∙ ih ∙ ap (λ (l : List Call). cs ++ l) (sym (stretch-unfit x xs e))
    go (fits r e) ih more =
        since-asks x xs (call_in (sort_of x)) e cs ∙ more (call_in (sort_of x)) ∙ append_assoc cs (call_in (sort_of x) ∷ []) (stretch xs) ∙ ap (λ (l : List Call). cs ++ l) (sym (stretch-asks x xs (call_in (sort_of x)) e))
