-- What the host finds of the calls that name a file is in the rules' replies to these calls.
use Prim.Native.Nat.{ℕ, ◌≤◌}
use mathlib.Core.Path.{◌≡◌, refl, sym, ap, ap₂, subst, ◌∙◌}
use mathlib.Core.Bool.{Bool, true, false, false≢true, ◌||◌}
use mathlib.Core.List.{List, [], ◌∷◌}
use native.Mathlib.Omega.{arith}
use lib.ListN.{length, get_or, take, drop}
use lib.Seq.{sets}
use borrow.Author.Tests.{eqb-true}
use Rattle.words.proofs.Parts.{part_same}
use Rattle.rules.specs.Limits.{answer_room, record_room}
use Rattle.rules.specs.Answers.{answer_bytes}
use Rattle.rules.specs.Reply.{Reply, shows}
use Rattle.rules.specs.Desk.{Desk, Call, Asked, bad, asked, respond, reply_bytes, replies}
use Rattle.rules.specs.Desk as rules
use Rattle.rules.proofs.Split.{by_cases, pick_true, pick-false}
use Rattle.laws.specs.Runs.{names, theirs}
use Rattle.laws.specs.EightFiles.{EightFiles}
use Rattle.laws.proofs.Isolation.{eight-answered}
use Rattle.laws.proofs.Proper.{asked-proper}
use Rattle.midst.specs.Outcome.{reply_status}
use Rattle.midst.proofs.StaysFine.{answered-fine}
use Rattle.promises.specs.Promise.{HostCall, fresh, event, look, save, load, Given, given_status, given_size, given_memory, answered, shown, said}
use Rattle.promises.proofs.Room.{event-fits}
use Rattle.promises.proofs.Fits.{FineDesk, look-fits, save-fits}
use Rattle.runs.specs.Run.{unfit, asks, meant, gives}
use Rattle.runs.specs.Condition2.{stretch, heard}
use Rattle.runs.specs.Condition3.{Sort, made, sort_of, names_file, passes, ours, never_fresh, Found, found, finds}
use Rattle.runs.specs.Condition3 as sort
use Rattle.runs.proofs.isolation.Cases.{call_in, right, Case, fits, misfits, case-of, stretch-unfit, heard-unfit, stretch-asks, heard-asks}
use Rattle.runs.proofs.isolation.Asks.{names-is}

-- what is found of a reply
unfoldable pub found_by : Sort → Reply → Found
found_by made r = record { status = reply_status r; size = 0; bytes = [] }
found_by (sort.event n frame) r = record { status = get_or (reply_bytes r) 1 29; size = length (reply_bytes r); bytes = reply_bytes r }
found_by (sort.look f p n) r = record { status = reply_status r; size = length (reply_bytes r); bytes = reply_bytes r }
found_by (sort.save f n) r = record { status = reply_status r; size = length (reply_bytes r); bytes = reply_bytes r }
found_by (sort.load f text) r = record { status = reply_status r; size = 0; bytes = [] }

take_put : (memory bs : List ℕ) → length bs ≤ length memory → take (length bs) (sets memory 0 bs) ≡ bs
take_put memory bs h = part_same memory bs 0 (length bs) refl (omega (arith, h))

pub answer-found : (memory : List ℕ) (r : Reply) → length (reply_bytes r) ≤ length memory
    → found (answered memory r) ≡ record { status = get_or (reply_bytes r) 1 29; size = length (reply_bytes r); bytes = reply_bytes r }
unfolding found answered given_status given_size given_memory
answer-found memory r h = rw (take_put memory (reply_bytes r) h) refl

shown-found : (memory : List ℕ) (r : Reply) → length (reply_bytes r) ≤ length memory
    → found (shown memory r) ≡ record { status = reply_status r; size = length (reply_bytes r); bytes = reply_bytes r }
unfolding found shown given_status given_size given_memory
shown-found memory r h = rw (take_put memory (reply_bytes r) h) refl

-- a frame of no shape
pub shape-reply : (d : Desk) (frame : List ℕ) → asked (rules.event frame) ≡ bad → reply_bytes (respond d (rules.event frame)).reply ≡ 0 ∷ 30 ∷ []
unfolding respond rules.answered reply_bytes answer_bytes
shape-reply d frame b = ap (λ (a : Asked). reply_bytes (rules.answered d a).reply) b

pub shape-found : (r : Reply) → reply_bytes r ≡ 0 ∷ 30 ∷ []
    → ◌≡◌ {A = Found} (record { status = get_or (reply_bytes r) 1 29; size = length (reply_bytes r); bytes = reply_bytes r }) (record { status = 30; size = 2; bytes = 0 ∷ 30 ∷ [] })
shape-found r e = rw e refl

-- what the host is given of the rules' reply, and of 29
found-is : (d : Desk) → FineDesk d → (x : HostCall) → right (sort_of x) ≡ true → found (gives x (respond d (call_in (sort_of x))).reply) ≡ found_by (sort_of x) (respond d (call_in (sort_of x))).reply
unfolding right sort_of call_in gives found_by
found-is d h fresh e = absurd (false≢true e)
found-is d h (event memory frame) e = answer-found memory _ (omega (arith, event-fits d h frame, eqb-true (length memory) answer_room e))
found-is d h (look f p memory) e = shown-found memory _ (omega (arith, look-fits d h f p, eqb-true (length memory) record_room e))
found-is d h (save f output) e = shown-found output _ (save-fits d f (length output))
found-is d h (load f text) e = unfold found said given_status given_size given_memory in refl

found-unfit : (x : HostCall) → right (sort_of x) ≡ false → found (gives x (shows 29 [])) ≡ found_by (sort_of x) (shows 29 [])
unfolding right sort_of gives found_by found answered shown said given_status given_size given_memory reply_bytes reply_status
found-unfit fresh e = refl
found-unfit (event memory frame) e = refl
found-unfit (look f p memory) e = refl
found-unfit (save f output) e = refl
found-unfit (load f text) e = refl

-- what is found of the replies to calls naming f
unfoldable pub found_all : ℕ → List Sort → List Reply → List Found
found_all f [] rs = []
found_all f (s ∷ ss) rs =
    elim (names_file f s) [
      | false ↦ found_all f ss rs
      | true ↦ elim (right s) [ true ↦ found_by s (get_or rs 0 (shows 29 [])) ∷ found_all f ss (drop 1 rs) | false ↦ found_by s (shows 29 []) ∷ found_all f ss rs ]
    ]

module _ (f : ℕ) (s : Sort) (ss : List Sort) (rs : List Reply) where
  other-all : names_file f s ≡ false → found_all f (s ∷ ss) rs ≡ found_all f ss rs
  unfolding found_all
  other-all n = pick-false (names_file f s) _ _ n

  right-all : names_file f s ≡ true → right s ≡ true → found_all f (s ∷ ss) rs ≡ found_by s (get_or rs 0 (shows 29 [])) ∷ found_all f ss (drop 1 rs)
  unfolding found_all
  right-all n r = pick_true (names_file f s) _ _ n ∙ pick_true (right s) _ _ r

  wrong-all : names_file f s ≡ true → right s ≡ false → found_all f (s ∷ ss) rs ≡ found_by s (shows 29 []) ∷ found_all f ss rs
  unfolding found_all
  wrong-all n r = pick_true (names_file f s) _ _ n ∙ pick-false (right s) _ _ r

  -- a call that does not name f is passed over, whether it lets time pass or not
  passed_over : names_file f s ≡ false → found_all f (elim (names_file f s || passes s) as (λ (b : Bool). List Sort) [ true ↦ s ∷ ss | false ↦ ss ]) rs ≡ found_all f ss rs
  passed_over n = go (names_file f s || passes s)
    where
      go : (t : Bool) → found_all f (elim t as (λ (b : Bool). List Sort) [ true ↦ s ∷ ss | false ↦ ss ]) rs ≡ found_all f ss rs
      go true = other-all n
      go false = refl

  counted : names_file f s ≡ true → found_all f (elim (names_file f s || passes s) as (λ (b : Bool). List Sort) [ true ↦ s ∷ ss | false ↦ ss ]) rs ≡ found_all f (s ∷ ss) rs
  counted n = ap (λ (b : Bool). found_all f (elim (b || passes s) as (λ (t : Bool). List Sort) [ true ↦ s ∷ ss | false ↦ ss ]) rs) n

-- the replies to the calls that name f
module _ (f : ℕ) (c : Call) (cs : List Call) (r : Reply) (rs : List Reply) where
  theirs-named : names f (asked c) ≡ true → theirs f (c ∷ cs) (r ∷ rs) ≡ r ∷ theirs f cs rs
  unfolding theirs
  theirs-named n = pick_true (names f (asked c)) _ _ n

  theirs-other : names f (asked c) ≡ false → theirs f (c ∷ cs) (r ∷ rs) ≡ theirs f cs rs
  unfolding theirs
  theirs-other n = pick-false (names f (asked c)) _ _ n

module _ (f : ℕ) (x : HostCall) (xs : List HostCall) (g : Given) (gs : List Given) where
  finds-named : names_file f (sort_of x) ≡ true → finds f (x ∷ xs) (g ∷ gs) ≡ found g ∷ finds f xs gs
  unfolding finds
  finds-named n = pick_true (names_file f (sort_of x)) _ _ n

  finds-other : names_file f (sort_of x) ≡ false → finds f (x ∷ xs) (g ∷ gs) ≡ finds f xs gs
  unfolding finds
  finds-other n = pick-false (names_file f (sort_of x)) _ _ n

fine-on : (d : Desk) (c : Call) → EightFiles d → FineDesk d → FineDesk (respond d c).desk
unfolding respond
fine-on d c n h = answered-fine d (asked c) n (asked-proper c) h

long-on : (d : Desk) (c : Call) → EightFiles d → EightFiles (respond d c).desk
unfolding respond
long-on d c n = eight-answered d (asked c) n

abbrev Says : ℕ → List HostCall → Desk → Type 0
Says f xs d = finds f xs (heard xs (replies d (stretch xs))) ≡ found_all f (ours f xs) (theirs f (stretch xs) (replies d (stretch xs)))

-- `Says` of a call x and those after it, where cs are the calls of the rules until the desk is made fresh again
abbrev SaysNext : ℕ → HostCall → List HostCall → Desk → List Call → Type 0
SaysNext f x xs d cs =
    finds f (x ∷ xs) (heard (x ∷ xs) (replies d cs))
    ≡ found_all f (elim (names_file f (sort_of x) || passes (sort_of x)) as (λ (b : Bool). List Sort) [ true ↦ sort_of x ∷ ours f xs | false ↦ ours f xs ]) (theirs f cs (replies d cs))

-- all answers to calls naming f are found in the replies to these calls
pub finds-ours : (f : ℕ) (xs : List HostCall) (d : Desk) → EightFiles d → FineDesk d → never_fresh xs ≡ true → Says f xs d
unfolding finds heard stretch theirs ours found_all
finds-ours f [] d n h u = refl
finds-ours f (x ∷ xs) d n h u =
    let (k, v) = case-of x xs u in
    go k (finds-ours f xs d n h v) (λ c. finds-ours f xs (respond d c).desk (long-on d c n) (fine-on d c n h) v)
  where
    wrong : right (sort_of x) ≡ false → meant x ≡ unfit → Says f xs d → SaysNext f x xs d (stretch xs)
    wrong r e ih =
        let rs = replies d (stretch xs) in
        let ts = theirs f (stretch xs) rs in
        ap (finds f (x ∷ xs)) (heard-unfit x xs e rs)
        ∙ by_cases (names_file f (sort_of x))
        (λ n. finds-named f x xs _ _ n ∙ ap₂ {C = List Found} (λ (a : Found) (l : List Found). a ∷ l) (found-unfit x r) ih ∙ sym (counted f (sort_of x) (ours f xs) ts n ∙ wrong-all f (sort_of x) (ours f xs) ts n r))
        (λ n. finds-other f x xs _ _ n ∙ ih ∙ sym (passed_over f (sort_of x) (ours f xs) ts n))

    asked_of : right (sort_of x) ≡ true → meant x ≡ asks (call_in (sort_of x))
        → Says f xs (respond d (call_in (sort_of x))).desk → SaysNext f x xs d (call_in (sort_of x) ∷ stretch xs)
    asked_of r e ih =
        let q = call_in (sort_of x) in
        let reply = (respond d q).reply in
        let rs = replies (respond d q).desk (stretch xs) in
        let ts = theirs f (stretch xs) rs in
        unfold replies in
        ap (finds f (x ∷ xs)) (heard-asks x xs q e (reply ∷ rs))
        ∙ by_cases (names_file f (sort_of x))
        (λ n. finds-named f x xs _ _ n ∙ ap₂ {C = List Found} (λ (a : Found) (l : List Found). a ∷ l) (found-is d h x r) ih
        ∙ sym (counted f (sort_of x) (ours f xs) _ n ∙ ap (found_all f (sort_of x ∷ ours f xs)) (theirs-named f q (stretch xs) reply rs (names-is f (sort_of x) r ∙ n)) ∙ right-all f (sort_of x) (ours f xs) (reply ∷ ts) n r))
        (λ n. finds-other f x xs _ _ n ∙ ih ∙ sym (passed_over f (sort_of x) (ours f xs) _ n ∙ ap (found_all f (ours f xs)) (theirs-other f q (stretch xs) reply rs (names-is f (sort_of x) r ∙ n))))

    go : Case x → Says f xs d → ((b : Call) → Says f xs (respond d b).desk) → SaysNext f x xs d (stretch (x ∷ xs))
    go (misfits r e) ih more = subst (SaysNext f x xs d) (sym (stretch-unfit x xs e)) (wrong r e ih)
    go (fits r e) ih more = subst (SaysNext f x xs d) (sym (stretch-asks x xs (call_in (sort_of x)) e)) (asked_of r e (more (call_in (sort_of x))))
