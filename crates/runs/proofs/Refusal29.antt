-- In a run 29 is given exactly where the answer or the record memory has the wrong length.
use Prim.Native.Nat.{ℕ}
use mathlib.Core.Path.{◌≡◌, refl, ap, ap₂, ◌∙◌}
use mathlib.Core.Bool.{Bool, true, false, not}
use mathlib.Core.List.{List, [], ◌∷◌, map}
use mathlib.Core.Option.{Option, none, some}
use native.Mathlib.Omega.{arith}
use lib.Dec.{ltb, leb, eqb}
use lib.ListN.{length}
use borrow.Author.Tests.{ne_eqb}
use Rattle.rules.specs.Limits.{record_room, answer_room}
use Rattle.rules.specs.State.{Req, idle, reading, writing, read_done, write_done, Built, File, unbuilt, built}
use Rattle.rules.specs.Requests.{acc_at}
use Rattle.rules.specs.Reply.{Reply, Out, leaves, unmade}
use Rattle.rules.specs.Look.{oldest, look_file, look_req}
use Rattle.rules.specs.Look as looking
use Rattle.rules.specs.Sheet.{sheet, read_sheet}
use Rattle.rules.specs.Sheet as sheets
use Rattle.rules.specs.Calls.{Ask, ask_built, ask_unbuilt, ask, refusal, on_acc}
use Rattle.rules.specs.Calls as calls
use Rattle.rules.specs.Desk.{Desk, Call, on, asked, Responded, answered, respond, reply_bytes, file_of, fresh_desk, after}
use Rattle.rules.specs.Desk as rules
use Rattle.rules.specs.Allocation.{Alloc, fresh_alloc, alloc_after}
use Rattle.rules.proofs.Split.{both, opt}
use Rattle.midst.specs.Outcome.{reply_status}
use Rattle.promises.specs.Promise.{HostCall, fresh, event, look, save, load, Given, Standing, stands, with_room, reply_of, shown, said, sized, Promise}
use Rattle.promises.specs.Promise as host
use Rattle.promises.proofs.Room.{event-told}
use Rattle.runs.specs.Run.{Run, ended, then, Holds}
use Rattle.runs.specs.Refusal29.{is29, wrong_length}
use Rattle.runs.proofs.Steps.{fresh-first, size-true}
use Rattle.runs.proofs.Condition2.{Since, since_none, step-since}
use Rattle.memory.specs.Memories.{Memories}

-- On the rules: look, save and load never reply 29.

unfoldable Other : Reply → Type 0
Other r = eqb (reply_status r) 29 ≡ false

abbrev OtherOut : Out → Type 0
OtherOut o = Other o.reply

file-other : (b : Built) → OtherOut (look_file b)
unfolding look_file leaves Other reply_status
file-other b = opt OtherOut (oldest b.store.recs) (λ _. refl) (λ r _. refl)

req-other : (q : Req) (b : Built) → OtherOut (look_req q b)
unfolding look_req leaves Other reply_status
req-other idle b = file-other b
req-other (reading q) b = file-other b
req-other (writing q) b = file-other b
req-other (read_done q) b = both OtherOut (eqb q.status 0) (λ _. refl) (λ _. file-other b)
req-other (write_done q) b = file-other b

look-other : (p : ℕ) (b : Built) → OtherOut (on_acc (calls.look p) p (λ a. looking.look a b) b)
unfolding on_acc refusal looking.look leaves Other reply_status
look-other p b = opt OtherOut (acc_at b p) (λ _. refl) (λ a _. both OtherOut a.writer (λ _. refl) (λ _. req-other a.req b))

save-other : (n : ℕ) (b : Built) → OtherOut (sheets.save n b)
unfolding sheets.save leaves Other reply_status
save-other n b = both OtherOut (leb (length (sheet b.geo b.store.recs)) n) (λ _. refl) (λ _. refl)

load-other : (t : List ℕ) → OtherOut (sheets.load t)
unfolding sheets.load leaves unmade Other reply_status
load-other t = opt OtherOut (read_sheet t) (λ _. refl) (λ s _. refl)

module _ (q : Ask) (at : (x : File) → OtherOut (ask x q)) (above : Other (refusal q 31)) where
  on-other : (d : Desk) (f : ℕ) → Other (answered d (on f q)).reply
  unfolding answered
  on-other d f = both (λ (r : Responded). Other r.reply) (ltb f 8) (λ _. at (file_of d f)) (λ _. above)

ask-look : (p : ℕ) (x : File) → OtherOut (ask x (calls.look p))
unfolding ask ask_built ask_unbuilt unmade refusal Other reply_status
ask-look p unbuilt = refl
ask-look p (built b) = look-other p b

ask-save : (n : ℕ) (x : File) → OtherOut (ask x (calls.save n))
unfolding ask ask_built ask_unbuilt unmade refusal Other reply_status
ask-save n unbuilt = refl
ask-save n (built b) = save-other n b

ask-load : (t : List ℕ) (x : File) → OtherOut (ask x (calls.load t))
unfolding ask ask_built ask_unbuilt leaves refusal Other reply_status
ask-load t unbuilt = load-other t
ask-load t (built b) = refl

-- One call.

module _ (m n : Memories) (d : Desk) (s : Alloc) (H : Holds m d s) where
  abbrev seen : Option Standing
  seen = some (record { desk = d; alloc = s })

  answer-29 : (memory frame : List ℕ) (g : Given) → g ≡ host.answered memory (reply_of (with_room answer_room memory seen) (rules.event frame)) → is29 g ≡ not (eqb (length memory) answer_room)
  unfolding with_room
  answer-29 memory frame g = go (eqb (length memory) answer_room)
    where
      go : (t : Bool) → g ≡ host.answered memory (reply_of (elim t as (λ (b : Bool). Option Standing) [ true ↦ seen | false ↦ none ]) (rules.event frame)) → is29 g ≡ not t
      go true e =
          ap is29 e ∙ (unfold is29 host.answered reply_of in ne_eqb (length (reply_bytes (respond d (rules.event frame)).reply)) 0 (λ z. omega (arith, z, event-told d H.stands.fine frame)))
      go false e = ap is29 e ∙ (unfold is29 host.answered reply_of reply_bytes in refl)

  look-29 : (f p : ℕ) (memory : List ℕ) (g : Given) → g ≡ shown memory (reply_of (with_room record_room memory seen) (rules.look f p)) → is29 g ≡ not (eqb (length memory) record_room)
  unfolding with_room
  look-29 f p memory g = go (eqb (length memory) record_room)
    where
      go : (t : Bool) → g ≡ shown memory (reply_of (elim t as (λ (b : Bool). Option Standing) [ true ↦ seen | false ↦ none ]) (rules.look f p)) → is29 g ≡ not t
      go true e = ap is29 e ∙ (unfold is29 shown reply_of respond asked Other refusal reply_status in on-other (calls.look p) (ask-look p) refl d f)
      go false e = ap is29 e ∙ (unfold is29 shown reply_of reply_status in refl)

  pub step-29 : (x : HostCall) (g : Given) → Promise m x g n → is29 g ≡ wrong_length x
  unfolding Promise wrong_length is29 shown said reply_of respond asked Other refusal reply_status
  step-29 fresh g P = ap is29 (fresh-first m n g (size-true m n d s H) P).0
  step-29 (event memory frame) g P = answer-29 memory frame g (P seen (stands d s H.stands)).0
  step-29 (look f p memory) g P = look-29 f p memory g (P seen (stands d s H.stands)).0
  step-29 (save f output) g P = ap is29 (P seen (stands d s H.stands)).0 ∙ on-other (calls.save (length output)) (ask-save (length output)) refl d f
  step-29 (load f text) g P = ap is29 (P seen (stands d s H.stands)).0 ∙ on-other (calls.load text) (ask-load text) refl d f

-- A run.

run-29 : (xs : List HostCall) (gs : List Given) (cs : List Call) (m n : Memories) → Since cs m → Run m xs gs n → map is29 gs ≡ map wrong_length xs
run-29 [] (g ∷ gs) cs m n H x4 = elim x4 [ ]
run-29 (x ∷ xs) [] cs m n H x5 = elim x5 [ ]
run-29 [] [] cs m n H ended = refl
run-29 (x ∷ xs) (g ∷ gs) cs m n H (then {n = k} P R) =
    let (ds, K) = step-since cs m k x g H P in
    ap₂ {C = List Bool} (λ (a : Bool) (l : List Bool). a ∷ l) (step-29 m k (after fresh_desk cs) (alloc_after fresh_desk cs fresh_alloc) H x g P) (run-29 xs gs ds k n K R)

-- 29 is given for a wrong length of answer or record memory, and for nothing else
pub never-29 : (m n : Memories) (xs : List HostCall) (gs : List Given) → sized m ≡ true → Run m (fresh ∷ xs) gs n → map is29 gs ≡ map wrong_length (fresh ∷ xs)
unfolding is29 wrong_length
never-29 m n xs [] h x'' = elim x'' [ ]
never-29 m n xs (g ∷ gs) h (then {n = k} P R) =
    let (e, H) = fresh-first m k g h P in
    ap₂ {C = List Bool} (λ (a : Bool) (l : List Bool). a ∷ l) (ap is29 e) (run-29 xs gs [] k n (since_none k H) R)
