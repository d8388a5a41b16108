-- "A refusal changes nothing but an event's two answer bytes": condition 1, of every promise.
use Prim.Native.Nat.{ℕ, ◌≤◌}
use mathlib.Core.Path.{◌≡◌, refl, sym, ap, subst, ◌∙◌}
use mathlib.Core.Bool.{Bool, true, false, cond}
use mathlib.Core.List.{List, []}
use mathlib.Core.Option.{Option, none, some}
use native.Mathlib.Omega.{arith}
use lib.Dec.{eqb}
use lib.ListN.{length, get_or, drop}
use lib.Seq.{sets, sets-eq}
use borrow.Author.Tests.{eqb-true, ne_eqb}
use Rattle.words.specs.Word.{Bytes}
use Rattle.words.proofs.Parts.{part_same}
use Rattle.rules.specs.Limits.{write_head, answer_room, record_room}
use Rattle.rules.specs.Frames.{frame_of}
use Rattle.rules.specs.Reply.{Reply, shows}
use Rattle.rules.specs.Calls.{Ask, refusal}
use Rattle.rules.specs.Calls as calls
use Rattle.rules.specs.Desk.{Desk, Call, Asked, on, time, bad, asked, answered, respond, reply_bytes}
use Rattle.rules.specs.Desk as rules
use Rattle.rules.specs.Allocation.{Alloc, alloc_asked}
use Rattle.rules.proofs.Split.{both}
use Rattle.laws.specs.Bounds.{least_refusal}
use Rattle.memory.specs.Memories.{Memories}
use Rattle.memory.specs.Fine.{StandsFor}
use Rattle.memory.specs.Fresh.{fresh_memories}
use Rattle.midst.specs.Outcome.{reply_status, status_of, refusal_of}
use Rattle.midst.proofs.Refused.{stands-refused}
use Rattle.midst.proofs.StandsBehind.{still-stays}
use Rattle.promises.specs.Promise.{HostCall, fresh, event, look, save, load, Given, status, answer, written, given_status, Standing, Seen, stands, with_room, reply_of, shown, said, Behind, sized, Promise}
use Rattle.promises.specs.Promise as host
use Rattle.promises.specs.Refusal.{refusal_bytes, refused_gives}
use Rattle.promises.proofs.Seen.{sees}
use Rattle.promises.proofs.Same.{behind-same}
use Rattle.promises.proofs.First.{frame-begins}
use Rattle.promises.proofs.Room.{event-fits}
use Rattle.promises.proofs.RefusedEvent.{refused-number, is-refusal, Curt, frame-curt}

-- The memories.

-- on the rules: desk and allocation are what they were
still : {m : Memories} {d : Desk} {s : Alloc} → StandsFor m d s → (a : Asked) → (refusal_of (answered d a).reply ≡ 0 → ⊥)
    → ((answered d a).desk ≡ d) × (alloc_asked d a s ≡ s)
unfolding answered alloc_asked refusal_of reply_status status_of
still S (on f q) n = let R = stands-refused f q S n in (R.desk, R.alloc)
still S (time e) n = absurd (n refl)
still S bad n = (refl, refl)

-- where the reply is a refusal, 29 or another, every byte of the memories is as it was
pub refused-stays : (m m' : Memories) (v : Option Standing) (c : Call) → Seen m v → (refusal_of (reply_of v c) ≡ 0 → ⊥) → Behind v c m m' → m' ≡ m
unfolding Behind reply_of respond
refused-stays m m' none c S n B = B
refused-stays m m' (some v) c (stands d s S) n B =
    let (e, u) = still S (asked c) n in
    behind-same (some (record { desk = d; alloc = s })) c m m' m B (still-stays S c e u)

-- The reply to a refused look, save or load: its number, and nothing to show or write.

on-shows : {m : Memories} {d : Desk} {s : Alloc} → StandsFor m d s → (f : ℕ) (q : Ask) → ((st : ℕ) → refusal q st ≡ shows st [])
    → least_refusal ≤ reply_status (answered d (on f q)).reply → (answered d (on f q)).reply ≡ shows (reply_status (answered d (on f q)).reply) []
on-shows {d = d} S f q form h =
    let r : Reply = (answered d (on f q)).reply in
    (stands-refused f q S (is-refusal r h)).reply ∙ ap (refusal q) (refused-number r h) ∙ form (reply_status r)

shows-refused : {m : Memories} (c : Call) (f : ℕ) (q : Ask) → asked c ≡ on f q → ((st : ℕ) → refusal q st ≡ shows st []) → (v : Option Standing) → Seen m v
    → least_refusal ≤ reply_status (reply_of v c) → reply_of v c ≡ shows (reply_status (reply_of v c)) []
unfolding reply_of respond reply_status
shows-refused c f q is form none T h = refl
shows-refused c f q is form (some v) (stands d s S) h =
    subst (λ (a : Asked). least_refusal ≤ reply_status (answered d a).reply → (answered d a).reply ≡ shows (reply_status (answered d a).reply) []) (sym is) (on-shows S f q form) h

-- a memory of a wrong length hides the desk
in-room : (P : Option Standing → Type 0) (k : ℕ) (memory : List ℕ) (v : Option Standing) → (length memory ≡ k → P v) → P none → P (with_room k memory v)
unfolding with_room
in-room P k memory v h z = both P (eqb (length memory) k) (λ e. h (eqb-true (length memory) k e)) (λ _. z)

-- The calls, with the memories m before and n after.

module _ (m n : Memories) where
  -- what the theorem says of a call and what it gives
  abbrev Kept : HostCall → Given → Type 0
  Kept x g = least_refusal ≤ given_status g → (n ≡ m) × (g ≡ refused_gives x (given_status g))

  -- what it says of a call if the memories are seen as v
  abbrev Keeps : HostCall → Call → (Reply → Given) → Option Standing → Type 0
  Keeps x c gives v = Behind v c m n → Kept x (gives (reply_of v c))

  keeps_given : (x : HostCall) (c : Call) (gives : Reply → Given) (v : Option Standing) (g : Given) → Keeps x c gives v → (g ≡ gives (reply_of v c)) × Behind v c m n → Kept x g
  keeps_given x c gives v g k (e, B) = subst (Kept x) (sym e) (k B)

  fresh_kept : (t : Bool) (g : Given) → g ≡ status (cond t 0 29) → n ≡ cond t fresh_memories m → Kept fresh g
  unfolding given_status refused_gives
  fresh_kept true g e k h = absurd (omega (arith, h, ap given_status e))
  fresh_kept false g e k h = (k, e ∙ ap status (sym (ap given_status e)))

  -- look and save; load
  module _ (v : Option Standing) (S : Seen m v) (c : Call) (f : ℕ) (q : Ask) (is : asked c ≡ on f q) (form : (st : ℕ) → refusal q st ≡ shows st []) where
    shown-kept : (memory : List ℕ) → Behind v c m n → least_refusal ≤ given_status (shown memory (reply_of v c))
        → (n ≡ m) × (shown memory (reply_of v c) ≡ written (given_status (shown memory (reply_of v c))) 0 memory)
    unfolding shown given_status
    shown-kept memory B h =
        (refused-stays m n v c S (is-refusal (reply_of v c) h) B, ap (shown memory) (shows-refused c f q is form v S h) ∙ (unfold shown reply_bytes reply_status in refl))

    said-kept : Behind v c m n → least_refusal ≤ given_status (said (reply_of v c)) → (n ≡ m) × (said (reply_of v c) ≡ status (given_status (said (reply_of v c))))
    unfolding said given_status
    said-kept B h = (refused-stays m n v c S (is-refusal (reply_of v c) h) B, refl)

  -- a look that is lent a record memory of a wrong length
  shown-none : (c : Call) (memory : List ℕ) → Behind none c m n → (n ≡ m) × (shown memory (reply_of none c) ≡ written (given_status (shown memory (reply_of none c))) 0 memory)
  unfolding Behind shown reply_of reply_status reply_bytes given_status
  shown-none c memory B = (B, refl)

  module _ (memory frame : List ℕ) where
    -- an event that is lent an answer memory of a wrong length, or memories that are no desk
    answered-none : Keeps (event memory frame) (rules.event frame) (host.answered memory) none
    unfolding Behind host.answered reply_of reply_bytes given_status refused_gives
    answered-none B h = (B, refl)

    -- the two bytes of a refused event
    two_bytes : length memory ≡ answer_room → (st : ℕ) → 30 ≤ st
        → answer (length (refusal_bytes frame st)) (sets memory 0 (refusal_bytes frame st)) ≡ refused_gives (event memory frame) st
    unfolding refused_gives
    two_bytes e st l = rw (ne_eqb st 29 (λ z. omega (arith, l, z))) (unfold refusal_bytes in ap (answer 2) (sets-eq (refusal_bytes frame st) memory 0 (omega (arith, e))))

    module _ (e : length memory ≡ answer_room) (d : Desk) (s : Alloc) (S : StandsFor m d s) where
      abbrev reply : Reply
      reply = (respond d (rules.event frame)).reply

      curt : Curt frame reply
      unfolding respond asked
      curt = frame-curt S frame (frame_of frame) (drop write_head frame) (frame-begins frame)

      -- what the host reads as the status is the reply's
      status-read : given_status (host.answered memory reply) ≡ reply_status reply
      unfolding host.answered given_status
      status-read =
          ap (λ (bs : List ℕ). get_or bs 1 29) (part_same memory (reply_bytes reply) 0 (length (reply_bytes reply)) refl (omega (arith, event-fits d S.fine frame, e))) ∙ curt.second

      answered-kept : Keeps (event memory frame) (rules.event frame) (host.answered memory) (some (record { desk = d; alloc = s }))
      unfolding reply_of host.answered
      answered-kept B h =
          let l : least_refusal ≤ reply_status reply = omega (arith, h, status-read) in (
            refused-stays m n _ (rules.event frame) (stands d s S) (is-refusal reply l) B,
            ap (λ (bs : List ℕ). answer (length bs) (sets memory 0 bs)) (curt.bytes l) ∙ two_bytes e (reply_status reply) (curt.number l)
                ∙ ap (refused_gives (event memory frame)) (sym status-read),
          )

    answered-seen : (v : Option Standing) → Seen m v → length memory ≡ answer_room → Keeps (event memory frame) (rules.event frame) (host.answered memory) v
    answered-seen none S e = answered-none
    answered-seen (some v) (stands d s S) e = answered-kept e d s S

  seen-kept : (v : Option Standing) → Seen m v → (x : HostCall) (g : Given) → Promise m x g n → Kept x g
  unfolding Promise asked refusal refused_gives
  seen-kept v S fresh g (e, k) = fresh_kept (sized m) g e k
  seen-kept v S (event memory frame) g P =
      keeps_given (event memory frame) (rules.event frame) (host.answered memory) _ g
      (in-room (Keeps (event memory frame) (rules.event frame) (host.answered memory)) answer_room memory v (answered-seen memory frame v S) (answered-none memory frame)) (P v S)
  seen-kept v S (look f p memory) g P =
      keeps_given (look f p memory) (rules.look f p) (shown memory) _ g
      (in-room (Keeps (look f p memory) (rules.look f p) (shown memory)) record_room memory v
      (λ _. shown-kept v S (rules.look f p) f (calls.look p) refl (λ st. refl) memory) (λ B _. shown-none (rules.look f p) memory B)) (P v S)
  seen-kept v S (save f output) g P =
      keeps_given (save f output) (rules.save f (length output)) (shown output) v g
      (shown-kept v S (rules.save f (length output)) f (calls.save (length output)) refl (λ st. refl) output) (P v S)
  seen-kept v S (load f text) g P =
      keeps_given (load f text) (rules.load f text) said v g (said-kept v S (rules.load f text) f (calls.load text) refl (λ st. refl)) (P v S)

-- Condition 1, for memories of any content: if the status that the host is given is a refusal's, every byte of the three memories is as it was, and the host is
-- given what specs/Refusal.antt says.
pub refused-call : (m n : Memories) (x : HostCall) (g : Given) → Bytes m.segment → Bytes m.blocks → Bytes m.buffers
    → Promise m x g n → 29 ≤ given_status g → (n ≡ m) × (g ≡ refused_gives x (given_status g))
refused-call m n x g bs bb bf P h = let (v, S) = sees bs bb bf in seen-kept m n v S x g P h
