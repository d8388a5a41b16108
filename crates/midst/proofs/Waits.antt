-- A request begins to wait in the midst of a call: it takes an entry and goes into its queue, and its timer takes another and goes onto the clock.
use Prim.Native.Nat.{ℕ, ◌*◌, ◌≤◌, ◌<◌}
use mathlib.Core.Path.{◌≡◌, refl, sym, ap, subst, ◌∙◌}
use mathlib.Core.Bool.{Bool, true, false, cond, not}
use mathlib.Core.List.{List, [], ◌∷◌, ◌++◌}
use mathlib.Core.Option.{some}
use native.Mathlib.Omega.{arith}
use lib.Dec.{eqb}
use lib.ListN.{length, length-drop}
use Rattle.occurrences.specs.Count.{count}
use Rattle.segment.specs.Layout.{free_list, file_row}
use Rattle.segment.specs.Table.{nth}
use Rattle.requests.specs.Moves.{armed, queued, waiting}
use Rattle.rules.specs.Limits.{files, places, entries}
use Rattle.rules.specs.State.{Req, idle, Acc, Hap, waits, arms, Built, built}
use Rattle.rules.specs.Requests.{acc_at, with_req, with_accs, with_queues, with_timers, alter_acc, say, arm_in, requeue, arm, wait, with_buffers, request}
use Rattle.rules.specs.Desk.{Desk, file_of, with_file}
use Rattle.rules.specs.Allocation.{nothing, own, timed, Alloc, place_of, held_at, front, holds, take_own, allot, allot_all}
use Rattle.rules.proofs.Split.{by_cases, pick_true, pick-false}
use Rattle.laws.specs.Counts.{count_t}
use Rattle.laws.specs.Outstanding.{waits_read, waits_write, uncollected, req_of}
use Rattle.laws.specs.Outstanding as laws
use Rattle.laws.specs.Queues.{Agree}
use Rattle.laws.specs.Midst.{Steps, Mid}
use Rattle.laws.specs.EightFiles.{EightFiles}
use Rattle.laws.proofs.Accessors.{get_or-alter-same, get_or-alter-other}
use Rattle.laws.proofs.Sieve.{count_t-sieve}
use Rattle.laws.proofs.Outstanding.{outstanding-idle}
use Rattle.laws.proofs.Allots.{steps-take_own, held_at-take_own, steps-take_timer, held_at-take_timer, held_at-with_clock}
use Rattle.laws.proofs.Happenings.{open-below, idle-holds, place-of-desk}
use Rattle.laws.proofs.EightFiles.{eight-put, file-other, file-same, put-twice}
use Rattle.memory.specs.Image.{req_words, place_words}
use Rattle.midst.specs.Seg.{Seg, queue_at, side_queue}
use Rattle.midst.proofs.Lists.{Low}
use Rattle.midst.proofs.OnePlace.{Change}
use Rattle.midst.proofs.Joins.{arms_at, seg-free, seg-queue, seg-arm}

-- one more has happened
pub allot-snoc : (f : ℕ) (hs : List Hap) (h : Hap) (s : Alloc) → allot_all f (hs ++ h ∷ []) s ≡ allot f h (allot_all f hs s)
unfolding allot_all
allot-snoc f [] h s = refl
allot-snoc f (g ∷ hs) h s = allot-snoc f hs h (allot f g s)

-- the request q at p waits, and its timer is not yet armed
begins : Bool → ℕ → Req → Built → Built
begins w p q b = say (waits p ∷ []) (requeue p q (cond w b.rq (b.rq ++ p ∷ [])) (cond w (b.wq ++ p ∷ []) b.wq) b)

-- arms the timer of the request at p
arms-too : ℕ → ℕ → Built → Built
arms-too p n b = say (arms p n ∷ []) (with_timers (arm_in (record { place = p; left = n }) b.timers) b)

wait-begins : (w : Bool) (p n : ℕ) (q : Req) (b : Built) → wait w p n q b ≡ arm p n (begins w p q b)
unfolding wait begins
wait-begins true p n q b = refl
wait-begins false p n q b = refl

arm-none : (p n : ℕ) (b : Built) → eqb n 0 ≡ true → arm p n b ≡ b
unfolding arm arms-too
arm-none p n b e = pick_true (eqb n 0) b (arms-too p n b) e

arm-some : (p n : ℕ) (b : Built) → eqb n 0 ≡ false → arm p n b ≡ arms-too p n b
unfolding arm arms-too
arm-some p n b e = pick-false (eqb n 0) b (arms-too p n b) e

joins : (w : Bool) (p : ℕ) (q : Req) (b : Built) → side_queue w (begins w p q b) ≡ side_queue w b ++ p ∷ []
unfolding begins say requeue request with_buffers alter_acc with_accs with_queues
joins true p q b = refl
joins false p q b = refl

stays : (w : Bool) (p : ℕ) (q : Req) (b : Built) → side_queue (not w) (begins w p q b) ≡ side_queue (not w) b
unfolding begins say requeue request with_buffers alter_acc with_accs with_queues
stays true p q b = refl
stays false p q b = refl

out_of : (w : Bool) (p : ℕ) (b : Built) → Agree b → laws.req_at b.accs p ≡ idle → count p (side_queue w b) ≡ 0
unfolding waits_read waits_write
out_of true p b A e = (A p).writes ∙ ap waits_write e
out_of false p b A e = (A p).reads ∙ ap waits_read e

module _ (f : ℕ) (hf : f < files) (s : Alloc) (d : Desk) (eight : EightFiles d) (low : (g : ℕ) → g < files → (g ≡ f → ⊥) → Low (file_of d g)) (b : Built)
    (M : Mid f s b) (A : Agree b) (p n : ℕ) (a : Acc) (e : acc_at b p ≡ some a) (still : a.req ≡ idle) (w : Bool) (q : Req) (z : uncollected q ≡ 0) where
  abbrev i : ℕ
  i = place_of f p

  abbrev l : ℕ
  l = queue_at w f

  abbrev m : List ℕ
  m = req_words i q

  -- the allocation and the file before, with the request's entry, with the timer's
  abbrev t₀ : Alloc
  t₀ = allot_all f b.past s

  abbrev t₁ : Alloc
  t₁ = take_own i t₀

  abbrev t₂ : Alloc
  t₂ = arms_at i n t₁

  abbrev b₁ : Built
  b₁ = begins w p q b

  abbrev b₂ : Built
  b₂ = arms-too p n b₁

  hp : p < places
  unfolding acc_at
  hp = open-below b.accs p a M.matches.agrees.eight e

  hi : i < files * places
  hi = place-of-desk f p hf hp

  req-was : laws.req_at b.accs p ≡ idle
  unfolding acc_at laws.req_of
  req-was = ap laws.req_of e ∙ still

  before : (held_at t₀ i ≡ nothing) × (2 ≤ length t₀.free) × (count_t i t₀.clock ≡ 0)
  before =
      let h = idle-holds f p hf s t₀ b.accs b.timers M.matches hp (outstanding-idle _ req-was) in
      (h.0, h.1, count_t-sieve f p t₀.clock hp ∙ ap (count_t p) M.matches.agrees.clock ∙ h.2)

  own-step : Steps i t₀ t₁
  own-step = steps-take_own i t₀ M.matches.whole hi before.0 (omega (arith, before.1))

  owned : held_at t₁ i ≡ own (front t₀)
  owned = held_at-take_own i t₀ M.matches.whole hi

  room : 1 ≤ length t₁.free
  unfolding take_own holds
  room = omega (arith, length-drop 1 t₀.free, before.1)

  acc-now : acc_at b₁ p ≡ some (with_req q a)
  unfolding acc_at begins say requeue request with_buffers alter_acc with_accs with_queues
  acc-now = get_or-alter-same (with_req q) a b.accs p e

  acc-row : place_words (acc_at b₁ p) ≡ place_words (acc_at b p)
  unfolding place_words with_req
  acc-row = ap place_words acc-now ∙ sym (ap place_words e)

  -- the desk with the file y
  low-with : (y : Built) (g : ℕ) → g < files → (g ≡ f → ⊥) → Low (file_of (with_file d f (built y)) g)
  low-with y g h k = subst Low (sym (file-other d f g (built y) k)) (low g h k)

  queue-change : Change f p (with_file d f (built b)) t₀ t₁ b b₁
  unfolding acc_at begins say requeue request with_buffers alter_acc with_accs with_queues
  queue-change = record {
    file = hf;
    place = hp;
    eight = eight-put d f (built b) eight;
    was = file-same d f (built b) eight hf;
    accs = get_or-alter-other (with_req q) b.accs p;
    held = own-step.others;
    low = low-with b;
  }

  arm-change : Change f p (with_file d f (built b₁)) t₁ t₂ b₁ b₂
  unfolding acc_at arms-too say with_timers
  arm-change = record {
    file = hf;
    place = hp;
    eight = eight-put d f (built b₁) eight;
    was = file-same d f (built b₁) eight hf;
    accs = λ x k. refl;
    held = λ x k. held_at-with_clock _ _ x ∙ (steps-take_timer i t₁ own-step.whole hi (front t₀) owned room).others x k;
    low = low-with b₁;
  }

  armed-queues : (v : Bool) → side_queue v b₂ ≡ side_queue v b₁
  unfolding arms-too say with_timers
  armed-queues v = refl

  armed-req : req_of (acc_at b₂ p) ≡ req_of (acc_at b₁ p)
  unfolding acc_at arms-too say with_timers
  armed-req = refl

  armed-row : place_words (acc_at b₂ p) ≡ place_words (acc_at b₁ p)
  unfolding acc_at arms-too say with_timers
  armed-row = refl

  armed-clock : count_t i t₁.clock ≡ 0
  unfolding take_own holds
  armed-clock = before.2

  armed-holds : held_at t₂ i ≡ timed (front t₀) (front t₁)
  armed-holds = held_at-with_clock _ _ i ∙ held_at-take_timer i t₁ own-step.whole hi (front t₀) owned

  allot-queued : allot_all f b₁.past s ≡ t₁
  unfolding begins say requeue request with_buffers alter_acc with_accs with_queues allot
  allot-queued = allot-snoc f b.past (waits p) s

  allot-armed : allot_all f b₂.past s ≡ t₂
  unfolding arms-too say with_timers allot
  allot-armed = allot-snoc f b₁.past (arms p n) s ∙ ap (arms_at i n) allot-queued

  module _ {xs : List ℕ} (S : Seg xs (with_file d f (built b)) t₀ (file_row f)) where
    has-queued : Seg (queued xs l m) (with_file d f (built b₁)) t₁ (file_row f)
    unfolding req_of with_req uncollected
    has-queued =
        rw put-twice at
        (seg-queue queue-change w q (joins w p q b) (stays w p q b) (ap req_of acc-now) (ap uncollected (ap req_of e ∙ still)) z (out_of w p b A req-was) (out_of (not w) p b A req-was)
        before.2 owned (file_row f) (omega (arith, before.1)) (λ k. absurd (k refl)) acc-row S)

    has-armed : Seg (armed (queued xs l m) i n) (with_file d f (built b₂)) t₂ (file_row f)
    has-armed =
        rw put-twice at
        (seg-arm n arm-change armed-queues armed-req armed-clock (front t₀) owned armed-holds (file_row f) room (λ k. absurd (k refl)) armed-row has-queued)

    -- with the file, the allocation and the bytes known
    known : (c : Built) (u : Alloc) (ys : List ℕ) → wait w p n q b ≡ c → allot_all f c.past s ≡ u → waiting xs l m i n ≡ ys → Seg ys (with_file d f (built c)) u (file_row f)
        → Seg (waiting xs l m i n) (with_file d f (built (wait w p n q b))) (allot_all f (wait w p n q b).past s) (file_row f)
    known c u ys x y v T = rw (x, y, v) T

    pub seg-wait : (nth xs free_list < entries) × (nth (queued xs l m) free_list < entries)
        × Seg (waiting xs l m i n) (with_file d f (built (wait w p n q b))) (allot_all f (wait w p n q b).past s) (file_row f)
    unfolding waiting
    seg-wait = (
      seg-free S (omega (arith, before.1)),
      seg-free has-queued room,
      by_cases (eqb n 0)
          (λ k. known b₁ t₁ (queued xs l m) (wait-begins w p n q b ∙ arm-none p n b₁ k) allot-queued (rw k) has-queued)
          (λ k. known b₂ t₂ (armed (queued xs l m) i n) (wait-begins w p n q b ∙ arm-some p n b₁ k) allot-armed (rw k) has-armed),
    )
