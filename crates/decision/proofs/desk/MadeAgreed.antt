-- The allocation that memories say agrees with the desk that they say.
use Prim.Native.Nat.{ℕ, ◌+◌, ◌*◌, ◌≤◌, ◌<◌}
use mathlib.Core.Bool.{true, false}
use mathlib.Core.Path.{◌≡◌, refl, sym, ap, subst, ◌∙◌}
use mathlib.Core.List.{List, [], ◌∷◌}
use mathlib.Core.Option.{Option, none}
use native.Mathlib.Omega.{arith}
use native.Mathlib.Decide.{dec_lt}
use lib.ListN.{length, get_or, length-replicate}
use lib.Seq.{ext_get_or}
use Rattle.occurrences.specs.Count.{count, total}
use Rattle.occurrences.proofs.Counts.{bit-eq}
use Rattle.rules.specs.Limits.{files, places, share_bytes, buffer_bytes}
use Rattle.rules.specs.State.{Acc, Timer, File, unbuilt, built}
use Rattle.rules.specs.Desk.{Desk, file_of}
use Rattle.rules.specs.Allocation.{Alloc, place_of, held_at}
use Rattle.rules.proofs.Split.{by_cases}
use Rattle.segment.specs.Layout.{list_count, timer_list}
use Rattle.laws.specs.Outstanding.{req_at, waits_read, waits_write, uncollected, awaits, outstanding}
use Rattle.laws.specs.Outstanding as laws
use Rattle.laws.specs.Runs.{OnFile}
use Rattle.laws.specs.Counts.{places_of, count_t}
use Rattle.laws.proofs.Clock.{sorted-lower}
use Rattle.laws.specs.Queues.{Agree}
use Rattle.laws.specs.Entries.{size, sieve, accs_of, timers_of, Agrees, Calm, Agreed}
use Rattle.laws.proofs.EightFiles.{eight-of}
use Rattle.laws.proofs.Lists.{length_up}
use Rattle.memory.specs.Image.{list_of, lists_of}
use Rattle.words.specs.Word.{Bytes}
use Rattle.memory.specs.Fine.{Fine}
use Rattle.memory.proofs.Boxes.{get_or-lists_of}
use Rattle.memory.proofs.Held.{sieve-at}
use Rattle.memory.proofs.Once.{acc-at, lists-taken}
use Rattle.sound.specs.Rows.{built_at, side_at}
use Rattle.decision.specs.Survey.{TimerEntry, named, waiting_at, completed_at, timers_at, Survey}
use Rattle.sound.specs.Sound.{files_ok}
use Rattle.decision.proofs.lists.Owners.{each_none}
use Rattle.decision.proofs.desk.MadeFacts.{blank-at}
use Rattle.decision.proofs.desk.MadeDesk.{reads_at, writes_at, req_for, held_for, clock_for, alloc_for, built_for, file_for, desk_for}
use Rattle.decision.proofs.desk.MadeRequests.{counts, closed}
use Rattle.decision.proofs.desk.MadeBase.{viewed, size-at, file-built, file-blank, accs-long, acc-of}
use Rattle.decision.proofs.desk.MadeLists.{lists-right}
use Rattle.decision.proofs.desk.MadeFine.{sieve-past, clock-count, clock-order, req_at_lem, fine}

no-timers : (l : List Timer) → ((x : ℕ) → count_t x l ≡ 0) → l ≡ []
unfolding count_t places_of count
no-timers [] h = refl
no-timers (t ∷ l) h = absurd (omega (arith, h t.place, bit-eq t.place t.place refl))

module _ (s blocks bufs : List ℕ) (ls : List (List ℕ)) (bytes : Bytes blocks) (long : length blocks ≡ share_bytes * files) (room : length bufs ≡ places * buffer_bytes * files)
    (ok : files_ok s blocks 0 files ≡ true) (U : Survey s ls) where
  abbrev d : Desk
  d = desk_for s blocks bufs ls

  abbrev a : Alloc
  a = alloc_for s ls

  -- a place: its request and its timers
  module _ (i : ℕ) (h : i < files * places) where
    awaits-is : awaits (req_for s bufs ls i) ≡ waiting_at s ls i
    unfolding waiting_at reads_at writes_at
    awaits-is = let (u, v, w) = counts s bufs ls i (req_for s bufs ls i) (viewed s blocks bufs ls ok U i h) in omega (arith, u, v)

    done-is : uncollected (req_for s bufs ls i) ≡ completed_at ls i
    done-is = (counts s bufs ls i (req_for s bufs ls i) (viewed s blocks bufs ls ok U i h)).2

    shut-is : side_at s i ≡ 0 → waiting_at s ls i ≡ 0
    unfolding waits_read waits_write
    shut-is z = sym awaits-is ∙ ap awaits (closed s bufs ls i (req_for s bufs ls i) (viewed s blocks bufs ls ok U i h) z)

  -- a file
  module _ (f : ℕ) (h : f < files) where
    abbrev x : File
    x = file_of d f

    pub fine-file : OnFile Fine x
    unfolding OnFile
    fine-file = by_cases (built_at s f)
        (λ t. subst (OnFile Fine) (sym (file-built s blocks bufs ls ok U f h t)) (fine s blocks bufs ls bytes long room ok U f h t))
        (λ t. subst (OnFile Fine) (sym (file-blank s blocks bufs ls ok U f h t)) tt)

    timers-at : (p : ℕ) → p < places → count_t p (sieve f (clock_for s ls)) ≡ timers_at s ls (places * f + p)
    unfolding place_of
    timers-at p k = sym (sieve-at f p k (clock_for s ls)) ∙ clock-count s ls (places * f + p)

    no-clock : built_at s f ≡ false → sieve f (clock_for s ls) ≡ []
    unfolding side_at
    no-clock t = no-timers (sieve f (clock_for s ls)) (λ p. go p (dec_lt p places))
      where
        go : (p : ℕ) → Dec (p < places) → count_t p (sieve f (clock_for s ls)) ≡ 0
        go p (yes k) =
            omega (
              arith,
              timers-at p k,
              U.timed (places * f + p) (omega arith),
              shut-is (places * f + p) (omega arith) ((blank-at s blocks ok f h t).closed p k 0 (omega arith)),
            )
        go p (no k) = sieve-past f p (omega arith) (clock_for s ls)

    clock-is : sieve f (clock_for s ls) ≡ timers_of x
    unfolding timers_of built_for
    clock-is = by_cases (built_at s f)
        (λ t. sym (ap timers_of (file-built s blocks bufs ls ok U f h t)))
        (λ t. no-clock t ∙ sym (ap timers_of (file-blank s blocks bufs ls ok U f h t)))

    eight : length (accs_of x) ≡ places
    unfolding accs_of
    eight = by_cases (built_at s f)
        (λ t. ap (λ y. length (accs_of y)) (file-built s blocks bufs ls ok U f h t) ∙ accs-long s blocks bufs ls ok U f h)
        (λ t. ap (λ y. length (accs_of y)) (file-blank s blocks bufs ls ok U f h t) ∙ length-replicate {A = Option Acc} places none)

    req-is : (p : ℕ) → p < places → req_at (accs_of x) p ≡ req_for s bufs ls (places * f + p)
    req-is p k = ap laws.req_of (acc-at x p ∙ acc-of s blocks bufs ls ok U f h p k) ∙ req_at_lem s blocks bufs ls bytes long room ok U (places * f + p) (omega arith)

    pub agrees : Agrees f a (accs_of x) (timers_of x)
    unfolding alloc_for place_of
    agrees = record { holds = holds; timed = timed; clock = clock-is; eight = eight }
      where
        holds : (p : ℕ) → p < places → size (held_at a (places * f + p)) ≡ outstanding (req_at (accs_of x) p) + count_t p (timers_of x)
        holds p k =
            omega (
              arith,
              size-at s blocks bufs ls ok U (places * f + p) (omega arith),
              ap outstanding (req-is p k),
              awaits-is (places * f + p) (omega arith),
              done-is (places * f + p) (omega arith),
              timers-at p k,
              ap (count_t p) clock-is,
            )

        timed : (p : ℕ) → count_t p (timers_of x) ≤ awaits (req_at (accs_of x) p)
        timed p = go (dec_lt p places)
          where
            go : Dec (p < places) → count_t p (timers_of x) ≤ awaits (req_at (accs_of x) p)
            go (yes k) =
                omega (
                  arith,
                  ap awaits (req-is p k),
                  awaits-is (places * f + p) (omega arith),
                  timers-at p k,
                  ap (count_t p) clock-is,
                  U.timed (places * f + p) (omega arith),
                )
            go (no k) = omega (arith, ap (count_t p) clock-is, sieve-past f p (omega arith) (clock_for s ls))

    calm : Calm x
    unfolding OnFile built_for
    calm = by_cases (built_at s f)
        (λ t. subst (OnFile (λ b. b.past ≡ [])) (sym (file-built s blocks bufs ls ok U f h t)) refl)
        (λ t. subst (OnFile (λ b. b.past ≡ [])) (sym (file-blank s blocks bufs ls ok U f h t)) tt)

  -- the desk
  queues : (y : File) → OnFile Fine y → OnFile Agree y
  unfolding OnFile
  queues unbuilt F = tt
  queues (built b) F = F.queues

  within : (i : ℕ) → files * places ≤ i → count_t i a.clock ≡ 0
  unfolding alloc_for timers_at named
  within i h = clock-count s ls i ∙ each_none s i (TimerEntry s) (λ e t u. omega (arith, t.place)) (get_or ls timer_list []) U.timers

  held-long : length a.held ≡ files * places
  unfolding alloc_for
  held-long = length_up (held_for s ls) (files * places) 0

  lists-same : lists_of d a ≡ ls
  lists-same = ext_get_or [] (lists_of d a) ls (l82 ∙ sym U.heads) (λ l h. let k : l < list_count = rw l82 at h in get_or-lists_of d a l k ∙ (lists-right s blocks bufs ls room ok U l k).0)
    where
      l82 : length (lists_of d a) ≡ list_count
      l82 = unfold lists_of in length_up (list_of d a) list_count 0

  pub agreed : Agreed d a
  agreed = record {
    eight = unfold desk_for in eight-of (file_for s blocks bufs ls);
    whole = record {
      once = λ x. sym (lists-taken d a held-long within agrees (λ f h. queues (file_of d f) (fine-file f h)) x) ∙ (ap (total x) lists-same ∙ U.once x);
      long = held-long;
    };
    clock = record { sorted = unfold alloc_for in sorted-lower 0 1 (clock_for s ls) (omega arith) (clock-order s ls U.order); within = within };
    agrees = agrees;
    calm = calm;
  }
