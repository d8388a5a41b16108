-- The loop over the due requests: how it starts, one turn of it, and how it ends.
use Prim.Native.Nat.{ℕ, ◌+◌, ◌-◌, ◌*◌, ◌/◌, ◌%◌, ◌≤◌, ◌<◌}
use mathlib.Core.Path.{◌≡◌, refl, sym, ap, subst, ◌∙◌}
use mathlib.Core.List.{List, [], ◌∷◌}
use native.Mathlib.Omega.{arith}
use native.Mathlib.Decide.{ℕ_discrete, dec_lt}
use lib.ListN.{length}
use Rattle.occurrences.specs.Count.{count}
use Rattle.occurrences.proofs.Counts.{bit-eq}
use Rattle.rules.specs.Limits.{files, places, entries}
use Rattle.rules.specs.State.{Timer, Built, File, unbuilt, built}
use Rattle.rules.specs.Requests.{fail}
use Rattle.rules.specs.Time.{due, fail_all}
use Rattle.rules.specs.Desk.{Desk, file_of, with_file}
use Rattle.rules.specs.Allocation.{Alloc, place_of, ends_at, end_all}
use Rattle.laws.specs.Runs.{OnFile}
use Rattle.laws.specs.Outstanding.{req_at, awaits}
use Rattle.laws.specs.Counts.{places_of, count_t}
use Rattle.laws.specs.Entries.{accs_of, timers_of}
use Rattle.laws.specs.Midst.{here}
use Rattle.laws.proofs.Outstanding.{outstanding-most}
use Rattle.laws.proofs.Clock.{without_timer-in, without_timer-absent}
use Rattle.laws.proofs.Sieve.{here_in, here_out, count_t-sieve}
use Rattle.laws.proofs.Allots.{clock-ends}
use Rattle.laws.proofs.Happenings.{place-file}
use Rattle.laws.proofs.EightFiles.{file-other, file-same}
use Rattle.segment.specs.Layout.{timer_list}
use Rattle.segment.specs.Table.{nth}
use Rattle.segment.specs.Fields.{entry_at}
use Rattle.requests.specs.Moves.{entry_of}
use Rattle.buffers.specs.Buffer.{emptied}
use Rattle.timeouts.specs.Late.{waits_in, late}
use Rattle.timeouts.specs.Stage.{Steady, Stage, fail_file, Reached, Quiet}
use Rattle.timeouts.proofs.Ripe.{Ripe, ripe}
use Rattle.timeouts.proofs.Firsts.{due-none, due-first, few-timers, first-none, first_some}
use Rattle.timeouts.proofs.Turns.{seg-late, other-buffers, stage-late}

-- with none left

ends-none : (l : List ℕ) (t : Alloc) → l ≡ [] → end_all l t ≡ t
unfolding end_all
ends-none l t e = rw e

fails-none : (f : ℕ) (l : List ℕ) (y : File) → l ≡ [] → fail_file (here f l) y ≡ y
unfolding fail_file here fail_all
fails-none f l unbuilt e = refl
fails-none f l (built b) e = rw e

-- with one more
fails_more : (p : ℕ) (l : List ℕ) (b : Built) → fail_file l (built (fail p 22 b)) ≡ fail_file (p ∷ l) (built b)
unfolding fail_file fail_all
fails_more p l b = refl

at_place : (u : Timer) → place_of (u.place / places) (u.place % places) ≡ u.place
unfolding place_of
at_place u = omega arith

-- the file of the first timer is built, and its request waits
module _ {xs ys : List ℕ} {d : Desk} {t : Alloc} (S : Stage xs ys d t) (u : Timer) (us : List Timer) (c : t.clock ≡ u ∷ us) where
  abbrev f : ℕ
  f = u.place / places

  abbrev p : ℕ
  p = u.place % places

  at : place_of f p ≡ u.place
  at = at_place u

  counted : count_t u.place t.clock ≡ 1 + count_t u.place us
  unfolding count_t places_of count
  counted = rw c (omega (arith, bit-eq u.place u.place refl))

  pub below : u.place < files * places
  below = go (dec_lt u.place (files * places))
    where
      go : Dec (u.place < files * places) → u.place < files * places
      go (yes h) = h
      go (no h) = absurd (omega (arith, counted, (S.matches 0 (omega arith)).clock.within u.place (omega arith)))

  hf : f < files
  hf = omega (arith, below)

  hp : p < places
  hp = omega arith

  here-counted : count_t p (timers_of (file_of d f)) ≡ 1 + count_t u.place us
  here-counted = sym (ap (count_t p) (S.matches f hf).agrees.clock) ∙ sym (count_t-sieve f p t.clock hp) ∙ ap (λ j. count_t j t.clock) at ∙ counted

  waits : 1 ≤ awaits (req_at (accs_of (file_of d f)) p)
  waits = omega (arith, here-counted, (S.matches f hf).agrees.timed p)

  -- the place has no other timer
  alone : count_t u.place us ≡ 0
  alone = omega (arith, here-counted, (S.matches f hf).agrees.timed p, outstanding-most (req_at (accs_of (file_of d f)) p))

  pub clock-next : (ends_at u.place t).clock ≡ us
  clock-next =
      clock-ends u.place t (λ h. absurd (omega (arith, h, rw at at ((S.matches f hf).agrees.holds p hp), here-counted, waits)))
      ∙ rw c (without_timer-in u.place u us refl ∙ without_timer-absent u.place us alone)

  pub first-file : (b : Built) × (file_of d f ≡ built b) × Ripe p b
  first-file = go (file_of d f) refl (S.steady f hf) waits here-counted
    where
      go : (y : File) → file_of d f ≡ y → OnFile Steady y → 1 ≤ awaits (req_at (accs_of y) p) → count_t p (timers_of y) ≡ 1 + count_t u.place us → (b : Built) × (file_of d f ≡ built b) × Ripe p b
      go unbuilt e s w k = absurd (unfold timers_of count_t places_of count in omega arith)
      go (built b) e s w k = (b, e, ripe p b (unfold OnFile in s) (unfold accs_of in w))

-- the loop starts
pub reached-start : {xs ys : List ℕ} {d : Desk} {s : Alloc} (n : ℕ) → Stage xs ys d s → Reached n entries ys d s xs ys
reached-start {xs} {ys} {d} {s} n S = record {
  desk = d;
  alloc = s;
  stage = S;
  each = λ f h. refl;
  whole = refl;
  apart = λ f h e. (e, refl);
  few = few-timers S.segment;
}

module _ {n k : ℕ} {ys₀ : List ℕ} {d : Desk} {s : Alloc} {xs ys : List ℕ} (R : Reached n k ys₀ d s xs ys) where
  abbrev now : Alloc
  now = R.alloc

  quiet : due n now.clock ≡ [] → Quiet n ys₀ d s xs ys
  quiet z =
      let same : now ≡ end_all (due n s.clock) s = sym (ends-none (due n now.clock) now z) ∙ R.whole in
      record {
        desk = R.desk;
        stage = rw (← same) R.stage;
        each = λ f h. sym (fails-none f (due n now.clock) (file_of R.desk f) z) ∙ R.each f h;
        apart = λ f h e. (R.apart f h e).1;
      }

  -- the request of the first timer, at place p of file f, completes
  module _ (f p : ℕ) (hf : f < files) (hp : p < places) (b : Built) (y : file_of R.desk f ≡ built b) (T : Ripe p b) (u : Timer) (us : List Timer)
      (c : now.clock ≡ u ∷ us) (at : place_of f p ≡ u.place) (m : u.left ≤ n) (next : (ends_at u.place now).clock ≡ us) where
    abbrev i : ℕ
    i = place_of f p

    abbrev then : Desk
    then = with_file R.desk f (built (fail p 22 b))

    was-due : due n now.clock ≡ i ∷ due n us
    was-due = ap (due n) c ∙ due-first n u us m ∙ ap (λ j. j ∷ due n us) (sym at)

    is-due : due n (ends_at i now).clock ≡ due n us
    is-due = ap (due n) (ap (λ j. (ends_at j now).clock) at ∙ next)

    each_on : (g : ℕ) → fail_file (here g (due n (ends_at i now).clock)) (file_of then g) ≡ fail_file (here g (due n now.clock)) (file_of R.desk g)
    each_on g = rw (is-due, was-due) (go (ℕ_discrete g f))
      where
        here-p : here f (i ∷ due n us) ≡ p ∷ here f (due n us)
        here-p = here_in f i (due n us) (place-file f p hp) ∙ ap (λ x. x ∷ here f (due n us)) (unfold place_of in omega arith)

        go : Dec (g ≡ f) → fail_file (here g (due n us)) (file_of then g) ≡ fail_file (here g (i ∷ due n us)) (file_of R.desk g)
        go (yes z) = rw (z, file-same R.desk f (built (fail p 22 b)) R.stage.eight hf, y, here-p) (fails_more p (here f (due n us)) b)
        go (no z) = rw (file-other R.desk f g (built (fail p 22 b)) z, here_out g i (due n us) (λ x. z (sym x ∙ place-file f p hp)))

    whole-on : end_all (due n (ends_at i now).clock) (ends_at i now) ≡ end_all (due n now.clock) now
    unfolding end_all
    whole-on = rw (is-due, was-due)

    not-built : (g : ℕ) → file_of R.desk g ≡ unbuilt → g ≡ f → ⊥
    not-built g z x = let k : ◌≡◌ {A = ℕ} 0 1 = cc (sym z ∙ ap (file_of R.desk) x ∙ y) in omega arith

    turn_at : Reached n (k - 1) ys₀ d s (late xs i) (emptied i ys)
    turn_at = record {
      desk = then;
      alloc = ends_at i now;
      stage = stage-late R.stage f p hf hp b y T;
      each = λ g h. each_on g ∙ R.each g h;
      whole = whole-on ∙ R.whole;
      apart = λ g h z. let x = R.apart g h z in let o = not-built g x.0 in
          (file-other R.desk f g _ o ∙ x.0, other-buffers R.stage f p hf hp b y T g o ∙ x.1);
      few = omega (arith, R.few, ap length c, ap length (ap (λ j. (ends_at j now).clock) at ∙ next));
    }

  -- no fuel; no timer; one that has more left
  pub stop-spent : k ≡ 0 → Quiet n ys₀ d s xs ys
  stop-spent z = go now.clock refl
    where
      go : (ts : List Timer) → now.clock ≡ ts → Quiet n ys₀ d s xs ys
      go [] c = quiet (unfold due in rw c)
      go (u ∷ us) c = absurd (omega (arith, R.few, ap length c))

  module _ (e : ℕ) (at : e ≡ nth xs timer_list) where
    pub stop-none : entries ≤ e → Quiet n ys₀ d s xs ys
    stop-none h = go now.clock refl
      where
        go : (ts : List Timer) → now.clock ≡ ts → Quiet n ys₀ d s xs ys
        go [] c = quiet (unfold due in rw c)
        go (u ∷ us) c = absurd (omega (arith, (first_some R.stage.segment u us c).0))

    module _ (h : e < entries) where
      -- the first timer
      first : (A : Type 0) → ((u : Timer) (us : List Timer) → now.clock ≡ u ∷ us → (entry_at xs e).place ≡ u.place → (entry_at xs e).seconds ≡ u.left → A) → A
      first A k = go now.clock refl
        where
          go : (ts : List Timer) → now.clock ≡ ts → A
          go [] c = absurd (omega (arith, first-none R.stage.segment c))
          go (u ∷ us) c = let w = first_some R.stage.segment u us c in k u us c (rw at w.1) (rw at w.2)

      pub stop-late : (w : ℕ) → w ≡ (entry_at xs e).seconds → n < w → Quiet n ys₀ d s xs ys
      stop-late w q l = first (Quiet n ys₀ d s xs ys)
          (λ u us c _ z. quiet (rw c (due-none n 0 u us (omega arith) (rw c at (R.stage.matches 0 (omega arith)).clock.sorted))))

      module _ (w : ℕ) (q : w ≡ (entry_at xs e).seconds) (l : w ≤ n) (i : ℕ) (o : i ≡ (entry_at xs e).place) where
        abbrev Goes : ℕ → Type 0
        Goes j = (j < files * places) × (entry_of xs (waits_in xs j) j < entries) × Reached n (k - 1) ys₀ d s (late xs j) (emptied j ys)

        turn : (u : Timer) (us : List Timer) → now.clock ≡ u ∷ us → u.left ≤ n → Goes u.place
        turn u us c m =
            let (b, y, T) = first-file R.stage u us c in
            subst Goes (at_place u) (
              rw (at_place u) (below R.stage u us c),
              (seg-late R.stage (u.place / places) (u.place % places) (omega (arith, below R.stage u us c)) (omega arith) b y T).0,
              turn_at (u.place / places) (u.place % places) (omega (arith, below R.stage u us c)) (omega arith) b y T u us c (at_place u) m (clock-next R.stage u us c),
            )

        pub goes_on : Goes i
        goes_on = first (Goes i) (λ u us c x z. rw (o ∙ x) (turn u us c (omega arith)))
