-- The allocation after any run from a fresh desk: each entry is in exactly one place, each place of each file holds what its request needs, the
-- clock is the files' timers in order, and the free list is never dry.
use mathlib.Core.Path.{◌≡◌, refl, sym, ap, ◌∙◌}
use mathlib.Core.Bool.{Bool, true, false}
use mathlib.Core.List.{List, [], ◌∷◌}
use mathlib.Core.Option.{Option}
use Prim.Native.Nat.{ℕ, ◌+◌, ◌*◌, ◌≤◌, ◌<◌}
use native.Mathlib.Omega.{arith}
use lib.Dec.{ltb, eqb}
use lib.ListN.{length, length-replicate}
use borrow.Author.Tests.{ltb-true, lt-ltb, eqb-true, eq-eqb, ne_eqb}
use Rattle.rules.specs.Limits.{files, places, entries}
use Rattle.rules.specs.State.{Req, Acc, Timer, unbuilt}
use Rattle.rules.specs.Calls.{Ask, ask}
use Rattle.rules.specs.Desk.{Call, Asked, on, time, bad, asked, Desk, fresh_desk, file_of, answered, respond, after, happens}
use Rattle.rules.specs.Allocation.{Held, nothing, own, timed, place_of, Alloc, fresh_alloc, held_at, allot_all, alloc_time, alloc_asked, alloc_after}
use Rattle.laws.specs.Runs.{OnFile, Proper}
use Rattle.laws.specs.Outstanding.{waits_read, waits_write, uncollected, awaits, outstanding, req_at}
use Rattle.occurrences.specs.Count.{count}
use Rattle.laws.specs.Counts.{places_of, count_t}
use Rattle.laws.specs.Timers.{Sorted, Clock}
use Rattle.laws.specs.Entries.{entries_of, size, Whole, sieve, accs_of, timers_of, Agrees, Calm, Agreed, HeldFor, idles, lasts, ticks, Fed}
use Rattle.laws.specs.Midst.{Elsewhere, Matches, Comes}
use Rattle.laws.proofs.Lists.{get_or-replicate-same}
use Rattle.laws.proofs.Proper.{ProperAsked, asked-proper}
use Rattle.laws.proofs.EightFiles.{eight-fresh, fresh-file}
use Rattle.laws.proofs.Isolation.{own_file, eight-answered, answered-named, answered-other, answered-time}
use Rattle.laws.proofs.Counts.{at-or-else, count-up_from}
use Rattle.laws.proofs.Outstanding.{outstanding-most, reqs-none}
use Rattle.laws.proofs.Taken.{taken-replicate}
use Rattle.laws.proofs.Happenings.{place-file, idle-holds, matches-now}
use Rattle.laws.proofs.Comes.{comes}
use Rattle.laws.proofs.Lapses.{ages, ages-calm, ages-fed}

-- a file between calls

stand : (d : Desk) (s : Alloc) (f : ℕ) → f < files → Agreed d s → Matches f s s (accs_of (file_of d f)) (timers_of (file_of d f))
stand d s f h A = matches-now f s _ _ (A.agrees f h) A.whole A.clock

-- a call of another file
elsewhere : (f g : ℕ) (s t : Alloc) (l : List (Option Acc)) (ts : List Timer) → (g ≡ f → ⊥) → Elsewhere f s t → Agrees g s l ts → Agrees g t l ts
elsewhere f g s t l ts d a A = record {
  holds = λ p b. ap size (a.held (place_of g p) (λ e. d (sym (place-file g p b) ∙ e))) ∙ A.holds p b;
  timed = A.timed;
  clock = a.clock g d ∙ A.clock;
  eight = A.eight;
}

-- one call

abbrev AtFile : Desk → Alloc → ℕ → Type 0
AtFile d s f = Agrees f s (accs_of (file_of d f)) (timers_of (file_of d f)) × Calm (file_of d f)

asks : (d : Desk) (s : Alloc) (f : ℕ) (q : Ask) → f < files → Proper q → Agreed d s → Agreed (answered d (on f q)).desk (allot_all f (ask (file_of d f) q).haps s)
asks d s f q h k A = record {
  eight = eight-answered d (on f q) A.eight;
  whole = c.matches.whole;
  clock = c.matches.clock;
  agrees = λ g b. (each g b).0;
  calm = λ g b. (each g b).1;
}
  where
    c : Comes f s (ask (file_of d f) q)
    c = comes f h s (file_of d f) q k (A.calm f h) (stand d s f h A)

    mine : file_of (answered d (on f q)).desk f ≡ (ask (file_of d f) q).file
    mine = (answered-named d f q A.eight).0 ∙ (unfold own_file in rw (lt-ltb f files h, own_file))

    theirs : (g : ℕ) → (f ≡ g → ⊥) → file_of (answered d (on f q)).desk g ≡ file_of d g
    theirs g n = answered-other d g f q (ne_eqb f g n)

    each : (g : ℕ) → g < files → AtFile (answered d (on f q)).desk (allot_all f (ask (file_of d f) q).haps s) g
    each g =
        at-or-else (λ i. i < files → AtFile (answered d (on f q)).desk (allot_all f (ask (file_of d f) q).haps s) i) f g
        (λ _. rw mine (c.matches.agrees, c.calm))
        (λ n b. rw (theirs g n) (elsewhere f g s _ _ _ (λ e. n (sym e)) c.matches.apart (A.agrees g b), A.calm g b))

passes : (d : Desk) (s : Alloc) (e : ℕ) → Agreed d s → Agreed (answered d (time e)).desk (alloc_time e s)
passes d s e A = record {
  eight = eight-answered d (time e) A.eight;
  whole = (ages 0 (omega arith) e s (file_of d 0) (stand d s 0 (omega arith) A)).whole;
  clock = (ages 0 (omega arith) e s (file_of d 0) (stand d s 0 (omega arith) A)).clock;
  agrees = λ g b. rw (answered-time d g e) (ages g b e s (file_of d g) (stand d s g b A)).agrees;
  calm = λ g b. rw (answered-time d g e) (ages-calm e (file_of d g));
}

pub happens-here : (f : ℕ) (d : Desk) (q : Ask) → f < files → happens f d (on f q) ≡ (ask (file_of d f) q).haps
unfolding happens
happens-here f d q h = rw (eq-eqb f f refl, lt-ltb f files h, happens)

pub happens-nowhere : (f : ℕ) (d : Desk) (q : Ask) → ltb f files ≡ false → happens f d (on f q) ≡ []
unfolding happens
happens-nowhere f d q h = rw (eq-eqb f f refl, h, happens)

pub answers : (d : Desk) (s : Alloc) (a : Asked) → ProperAsked a → Agreed d s → Agreed (answered d a).desk (alloc_asked d a s)
unfolding alloc_asked ProperAsked
answers d s (on f q) k A = go (ltb f files) refl
  where
    go : (t : Bool) → ltb f files ≡ t → Agreed (answered d (on f q)).desk (allot_all f (happens f d (on f q)) s)
    go true e = rw (happens-here f d q (ltb-true f files e)) (asks d s f q (ltb-true f files e) k A)
    go false e = unfold answered allot_all in rw (e, answered, happens-nowhere f d q e) A
answers d s (time e) k A = passes d s e A
answers d s bad k A = unfold answered in A

-- every run

pub agreed-on : (cs : List Call) (d : Desk) (s : Alloc) → Agreed d s → Agreed (after d cs) (alloc_after d cs s)
unfolding after alloc_after respond
agreed-on [] d s A = A
agreed-on (c ∷ cs) d s A = agreed-on cs (answered d (asked c)).desk (alloc_asked d (asked c) s) (answers d s (asked c) (asked-proper c) A)

-- the fresh desk

fresh-whole : Whole fresh_alloc
unfolding fresh_alloc count
fresh-whole = record {
  once = λ x. omega (arith, count-up_from x entries 0 (omega arith), ap (count x) (taken-replicate (files * places)));
  long = length-replicate (files * places) nothing;
}

fresh-agrees : (f : ℕ) → Agrees f fresh_alloc (accs_of unbuilt) (timers_of unbuilt)
unfolding held_at fresh_alloc entries_of accs_of timers_of waits_read waits_write uncollected count_t places_of count sieve
fresh-agrees f = record {
  holds = λ p b. rw (get_or-replicate-same nothing (files * places) (place_of f p), reqs-none p);
  timed = λ p. omega arith;
  clock = refl;
  eight = refl;
}

pub agreed-fresh : Agreed fresh_desk fresh_alloc
agreed-fresh = record {
  eight = eight-fresh;
  whole = fresh-whole;
  clock = unfold fresh_alloc in record { sorted = unfold Sorted in tt; within = λ i _. unfold count_t places_of count in refl };
  agrees = λ f h. rw (fresh-file f) (fresh-agrees f);
  calm = λ f h. rw (fresh-file f) (unfold OnFile in tt);
}

-- desk and allocation agree after any run
pub agreed : (cs : List Call) → Agreed (after fresh_desk cs) (alloc_after fresh_desk cs fresh_alloc)
agreed cs = agreed-on cs fresh_desk fresh_alloc agreed-fresh

-- what follows wherever they agree

holds_as : (q : Req) (n : ℕ) (h : Held) → size h ≡ outstanding q + n → n ≤ awaits q → HeldFor q n h
unfolding entries_of
holds_as q n nothing e k = idles (omega arith) (omega arith)
holds_as q n (own x) e k = lasts (omega arith) (omega arith)
holds_as q n (timed x y) e k = let m = outstanding-most q in ticks (omega arith) (omega arith)

module _ (d : Desk) (s : Alloc) (A : Agreed d s) where
  -- what each place holds
  pub held-as : (f p : ℕ) → f < files → p < places → HeldFor (req_at (accs_of (file_of d f)) p) (count_t p (timers_of (file_of d f))) (held_at s (place_of f p))
  held-as f p h k = let a = A.agrees f h in holds_as _ _ _ (a.holds p k) (a.timed p)

  -- an accessor with nothing outstanding leaves two entries free
  pub two-free : (f p : ℕ) → f < files → p < places → outstanding (req_at (accs_of (file_of d f)) p) ≡ 0 → 2 ≤ length s.free
  two-free f p h k e = (idle-holds f p h s s _ _ (stand d s f h A) k e).1

  -- whatever is called next, there is an entry whenever one is taken
  pub feeds : (f : ℕ) (a : Asked) → f < files → ProperAsked a → Fed f (happens f d a) s
  unfolding happens ProperAsked
  feeds f (on g q) h k = go (eqb g f) refl
    where
      go : (t : Bool) → eqb g f ≡ t → Fed f (happens f d (on g q)) s
      go true e = rw (eqb-true g f e, happens-here f d q h) (comes f h s (file_of d f) q k (A.calm f h) (stand d s f h A)).fed
      go false e = rw (e, happens) (unfold Fed in tt)
  feeds f (time e) h k = ages-fed f e s (file_of d f) (A.calm f h)
  feeds f bad h k = unfold Fed in tt

-- of every run

pub whole : (cs : List Call) → Whole (alloc_after fresh_desk cs fresh_alloc)
whole cs = (agreed cs).whole

pub clocked : (cs : List Call) → Clock (alloc_after fresh_desk cs fresh_alloc).clock
clocked cs = (agreed cs).clock

pub clock-of : (cs : List Call) (f : ℕ) → f < files → sieve f (alloc_after fresh_desk cs fresh_alloc).clock ≡ timers_of (file_of (after fresh_desk cs) f)
clock-of cs f h = ((agreed cs).agrees f h).clock

pub held : (cs : List Call) (f p : ℕ) → f < files → p < places
    → HeldFor (req_at (accs_of (file_of (after fresh_desk cs) f)) p) (count_t p (timers_of (file_of (after fresh_desk cs) f))) (held_at (alloc_after fresh_desk cs fresh_alloc) (place_of f p))
held cs = held-as _ _ (agreed cs)

pub spare : (cs : List Call) (f p : ℕ) → f < files → p < places → outstanding (req_at (accs_of (file_of (after fresh_desk cs) f)) p) ≡ 0 → 2 ≤ length (alloc_after fresh_desk cs fresh_alloc).free
spare cs = two-free _ _ (agreed cs)

pub fed : (cs : List Call) (c : Call) (f : ℕ) → f < files → Fed f (happens f (after fresh_desk cs) (asked c)) (alloc_after fresh_desk cs fresh_alloc)
fed cs c f h = feeds _ _ (agreed cs) f (asked c) h (asked-proper c)
