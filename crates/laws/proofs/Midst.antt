-- In the midst of a call: what the places of its file hold, by what has happened so far, is what the file has; and no entry was taken from an
-- empty free list.
use mathlib.Core.Path.{◌≡◌, refl, ap, ◌∙◌}
use mathlib.Core.Bool.{◌&&◌}
use mathlib.Core.List.{List, [], ◌∷◌, ◌++◌, map}
use mathlib.Core.Option.{Option, none, some}
use Prim.Native.Nat.{ℕ, ◌≤◌, ◌<◌}
use native.Mathlib.Omega.{arith}
use lib.Dec.{eqb}
use lib.ListN.{length, length-drop}
use Rattle.rules.specs.Limits.{files, places}
use Rattle.rules.specs.State.{Rec, Req, idle, reading, writing, Acc, Hap, puts, drops, purges, waits, arms, ends, cancels, collects, Built}
use Rattle.rules.specs.Store.{Found}
use Rattle.rules.specs.Requests.{opened, acc_at, alter, with_store, with_accs, with_queues, with_timers, alter_acc, say, put_rec, took_by, behind, with_req, requeue, leave, finish, cancel, arm, wait, freed, with_buffers, request}
use Rattle.rules.specs.Open.{new_acc, purged}
use Rattle.rules.specs.Allocation.{Alloc, holds, take_own, allot, allot_all}
use Rattle.rules.proofs.Split.{both}
use Rattle.laws.specs.Outstanding.{req_of, req_at, waits_read, waits_write, uncollected, awaits, outstanding}
use Rattle.laws.specs.Changes.{Finishes, Walks}
use Rattle.laws.specs.Counts.{count_t}
use Rattle.laws.specs.Entries.{draws, Fed}
use Rattle.laws.specs.Midst.{Matches, Mid}
use Rattle.laws.proofs.Clock.{without_timer-absent}
use Rattle.laws.proofs.Outstanding.{outstanding-most, outstanding-idle, ByRequests, mild-keeps, enter-keeps, vacate-keeps, reqs-same}
use Rattle.laws.proofs.Happenings.{open-below, matches-alike, idle-holds, matches-waits, matches-ends, matches-goes, matches-arms}

-- what happens in two parts

allot_all-append : (f : ℕ) (hs ks : List Hap) (s : Alloc) → allot_all f (hs ++ ks) s ≡ allot_all f ks (allot_all f hs s)
unfolding allot_all
allot_all-append f [] ks s = refl
allot_all-append f (h ∷ hs) ks s = allot_all-append f hs ks (allot f h s)

pub fed-append : (f : ℕ) (hs ks : List Hap) (s : Alloc) → Fed f hs s → Fed f ks (allot_all f hs s) → Fed f (hs ++ ks) s
unfolding Fed allot_all
fed-append f [] ks s x y = y
fed-append f (h ∷ hs) ks s x y = (x.0, fed-append f hs ks (allot f h s) x.1 y)

-- records that are put, or go, take nothing
module _ (f : ℕ) (g : Rec → Hap) (h : (r : Rec) (s : Alloc) → (allot f (g r) s ≡ s) × (draws (g r) ≡ 0)) where
  pub allot_all-quiet : (w : List Rec) (s : Alloc) → allot_all f (map g w) s ≡ s
  unfolding allot_all
  allot_all-quiet [] s = refl
  allot_all-quiet (r ∷ w) s = allot_all-quiet w (allot f (g r) s) ∙ (h r s).0

  pub fed-quiet : (w : List Rec) (s : Alloc) → Fed f (map g w) s
  unfolding Fed
  fed-quiet [] s = tt
  fed-quiet (r ∷ w) s = (omega (arith, (h r s).1), fed-quiet w (allot f (g r) s))

drops-quiet : (f : ℕ) (r : Rec) (s : Alloc) → (allot f (drops r) s ≡ s) × (draws (drops r) ≡ 0)
unfolding allot draws
drops-quiet f r s = (refl, refl)

module _ (f : ℕ) (hf : f < files) (s : Alloc) where
  -- the allocation so far
  abbrev so : Built → Alloc
  so b = allot_all f b.past s

  more : (b c : Built) (hs : List Hap) → Mid f s b → c.past ≡ b.past ++ hs → Fed f hs (so b) → Matches f s (allot_all f hs (so b)) c.accs c.timers → Mid f s c
  more b c hs m e d k = record { matches = rw (e, allot_all-append f b.past hs s) k; fed = rw e (fed-append f b.past hs s m.fed d) }

  one : (b c : Built) (h : Hap) → Mid f s b → c.past ≡ b.past ++ (h ∷ []) → draws h ≤ length (so b).free → Matches f s (allot f h (so b)) c.accs c.timers → Mid f s c
  unfolding allot_all Fed
  one b c h m e d k = more b c (h ∷ []) m e (d, tt) k

  -- requests

  mid-alike : ByRequests (Mid f s)
  unfolding with_accs
  mid-alike l b n h m = record { matches = matches-alike f s (so b) b.accs l b.timers n h m.matches; fed = m.fed }

  mid-finish : Finishes (Mid f s)
  unfolding acc_at finish leave say with_timers requeue request with_buffers alter_acc with_accs with_queues draws
  mid-finish p st q a r b e i w m =
      one b (finish p st q b) (ends p st) m refl (omega arith)
      (matches-ends f p hf s (so b) b.accs b.timers m.matches a e q st r i w)

  mid-cancel : (p : ℕ) (a : Acc) (b : Built) → acc_at b p ≡ some a → awaits a.req ≡ 1 → Mid f s b → Mid f s (cancel p b)
  unfolding acc_at cancel leave say with_timers requeue request with_buffers alter_acc with_accs with_queues draws allot
  mid-cancel p a b e w m =
      one b (cancel p b) (cancels p) m refl (omega arith)
      (matches-goes f p hf s (so b) b.accs b.timers m.matches a e idle (omega (arith, outstanding-most a.req)) (outstanding-idle idle refl))

  mid-free : (p : ℕ) (a : Acc) (b : Built) → acc_at b p ≡ some a → uncollected a.req ≡ 1 → Mid f s b → Mid f s (freed p b)
  unfolding acc_at freed request with_buffers say alter_acc with_accs draws allot req_of
  mid-free p a b e w m =
      let o = outstanding-most a.req in
      let z : count_t p b.timers ≡ 0 = omega (arith, m.matches.agrees.timed p, ap awaits (ap req_of e)) in
      one b (freed p b) (collects p) m refl (omega arith)
      (rw (without_timer-absent p b.timers z) at (matches-goes f p hf s (so b) b.accs b.timers m.matches a e idle (omega arith) (outstanding-idle idle refl)))

  -- a request begins to wait
  module _ (p n : ℕ) (q : Req) (a : Acc) (b : Built) (e : acc_at b p ≡ some a) (i : a.req ≡ idle) (w : awaits q ≡ 1) (m : Mid f s b) where
    hp : p < places
    unfolding acc_at
    hp = open-below b.accs p a m.matches.agrees.eight e

    o : outstanding q ≡ 1
    o = omega (arith, outstanding-most q)

    free : (2 ≤ length (so b).free) × (count_t p b.timers ≡ 0)
    unfolding acc_at req_of
    free = let h = idle-holds f p hf s (so b) b.accs b.timers m.matches hp (outstanding-idle _ (ap req_of e ∙ i)) in (h.1, h.2)

    module _ (c : Built) (x : c.past ≡ b.past ++ (waits p ∷ [])) (y : c.accs ≡ alter (with_req q) b.accs p) (z : c.timers ≡ b.timers) where
      -- the midst after a request begins to wait, with its entry
      mid-waits : Mid f s c
      unfolding acc_at draws
      mid-waits =
          one b c (waits p) m x (omega (arith, free.0))
          (rw (y, z) (matches-waits f p hf s (so b) b.accs b.timers m.matches a e q (outstanding-idle a.req i) o))

      left : 1 ≤ length (so c).free
      unfolding allot_all allot take_own holds
      left = rw (x, allot_all-append f b.past (waits p ∷ []) s) (omega (arith, length-drop 1 (so b).free, free.0))

      now : req_at c.accs p ≡ q
      unfolding acc_at
      now = rw y (reqs-same q a b.accs p e)

      -- the midst after a request waits, with its entry and its timer's
      pub mid-wait : Mid f s (arm p n c)
      unfolding arm say with_timers draws
      mid-wait =
          both (Mid f s) (eqb n 0) (λ _. mid-waits)
          (λ _. one c _ (arms p n) mid-waits refl (omega (arith, left))
          (matches-arms f p hf s (so c) c.accs c.timers mid-waits.matches n hp (ap awaits now ∙ w) (ap outstanding now ∙ o) (rw z free.1) left))

  -- records are put and go

  pub mid-put : (r : Rec) (b : Built) → Mid f s b → Mid f s (put_rec r b)
  unfolding put_rec say with_store draws allot
  mid-put r b m = one b (put_rec r b) (puts r) m refl (omega arith) m.matches

  took-quiet : (p : ℕ) (o : Option Rec) (t : Alloc) → (allot_all f (took_by p o) t ≡ t) × Fed f (took_by p o) t
  unfolding took_by allot_all allot Fed draws
  took-quiet p none t = (refl, tt)
  took-quiet p (some r) t = (refl, (omega arith, tt))

  mid-behind : (p : ℕ) (g : Found) (b : Built) → Mid f s b → Mid f s (behind p g b)
  unfolding behind say with_store
  mid-behind p g b m =
      let z = allot_all-quiet f drops (drops-quiet f) g.went (so b) in
      more b (behind p g b) (map drops g.went ++ took_by p g.took) m refl
      (fed-append f (map drops g.went) (took_by p g.took) (so b) (fed-quiet f drops (drops-quiet f) g.went (so b)) (took-quiet p g.took _).1)
      (rw (allot_all-append f (map drops g.went) (took_by p g.took) (so b), z, (took-quiet p g.took (so b)).0) m.matches)

  pub mid-purged : (access : ℕ) (b : Built) → Mid f s b → Mid f s (purged access b)
  unfolding purged say with_store draws allot
  mid-purged access b m = both (Mid f s) (eqb access 1 && eqb (opened b) 0) (λ _. one b _ purges m refl (omega arith) m.matches) (λ _. m)

  pub mid-walks : Walks (Mid f s) (λ n. Mid f s)
  unfolding wait say requeue request with_buffers alter_acc with_accs with_queues waits_read waits_write new_acc
  mid-walks = record {
    mild = mild-keeps (Mid f s) mid-alike;
    finishes = mid-finish;
    cancels = mid-cancel;
    read_waits = λ p n q a b e i _ _ m. mid-wait p n (reading q) a b e i refl m _ refl refl refl;
    write_waits = λ p n q a b e i _ _ m. mid-wait p n (writing q) a b e i refl m _ refl refl refl;
    frees = mid-free;
    fetches = λ p typed keep b m. mid-behind p _ b m;
    writes = λ p a d b _ _ _ _ m. mid-put _ b m;
    serves = λ p a q b _ _ _ m. mid-put _ b m;
    enters = λ k b m. enter-keeps (Mid f s) mid-alike _ b refl m;
    joins = λ access n k b _ _ m. enter-keeps (Mid f s) mid-alike _ _ refl (mid-put _ _ (mid-purged access b m));
    leaves = λ p a b e i _ m. vacate-keeps (Mid f s) mid-alike p a b e i m;
    parts = λ p a b e i _ m. vacate-keeps (Mid f s) mid-alike p a b e i m;
    endings = λ n. mid-finish;
    closes = λ n b m. mid-put _ b m;
  }
