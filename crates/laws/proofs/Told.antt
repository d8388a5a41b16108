-- The happenings of the desk are, for each file, what happens to it; and the allocation is a fold over them. So the order over files is said once, by the
-- desk's clock.
use mathlib.Core.Path.{◌≡◌, refl, sym, ap, ◌∙◌}
use mathlib.Core.List.{List, [], ◌∷◌, ◌++◌, map, append_assoc, append-nil}
use Prim.Native.Nat.{ℕ, ◌/◌, ◌%◌, ◌≤◌, ◌<◌}
use native.Mathlib.Omega.{arith}
use native.Mathlib.Decide.{ℕ_discrete, dec_le}
use borrow.Author.Tests.{le-leb, lt-leb, eq-eqb, ne_eqb}
use Rattle.rules.specs.Limits.{files, places}
use Rattle.rules.specs.State.{Timer, Hap, ends, Built, File, unbuilt, built}
use Rattle.rules.specs.Requests.{acc_at, with_accs, with_queues, with_timers, alter_acc, say, requeue, leave, finish, fail, with_buffers, request}
use Rattle.rules.specs.Time.{due, fail_all, minus, lessen, lapse, time_haps}
use Rattle.rules.specs.Desk.{Call, Asked, on, time, bad, asked, Desk, fresh_desk, file_of, answered, respond, happens, history}
use Rattle.rules.specs.Allocation.{place_of, Alloc, fresh_alloc, with_clock, ends_at, allot, allot_all, end_all, alloc_time, alloc_asked, Happening, happening, times_out, told, annals}
use Rattle.laws.specs.Runs.{OnFile}
use Rattle.laws.specs.Outstanding.{req_at, awaits}
use Rattle.laws.specs.Counts.{places_of, count_t}
use Rattle.laws.specs.Entries.{accs_of, timers_of, Agrees, Calm, Agreed}
use Rattle.laws.specs.Midst.{here}
use Rattle.laws.specs.Told.{told_of, allot_told, aged}
use Rattle.occurrences.specs.Count.{count}
use Rattle.occurrences.proofs.Counts.{bit-eq, bit-ne, count_head}
use Rattle.laws.proofs.Proper.{asked-proper}
use Rattle.laws.proofs.Outstanding.{outstanding-most, reqs-each}
use Rattle.laws.proofs.Cases.{fail-cases}
use Rattle.laws.proofs.Sieve.{here_in, here_out, here-due}
use Rattle.laws.proofs.Allocated.{answers, agreed-fresh}

-- the happenings, file by file

in-file : (f : ℕ) (t : Happening) (ts : List Happening) → t.file ≡ f → told_of f (t ∷ ts) ≡ t.hap ∷ told_of f ts
unfolding told_of
in-file f t ts h = rw (eq-eqb t.file f h)

not-in-file : (f : ℕ) (t : Happening) (ts : List Happening) → (t.file ≡ f → ⊥) → told_of f (t ∷ ts) ≡ told_of f ts
unfolding told_of
not-in-file f t ts h = rw (ne_eqb t.file f h)

told_of-append : (f : ℕ) (ts us : List Happening) → told_of f (ts ++ us) ≡ told_of f ts ++ told_of f us
told_of-append f [] us = unfold told_of in refl
told_of-append f (t ∷ ts) us = go (ℕ_discrete t.file f) (told_of-append f ts us)
  where
    go : Dec (t.file ≡ f) → told_of f (ts ++ us) ≡ told_of f ts ++ told_of f us → told_of f (t ∷ ts ++ us) ≡ told_of f (t ∷ ts) ++ told_of f us
    go (yes e) r = rw (in-file f t (ts ++ us) e, in-file f t ts e, r)
    go (no n) r = rw (not-in-file f t (ts ++ us) n, not-in-file f t ts n, r)

-- a call of file f, and of another
own-told : (f : ℕ) (hs : List Hap) → told_of f (map (happening f) hs) ≡ hs
unfolding happening
own-told f [] = unfold told_of in refl
own-told f (h ∷ hs) = in-file f (happening f h) (map (happening f) hs) refl ∙ ap (λ (l : List Hap). h ∷ l) (own-told f hs)

other-told : (f g : ℕ) (hs : List Hap) → (g ≡ f → ⊥) → told_of f (map (happening g) hs) ≡ []
other-told f g [] n = unfold told_of in refl
other-told f g (h ∷ hs) n = not-in-file f (happening g h) (map (happening g) hs) (unfold happening in n) ∙ other-told f g hs n

-- time

-- the end of a request by time, in its file
timed_out : ℕ → Hap
timed_out p = ends p 22

time-told : (f : ℕ) (is : List ℕ) → told_of f (map times_out is) ≡ map timed_out (here f is)
time-told f [] = unfold told_of here in refl
time-told f (i ∷ is) = go (ℕ_discrete (i / places) f) (time-told f is)
  where
    go : Dec (i / places ≡ f) → told_of f (map times_out is) ≡ map timed_out (here f is) → told_of f (map times_out (i ∷ is)) ≡ map timed_out (here f (i ∷ is))
    go (yes e) r = rw (here_in f i is e, in-file f (times_out i) (map times_out is) (unfold times_out happening in e), r) (unfold times_out happening timed_out in refl)
    go (no n) r = rw (here_out f i is n, not-in-file f (times_out i) (map times_out is) (unfold times_out happening in n)) r

-- a file whose requests of l wait, each standing there once: they end in this order
fails-told : (l : List ℕ) (b : Built) → ((x : ℕ) → count x l ≤ awaits (req_at b.accs x)) → (fail_all 22 l b).past ≡ b.past ++ map timed_out l
unfolding fail_all
fails-told [] b h = sym (append-nil b.past)
fails-told (p ∷ l) b h =
    fails-told l (fail p 22 b) one.1 ∙ ap (λ (hs : List Hap). hs ++ map timed_out l) one.0 ∙ append_assoc b.past (timed_out p ∷ []) (map timed_out l)
  where
    one : ((fail p 22 b).past ≡ b.past ++ (timed_out p ∷ [])) × ((x : ℕ) → count x l ≤ awaits (req_at (fail p 22 b).accs x))
    one =
        fail-cases (λ c. (c.past ≡ b.past ++ (timed_out p ∷ [])) × ((x : ℕ) → count x l ≤ awaits (req_at c.accs x))) p 22 b
        (λ z. absurd (omega (arith, h p, count_head p l)))
        (λ q a r e _ _. unfold acc_at finish say leave with_timers requeue request with_buffers alter_acc with_accs with_queues timed_out in (
          refl,
          reqs-each q a b.accs p e (λ x y. count x l ≤ awaits y) (unfold count in omega (arith, h p, bit-eq p p refl, outstanding-most (req_at b.accs p)))
              (λ x n. unfold count in omega (arith, h x, bit-ne p x n)),
        )) (omega arith)

count-due : (x e : ℕ) (ts : List Timer) → count x (due e ts) ≤ count_t x ts
unfolding count count_t places_of
count-due x e [] = unfold due in omega arith
count-due x e (t ∷ ts) = go (dec_le t.left e) (count-due x e ts)
  where
    go : Dec (t.left ≤ e) → count x (due e ts) ≤ count_t x ts → count x (due e (t ∷ ts)) ≤ count_t x (t ∷ ts)
    go (yes h) r = unfold due count count_t places_of in rw (le-leb t.left e h) (omega (arith, r))
    go (no h) r = unfold due count count_t places_of in rw (lt-leb t.left e (omega arith)) (omega (arith, r))

file-told : (f e : ℕ) (s : Alloc) (x : File) → Calm x → Agrees f s (accs_of x) (timers_of x) → time_haps e x ≡ map timed_out (due e (timers_of x))
unfolding time_haps OnFile accs_of timers_of
file-told f e s unbuilt c A = unfold due in refl
file-told f e s (built b) c A =
    unfold lapse lessen with_timers in
    fails-told (due e b.timers) b (λ x. omega (arith, count-due x e b.timers, A.timed x)) ∙ ap (λ (hs : List Hap). hs ++ map timed_out (due e b.timers)) c

-- any call

pub told_of_lem : (d : Desk) (s : Alloc) (a : Asked) (f : ℕ) → f < files → Agreed d s → told_of f (told d s a) ≡ happens f d a
unfolding told happens
told_of_lem d s (on g q) f h A = go (ℕ_discrete g f)
  where
    go : Dec (g ≡ f) → told_of f (map (happening g) (happens g d (on g q))) ≡ happens f d (on g q)
    go (yes e) = rw e (own-told f (happens f d (on f q)))
    go (no n) = other-told f g (happens g d (on g q)) n ∙ sym (unfold happens in rw (ne_eqb g f n, happens) refl)
told_of_lem d s (time e) f h A =
    time-told f (due e s.clock) ∙ ap (map timed_out) (here-due e f s.clock ∙ ap (due e) (A.agrees f h).clock) ∙ sym (file-told f e s (file_of d f) (A.calm f h) (A.agrees f h))
told_of_lem d s bad f h A = unfold told_of in refl

-- the allocation

allot-told : (f : ℕ) (hs : List Hap) (s : Alloc) → allot_told (map (happening f) hs) s ≡ allot_all f hs s
unfolding allot_told allot_all happening
allot-told f [] s = refl
allot-told f (h ∷ hs) s = allot-told f hs (allot f h s)

ends-told : (is : List ℕ) (s : Alloc) → allot_told (map times_out is) s ≡ end_all is s
unfolding allot_told end_all times_out happening allot
ends-told [] s = refl
ends-told (i ∷ is) s =
    let k : place_of (i / places) (i % places) ≡ i = unfold place_of in omega arith in
    ap (λ (j : ℕ). allot_told (map times_out is) (ends_at j s)) k ∙ ends-told is (ends_at i s)

pub allocated-as-told : (d : Desk) (s : Alloc) (a : Asked) → alloc_asked d a s ≡ aged a (allot_told (told d s a) s)
unfolding alloc_asked told aged
allocated-as-told d s (on f q) = sym (allot-told f (happens f d (on f q)) s)
allocated-as-told d s (time e) = unfold alloc_time in ap (λ (t : Alloc). with_clock (map (minus e) t.clock) t) (sym (ends-told (due e s.clock) s))
allocated-as-told d s bad = unfold allot_told in refl

-- every run

annals-on : (cs : List Call) (d : Desk) (s : Alloc) (f : ℕ) → f < files → Agreed d s → told_of f (annals d cs s) ≡ history f d cs
unfolding annals history respond
annals-on [] d s f h A = unfold told_of in refl
annals-on (c ∷ cs) d s f h A =
    let ih = annals-on cs (answered d (asked c)).desk (alloc_asked d (asked c) s) f h (answers d s (asked c) (asked-proper c) A) in
    rw (told_of-append f (told d s (asked c)) (annals (answered d (asked c)).desk cs (alloc_asked d (asked c) s)), told_of_lem d s (asked c) f h A, ih)

-- what happened to a file in a run is its part of the desk's annals
pub annals-of : (cs : List Call) (f : ℕ) → f < files → told_of f (annals fresh_desk cs fresh_alloc) ≡ history f fresh_desk cs
annals-of cs f h = annals-on cs fresh_desk fresh_alloc f h agreed-fresh
