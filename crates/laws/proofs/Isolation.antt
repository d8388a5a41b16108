-- Condition 3 on the rules: what a file's callers hear, and the file, do not depend on calls that name other files.
use mathlib.Core.Path.{◌≡◌, refl, sym, ap, ◌∙◌}
use mathlib.Core.Bool.{Bool, true, false}
use mathlib.Core.List.{List, [], ◌∷◌, ◌++◌, append_assoc, append-nil}
use Prim.Native.Nat.{ℕ}
use lib.Dec.{ltb, eqb}
use borrow.Author.Tests.{ltb-true, eqb-true, eqb-false}
use Rattle.rules.specs.Limits.{files}
use Rattle.rules.specs.State.{Hap, File, unbuilt}
use Rattle.rules.specs.Reply.{Reply}
use Rattle.rules.specs.Calls.{Ask, ask, refusal}
use Rattle.rules.specs.Desk.{Call, Asked, on, time, bad, asked, Desk, fresh_desk, file_of, Responded, answered, respond, replies, after, happens, history}
use Rattle.rules.specs.Time.{file_time, time_haps}
use Rattle.rules.proofs.Split.{both}
use Rattle.laws.specs.EightFiles.{EightFiles}
use Rattle.laws.specs.Runs.{Own, call, wait, mine, only, names, theirs, Proper}
use Rattle.laws.proofs.EightFiles.{eight-fresh, fresh-file, eight-put, file-same, file-other, eight-time, file-time}
use Rattle.laws.proofs.Proper.{ProperAsked, asked-proper}

-- one file by itself

unfoldable pub own_file : ℕ → File → Own → File
own_file f x (call q) = elim (ltb f files) [ true ↦ (ask x q).file | false ↦ x ]
own_file f x (wait e) = file_time e x

unfoldable pub own_hears : ℕ → File → Own → List Reply
own_hears f x (call q) = elim (ltb f files) [ true ↦ (ask x q).reply ∷ [] | false ↦ refusal q 31 ∷ [] ]
own_hears f x (wait e) = []

unfoldable pub own_haps : ℕ → File → Own → List Hap
own_haps f x (call q) = elim (ltb f files) [ true ↦ (ask x q).haps | false ↦ [] ]
own_haps f x (wait e) = time_haps e x

unfoldable pub own_after : ℕ → File → List Own → File
own_after f x [] = x
own_after f x (o ∷ os) = own_after f (own_file f x o) os

unfoldable pub own_heard : ℕ → File → List Own → List Reply
own_heard f x [] = []
own_heard f x (o ∷ os) = own_hears f x o ++ own_heard f (own_file f x o) os

unfoldable pub own_past : ℕ → File → List Own → List Hap
own_past f x [] = []
own_past f x (o ∷ os) = own_haps f x o ++ own_past f (own_file f x o) os

-- one call, seen from file f

pub eight-answered : (d : Desk) (a : Asked) → EightFiles d → EightFiles (answered d a).desk
unfolding answered
eight-answered d (on g q) n = both (λ (r : Responded). EightFiles r.desk) (ltb g files) (λ _. eight-put d g _ n) (λ _. n)
eight-answered d (time e) n = eight-time e d n
eight-answered d bad n = n

-- a call that names f, one that names another, and time
pub answered-named : (d : Desk) (f : ℕ) (q : Ask) → EightFiles d → (file_of (answered d (on f q)).desk f ≡ own_file f (file_of d f) (call q)) × ((answered d (on f q)).reply ∷ [] ≡ own_hears f (file_of d f) (call q))
unfolding answered own_file own_hears
answered-named d f q n = go (ltb f files) refl
  where
    go : (t : Bool) → ltb f files ≡ t → (file_of (answered d (on f q)).desk f ≡ own_file f (file_of d f) (call q)) × ((answered d (on f q)).reply ∷ [] ≡ own_hears f (file_of d f) (call q))
    go true e = rw (e, answered, own_file, own_hears) (file-same d f _ n (ltb-true f files e), refl)
    go false e = rw (e, answered, own_file, own_hears) (refl, refl)

pub answered-other : (d : Desk) (f g : ℕ) (q : Ask) → eqb g f ≡ false → file_of (answered d (on g q)).desk f ≡ file_of d f
unfolding answered
answered-other d f g q h = both (λ (r : Responded). file_of r.desk f ≡ file_of d f) (ltb g files) (λ _. file-other d g f _ (λ e. eqb-false g f h (sym e))) (λ _. refl)

pub answered-time : (d : Desk) (f e : ℕ) → file_of (answered d (time e)).desk f ≡ file_time e (file_of d f)
unfolding answered
answered-time d f e = file-time e d f

step-file : (f : ℕ) (d : Desk) (a : Asked) → EightFiles d → file_of (answered d a).desk f ≡ own_after f (file_of d f) (mine f a)
unfolding mine own_after
step-file f d (on g q) n = go (eqb g f) refl
  where
    go : (t : Bool) → eqb g f ≡ t → file_of (answered d (on g q)).desk f ≡ own_after f (file_of d f) (mine f (on g q))
    go true e = rw (e, mine, ← eqb-true g f e) (answered-named d g q n).0
    go false e = rw (e, mine) (answered-other d f g q e)
step-file f d (time e) n = unfold own_file in answered-time d f e
step-file f d bad n = unfold answered in refl

step-haps : (f : ℕ) (d : Desk) (a : Asked) → happens f d a ≡ own_past f (file_of d f) (mine f a)
unfolding mine own_past happens own_haps
step-haps f d (on g q) = go (eqb g f) refl
  where
    go : (t : Bool) → eqb g f ≡ t → happens f d (on g q) ≡ own_past f (file_of d f) (mine f (on g q))
    go true e = rw (e, happens, mine, eqb-true g f e) (sym (append-nil _))
    go false e = rw (e, happens, mine)
step-haps f d (time e) = sym (append-nil _)
step-haps f d bad = refl

-- a reply that is heard, before others
unfoldable pub heard_of : Bool → Reply → List Reply → List Reply
heard_of t r rs = elim t [ true ↦ r ∷ rs | false ↦ rs ]

step-hears : (f : ℕ) (d : Desk) (a : Asked) (rs : List Reply) → EightFiles d → heard_of (names f a) (answered d a).reply rs ≡ own_heard f (file_of d f) (mine f a) ++ rs
unfolding mine own_heard own_hears names heard_of
step-hears f d (on g q) rs n = go (eqb g f) refl
  where
    go : (t : Bool) → eqb g f ≡ t → heard_of (eqb g f) (answered d (on g q)).reply rs ≡ own_heard f (file_of d f) (mine f (on g q)) ++ rs
    go true e = rw (e, mine, append-nil, ← eqb-true g f e, ← (answered-named d g q n).1)
    go false e = rw (e, mine)
step-hears f d (time e) rs n = refl
step-hears f d bad rs n = refl

-- rows of calls
own_after-append : (f : ℕ) (os ps : List Own) (x : File) → own_after f x (os ++ ps) ≡ own_after f (own_after f x os) ps
unfolding own_after
own_after-append f [] ps x = refl
own_after-append f (o ∷ os) ps x = own_after-append f os ps (own_file f x o)

own_past-append : (f : ℕ) (os ps : List Own) (x : File) → own_past f x (os ++ ps) ≡ own_past f x os ++ own_past f (own_after f x os) ps
unfolding own_past own_after
own_past-append f [] ps x = refl
own_past-append f (o ∷ os) ps x = rw (own_past-append f os ps (own_file f x o)) (sym (append_assoc (own_haps f x o) (own_past f (own_file f x o) os) _))

own_heard-append : (f : ℕ) (os ps : List Own) (x : File) → own_heard f x (os ++ ps) ≡ own_heard f x os ++ own_heard f (own_after f x os) ps
unfolding own_heard own_after
own_heard-append f [] ps x = refl
own_heard-append f (o ∷ os) ps x = rw (own_heard-append f os ps (own_file f x o)) (sym (append_assoc (own_hears f x o) (own_heard f (own_file f x o) os) _))

-- a run, seen from f, is f's own run
pub after-own : (f : ℕ) (cs : List Call) (d : Desk) → EightFiles d → file_of (after d cs) f ≡ own_after f (file_of d f) (only f cs)
unfolding after only respond
after-own f [] d n = unfold own_after in refl
after-own f (c ∷ cs) d n =
    after-own f cs (answered d (asked c)).desk (eight-answered d (asked c) n) ∙ ap (λ (x : File). own_after f x (only f cs)) (step-file f d (asked c) n) ∙ sym (own_after-append f (mine f (asked c)) (only f cs) (file_of d f))

pub past-own : (f : ℕ) (cs : List Call) (d : Desk) → EightFiles d → history f d cs ≡ own_past f (file_of d f) (only f cs)
unfolding history only respond
past-own f [] d n = unfold own_past in refl
past-own f (c ∷ cs) d n =
    let ih = past-own f cs (answered d (asked c)).desk (eight-answered d (asked c) n) in
    rw (step-haps f d (asked c), ih, step-file f d (asked c) n) (sym (own_past-append f (mine f (asked c)) (only f cs) (file_of d f)))

heard-own : (f : ℕ) (cs : List Call) (d : Desk) → EightFiles d → theirs f cs (replies d cs) ≡ own_heard f (file_of d f) (only f cs)
unfolding theirs replies only respond heard_of
heard-own f [] d n = unfold own_heard in refl
heard-own f (c ∷ cs) d n =
    let ih = heard-own f cs (answered d (asked c)).desk (eight-answered d (asked c) n) in
    step-hears f d (asked c) _ n ∙ rw (ih, step-file f d (asked c) n) (sym (own_heard-append f (mine f (asked c)) (only f cs) (file_of d f)))

-- two runs from a fresh desk that hold the same for f
pub record AlikeRuns (f : ℕ) (r s : List Call) : Type 0 where
  pub hear : theirs f r (replies fresh_desk r) ≡ theirs f s (replies fresh_desk s)
  pub keep : file_of (after fresh_desk r) f ≡ file_of (after fresh_desk s) f
  pub tell : history f fresh_desk r ≡ history f fresh_desk s

pub isolation : (f : ℕ) (r s : List Call) → only f r ≡ only f s → AlikeRuns f r s
isolation f r s e = record {
  hear = cc (heard-own f r fresh_desk eight-fresh, heard-own f s fresh_desk eight-fresh);
  keep = cc (after-own f r fresh_desk eight-fresh, after-own f s fresh_desk eight-fresh);
  tell = cc (past-own f r fresh_desk eight-fresh, past-own f s fresh_desk eight-fresh);
}

-- what holds of an unbuilt file, and is kept by each proper call and by time, holds of each file after any run from a fresh desk
module _ (P : File → Type 0) (start : P unbuilt) (kept : (x : File) (q : Ask) → Proper q → P x → P (ask x q).file) (aged : (e : ℕ) (x : File) → P x → P (file_time e x)) where
  own-kept : (f : ℕ) (x : File) (a : Asked) → ProperAsked a → P x → P (own_after f x (mine f a))
  unfolding mine own_after own_file ProperAsked
  own-kept f x (on g q) r h =
      both (λ (l : List Own). P (own_after f x l)) (eqb g f)
      (λ _. both P (ltb f files) (λ _. kept x q r h) (λ _. h)) (λ _. h)
  own-kept f x (time e) r h = aged e x h
  own-kept f x bad r h = h

  own-run : (f : ℕ) (cs : List Call) (x : File) → P x → P (own_after f x (only f cs))
  unfolding only
  own-run f [] x h = unfold own_after in h
  own-run f (c ∷ cs) x h = rw (own_after-append f (mine f (asked c)) (only f cs) x) (own-run f cs _ (own-kept f x (asked c) (asked-proper c) h))

  pub always : (f : ℕ) (cs : List Call) → P (file_of (after fresh_desk cs) f)
  always f cs = rw (after-own f cs fresh_desk eight-fresh) (own-run f cs (file_of fresh_desk f) (rw fresh-file start))
