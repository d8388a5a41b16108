-- What each small change keeps: settling, requests that end, closing and time keep it.
use mathlib.Core.Path.{◌≡◌, refl, ◌∙◌}
use mathlib.Core.Bool.{Bool, cond}
use mathlib.Core.List.{List, [], ◌∷◌, ◌++◌}
use mathlib.Core.Option.{some}
use Prim.Native.Nat.{ℕ, zero, suc, ◌≤◌, ◌<◌}
use native.Mathlib.Omega.{arith}
use lib.Dec.{eqb}
use lib.ListN.{length, length-take}
use Rattle.words.specs.Word.{word}
use Rattle.rules.specs.State.{Rec, Req, idle, Acc, Built}
use Rattle.rules.specs.Store.{Found}
use Rattle.rules.specs.Requests.{writers, acc_at, with_store, say, put_rec, behind, fail}
use Rattle.rules.specs.Settle.{handed, read_result, write_result, Turn, still, onward, serve_reader, serve_writer, at_head, turn, settle_for, settle}
use Rattle.rules.specs.Close.{end_readers, last_gone, closed}
use Rattle.rules.specs.Time.{due, fail_all, lessen, lapse}
use Rattle.rules.proofs.Split.{both, opt}
use Rattle.laws.specs.Bounds.{least_refusal}
use Rattle.laws.specs.Changes.{read_ends, write_ends, Finishes, Walks, Settles}
use Rattle.laws.proofs.Cases.{reader-cases, writer-cases, head-cases, fail-cases}

pub behind-at : (p : ℕ) (f : Found) (b : Built) → acc_at (behind p f b) p ≡ acc_at b p
unfolding acc_at behind say with_store
behind-at p f b = refl

pub put-at : (p : ℕ) (r : Rec) (b : Built) → acc_at (put_rec r b) p ≡ acc_at b p
unfolding acc_at put_rec say with_store
put-at p r b = refl

pub length-handed : (typed : Bool) (limit : ℕ) (r : Rec) → length (handed typed limit r) ≤ limit
unfolding handed
length-handed typed limit r = omega (arith, length-take limit (cond typed (word r.typ ++ word r.wid ++ r.body) r.body))

-- requests that end with a status and bring nothing

module _ (K : Built → Type 0) (ends : Finishes K) where
  pub fails : (p st : ℕ) (b : Built) → K b → st < least_refusal → K (fail p st b)
  fails p st b s n = fail-cases K p st b (λ _. s) (λ q a r e i h. ends p st q a r b e i h s) n

  pub fails-all : (st : ℕ) (l : List ℕ) (b : Built) → K b → st < least_refusal → K (fail_all st l b)
  unfolding fail_all
  fails-all st [] b s n = s
  fails-all st (p ∷ l) b s n = fails-all st l (fail p st b) (fails p st b s n) n

  ends-readers : (l : List ℕ) (b : Built) → K b → K (end_readers l b)
  unfolding end_readers
  ends-readers [] b s = s
  ends-readers (p ∷ l) b s =
      opt K (acc_at b p) (λ _. ends-readers l b s)
      (λ a _. both K a.extended (λ _. ends-readers l b s) (λ _. ends-readers l (fail p 2 b) (fails p 2 b s (omega arith))))

  last-gone : (b : Built) → K b → K (last_gone b)
  unfolding last_gone
  last-gone b s = both K (eqb (writers b) 0) (λ _. ends-readers b.rq b s) (λ _. s)

-- time, for what holds of a settled file
pub lapses-rest : (I R : Built → Type 0) → Settles I R → (e : ℕ) (b : Built) → R b → R (lapse e b)
unfolding lapse
lapses-rest I R st e b z = st.lessens e _ (fails-all R (λ p s q a r c _ _ _. st.finishes p s q c) 22 (due e b.timers) b z (omega arith))

module _ (I : Built → Type 0) (J : ℕ → Built → Type 0) (w : Walks I J) where
  -- time keeps I, which calls keep
  pub lapsed : ((e : ℕ) (b : Built) → I b → I (lessen e b)) → (e : ℕ) (b : Built) → I b → I (lapse e b)
  unfolding lapse
  lapsed h e b s = h e _ (fails-all I w.finishes 22 (due e b.timers) b s (omega arith))

  -- settling

  serves-reader : (p : ℕ) (a : Acc) (b : Built) → acc_at b p ≡ some a → I b → I (serve_reader p a a.req b).file
  unfolding still onward read_result
  serves-reader p a b e s = reader-cases (λ m. I m.file) p a a.req b (λ _ _. s)
      (λ x _ _. w.fetches p a.typed x.keep b s)
      (λ x h r _. w.finishes p 0 _ a _ _ (behind-at p _ b ∙ e) r (read_ends refl (length-handed a.typed x.limit h) (omega arith)) (w.fetches p a.typed x.keep b s))

  serves-writer : (p : ℕ) (a : Acc) (b : Built) → acc_at b p ≡ some a → I b → I (serve_writer p a a.req b).file
  unfolding still onward write_result
  serves-writer p a b e s = writer-cases (λ m. I m.file) p a a.req b (λ _. s) (λ _. s)
      (λ x r t. w.finishes p 0 _ a _ _ (put-at p _ b ∙ e) r (write_ends refl (omega arith)) (w.serves p a x b e r t s))

  serves-head : (serve : ℕ → Acc → Req → Built → Turn) (l : List ℕ) (b : Built) → ((p : ℕ) (a : Acc) → acc_at b p ≡ some a → I (serve p a a.req b).file) → I b → I (at_head serve l b).file
  unfolding still
  serves-head serve l b h s = head-cases (λ m. I m.file) serve l b (λ _. s) (λ p _ a _ e. h p a e)

  takes-turn : (b : Built) → I b → I (turn b).file
  unfolding turn
  takes-turn b s =
      let h = serves-head serve_reader b.rq b (λ p a e. serves-reader p a b e s) s in
      both (λ (m : Turn). I m.file) (at_head serve_reader b.rq b).moved (λ _. h) (λ _. serves-head serve_writer b.wq _ (λ p a e. serves-writer p a _ e h) h)

  settles-for : (n : ℕ) (b : Built) → I b → I (settle_for n b)
  unfolding settle_for
  settles-for zero b s = s
  settles-for (suc n) b s = both I (turn b).moved (λ _. settles-for n (turn b).file (takes-turn b s)) (λ _. takes-turn b s)

  pub settles : (b : Built) → I b → I (settle b)
  unfolding settle
  settles b s = settles-for _ b s

  -- closing
  pub closes : (p : ℕ) (a c : Acc) (b : Built) → acc_at b p ≡ some c → c.writer ≡ a.writer → c.ident ≡ a.ident → c.req ≡ idle → I b → I (closed p a b)
  unfolding closed
  closes p a c b e h i q s =
      both I a.writer
      (λ t. w.closes a.ident _ (last-gone (J a.ident) (w.endings a.ident) _ (rw i at (w.parts p c b e q (h ∙ t) s))))
      (λ t. w.leaves p c b e q (h ∙ t) s)
