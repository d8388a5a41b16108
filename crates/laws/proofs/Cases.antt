-- The cases of a turn and of a request that fails, for laws that follow them.
use mathlib.Core.Path.{◌≡◌, refl, ap, ◌∙◌}
use mathlib.Core.Bool.{true, false}
use mathlib.Core.List.{List, [], ◌∷◌}
use mathlib.Core.Option.{none, some}
use Prim.Native.Nat.{ℕ, ◌<◌}
use native.Mathlib.Omega.{arith}
use Rattle.rules.specs.State.{Rec, Wanted, Offered, Req, idle, reading, writing, read_done, write_done, Acc, Built}
use Rattle.rules.specs.Store.{fetch}
use Rattle.rules.specs.Requests.{acc_at, fits, put_rec, behind, finish, fail_req, fail}
use Rattle.rules.specs.Settle.{handed, read_result, write_result, data_rec, Turn, still, onward, serve_reader, serve_writer, at_head, turn}
use Rattle.rules.proofs.Split.{both, opt, pick_true, pick-false}
use Rattle.laws.specs.Bounds.{least_refusal}
use Rattle.laws.specs.Outstanding.{req_of, req_at, waits_read, waits_write, awaits}
use Rattle.laws.specs.Changes.{Ends, read_ends, write_ends}

-- a reader that does not wait; one that finds nothing; one that is served
pub reader-cases : (P : Turn → Type 0) (p : ℕ) (a : Acc) (q : Req) (b : Built) → (waits_read q ≡ 0 → serve_reader p a q b ≡ still b → P (still b))
    → ((x : Wanted) → q ≡ reading x → (fetch b.geo a.typed x.keep b.store).got ≡ none → P (still (behind p (fetch b.geo a.typed x.keep b.store) b)))
    → ((x : Wanted) (r : Rec) → q ≡ reading x → (fetch b.geo a.typed x.keep b.store).got ≡ some r
    → P (onward (finish p 0 (read_result x.by_words (handed a.typed x.limit r)) (behind p (fetch b.geo a.typed x.keep b.store) b))))
    → P (serve_reader p a q b)
unfolding serve_reader waits_read
reader-cases P p a (reading q) b i n s = opt P (fetch b.geo a.typed q.keep b.store).got (n q refl) (λ r. s q r refl)
reader-cases P p a idle b i n s = i refl refl
reader-cases P p a (writing q) b i n s = i refl refl
reader-cases P p a (read_done q) b i n s = i refl refl
reader-cases P p a (write_done q) b i n s = i refl refl

-- a writer that does not wait; one whose record does not fit; one that is served
pub writer-cases : (P : Turn → Type 0) (p : ℕ) (a : Acc) (q : Req) (b : Built) → (waits_write q ≡ 0 → P (still b)) → (fits b ≡ false → P (still b))
    → ((x : Offered) → q ≡ writing x → fits b ≡ true → P (onward (finish p 0 (write_result x) (put_rec (data_rec a x.bytes) b))))
    → P (serve_writer p a q b)
unfolding serve_writer waits_write
writer-cases P p a (writing q) b i n s = both P (fits b) (s q refl) n
writer-cases P p a idle b i n s = i refl
writer-cases P p a (reading q) b i n s = i refl
writer-cases P p a (read_done q) b i n s = i refl
writer-cases P p a (write_done q) b i n s = i refl

-- nobody at the head; somebody
pub head-cases : (P : Turn → Type 0) (serve : ℕ → Acc → Req → Built → Turn) (l : List ℕ) (b : Built) → (at_head serve l b ≡ still b → P (still b))
    → ((p : ℕ) (rest : List ℕ) (a : Acc) → l ≡ p ∷ rest → acc_at b p ≡ some a → P (serve p a a.req b)) → P (at_head serve l b)
unfolding at_head
head-cases P serve [] b i s = i refl
head-cases P serve (p ∷ l) b i s = opt P (acc_at b p) (λ e. i (rw (e, at_head))) (λ a. s p l a refl)

-- the head that is served, once known
pub at_head-some : (serve : ℕ → Acc → Req → Built → Turn) (p : ℕ) (l : List ℕ) (a : Acc) (b : Built) → acc_at b p ≡ some a → at_head serve (p ∷ l) b ≡ serve p a a.req b
unfolding at_head
at_head-some serve p l a b e = rw (e, at_head)

-- the first reader moves; else the first writer's turn it is
pub turn-reader : (b : Built) → (at_head serve_reader b.rq b).moved ≡ true → turn b ≡ at_head serve_reader b.rq b
unfolding turn
turn-reader b e = pick_true (at_head serve_reader b.rq b).moved _ _ e

pub turn-writer : (b : Built) → (at_head serve_reader b.rq b).moved ≡ false → turn b ≡ at_head serve_writer b.wq (at_head serve_reader b.rq b).file
unfolding turn
turn-writer b e = pick-false (at_head serve_reader b.rq b).moved _ _ e

pub turn-still : (b : Built) → at_head serve_reader b.rq b ≡ still b → at_head serve_writer b.wq b ≡ still b → turn b ≡ still b
unfolding still
turn-still b r w = turn-writer b (ap (λ (m : Turn). m.moved) r) ∙ ap (λ (m : Turn). at_head serve_writer b.wq m.file) r ∙ w

-- no request waits; one does, and ends with a status and brings nothing
pub fail-cases : (P : Built → Type 0) (p st : ℕ) (b : Built) → (awaits (req_at b.accs p) ≡ 0 → P b)
    → ((q : Req) (a : Acc) (r : Req) → acc_at b p ≡ some a → a.req ≡ r → Ends st r q → P (finish p st q b)) → st < least_refusal → P (fail p st b)
unfolding fail acc_at req_of waits_read waits_write
fail-cases P p st b i f n = opt P (acc_at b p) (λ e. i (ap awaits (ap req_of e))) (λ a e. go a e a.req refl)
  where
    go : (a : Acc) → acc_at b p ≡ some a → (q : Req) → a.req ≡ q → P (fail_req p st q b)
    go a e idle r = unfold fail_req in i (ap awaits (ap req_of e ∙ r))
    go a e (reading q) r = unfold fail_req in f _ a _ e r (read_ends refl (omega arith) n)
    go a e (writing q) r = unfold fail_req in f _ a _ e r (write_ends refl n)
    go a e (read_done q) r = unfold fail_req in i (ap awaits (ap req_of e ∙ r))
    go a e (write_done q) r = unfold fail_req in i (ap awaits (ap req_of e ∙ r))
