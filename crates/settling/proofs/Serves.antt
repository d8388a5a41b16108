-- A turn of the first waiting reader in the rules, by what it finds.
use Prim.Native.Nat.{ℕ}
use mathlib.Core.Path.{◌≡◌, refl, ap, ◌∙◌}
use mathlib.Core.Bool.{true, false}
use mathlib.Core.List.{List, ◌∷◌}
use mathlib.Core.Option.{Option, none, some}
use Rattle.rules.specs.State.{Rec, Wanted, Offered, Req, reading, writing, Acc, Built}
use Rattle.rules.specs.Store.{fetch}
use Rattle.rules.specs.Requests.{acc_at, behind, finish, fits, put_rec}
use Rattle.rules.specs.Settle.{handed, read_result, write_result, data_rec, Turn, still, onward, serve_reader, serve_writer, at_head}
use Rattle.rules.proofs.Split.{pick_true, pick-false}
use Rattle.laws.proofs.Cases.{at_head-some}

pick-none : (o : Option Rec) (x : Turn) (g : Rec → Turn) → o ≡ none → elim o [ none ↦ x | some r ↦ g r ] ≡ x
pick-none o x g e = rw e refl

pick_some : (o : Option Rec) (x : Turn) (g : Rec → Turn) (d : Rec) → o ≡ some d → elim o [ none ↦ x | some r ↦ g r ] ≡ g d
pick_some o x g d e = rw e refl

module _ (b : Built) (p : ℕ) (rest : List ℕ) (a : Acc) (e : acc_at b p ≡ some a) where
  module _ (w : Wanted) (q : b.rq ≡ p ∷ rest) (r : a.req ≡ reading w) where
    first-reader : at_head serve_reader b.rq b ≡ serve_reader p a (reading w) b
    first-reader = ap (λ (z : List ℕ). at_head serve_reader z b) q ∙ at_head-some serve_reader p rest a b e ∙ ap (λ (z : Req). serve_reader p a z b) r

    pub reads_none : (fetch b.geo a.typed w.keep b.store).got ≡ none → at_head serve_reader b.rq b ≡ still (behind p (fetch b.geo a.typed w.keep b.store) b)
    unfolding serve_reader
    reads_none n = first-reader ∙ pick-none (fetch b.geo a.typed w.keep b.store).got _ _ n

    pub reads-some : (d : Rec) → (fetch b.geo a.typed w.keep b.store).got ≡ some d
        → at_head serve_reader b.rq b ≡ onward (finish p 0 (read_result w.by_words (handed a.typed w.limit d)) (behind p (fetch b.geo a.typed w.keep b.store) b))
    unfolding serve_reader
    reads-some d n = first-reader ∙ pick_some (fetch b.geo a.typed w.keep b.store).got _ (λ r. onward (finish p 0 (read_result w.by_words (handed a.typed w.limit r)) (behind p (fetch b.geo a.typed w.keep b.store) b))) d n

  module _ (w : Offered) (q : b.wq ≡ p ∷ rest) (r : a.req ≡ writing w) where
    first-writer : at_head serve_writer b.wq b ≡ serve_writer p a (writing w) b
    first-writer = ap (λ (z : List ℕ). at_head serve_writer z b) q ∙ at_head-some serve_writer p rest a b e ∙ ap (λ (z : Req). serve_writer p a z b) r

    pub writes-none : fits b ≡ false → at_head serve_writer b.wq b ≡ still b
    unfolding serve_writer
    writes-none n = first-writer ∙ pick-false (fits b) _ _ n

    pub writes-some : fits b ≡ true → at_head serve_writer b.wq b ≡ onward (finish p 0 (write_result w) (put_rec (data_rec a w.bytes) b))
    unfolding serve_writer
    writes-some n = first-writer ∙ pick_true (fits b) _ _ n
