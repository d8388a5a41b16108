-- Access 1 purges a file that has no accessor: the file in hand is the rules' file then.
use Prim.Native.Nat.{ℕ}
use mathlib.Core.Path.{◌≡◌, refl, sym, ◌∙◌, subst}
use mathlib.Core.Bool.{Bool, true, false, ◌&&◌}
use mathlib.Core.List.{List}
use lib.Dec.{eqb}
use Rattle.rules.specs.State.{Built}
use Rattle.rules.specs.Requests.{opened, with_store, say}
use Rattle.rules.specs.Open.{purged}
use Rattle.rules.proofs.Split.{pick_true, pick-false}
use Rattle.laws.proofs.Accessors.{purged-keeps}
use Rattle.segment.specs.Fields.{file_at}
use Rattle.accessors.specs.Sides.{purges_at}
use Rattle.accessors.proofs.Counted.{purges-is}
use Rattle.midst.specs.declared.File as hand
use Rattle.midst.specs.File.{file_of_row}
use Rattle.midst.specs.Mid.{Start, Mid}
use Rattle.midst.proofs.Begins.{mid_row}
use Rattle.store.specs.Door.{Stored, Keeps, emptied}
use Rattle.store.proofs.Hands.{through}
use Rattle.store.proofs.Purges.{emptied-stored}
use Rattle.opening.specs.Opens.{Takes}
use Rattle.memory.specs.Memories.{memories}

pub purged-accs : (access : ℕ) (b : Built) → (purged access b).accs ≡ b.accs
unfolding say with_store
purged-accs access b = purged-keeps (λ (c : Built). c.accs ≡ b.accs) access b (λ _. refl) refl

-- the code's test is the rules'
module _ (xs : List ℕ) (f access : ℕ) (t : Bool) (k : t ≡ purges_at xs f access) where
  test : {o : Start} {blocks buffers : List ℕ} {x : hand.File} {b : Built} → Mid Stored f o (memories xs blocks buffers) x b → t ≡ (eqb access 1 && eqb (opened b) 0)
  test {b = b} M = k ∙ purges-is xs f b M.allots.matches.agrees.eight (mid_row M) access

  module _ (x : hand.File) (e : x ≡ file_of_row (file_at xs f)) where
    pub taken-plain : t ≡ false → Takes access f xs x
    unfolding purged
    taken-plain h = λ o blocks buffers b M.
        subst (λ (c : Built). Mid Stored f o (memories xs blocks buffers) x c) (sym (pick-false (eqb access 1 && eqb (opened b) 0) _ _ (sym (test M) ∙ h)))
        (subst (λ (y : hand.File). Mid Stored f o (memories xs blocks buffers) y b) (sym e) M)

    pub taken-purged : t ≡ true → (y : hand.File) → ((g : ℕ) (blocks : List ℕ) → Keeps g emptied blocks x blocks y) → Takes access f xs y
    unfolding purged emptied
    taken-purged h y keeps = λ o blocks buffers b M.
        subst (λ (c : Built). Mid Stored f o (memories xs blocks buffers) y c) (sym (pick_true (eqb access 1 && eqb (opened b) 0) _ _ (sym (test M) ∙ h)))
        (through (subst (λ (z : hand.File). Mid Stored f o (memories xs blocks buffers) z b) (sym e) M) emptied blocks y (keeps f blocks) M.good (emptied-stored b M.good))
