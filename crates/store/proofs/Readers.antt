-- A read has fetched in the midst of a call that is fine: what its caller goes on with, the settings 46 and 47 as its accessor and request have them.
use Prim.Native.Nat.{ℕ}
use mathlib.Core.Path.{◌≡◌, sym, ap, ap₂, ◌∙◌, subst}
use mathlib.Core.Bool.{Bool, true, false}
use mathlib.Core.List.{List}
use mathlib.Core.Option.{Option, none, some}
use Rattle.rules.specs.State.{Rec, Built}
use Rattle.rules.specs.Store.{fetch}
use Rattle.rules.specs.Settle.{handed}
use Rattle.rules.specs.Memories.{share_at}
use Rattle.shares.specs.Back.{rec_at}
use Rattle.memory.specs.Memories.{Memories}
use Rattle.memory.specs.Fine.{Fine}
use Rattle.midst.specs.declared.File as hand
use Rattle.midst.specs.Mid.{Start, Mid}
use Rattle.midst.proofs.Walks.{fine-walks}
use Rattle.store.specs.declared.Fetched.{Fetched}
use Rattle.store.specs.Door.{Keeps, fetching, got_at, Gets}
use Rattle.store.proofs.Hands.{fine-stored, mid-known, through}
use Rattle.store.proofs.Fetches.{got-none, got-some}

-- what is handed, by the same four
pub handed-same : (t u : Bool) (k l : ℕ) (own share : List ℕ) (at : ℕ) → t ≡ u → k ≡ l → own ≡ share → handed t k (rec_at own at) ≡ handed u l (rec_at share at)
handed-same t u k l own share at e h q = ap₂ {C = List ℕ} (λ (w : Bool) (m : ℕ). handed w m (rec_at own at)) e h ∙ ap (λ (zs : List ℕ). handed u l (rec_at zs at)) q

module _ {f : ℕ} {o : Start} {m : Memories} {x : hand.File} {b : Built} (M : Mid Fine f o m x b) (t u : Bool) (z : Fetched)
    (p : ℕ) (keeps : Keeps f (fetching p t u) m.blocks x m.blocks z.file) (gets : Gets f t u m.blocks x z) (typed keep : Bool) (is-typed : t ≡ typed) (is-kept : u ≡ keep) where
  pub fetched-fine : Fine (fetching p typed keep b)
  fetched-fine = fine-walks.fetches p typed keep b M.good

  pub fetched-mid : Mid Fine f o m z.file (fetching p typed keep b)
  fetched-mid =
      through M (fetching p typed keep) m.blocks z.file
      (subst (λ (w : Bool). Keeps f (fetching p w keep) m.blocks x m.blocks z.file) is-typed (subst (λ (w : Bool). Keeps f (fetching p t w) m.blocks x m.blocks z.file) is-kept keeps))
      (fine-stored M.good) fetched-fine

  got-is : (fetch b.geo typed keep b.store).got ≡ got_at z (share_at f m.blocks)
  got-is =
      sym (ap₂ {C = Option Rec} (λ (v w : Bool). (fetch b.geo v w b.store).got) is-typed is-kept) ∙ gets o m.segment m.buffers b (mid-known M (fine-stored M.good))

  pub fetched-none : z.got ≡ false → (fetch b.geo typed keep b.store).got ≡ none
  fetched-none n = got-is ∙ got-none z _ n

  pub fetched-some : z.got ≡ true → (fetch b.geo typed keep b.store).got ≡ some (rec_at (share_at f m.blocks) z.at)
  fetched-some n = got-is ∙ got-some z _ n
