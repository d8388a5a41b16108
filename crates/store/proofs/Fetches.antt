-- A read has fetched: the file in hand is the rules' file after the read, and the record at the place is the one that they give.
use Prim.Native.Nat.{ℕ}
use mathlib.Core.Path.{◌≡◌, refl, sym, ap, ◌∙◌, subst}
use mathlib.Core.Bool.{Bool, true, false}
use mathlib.Core.List.{List, [], ◌∷◌}
use mathlib.Core.Option.{none, some}
use native.Mathlib.Omega.{arith}
use Rattle.rules.specs.State.{Rec, Geo, Store, Built}
use Rattle.rules.specs.Store.{fetch}
use Rattle.rules.specs.Requests.{with_store, say, behind}
use Rattle.rules.specs.Memories.{share_at}
use Rattle.shares.specs.Holds.{Sized, InShare}
use Rattle.shares.specs.Back.{rec_at}
use Rattle.shares.specs.Places.{head_at}
use Rattle.shares.proofs.Places.{head_at-read}
use Rattle.laws.proofs.Room.{good-sized}
use Rattle.ring.specs.declared.Ring.{Ring}
use Rattle.ring.specs.Ring.{geo, ring_of}
use Rattle.records.specs.declared.cursor.Cursor.{Cursor}
use Rattle.records.specs.Cursor.{AtRecord}
use Rattle.records.specs.Reading.{Readable}
use Rattle.records.specs.Fetch.{Stores, ahead}
use Rattle.records.proofs.cursor.Laws.{stands-readable}
use Rattle.records.proofs.fetch.Finds.{fetch-none, fetch-some}
use Rattle.memory.specs.Memories.{memories}
use Rattle.midst.specs.declared.File as hand
use Rattle.midst.specs.File.{in_hand}
use Rattle.midst.specs.Mid.{Start, Mid}
use Rattle.midst.proofs.Stores.{mid-stores, mid-behind}
use Rattle.store.specs.declared.Fetched.{Fetched}
use Rattle.store.specs.Door.{Stored, Bare, Keeps, taken_ring, is_some, fetched_of, fetching, got_at, Gets}
use Rattle.store.proofs.Finds.{holds-ahead, share-ahead, finds-none, finds-some}

no-clash : false ≡ true → ⊥
no-clash e = subst (λ (t : Bool). elim t as (λ (t : Bool). Type 0) [ true ↦ ⊥ | false ↦ Unit {0} ]) e tt

-- the record at the head of what is ahead
got_read : (g : Geo) (typed keep : Bool) (s : Store) → Sized g → InShare g s
    → (fetch g typed keep s).got ≡ elim (is_some (fetch g typed keep s).got) [ true ↦ some (rec_at s.share (head_at g (ahead g typed s))) | false ↦ none ]
unfolding is_some
got_read g typed keep s o h = go (ahead g typed s).recs refl
  where
    go : (l : List Rec) → (ahead g typed s).recs ≡ l → (fetch g typed keep s).got ≡ elim (is_some (fetch g typed keep s).got) [ true ↦ some (rec_at s.share (head_at g (ahead g typed s))) | false ↦ none ]
    go [] e = rw (fetch-none g typed keep s e).0 refl
    go (d ∷ rest) e =
        rw (fetch-some g typed keep s d rest e).0
        (ap some (sym (ap (λ (zs : List ℕ). rec_at zs (head_at g (ahead g typed s))) (sym (share-ahead g typed s)) ∙ head_at-read g (ahead g typed s) d rest o (holds-ahead g typed s h) e)))

pub got-none : (r : Fetched) (xs : List ℕ) → r.got ≡ false → got_at r xs ≡ none
unfolding got_at
got-none r xs e = rw e refl

pub got-some : (r : Fetched) (xs : List ℕ) → r.got ≡ true → got_at r xs ≡ some (rec_at xs r.at)
unfolding got_at
got-some r xs e = rw e refl

module _ (f : ℕ) (typed keep : Bool) (blocks : List ℕ) (x : hand.File) (r : Fetched) (is : (s : Store) → Stores x.words x.ring (share_at f blocks) s → r ≡ fetched_of x typed keep s) where
  module _ {o : Start} {xs buffers : List ℕ} {b : Built} (M : Mid Stored f o (memories xs blocks buffers) x b) where
    -- what is fetched of the file that is in hand
    own : r ≡ fetched_of (in_hand b) typed keep b.store
    own = is b.store (mid-stores M M.good.0 M.good.1) ∙ ap (λ (y : hand.File). fetched_of y typed keep b.store) M.row

    behind-is : (p : ℕ) → r.file ≡ in_hand (fetching p typed keep b)
    unfolding fetched_of behind say with_store
    behind-is p = ap (λ (q : Fetched). q.file) own

    got-is : (fetch b.geo typed keep b.store).got ≡ got_at (fetched_of (in_hand b) typed keep b.store) b.store.share
    unfolding got_at fetched_of
    got-is = got_read b.geo typed keep b.store (good-sized b.geo M.good.0) M.good.1

  pub fetch-keeps : (p : ℕ) → Keeps f (fetching p typed keep) blocks x blocks r.file
  fetch-keeps p = λ o xs buffers b M.
      subst (λ (y : hand.File). Mid Bare f o (memories xs blocks buffers) y (fetching p typed keep b)) (sym (behind-is M p)) (mid-behind {J = Bare} M p typed keep tt)

  pub fetch-gets : Gets f typed keep blocks x r
  fetch-gets = λ o xs buffers b M. got-is M ∙ ap (λ (q : Fetched). got_at q b.store.share) (sym (own M)) ∙ ap (got_at r) (sym M.share)

-- what the code of fetch has: the share, and the cursor there
module _ (f : ℕ) (typed keep : Bool) (blocks own : List ℕ) (share : own ≡ share_at f blocks) (x : hand.File) (k : Cursor) (stands : AtRecord x.words own k)
    (found : (s : Store) → Stores x.words x.ring own s → k.ring ≡ ring_of (geo x.words x.ring) (ahead (geo x.words x.ring) typed s)) where
  abbrev Says : Fetched → Type 0
  Says r =
      ((s : Store) → Stores x.words x.ring (share_at f blocks) s → r ≡ fetched_of x typed keep s)
      × ((r.got ≡ true → Readable (share_at f blocks) r.at) × (((p : ℕ) → Keeps f (fetching p typed keep) blocks x blocks r.file) × Gets f typed keep blocks x r))

  says : (r : Fetched) → ((s : Store) → Stores x.words x.ring own s → r ≡ fetched_of x typed keep s) → (r.got ≡ true → Readable own r.at) → Says r
  says r is read =
      let so : (s : Store) → Stores x.words x.ring (share_at f blocks) s → r ≡ fetched_of x typed keep s = λ s S. is s (subst (λ (zs : List ℕ). Stores x.words x.ring zs s) (sym share) S) in
      (so, ((λ t. subst (λ (zs : List ℕ). Readable zs r.at) share (read t)), (fetch-keeps f typed keep blocks x r so, fetch-gets f typed keep blocks x r so)))

  pub says_none : k.ring.held ≡ 0 → Says (record { got = false; at = k.at; file = record { words = x.words; ring = k.ring } })
  says_none z = says _ (λ s S. finds-none x own typed keep k stands s S (found s S) z) (λ t. absurd (no-clash t))

  pub says_some : (k.ring.held ≡ 0 → ⊥) → (z : Ring) → z ≡ taken_ring keep k.ring → Says (record { got = true; at = k.at; file = record { words = x.words; ring = z } })
  says_some h z q = says _ (λ s S. finds-some x own typed keep k stands s S (found s S) h z q) (λ _. stands-readable _ _ _ stands (omega (arith, h)))
