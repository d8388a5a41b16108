-- All records are purged: the file in hand goes on after its last record, and nothing is written.
use Prim.Native.Nat.{ℕ}
use mathlib.Core.Path.{◌≡◌, refl, sym, ap, subst, ◌∙◌}
use mathlib.Core.List.{List, [], ◌∷◌, ◌++◌}
use native.Mathlib.Omega.{arith}
use Rattle.rules.specs.State.{Hap, purges, Built}
use Rattle.rules.specs.Store.{purge}
use Rattle.rules.specs.Requests.{with_store, say}
use Rattle.rules.specs.Allocation.{Alloc, allot, allot_all}
use Rattle.shares.proofs.Holds.{holds-purge}
use Rattle.laws.specs.Entries.{draws, Fed}
use Rattle.laws.specs.Midst as laws
use Rattle.laws.proofs.Room.{good-sized}
use Rattle.ring.specs.declared.Ring.{Ring}
use Rattle.ring.proofs.Stores.{ring-purge}
use Rattle.midst.specs.declared.File as hand
use Rattle.midst.specs.File.{in_hand}
use Rattle.midst.specs.Mid.{Mid}
use Rattle.midst.proofs.Stores.{mid-storing}
use Rattle.store.specs.Door.{Stored, Bare, Keeps, purged_of, emptied}
use Rattle.memory.specs.Memories.{memories}

pub emptied-stored : (b : Built) → Stored b → Stored (emptied b)
unfolding emptied say with_store
emptied-stored b (k, h) = (k, holds-purge b.geo b.store h)

-- a purge takes no entry
purges-same : (f : ℕ) (hs : List Hap) (s : Alloc) → allot_all f (hs ++ (purges ∷ [])) s ≡ allot_all f hs s
unfolding allot_all allot
purges-same f [] s = refl
purges-same f (h ∷ hs) s = purges-same f hs (allot f h s)

purges-fed : (f : ℕ) (hs : List Hap) (s : Alloc) → Fed f hs s → Fed f (hs ++ (purges ∷ [])) s
unfolding Fed draws
purges-fed f [] s i = (omega arith, tt)
purges-fed f (h ∷ hs) s i = (i.0, purges-fed f hs (allot f h s) i.1)

allots : (f : ℕ) (s : Alloc) (b : Built) → laws.Mid f s b → laws.Mid f s (emptied b)
unfolding emptied say with_store
allots f s b m = record { matches = rw (purges-same f b.past s) m.matches; fed = purges-fed f b.past s m.fed }

hand-is : (b : Built) → Stored b → in_hand (emptied b) ≡ purged_of (in_hand b)
unfolding emptied say with_store
hand-is b (k, h) = ap (λ (r : Ring). record { words = b.geo.words; ring = r }) (ring-purge b.geo b.store (good-sized b.geo k) h)

pub purge-keeps : (x y : hand.File) → y ≡ purged_of x → (f : ℕ) (blocks : List ℕ) → Keeps f emptied blocks x blocks y
unfolding emptied say with_store purge
purge-keeps x y e = λ f blocks o xs buffers b M.
    subst (λ (z : hand.File). Mid Bare f o (memories xs blocks buffers) z (emptied b)) (sym (e ∙ ap purged_of M.row ∙ sym (hand-is b M.good)))
    (mid-storing {J = Bare} M (emptied b) blocks (record { accs = refl; buffers = refl; reads = refl; writes = refl }) tt (allots f o.alloc b M.allots) (purges-same f b.past o.alloc) M.share refl (λ g n. refl))
