-- The memories after an accepted call of a file, after a passage of time, and after a refused call are those of the rules' desk.
use Prim.Native.Nat.{ℕ, ◌<◌}
use mathlib.Core.Path.{◌≡◌, refl, sym, ap, ◌∙◌}
use mathlib.Core.Bool.{Bool, true, false, true≢false}
use mathlib.Core.List.{List}
use native.Mathlib.Decide.{ℕ_discrete}
use borrow.Author.Tests.{lt-ltb}
use Rattle.rules.specs.Limits.{files}
use Rattle.rules.specs.State.{Built, File, unbuilt, built}
use Rattle.rules.specs.Reply.{answers, Out, hushed, leaves}
use Rattle.rules.specs.Calls.{Ask, ask_built, ask}
use Rattle.rules.specs.Desk.{Desk, Call, on, time, asked, file_of, with_file, desk_time, Responded, answered, respond}
use Rattle.rules.specs.Time.{file_time}
use Rattle.rules.specs.Allocation.{Alloc, allot_all, alloc_time, alloc_asked}
use Rattle.rules.specs.Memories.{share_at}
use Rattle.laws.specs.Runs.{Proper}
use Rattle.laws.specs.Changes.{Walks}
use Rattle.laws.proofs.Proper.{asked-proper}
use Rattle.laws.proofs.Lift.{Any, any}
use Rattle.laws.proofs.Calls.{walked}
use Rattle.laws.proofs.Allocated.{happens-here}
use Rattle.laws.proofs.Allocated as laws
use Rattle.laws.proofs.EightFiles.{file-same, file-time}
use Rattle.memory.specs.Memories.{Memories, memories}
use Rattle.memory.specs.Stands.{Stands, buffers_at}
use Rattle.memory.specs.Fine.{StandsFor}
use Rattle.midst.specs.Outcome.{Outcome, Stays}
use Rattle.midst.proofs.StaysFine.{answered-fine}

-- what is built stays built

pub record Built' (o : Out) : Type 0 where
  pub file : Built
  pub is : o.file ≡ built file

any-walks : Walks Any (λ n. Any)
any-walks = record {
  mild = λ p f b m i. tt;
  finishes = λ p st q a r b e h k i. tt;
  cancels = λ p a b e h i. tt;
  read_waits = λ p n q a b e h u v i. tt;
  write_waits = λ p n q a b e h u v i. tt;
  frees = λ p a b e h i. tt;
  fetches = λ p typed keep b i. tt;
  writes = λ p a d b e h u v i. tt;
  serves = λ p a q b e h u i. tt;
  enters = λ s b i. tt;
  joins = λ access n s b h u i. tt;
  leaves = λ p a b e h u i. tt;
  parts = λ p a b e h u i. tt;
  endings = λ n p st q a r b e h k i. tt;
  closes = λ n b i. tt;
}

pub stays-built : (b : Built) (q : Ask) → Proper q → Built' (ask_built b q)
stays-built b q k = walked Any Any (λ n. Any) any-walks (any Any) Built' (λ r c _ _. unfold leaves in record { file = hushed c; is = refl }) b q k tt tt

unfoldable pub is-built : File → Bool
is-built unbuilt = false
is-built (built b) = true

-- a call of file f

module _ (d : Desk) (s : Alloc) (c : Call) (f : ℕ) (q : Ask) (is : asked c ≡ on f q) (hf : f < files) where
  pub respond-is : respond d c ≡ record { reply = (ask (file_of d f) q).reply; desk = with_file d f (ask (file_of d f) q).file }
  unfolding respond answered
  respond-is = rw (is, lt-ltb f files hf, answered) refl

  alloc-is : alloc_asked d (asked c) s ≡ allot_all f (ask (file_of d f) q).haps s
  unfolding alloc_asked
  alloc-is = rw (is, alloc_asked, happens-here f d q hf) refl

-- time builds nothing and leaves what is built

stays-unbuilt : (e : ℕ) (x : File) → file_time e x ≡ unbuilt → x ≡ unbuilt
unfolding file_time
stays-unbuilt e unbuilt h = refl
stays-unbuilt e (built b) h = absurd (true≢false (unfold is-built in ap is-built h))

-- whatever the rules' desk and allocation are
module _ {m : Memories} {d : Desk} {s : Alloc} (S : StandsFor m d s) (c : Call) where
  pub stands-for : (m' : Memories) → Stands m' (respond d c).desk (alloc_asked d (asked c) s)
      → StandsFor m' (respond d c).desk (alloc_asked d (asked c) s)
  unfolding respond
  stands-for m' T = record {
    stands = T;
    fine = answered-fine d (asked c) S.agreed.eight (asked-proper c) S.fine;
    agreed = laws.answers d s (asked c) (asked-proper c) S.agreed;
  }

  module _ (f : ℕ) (q : Ask) (is : asked c ≡ on f q) (hf : f < files) where
    pub outcome-stays : {ms' : Memories} → Built' (ask (file_of d f) q) → Outcome f d s (ask (file_of d f) q) m ms'
        → Stays d s c m ms'
    unfolding is-built
    outcome-stays {ms'} B O =
        let e : (respond d c).desk ≡ with_file d f (ask (file_of d f) q).file = ap (λ (r : Responded). r.desk) (respond-is d s c f q is hf) in
        record {
          stands = stands-for ms' (rw (e, alloc-is d s c f q is hf) O.stands);
          rest = λ g h u. apart g h (sym (ap (λ (z : Desk). file_of z g) e) ∙ u) (ℕ_discrete g f);
        }
      where
        apart : (g : ℕ) → g < files → file_of (with_file d f (ask (file_of d f) q).file) g ≡ unbuilt → Dec (g ≡ f)
            → (share_at g ms'.blocks ≡ share_at g m.blocks) × (buffers_at g ms'.buffers ≡ buffers_at g m.buffers)
        apart g h u (yes k) = absurd (true≢false (ap is-built (sym B.is ∙ sym (file-same d f (ask (file_of d f) q).file S.agreed.eight hf) ∙ ap (file_of (with_file d f (ask (file_of d f) q).file)) (sym k) ∙ u)))
        apart g h u (no k) = (O.apart.shares g h k, O.apart.others g h k)

  -- time
  pub time-stays : (e : ℕ) → asked c ≡ time e → (xs' buffers' : List ℕ) → Stands (memories xs' m.blocks buffers') (desk_time e d) (alloc_time e s)
      → ((g : ℕ) → g < files → file_of d g ≡ unbuilt → buffers_at g buffers' ≡ buffers_at g m.buffers) → Stays d s c m (memories xs' m.blocks buffers')
  unfolding is-built
  time-stays e is xs' buffers' T h =
      let desk-is : (respond d c).desk ≡ desk_time e d = unfold respond answered in rw (is, answered) refl in
      let alloc-is : alloc_asked d (asked c) s ≡ alloc_time e s = unfold alloc_asked in rw (is, alloc_asked) refl in
      record {
        stands = stands-for (memories xs' m.blocks buffers') (rw (desk-is, alloc-is) T);
        rest = λ g k u. (refl, h g k (stays-unbuilt e (file_of d g) (sym (file-time e d g) ∙ sym (ap (λ (z : Desk). file_of z g) desk-is) ∙ u)));
      }

  -- nothing happens
  pub still-stays : (respond d c).desk ≡ d → alloc_asked d (asked c) s ≡ s → Stays d s c m m
  still-stays e u = record { stands = stands-for m (rw (e, u) S.stands); rest = λ g k _. (refl, refl) }
