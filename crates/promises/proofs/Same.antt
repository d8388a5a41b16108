-- The promises leave nothing open: two results that meet one are the same, in all that is given and in all memory.
use mathlib.Core.Path.{◌≡◌, sym, ◌∙◌}
use mathlib.Core.Option.{Option, none, some}
use Rattle.rules.specs.Reply.{Reply}
use Rattle.rules.specs.Desk.{Desk, Call, asked, file_of, respond}
use Rattle.rules.specs.Allocation.{Alloc, alloc_asked}
use Rattle.laws.specs.Queues.{Agree}
use Rattle.laws.proofs.Files.{on-file}
use Rattle.words.specs.Word.{Bytes}
use Rattle.memory.specs.Memories.{Memories}
use Rattle.memory.specs.Covers.{Alike}
use Rattle.memory.specs.Fine.{Fine, StandsFor}
use Rattle.memory.proofs.Once.{agreed-covers}
use Rattle.memory.proofs.Determined.{stands_same}
use Rattle.promises.specs.Promise.{HostCall, fresh, event, look, save, load, Given, Standing, Seen, answered, shown, said, Behind, Answers, Promise}
use Rattle.promises.proofs.Seen.{sees}

-- memories that stand for the same, and agree where no file is built
pub standing-same : (d : Desk) (s : Alloc) (m n : Memories) → StandsFor m d s → StandsFor n d s → Alike d m n → m ≡ n
standing-same d s m n S T A =
    stands_same d s m n (agreed-covers d s S.agreed (λ f h. on-file Fine Agree (λ c i. i.queues) (file_of d f) (S.fine f h))) S.stands T.stands A

pub behind-same : (v : Option Standing) (c : Call) (m x y : Memories) → Behind v c m x → Behind v c m y → x ≡ y
unfolding Behind
behind-same none c m x y e u = e ∙ sym u
behind-same (some v) c m x y S T =
    standing-same (respond v.desk c).desk (alloc_asked v.desk (asked c) v.alloc) x y S.stands T.stands
    (λ f h u. ((S.rest f h u).0 ∙ sym (T.rest f h u).0, (S.rest f h u).1 ∙ sym (T.rest f h u).1))

module _ (m : Memories) (bs : Bytes m.segment) (bb : Bytes m.blocks) (bf : Bytes m.buffers) where
  -- look's part and its status: whatever is said of it for all that the memories are seen as
  pub seen_same : {A : Type 0} (g : Option Standing → A) (r q : A) → ((v : Option Standing) → Seen m v → r ≡ g v)
      → ((v : Option Standing) → Seen m v → q ≡ g v) → r ≡ q
  seen_same g r q R Q = let (v, S) = sees bs bb bf in R v S ∙ sym (Q v S)

  answers-same : (lends : Option Standing → Option Standing) (c : Call) (gives : Reply → Given) (g h : Given) (x y : Memories)
      → Answers lends c gives m g x → Answers lends c gives m h y → (g ≡ h) × (x ≡ y)
  answers-same lends c gives g h x y A B =
      let (v, S) = sees bs bb bf in
      ((A v S).0 ∙ sym (B v S).0, behind-same (lends v) c m x y (A v S).1 (B v S).1)

  pub promise-same : (k : HostCall) (g h : Given) (x y : Memories) → Promise m k g x → Promise m k h y → (g ≡ h) × (x ≡ y)
  unfolding Promise
  promise-same fresh g h x y (a, b) (c, d) = (a ∙ sym c, b ∙ sym d)
  promise-same (event memory frame) g h x y A B = answers-same _ _ (answered memory) g h x y A B
  promise-same (look f p memory) g h x y A B = answers-same _ _ (shown memory) g h x y A B
  promise-same (save f output) g h x y A B = answers-same _ _ (shown output) g h x y A B
  promise-same (load f text) g h x y A B = answers-same _ _ said g h x y A B
