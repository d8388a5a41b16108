-- One call on memories that a desk holds: what the host is given is what the rules say, and the memories are those of the rules' desk and allocation.
use Prim.Native.Nat.{ℕ, ◌*◌}
use mathlib.Core.Path.{◌≡◌, sym, ap, subst, ◌∙◌}
use mathlib.Core.Bool.{Bool, true, false, cond}
use mathlib.Core.List.{List, []}
use mathlib.Core.Option.{Option, none, some}
use lib.Dec.{eqb}
use lib.ListN.{length}
use borrow.Author.Tests.{eq-eqb}
use Rattle.rules.specs.Limits.{files, places, share_bytes, buffer_bytes, answer_room, record_room}
use Rattle.rules.specs.Reply.{shows}
use Rattle.rules.specs.Desk.{Desk, Call, asked, respond, fresh_desk}
use Rattle.rules.specs.Desk as rules
use Rattle.rules.specs.Allocation.{Alloc, alloc_asked, fresh_alloc}
use Rattle.rules.proofs.Split.{true-and}
use Rattle.segment.specs.Layout.{segment_bytes}
use Rattle.midst.specs.Outcome.{reply_status, Stays}
use Rattle.promises.specs.Promise.{HostCall, fresh, event, look, save, load, Given, status, Standing, stands, with_room, reply_of, said, Behind, sized, Promise}
use Rattle.runs.specs.Run.{Meant, anew, unfit, asks, lending, meant, gives, Holds}
use Rattle.runs.proofs.Holds.{holds-fresh}
use Rattle.promises.proofs.Unbuilt.{unbuilt-before}
use Rattle.memory.specs.Memories.{Memories}
use Rattle.memory.specs.Fresh.{fresh_memories}

-- the outcome of a call, by what it means
unfoldable pub Comes : Meant → Desk → Alloc → HostCall → Given → Memories → Type 0
Comes anew d s x g n = (g ≡ gives x (shows 0 [])) × Holds n fresh_desk fresh_alloc
Comes unfit d s x g n = (g ≡ gives x (shows 29 [])) × Holds n d s
Comes (asks c) d s x g n = (g ≡ gives x (respond d c).reply) × Holds n (respond d c).desk (alloc_asked d (asked c) s)

-- fresh, lent memories of the right lengths
pub fresh-first : (m n : Memories) (g : Given) → sized m ≡ true → Promise m fresh g n → (g ≡ status 0) × Holds n fresh_desk fresh_alloc
unfolding Promise
fresh-first m n g h (e, k) =
    (e ∙ ap (λ (t : Bool). status (cond t 0 29)) h, subst (λ (x : Memories). Holds x fresh_desk fresh_alloc) (sym (k ∙ ap (λ (t : Bool). cond t fresh_memories m) h)) holds-fresh)

module _ (m n : Memories) (d : Desk) (s : Alloc) (H : Holds m d s) where
  abbrev seen : Option Standing
  seen = some (record { desk = d; alloc = s })

  -- what stays of memories that a desk holds is held
  held : (c : Call) → Stays d s c m n → Holds n (respond d c).desk (alloc_asked d (asked c) s)
  held c T = record {
    stands = T.stands;
    blank = λ f h u.
        let v = H.blank f h (unbuilt-before d c f h H.stands.agreed.eight u) in
        ((T.rest f h u).0 ∙ v.0, (T.rest f h u).1 ∙ v.1);
  }

  -- the outcome of a call of the rules
  asked-comes : (c : Call) (x : HostCall) (g : Given) → (g ≡ gives x (reply_of seen c)) × Behind seen c m n → Comes (asks c) d s x g n
  unfolding Comes reply_of Behind
  asked-comes c x g (e, B) = (e, held c B)

  -- the outcome of a call that is lent memory of n bytes
  room-comes : (size : ℕ) (memory : List ℕ) (c : Call) (x : HostCall) (g : Given) → (g ≡ gives x (reply_of (with_room size memory seen) c)) × Behind (with_room size memory seen) c m n
      → Comes (lending size memory c) d s x g n
  unfolding with_room lending
  room-comes size memory c x g = go (eqb (length memory) size)
    where
      go : (t : Bool) → (g ≡ gives x (reply_of (elim t as (λ (b : Bool). Option Standing) [ true ↦ seen | false ↦ none ]) c))
          × Behind (elim t as (λ (b : Bool). Option Standing) [ true ↦ seen | false ↦ none ]) c m n
          → Comes (elim t as (λ (b : Bool). Meant) [ true ↦ asks c | false ↦ unfit ]) d s x g n
      go true p = asked-comes c x g p
      go false (e, B) = unfold Comes reply_of Behind in (e, subst (λ (k : Memories). Holds k d s) (sym B) H)

  pub size-true : sized m ≡ true
  unfolding sized
  size-true =
      let S = H.stands.stands in
      true-and _ _ (eq-eqb (length m.segment) segment_bytes S.segment.size)
      (true-and _ _ (eq-eqb (length m.blocks) (share_bytes * files) S.bodies.blocks-size) (eq-eqb (length m.buffers) (places * buffer_bytes * files) S.bodies.buffers-size))

  pub step-comes : (x : HostCall) (g : Given) → Promise m x g n → Comes (meant x) d s x g n
  unfolding Promise meant gives Comes said reply_status
  step-comes fresh g P = fresh-first m n g size-true P
  step-comes (event memory frame) g P = room-comes answer_room memory (rules.event frame) (event memory frame) g (P seen (stands d s H.stands))
  step-comes (look f p memory) g P = room-comes record_room memory (rules.look f p) (look f p memory) g (P seen (stands d s H.stands))
  step-comes (save f output) g P = asked-comes (rules.save f (length output)) (save f output) g (P seen (stands d s H.stands))
  step-comes (load f text) g P = asked-comes (rules.load f text) (load f text) g (P seen (stands d s H.stands))
