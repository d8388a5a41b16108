-- The request at a place of file f is another now: what that is beside the segment, for the file, its row, its share and its record buffers.
use Prim.Native.Nat.{ℕ, ◌*◌, ◌≤◌, ◌<◌}
use mathlib.Core.Path.{◌≡◌, refl, sym, ap, ap₂, ◌∙◌}
use mathlib.Core.Bool.{Bool}
use mathlib.Core.List.{List, []}
use mathlib.Core.Option.{some}
use lib.ListN.{length}
use lib.Seq.{sets, length-sets}
use Rattle.words.specs.Word.{zeros}
use Rattle.segment.specs.Layout.{file_row}
use Rattle.rules.specs.Limits.{files, places, buffer_bytes}
use Rattle.rules.specs.State.{Req, idle, Acc, Built, built}
use Rattle.rules.specs.Requests.{acc_at, with_accs, with_queues, with_timers, alter_acc, say, requeue, leave, finish, cancel, wait, freed, with_buffers, request}
use Rattle.rules.specs.Buffers.{lies, filled, refilled}
use Rattle.rules.specs.Desk.{Desk, file_of, with_file}
use Rattle.rules.specs.Allocation.{Alloc, place_of, allot_all}
use Rattle.laws.specs.Queues.{Agree}
use Rattle.laws.specs.Bounds.{Bounds}
use Rattle.laws.specs.Midst as laws
use Rattle.laws.proofs.Accessors.{wait-keeps}
use Rattle.laws.proofs.Happenings.{open-below}
use Rattle.ring.specs.Ring.{ring_of}
use Rattle.memory.specs.Memories.{Memories, memories}
use Rattle.memory.proofs.Frames.{buffers_at-refilled, buffers_at-apart}
use Rattle.memory.specs.Fine.{Fine, StandsFor}
use Rattle.midst.specs.declared.File as hand
use Rattle.midst.specs.Seg.{Seg}
use Rattle.midst.specs.Mid.{Start, Mid, start}
use Rattle.midst.proofs.Lists.{Low}
use Rattle.midst.proofs.Lows.{agreed-low}
use Rattle.midst.proofs.Begins.{fine-agree}

-- what I says of a file in the midst of a call
pub record Knows (I : Built → Type 0) : Type 0 where
  pub agree : (b : Built) → I b → Agree b
  pub bounds : (b : Built) → I b → Bounds b

pub fine-knows : Knows Fine
fine-knows = record { agree = λ b h. h.queues; bounds = λ b h. h.bounds }

-- the members of the queues of every other file of the desk that the call began with are places
abbrev pub Rest : ℕ → Start → Type 0
Rest f o = (g : ℕ) → g < files → (g ≡ f → ⊥) → Low (file_of o.desk g)

pub stands-rest : {m : Memories} {d : Desk} {s : Alloc} → StandsFor m d s → (f : ℕ)
    → Rest f (start d s m)
stands-rest {d = d} {s = s} S f g h n = agreed-low d s S.agreed (λ g k. fine-agree (file_of d g) (S.fine g k)) g h

-- c is b with its request at p now q, except for queues, timers and what has happened
pub record Asks (p : ℕ) (q : Req) (b c : Built) : Type 0 where
  pub geo : c.geo ≡ b.geo
  pub store : c.store ≡ b.store
  pub buffers : c.buffers ≡ refilled p q b.buffers

pub asks-wait : (side : Bool) (p n : ℕ) (q : Req) (b : Built) → Asks p q b (wait side p n q b)
asks-wait side p n q b = wait-keeps (Asks p q b) side p n q b (λ r w ts hs. record { geo = refl; store = refl; buffers = refl })

pub asks-finish : (p st : ℕ) (q : Req) (b : Built) → Asks p q b (finish p st q b)
unfolding finish leave say with_timers requeue request with_buffers alter_acc with_accs with_queues
asks-finish p st q b = record { geo = refl; store = refl; buffers = refl }

pub asks-cancel : (p : ℕ) (b : Built) → Asks p idle b (cancel p b)
unfolding cancel leave say with_timers requeue request with_buffers alter_acc with_accs with_queues
asks-cancel p b = record { geo = refl; store = refl; buffers = refl }

pub asks-freed : (p : ℕ) (b : Built) → Asks p idle b (freed p b)
unfolding freed say request with_buffers alter_acc with_accs
asks-freed p b = record { geo = refl; store = refl; buffers = refl }

-- the record buffer of place p of file f, whose request is q now, is filled anew
abbrev pub Laid : ℕ → ℕ → Req → List ℕ → List ℕ → Type 0
Laid f p q ys ys' = ys' ≡ sets ys (buffer_bytes * place_of f p) (filled (lies q))

-- where nothing lies, it is cleared
pub clear : (f p : ℕ) (q : Req) (ys : List ℕ) {ys' : List ℕ} → lies q ≡ [] → ys' ≡ sets ys (buffer_bytes * place_of f p) (zeros buffer_bytes) → Laid f p q ys ys'
unfolding filled
clear f p q ys e h = h ∙ ap (λ v. sets ys (buffer_bytes * place_of f p) (filled v)) (sym e)

-- an accessor stands at one of the eight places
pub mid-below : {I : Built → Type 0} {f : ℕ} {o : Start} {m : Memories} {x : hand.File} {b : Built} → Mid I f o m x b
    → (p : ℕ) (a : Acc) → acc_at b p ≡ some a → p < places
unfolding acc_at
mid-below {b = b} M p a e = open-below b.accs p a M.allots.matches.agrees.eight e

module _ {I : Built → Type 0} {f : ℕ} {o : Start} {m : Memories} {x : hand.File} {b : Built} (K : Knows I) (M : Mid I f o m x b)
    (p : ℕ) (a : Acc) (e : acc_at b p ≡ some a) where
  module _ {J : Built → Type 0} (q : Req) (c : Built) (A : Asks p q b c) (fits : length (lies q) ≤ buffer_bytes) (good : J c) (allots : laws.Mid f o.alloc c) where
    pub mid-req : (xs' buffers' : List ℕ) → Seg xs' (with_file o.desk f (built c)) (allot_all f c.past o.alloc) (file_row f) → Laid f p q m.buffers buffers'
        → Mid J f o (memories xs' m.blocks buffers') x c
    mid-req xs' buffers' S L = record {
      file = M.file;
      eight = M.eight;
      good = good;
      allots = allots;
      segment = S;
      row = M.row ∙ ap₂ {C = hand.File} (λ g s. record { words = g.words; ring = ring_of g s }) (sym A.geo) (sym A.store);
      share = M.share ∙ ap (λ s. s.share) (sym A.store);
      buffer = rw L (buffers_at-refilled f p q m.buffers (mid-below M p a e) fits ∙ ap (refilled p q) M.buffer ∙ sym A.buffers);
      blocks-size = M.blocks-size;
      buffers-size = rw L (length-sets m.buffers (buffer_bytes * place_of f p) (filled (lies q)) ∙ M.buffers-size);
      apart = record {
        shares = M.apart.shares;
        others = λ g h n. rw L (buffers_at-apart f p q m.buffers (mid-below M p a e) fits g n ∙ M.apart.others g h n);
      };
    }
