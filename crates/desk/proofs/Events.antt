-- Each event that no desk refuses: it may be done, and its outcome is the rules' answer.
use Prim.Native.Nat.{ℕ, ◌<◌}
use mathlib.Core.Path.{◌≡◌, refl, ap}
use mathlib.Core.List.{List, []}
use mathlib.Core.Option.{some}
use native.Mathlib.Omega.{arith}
use lib.ListN.{drop}
use Rattle.kinds.specs.declared.Answer.{Answer}
use Rattle.kinds.specs.declared.Answer.TheVariants.{Passed}
use Rattle.kinds.specs.declared.Control as kinds
use Rattle.kinds.specs.declared.Event.TheVariants.{Build, Open, Read, Write, Control, Collect, Close, Time, Counts}
use Rattle.kinds.specs.declared.Frame.{Frame}
use Rattle.kinds.specs.declared.Frame.TheVariants.{Event}
use Rattle.rules.specs.Limits.{files, write_head}
use Rattle.rules.specs.State.{Built, unbuilt, built}
use Rattle.rules.specs.Reply.{answering}
use Rattle.rules.specs.Frames.{frame_of}
use Rattle.rules.specs.Calls.{ask}
use Rattle.rules.specs.Calls as calls
use Rattle.rules.specs.FileCounts as counting
use Rattle.rules.specs.Desk.{Desk, event, asked, frame_asks, time, file_of, desk_time, answered, respond}
use Rattle.rules.specs.Allocation.{Alloc, alloc_time}
use Rattle.memory.specs.Memories.{Memories, memories}
use Rattle.memory.specs.Stands.{Stands, buffers_at}
use Rattle.memory.specs.Fine.{StandsFor}
use Rattle.midst.specs.Outcome.{refusal_of, Done, Gave}
use Rattle.midst.specs.Outcome as outcome
use Rattle.midst.proofs.Accepted.{accepted-counts}
use Rattle.midst.proofs.StandsBehind.{time-stays}
use Rattle.midst.specs.FileStands.{FileStands}
use Rattle.midst.proofs.FileStands.{accepted-stands}
use Rattle.desk.specs.Acted.{Acted}
use Rattle.desk.proofs.Writes.{write-long}
use Rattle.desk.proofs.Accepts.{accepts, acted, acted-data}
use Rattle.desk.proofs.Known.{built-build, built-open, built-read, built-write, built-control, built-collect, built-close, built-counts, counts-done}

module _ (fr : List ℕ) {ms : Memories} (never : (d : Desk) (s : Alloc) → StandsFor ms d s → refusal_of (respond d (event fr)).reply ≡ 0) where
  module _ (f r b n x : ℕ) (said : frame_of fr ≡ Event (Build f r b n x)) where
    pub ok-build : outcome.Accepted f (calls.build r b n x) ms
    unfolding frame_asks
    ok-build = accepts fr (Build f r b n x) (calls.build r b n x) f said refl never

    pub act-build : (d : Desk) (s : Alloc) (S : StandsFor ms d s) (memory : List ℕ) (m' : Memories) (a : Answer)
        → Done f d s (ask (file_of d f) (calls.build r b n x)) ms m' a → Acted d s (event fr) ms memory m' memory a 0
    unfolding frame_asks
    act-build d s S memory m' a D = acted fr (Build f r b n x) (calls.build r b n x) f said refl never d s S memory m' a (built-build d f r b n x (ok-build d s S)) D

  module _ (f v g m : ℕ) (said : frame_of fr ≡ Event (Open f v g m)) where
    pub ok-open : outcome.Accepted f (calls.opens v g m) ms
    unfolding frame_asks
    ok-open = accepts fr (Open f v g m) (calls.opens v g m) f said refl never

    pub act-open : (d : Desk) (s : Alloc) (S : StandsFor ms d s) (memory : List ℕ) (ms' : Memories) (a : Answer)
        → Done f d s (ask (file_of d f) (calls.opens v g m)) ms ms' a → Acted d s (event fr) ms memory ms' memory a 0
    unfolding frame_asks
    act-open d s S memory ms' a D = acted fr (Open f v g m) (calls.opens v g m) f said refl never d s S memory ms' a (built-open d f v g m (ok-open d s S)) D

  module _ (f p n : ℕ) (said : frame_of fr ≡ Event (Read f p n)) where
    pub ok_read : outcome.Accepted f (calls.read p n) ms
    unfolding frame_asks
    ok_read = accepts fr (Read f p n) (calls.read p n) f said refl never

    pub act-read : (d : Desk) (s : Alloc) (S : StandsFor ms d s) (memory : List ℕ) (m' : Memories) (memory' : List ℕ) (a : Answer) (k : ℕ)
        → Gave f d s (ask (file_of d f) (calls.read p n)) ms memory m' memory' a k → Acted d s (event fr) ms memory m' memory' a k
    unfolding frame_asks
    act-read d s S memory m' memory' a k G =
        acted-data fr (Read f p n) (calls.read p n) f said refl never d s S memory m' memory' a k (built-read d f p n (ok_read d s S)) G

  module _ (f p n : ℕ) (said : frame_of fr ≡ Event (Write f p n)) where
    pub ok-write : outcome.Accepted f (calls.write p n (drop write_head fr)) ms
    unfolding frame_asks
    ok-write = accepts fr (Write f p n) (calls.write p n (drop write_head fr)) f said refl never

    pub act-write : (d : Desk) (s : Alloc) (S : StandsFor ms d s) (memory : List ℕ) (m' : Memories) (a : Answer)
        → Done f d s (ask (file_of d f) (calls.write p n (drop write_head fr))) ms m' a → Acted d s (event fr) ms memory m' memory a 0
    unfolding frame_asks
    act-write d s S memory m' a D = acted fr (Write f p n) (calls.write p n (drop write_head fr)) f said refl never d s S memory m' a (built-write d f p n (drop write_head fr) (write-long fr f p n said).1 (ok-write d s S)) D

  module _ (f p : ℕ) (c : kinds.Control) (said : frame_of fr ≡ Event (Control f p c)) where
    pub ok-control : outcome.Accepted f (calls.control p (some c)) ms
    unfolding frame_asks
    ok-control = accepts fr (Control f p c) (calls.control p (some c)) f said refl never

    pub act-control : (d : Desk) (s : Alloc) (S : StandsFor ms d s) (memory : List ℕ) (m' : Memories) (a : Answer)
        → Done f d s (ask (file_of d f) (calls.control p (some c))) ms m' a → Acted d s (event fr) ms memory m' memory a 0
    unfolding frame_asks
    act-control d s S memory m' a D = acted fr (Control f p c) (calls.control p (some c)) f said refl never d s S memory m' a (built-control d f p (some c) (ok-control d s S)) D

  module _ (f p : ℕ) (said : frame_of fr ≡ Event (Collect f p)) where
    pub ok-collect : outcome.Accepted f (calls.collect p) ms
    unfolding frame_asks
    ok-collect = accepts fr (Collect f p) (calls.collect p) f said refl never

    pub act-collect : (d : Desk) (s : Alloc) (S : StandsFor ms d s) (memory : List ℕ) (m' : Memories) (memory' : List ℕ) (a : Answer) (k : ℕ)
        → Gave f d s (ask (file_of d f) (calls.collect p)) ms memory m' memory' a k → Acted d s (event fr) ms memory m' memory' a k
    unfolding frame_asks
    act-collect d s S memory m' memory' a k G =
        acted-data fr (Collect f p) (calls.collect p) f said refl never d s S memory m' memory' a k (built-collect d f p (ok-collect d s S)) G

  module _ (f p : ℕ) (said : frame_of fr ≡ Event (Close f p)) where
    pub ok-close : outcome.Accepted f (calls.close p) ms
    unfolding frame_asks
    ok-close = accepts fr (Close f p) (calls.close p) f said refl never

    pub act-close : (d : Desk) (s : Alloc) (S : StandsFor ms d s) (memory : List ℕ) (m' : Memories) (a : Answer)
        → Done f d s (ask (file_of d f) (calls.close p)) ms m' a → Acted d s (event fr) ms memory m' memory a 0
    unfolding frame_asks
    act-close d s S memory m' a D = acted fr (Close f p) (calls.close p) f said refl never d s S memory m' a (built-close d f p (ok-close d s S)) D

  module _ (f : ℕ) (said : frame_of fr ≡ Event (Counts f)) where
    pub ok-counts : outcome.Accepted f (calls.counts) ms
    unfolding frame_asks
    ok-counts = accepts fr (Counts f) (calls.counts) f said refl never

    pub act-counts : (d : Desk) (s : Alloc) (S : StandsFor ms d s) (memory : List ℕ) (m' : Memories) (a : Answer)
        → Done f d s (ask (file_of d f) (calls.counts)) ms m' a → Acted d s (event fr) ms memory m' memory a 0
    unfolding frame_asks
    act-counts d s S memory m' a D = acted fr (Counts f) (calls.counts) f said refl never d s S memory m' a (built-counts d f (ok-counts d s S)) D

    pub counts-stand : (d : Desk) (s : Alloc) → StandsFor ms d s → FileStands ms.segment ms.blocks f
    counts-stand d s S = accepted-stands f calls.counts S (accepted-counts d f (ok-counts d s S))

    pub counted : (r : Answer) → ((zs : List ℕ) (d : Desk) (s : Alloc) (b : Built) → StandsFor (memories ms.segment ms.blocks zs) d s → file_of d f ≡ built b → counting.counts b ≡ answering r b)
        → (d : Desk) (s : Alloc) (S : StandsFor ms d s) (memory : List ℕ) → Acted d s (event fr) ms memory ms memory r 0
    counted r h d s S memory =
        let k = accepted-counts d f (ok-counts d s S) in
        act-counts d s S memory ms r (counts-done S f r k.file k.b k.stands (h ms.buffers d s k.b S k.stands))

  -- time is never refused
  pub act-time : (e : ℕ) → frame_of fr ≡ Event (Time e) → (d : Desk) (s : Alloc) → StandsFor ms d s → (memory xs' buffers' : List ℕ)
      → Stands (memories xs' ms.blocks buffers') (desk_time e d) (alloc_time e s) → ((g : ℕ) → g < files → file_of d g ≡ unbuilt → buffers_at g buffers' ≡ buffers_at g ms.buffers)
      → Acted d s (event fr) ms memory (memories xs' ms.blocks buffers') memory Passed 0
  unfolding frame_asks asked respond answered
  act-time e said d s S memory xs' buffers' T h =
      let is : asked (event fr) ≡ time e = ap (λ (y : Frame). frame_asks y (drop write_head fr)) said in
      record {
        stays = time-stays S (event fr) e is xs' buffers' T h;
        bytes = [];
        reply = ap (λ a. (answered d a).reply) is;
        size = refl;
        most = omega arith;
        behind = refl;
      }
