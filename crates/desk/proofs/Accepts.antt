-- What a frame asks of a file, and what is known of a call that no desk refuses.
use Prim.Native.Nat.{ℕ, ◌<◌}
use mathlib.Core.Path.{◌≡◌, refl, sym, ap, ◌∙◌}
use mathlib.Core.List.{List, []}
use native.Mathlib.Omega.{arith}
use lib.ListN.{drop}
use Rattle.kinds.specs.declared.Answer.{Answer}
use Rattle.kinds.specs.declared.Event.{Event}
use Rattle.kinds.specs.declared.Frame.{Frame}
use Rattle.kinds.specs.declared.Frame.TheVariants as frame
use Rattle.rules.specs.Limits.{files, write_head}
use Rattle.rules.specs.State.{Built, built}
use Rattle.rules.specs.Frames.{frame_of}
use Rattle.rules.specs.Calls.{Ask, ask}
use Rattle.rules.specs.Desk.{Desk, event, on, asked, frame_asks, file_of, Responded, answered, respond}
use Rattle.rules.specs.Allocation.{Alloc}
use Rattle.laws.specs.Runs.{Proper}
use Rattle.memory.specs.Memories.{Memories}
use Rattle.memory.specs.Fine.{StandsFor}
use Rattle.midst.specs.Outcome.{refusal_of, Done, Gave}
use Rattle.midst.specs.Outcome as outcome
use Rattle.midst.proofs.Accepted.{accepted-file}
use Rattle.midst.proofs.StandsBehind.{Built', stays-built, respond-is, outcome-stays}
use Rattle.desk.specs.Acted.{Acted}

module _ (fr : List ℕ) (e : Event) (q : Ask) (f : ℕ) (said : frame_of fr ≡ frame.Event e) (is : frame_asks (frame.Event e) (drop write_head fr) ≡ on f q) where
  pub asked_is : asked (event fr) ≡ on f q
  unfolding asked
  asked_is = ap (λ (z : Frame). frame_asks z (drop write_head fr)) said ∙ is

  answered-is : (d : Desk) → respond d (event fr) ≡ answered d (on f q)
  unfolding respond
  answered-is d = ap (answered d) asked_is

  module _ {m : Memories} (never : (d : Desk) (s : Alloc) → StandsFor m d s → refusal_of (respond d (event fr)).reply ≡ 0) where
    pub accepts : outcome.Accepted f q m
    accepts d s S = ap (λ (r : Responded). refusal_of r.reply) (sym (answered-is d)) ∙ never d s S

    module _ (d : Desk) (s : Alloc) (S : StandsFor m d s) where
      pub file-low : f < files
      file-low = accepted-file d f q (accepts d s S)

      reply-is : (respond d (event fr)).reply ≡ (ask (file_of d f) q).reply
      reply-is = ap (λ (r : Responded). r.reply) (respond-is d s (event fr) f q asked_is file-low)

      -- a call answered without data
      pub acted : (memory : List ℕ) (m' : Memories) (a : Answer) → Built' (ask (file_of d f) q) → Done f d s (ask (file_of d f) q) m m' a
          → Acted d s (event fr) m memory m' memory a 0
      acted memory m' a B D = record {
        stays = outcome-stays S (event fr) f q asked_is file-low B D.outcome;
        bytes = [];
        reply = reply-is ∙ D.reply;
        size = refl;
        most = omega arith;
        behind = refl;
      }

      -- answered with a record's data
      pub acted-data : (memory : List ℕ) (m' : Memories) (memory' : List ℕ) (a : Answer) (n : ℕ) → Built' (ask (file_of d f) q)
          → Gave f d s (ask (file_of d f) q) m memory m' memory' a n → Acted d s (event fr) m memory m' memory' a n
      acted-data memory m' memory' a n B G = record {
        stays = outcome-stays S (event fr) f q asked_is file-low B G.outcome;
        bytes = G.bytes;
        reply = reply-is ∙ G.reply;
        size = G.size;
        most = G.most;
        behind = G.behind;
      }

-- a file that is built stays so
pub built-stays : (d : Desk) (f : ℕ) (q : Ask) (b : Built) → Proper q → file_of d f ≡ built b → Built' (ask (file_of d f) q)
unfolding ask
built-stays d f q b k e = rw (e, ask) (stays-built b q k)
