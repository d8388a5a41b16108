-- The round trip by calls on desks.
use Prim.Native.Nat.{ℕ, ◌<◌, ◌≤◌}
use mathlib.Core.Path.{◌≡◌, ap, ◌∙◌}
use mathlib.Core.List.{[]}
use lib.Dec.{ltb}
use borrow.Author.Tests.{lt-ltb}
use Rattle.rules.specs.Limits.{files}
use Rattle.rules.specs.State.{File, Built, unbuilt, built}
use Rattle.rules.specs.Reply.{Reply, shows}
use Rattle.rules.specs.Calls.{Ask, ask}
use Rattle.rules.specs.Calls as calls
use Rattle.rules.specs.Desk.{Desk, on, file_of, with_file, Responded, answered, asked, respond}
use Rattle.rules.specs.Allocation.{Alloc}
use Rattle.laws.specs.EightFiles.{EightFiles}
use Rattle.laws.proofs.EightFiles.{file-same}
use Rattle.rules.proofs.Split.{pick_true}
use Rattle.memory.specs.Memories.{Memories}
use Rattle.memory.specs.Fine.{StandsFor}
use Rattle.roundtrip.specs.Trip.{Trip, DeskTrip, sheet_room}
use Rattle.roundtrip.proofs.Stands.{stands-trip}

-- what is asked of a file that is there
module _ (d : Desk) (f : ℕ) (l : f < files) (x : File) (e : file_of d f ≡ x) where
  on-file : (q : Ask) → answered d (on f q) ≡ record { reply = (ask x q).reply; desk = with_file d f (ask x q).file }
  unfolding answered
  on-file q = pick_true (ltb f files) _ _ (lt-ltb f files l) ∙ ap (λ (y : File). record { reply = (ask y q).reply; desk = with_file d f (ask y q).file }) e

  pub on-reply : (q : Ask) (r : Reply) → (ask x q).reply ≡ r → (answered d (on f q)).reply ≡ r
  on-reply q r h = ap (λ (a : Responded). a.reply) (on-file q) ∙ h

  on-left : (q : Ask) (y : File) → EightFiles d → (ask x q).file ≡ y → file_of (answered d (on f q)).desk f ≡ y
  on-left q y n h = ap (λ (a : Responded). file_of a.desk f) (on-file q) ∙ (file-same d f (ask x q).file n l ∙ h)

pub desks : (d : Desk) (f : ℕ) (b : Built) (c : Desk) (g n : ℕ) → f < files → file_of d f ≡ built b → EightFiles c → g < files → file_of c g ≡ unbuilt → Trip b n → DeskTrip d f b c g n
unfolding respond asked
desks d f b c g n lf ef m lg eg t =
    let e = on-left c g lg unbuilt eg (calls.load t.text) (built t.back) m t.leaves in
    record {
      text = t.text;
      saves = on-reply d f lf (built b) ef (calls.save n) (shows 0 t.text) t.saves;
      loads = on-reply c g lg unbuilt eg (calls.load t.text) (shows 0 []) t.loads;
      back = t.back;
      leaves = e;
      geo = t.geo;
      recs = t.recs;
      again = on-reply _ g lg (built t.back) e (calls.save n) (shows 0 t.text) t.again;
    }

-- from a desk that memories stand for
pub stands-desks : (ms : Memories) (d : Desk) (s : Alloc) (f : ℕ) (b : Built) → StandsFor ms d s → f < files → file_of d f ≡ built b
    → (c : Desk) (g n : ℕ) → EightFiles c → g < files → file_of c g ≡ unbuilt → sheet_room ≤ n
    → DeskTrip d f b c g n
stands-desks ms d s f b h lf ef c g n m lg eg r = desks d f b c g n lf ef m lg eg (stands-trip ms d s f b h lf ef n r)
