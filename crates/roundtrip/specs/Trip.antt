-- A saved sheet loads back to the same geometry and records, and saving that gives the same sheet (condition 2): what this says of a file.
use Rattle.std.specs.Prelude.{◌≡◌, List, [], ℕ, ◌*◌, ◌<◌}
use Rattle.rules.specs.Limits.{share_bytes}
use Rattle.rules.specs.State.{Rec, Built, unbuilt, built}
use Rattle.rules.specs.Reply.{shows}
use Rattle.rules.specs.Sheet.{Sheet}
use Rattle.rules.specs.Calls.{ask, load, save}
use Rattle.rules.specs.Desk.{Desk, file_of, respond}
use Rattle.rules.specs.Desk as calls
use Rattle.shares.specs.Groups.{All}
use Rattle.words.specs.Word.{Bytes}
use Rattle.laws.specs.Changes.{GoodSheet}

-- a record whose ID is a word and whose data are bytes
pub record Plain (r : Rec) : Type 0 where
  pub ident : r.wid < 65536
  pub bytes : Bytes r.body

-- a sheet that can be written down
pub record Written (s : Sheet) : Type 0 where
  pub good : GoodSheet s
  pub plain : All Plain s.recs

-- the sheet that is saved of a file
abbrev pub sheet_of : Built → Sheet
sheet_of b = record { geo = b.geo; recs = b.store.recs }

-- the file b is saved to n bytes of output, the text is loaded, and what it leaves is saved again
pub record Trip (b : Built) (n : ℕ) : Type 0 where
  pub text : List ℕ
  pub saves : (ask (built b) (save n)).reply ≡ shows 0 text
  pub loads : (ask unbuilt (load text)).reply ≡ shows 0 []
  pub back : Built
  pub leaves : (ask unbuilt (load text)).file ≡ built back
  pub geo : back.geo ≡ b.geo
  pub recs : back.store.recs ≡ b.store.recs
  pub again : (ask (built back) (save n)).reply ≡ shows 0 text

-- the round trip of calls on desks: file f of desk d is saved, the text is loaded into file g of desk c, and that is saved
pub record DeskTrip (d : Desk) (f : ℕ) (b : Built) (c : Desk) (g n : ℕ) : Type 0 where
  pub text : List ℕ
  pub saves : (respond d (calls.save f n)).reply ≡ shows 0 text
  pub loads : (respond c (calls.load g text)).reply ≡ shows 0 []
  pub back : Built
  pub leaves : file_of (respond c (calls.load g text)).desk g ≡ built back
  pub geo : back.geo ≡ b.geo
  pub recs : back.store.recs ≡ b.store.recs
  pub again : (respond (respond c (calls.load g text)).desk (calls.save g n)).reply ≡ shows 0 text

-- output that is long enough for every sheet: two digits for each byte of the share
abbrev pub sheet_room : ℕ
sheet_room = 2 * share_bytes
