-- A file that is saved, loaded and saved again: the same geometry and records, and the same sheet.
use Prim.Native.Nat.{ℕ, ◌≤◌}
use mathlib.Core.Path.{◌≡◌, refl, ap, ◌∙◌}
use mathlib.Core.List.{List, []}
use mathlib.Core.Option.{Option, none, some}
use native.Mathlib.Omega.{arith}
use lib.Dec.{leb}
use lib.ListN.{length}
use borrow.Author.Tests.{le-leb}
use Rattle.rules.specs.State.{Built, unbuilt, built}
use Rattle.rules.specs.Store.{empty_store}
use Rattle.rules.specs.Requests.{say}
use Rattle.rules.specs.Open.{new_file}
use Rattle.rules.specs.Reply.{shows, Out, hushed, leaves, unmade}
use Rattle.rules.specs.Sheet.{sheet, Sheet, read_sheet, loaded}
use Rattle.rules.specs.Sheet as sheets
use Rattle.rules.specs.Calls.{ask, ask_built, ask_unbuilt, load, save}
use Rattle.rules.proofs.Split.{pick_true}
use Rattle.shares.proofs.PutAll.{recs-put_all}
use Rattle.roundtrip.specs.Trip.{Written, sheet_of, Trip, sheet_room}
use Rattle.roundtrip.proofs.Sheets.{sheet-back}
use Rattle.roundtrip.proofs.Room.{length-sheet}

-- what save shows

save-shows : (b : Built) (n : ℕ) → length (sheet b.geo b.store.recs) ≤ n → (ask (built b) (save n)).reply ≡ shows 0 (sheet b.geo b.store.recs)
unfolding ask ask_built sheets.save leaves
save-shows b n h =
    let t = sheet b.geo b.store.recs in
    ap (λ (o : Out). o.reply) (pick_true (leb (length t) n) (leaves (shows 0 t) b) (leaves (shows 44 []) b) (le-leb (length t) n h))

pub saves : (b : Built) (n : ℕ) (t : List ℕ) → sheet b.geo b.store.recs ≡ t → length t ≤ n → (ask (built b) (save n)).reply ≡ shows 0 t
saves b n t e h = save-shows b n (rw e h) ∙ ap (shows 0) e

-- what load leaves: a file with the sheet's geometry and records

pub loads : (t : List ℕ) (s : Sheet) → read_sheet t ≡ some s → ask unbuilt (load t) ≡ leaves (shows 0 []) (loaded s)
unfolding ask ask_unbuilt sheets.load
loads t s e = ap (λ (x : Option Sheet). elim x as (λ (y : Option Sheet). Out) [ none ↦ unmade (shows 43 []) | some s ↦ leaves (shows 0 []) (loaded s) ]) e

pub loaded-geo : (s : Sheet) → (loaded s).geo ≡ s.geo
unfolding loaded say new_file
loaded-geo s = refl

pub loaded-recs : (s : Sheet) → (loaded s).store.recs ≡ s.recs
unfolding loaded say new_file empty_store
loaded-recs s = recs-put_all s.geo s.recs empty_store

pub trip : (b : Built) (n : ℕ) → Written (sheet_of b) → length (sheet b.geo b.store.recs) ≤ n → Trip b n
unfolding leaves hushed
trip b n h l =
    let s = sheet_of b in
    let t = sheet b.geo b.store.recs in
    let e : ask unbuilt (load t) ≡ leaves (shows 0 []) (loaded s) = loads t s (sheet-back b.geo b.store.recs h) in
    record {
      text = t;
      saves = saves b n t refl l;
      loads = ap (λ (o : Out). o.reply) e;
      back = hushed (loaded s);
      leaves = ap (λ (o : Out). o.file) e;
      geo = loaded-geo s;
      recs = loaded-recs s;
      again = saves (hushed (loaded s)) n t (rw (loaded-geo s, loaded-recs s)) l;
    }

-- with room for every sheet
pub room-trip : (b : Built) (n : ℕ) → Written (sheet_of b) → sheet_room ≤ n → Trip b n
room-trip b n h l = trip b n h (omega (arith, length-sheet b.geo b.store.recs h.good))
