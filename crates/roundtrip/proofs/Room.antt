-- How long a sheet may be: 8,192 bytes of output are enough for every good one.
use Prim.Native.Nat.{ℕ, ◌+◌, ◌*◌, ◌≤◌}
use mathlib.Core.Path.{◌≡◌, ap, ◌∙◌}
use mathlib.Core.List.{List, [], ◌∷◌}
use native.Mathlib.Omega.{arith}
use native.Mathlib.Nat.{suc-mul, mul_comm, mul-add, mul_left_comm, mul-le-mul_right}
use lib.ListN.{length, length-append}
use Rattle.rules.specs.Limits.{share_words}
use Rattle.rules.specs.Geometry.{capacity, block_size}
use Rattle.rules.specs.State.{Rec, Geo}
use Rattle.rules.specs.Line.{line_of}
use Rattle.rules.specs.Sheet.{head_frame, rec_frame, rec_lines, sheet}
use Rattle.shares.specs.Groups.{All}
use Rattle.hexadecimal.proofs.Trip.{length-line}
use Rattle.laws.specs.Changes.{GoodGeo, GoodRecs, GoodSheet}
use Rattle.laws.proofs.Room.{good-sized}
use Rattle.roundtrip.specs.Trip.{sheet_room}
use Rattle.roundtrip.proofs.Frames.{length-head, length-rec}

-- D × block size, by the capacity
pub share-words : (g : Geo) → GoodGeo g → capacity g.factor g.blocks * (g.words + 3) + 2 * g.blocks ≤ share_words
unfolding capacity block_size
share-words g k =
    let r = g.words + 3 in
    let b = g.factor in
    let d = g.blocks in
    let e : d * (r * b) ≡ b * d * r = mul_left_comm d r b ∙ (mul_comm r (d * b) ∙ ap (λ (x : ℕ). x * r) (mul_comm d b)) in
    omega (arith, k.share, mul-add d (r * b) 2)

length-rec_lines : (words : ℕ) (rs : List Rec) → GoodRecs words rs → length (rec_lines rs) ≤ length rs * (9 + 4 * words)
unfolding rec_lines GoodRecs All
length-rec_lines words [] k = omega arith
length-rec_lines words (r ∷ rs) k =
    omega (arith, length-append (line_of (rec_frame r)) (rec_lines rs), length-line (rec_frame r), length-rec r, k.0.1, length-rec_lines words rs k.1, suc-mul (length rs) (9 + 4 * words))

pub length-sheet : (g : Geo) (rs : List Rec) → GoodSheet (record { geo = g; recs = rs }) → length (sheet g rs) ≤ sheet_room
unfolding sheet
length-sheet g rs k =
    let c = capacity g.factor g.blocks in
    let m : length rs * (9 + 4 * g.words) ≤ c * (9 + 4 * g.words) = mul-le-mul_right (9 + 4 * g.words) k.few in
    let p : c * (4 * g.words) ≡ 4 * (c * g.words) = mul_left_comm c 4 g.words in
    let o = good-sized g k.geo in
    omega (
      arith,
      length-append (line_of (head_frame g (length rs))) (rec_lines rs),
      length-line (head_frame g (length rs)),
      length-head g (length rs),
      length-rec_lines g.words rs k.recs,
      mul-add c 9 (4 * g.words),
      mul-add c g.words 3,
      share-words g k.geo,
      k.geo.room,
      o.blocks,
    )
