-- The lines of the records held, from cursor to cursor: how long they are, and where they stand in the output.
use Prim.Native.Nat.{ℕ, ◌+◌, ◌-◌, ◌*◌, ◌≤◌, ◌<◌}
use mathlib.Core.Path.{◌≡◌, refl, sym, ap, ◌∙◌}
use mathlib.Core.List.{List, [], ◌++◌}
use native.Mathlib.Omega.{arith}
use lib.ListN.{length, drop, length-append, length-take}
use lib.Seq.{sets, length-sets}
use Rattle.words.specs.Word.{word_at}
use Rattle.words.proofs.Runs.{sets-at}
use Rattle.rules.specs.Limits.{share_bytes}
use Rattle.rules.specs.Line.{line_of}
use Rattle.rules.specs.Sheet.{head_frame, rec_frame, rec_lines, sheet}
use Rattle.shares.specs.Back.{rec_at}
use Rattle.hexadecimal.proofs.Trip.{length-line}
use Rattle.ring.specs.declared.Ring.{Ring}
use Rattle.ring.specs.Ring.{geo, advanced}
use Rattle.ring.specs.Held.{Held}
use Rattle.ring.proofs.Laws.{advanced-held}
use Rattle.ring.proofs.Held.{held-recs}
use Rattle.records.specs.declared.cursor.Cursor.{Cursor}
use Rattle.records.specs.Reading.{Readable}
use Rattle.records.specs.Cursor.{held_recs, AtRecord}
use Rattle.records.proofs.cursor.Laws.{recs-none, stands-long, stands-readable, stands-recs}
use Rattle.saving.specs.Sheets.{sheet_of}

-- a frame is no longer than the share
frame-length : (xs : List ℕ) (p : ℕ) → Readable xs p → length (rec_frame (rec_at xs p)) ≤ length xs
unfolding rec_frame rec_at
frame-length xs p h = omega (arith, h.low, h.inside, length-take (word_at xs p - 4) (drop (p + 6) xs))

-- the first line: a frame of eight bytes, two digits each, and LF
abbrev head_line : ℕ
head_line = 2 * 8 + 1

head-line : (w : ℕ) (r : Ring) → length (line_of (head_frame (geo w r) r.held)) ≡ head_line
unfolding head_frame
head-line w r = length-line (head_frame (geo w r) r.held)

-- the lines of the records that a ring holds
abbrev lines : ℕ → List ℕ → Ring → List ℕ
lines w xs r = rec_lines (held_recs w r xs)

-- with the cursor so far `total` bytes of the ring's sheet are counted
pub record Measured (w : ℕ) (xs : List ℕ) (r : Ring) (c : Cursor) (total : ℕ) : Type 0 where
  pub stands : AtRecord w xs c
  pub few : c.ring.held ≤ r.held
  pub low : total ≤ head_line + (2 * share_bytes + 1) * (r.held - c.ring.held)
  pub same : total + length (lines w xs c.ring) ≡ length (sheet_of w r xs)

-- the midst of writing: the output, which was out₀, has the lines up to the cursor and takes the rest from `used` onward
pub record Written (w : ℕ) (xs : List ℕ) (r : Ring) (from : ℕ) (out₀ : List ℕ) (c : Cursor) (used : ℕ) (out : List ℕ) : Type 0 where
  pub stands : AtRecord w xs c
  pub room : used + length (lines w xs c.ring) ≤ length out
  pub long : length out ≡ length out₀
  pub same : sets out used (lines w xs c.ring) ≡ sets out₀ from (lines w xs r)

module _ (w : ℕ) (r : Ring) (xs : List ℕ) (H : Held w r xs) where
  held-length : length (held_recs w r xs) ≡ r.held
  held-length = ap length (sym (held-recs w r xs H)) ∙ ap (λ (t : Ring). t.held) H.ring

  sheet-lines : sheet_of w r xs ≡ line_of (head_frame (geo w r) r.held) ++ rec_lines (held_recs w r xs)
  unfolding sheet
  sheet-lines = ap (λ (n : ℕ). line_of (head_frame (geo w r) n) ++ rec_lines (held_recs w r xs)) held-length

  sheet-length : length (sheet_of w r xs) ≡ head_line + length (rec_lines (held_recs w r xs))
  sheet-length = ap length sheet-lines ∙ omega (arith, length-append (line_of (head_frame (geo w r) r.held)) (rec_lines (held_recs w r xs)), head-line w r)

  -- The sheet: its first line, its frame h being as the code has it, then the records.

  module _ (h : List ℕ) (e : h ≡ head_frame (geo w r) r.held) (out : List ℕ) (room : length (sheet_of w r xs) ≤ length out) where
    first-long : length (line_of h) ≡ head_line
    first-long = ap (λ (x : List ℕ). length (line_of x)) e ∙ head-line w r

    pub first-room : 0 + (2 * length h + 1) ≤ length out
    first-room = omega (arith, room, length-line h, first-long, sheet-length)

    module _ (used : ℕ) (out' : List ℕ) (u : used ≡ 0 + (2 * length h + 1)) (f : out' ≡ sets out 0 (line_of h)) where
      pub rest-room : used + length (rec_lines (held_recs w r xs)) ≤ length out'
      rest-room = rw f (rw (length-sets out 0 (line_of h)) (omega (arith, room, u, length-line h, first-long, sheet-length)))

      pub sheet-written : (out'' : List ℕ) → out'' ≡ sets out' used (rec_lines (held_recs w r xs)) → out'' ≡ sets out 0 (sheet_of w r xs)
      sheet-written out'' k =
          k ∙ ap (λ (x : List ℕ). sets x used (rec_lines (held_recs w r xs))) f
          ∙ sets-at (line_of h) (rec_lines (held_recs w r xs)) out 0 used (omega (arith, u, length-line h))
          ∙ ap (λ (x : List ℕ). sets out 0 (line_of x ++ rec_lines (held_recs w r xs))) e
          ∙ ap (sets out 0) (sym sheet-lines)

-- Where the walk begins and ends.

lines_none : (w : ℕ) (xs : List ℕ) (r : Ring) → r.held ≤ 0 → lines w xs r ≡ []
unfolding rec_lines
lines_none w xs r l = ap rec_lines (recs-none w r xs l)

module _ (w : ℕ) (xs : List ℕ) (c : Cursor) (S : AtRecord w xs c) where
  pub measured-start : Measured w xs c.ring c head_line
  measured-start = record { stands = S; few = omega arith; low = omega arith; same = sym (sheet-length w c.ring xs S.held) }

  pub written_start : (from : ℕ) (out : List ℕ) → from + length (lines w xs c.ring) ≤ length out → Written w xs c.ring from out c from out
  written_start from out h = record { stands = S; room = h; long = refl; same = refl }

pub measured-end : (w : ℕ) (xs : List ℕ) (r : Ring) (c : Cursor) (total : ℕ) → Measured w xs r c total → c.ring.held ≤ 0 → total ≡ length (sheet_of w r xs)
measured-end w xs r c total k l = omega (arith, k.same, ap length (lines_none w xs c.ring l))

pub written-end : (w : ℕ) (xs : List ℕ) (r : Ring) (from : ℕ) (out₀ : List ℕ) (c : Cursor) (used : ℕ) (out : List ℕ) → Written w xs r from out₀ c used out → c.ring.held ≤ 0
    → out ≡ sets out₀ from (lines w xs r)
written-end w xs r from out₀ c used out k l = sym (ap (sets out used) (lines_none w xs c.ring l)) ∙ k.same

-- A turn: the line of the record under the cursor, its frame f as it was lent.

module _ (w : ℕ) (xs : List ℕ) (c : Cursor) (S : AtRecord w xs c) (l : 0 < c.ring.held) (f : List ℕ) (e : f ≡ rec_frame (rec_at xs c.at)) where
  lines-on : lines w xs c.ring ≡ line_of f ++ lines w xs (advanced c.ring)
  unfolding rec_lines
  lines-on = ap rec_lines (stands-recs w xs c S l) ∙ ap (λ (x : List ℕ). line_of x ++ lines w xs (advanced c.ring)) (sym e)

  turn-length : length (lines w xs c.ring) ≡ 2 * length f + 1 + length (lines w xs (advanced c.ring))
  turn-length = ap length lines-on ∙ omega (arith, length-append (line_of f) (lines w xs (advanced c.ring)), length-line f)

  pub turn_low : length f ≤ share_bytes
  turn_low = rw e (omega (arith, frame-length xs c.at (stands-readable w xs c S l), stands-long w xs c S))

  pub turn-room : (r : Ring) (from : ℕ) (out₀ : List ℕ) (used : ℕ) (out : List ℕ) → Written w xs r from out₀ c used out → used + (2 * length f + 1) ≤ length out
  turn-room r from out₀ used out k = omega (arith, k.room, turn-length)

  module _ (d : Cursor) (a : d.ring ≡ advanced c.ring) (T : AtRecord w xs d) where
    rest : lines w xs d.ring ≡ lines w xs (advanced c.ring)
    rest = ap (lines w xs) a

    less : d.ring.held ≡ c.ring.held - 1
    less = ap (λ (t : Ring). t.held) a ∙ advanced-held c.ring l

    pub measured-on : (r : Ring) (total : ℕ) → Measured w xs r c total → Measured w xs r d (total + (2 * length f + 1))
    measured-on r total k = record {
      stands = T;
      few = omega (arith, k.few, less);
      low = omega (arith, k.low, k.few, l, less, turn_low);
      same = omega (arith, k.same, turn-length, ap length rest);
    }

    pub written_on : (r : Ring) (from : ℕ) (out₀ : List ℕ) (used : ℕ) (out out' : List ℕ) (used' : ℕ) → Written w xs r from out₀ c used out
        → used' ≡ used + (2 * length f + 1) → out' ≡ sets out used (line_of f) → Written w xs r from out₀ d used' out'
    written_on r from out₀ used out out' used' k u v =
        let n : length out' ≡ length out = rw v (length-sets out used (line_of f)) in
        let s : sets out' used' (lines w xs d.ring) ≡ sets out used (lines w xs c.ring) =
        ap (λ (x : List ℕ). sets x used' (lines w xs d.ring)) v
        ∙ sets-at (line_of f) (lines w xs d.ring) out used used' (omega (arith, length-line f, u))
        ∙ ap (λ (x : List ℕ). sets out used (line_of f ++ x)) rest
        ∙ ap (sets out used) (sym lines-on) in
        record { stands = T; room = omega (arith, n, k.room, u, turn-length, ap length rest); long = n ∙ k.long; same = s ∙ k.same }
