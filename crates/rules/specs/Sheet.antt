-- The saved sheet, and load and save.
use Rattle.std.specs.Prelude.{Bool, true, false, cond, ◌&&◌, List, [], ◌∷◌, ◌++◌, map, ℕ, ◌+◌, ◌*◌, leb, eqb, length, drop, get_or}
use Rattle.std.proofs.Math.Option.{Option, none, some}
use Rattle.words.specs.Word.{word, word_at}
use Rattle.rules.specs.Limits.{most_words, most_factor, sheet_line_bytes, least_capacity, most_type}
use Rattle.rules.specs.Geometry.{capacity, within, fits_share}
use Rattle.rules.specs.State.{Rec, Geo, puts, Built}
use Rattle.rules.specs.Store.{empty_store, put_all}
use Rattle.rules.specs.Line.{Lines, lines_of, bytes_of, is_line, line_of}
use Rattle.rules.specs.Requests.{say}
use Rattle.rules.specs.Open.{new_file, geo_of}
use Rattle.rules.specs.Reply.{shows, Out, leaves, unmade}

-- "First frame: 01, R(2), B, D(2), records held(2). Then one frame a record, oldest first: type(2), ID(2), data."
unfoldable pub head_frame : Geo → ℕ → List ℕ
head_frame g n = 1 ∷ word g.words ++ (g.factor ∷ word g.blocks) ++ word n

unfoldable pub rec_frame : Rec → List ℕ
rec_frame r = word r.typ ++ word r.wid ++ r.body

unfoldable pub rec_lines : List Rec → List ℕ
rec_lines [] = []
rec_lines (r ∷ l) = line_of (rec_frame r) ++ rec_lines l

unfoldable pub sheet : Geo → List Rec → List ℕ
sheet g l = line_of (head_frame g (length l)) ++ rec_lines l

unfoldable pub all_lines : List (List ℕ) → Bool
all_lines [] = true
all_lines (l ∷ ls) = is_line sheet_line_bytes l && all_lines ls

-- "R and B in range, C ≥ 3, D × block size ≤ 2,048, records ≤ C, as many frames as it says"
unfoldable pub good_head : List ℕ → ℕ → Bool
good_head h n =
    let r : ℕ = word_at h 1 in
    let b : ℕ = get_or h 3 0 in
    let d : ℕ = word_at h 4 in
    eqb (length h) 8 && eqb (get_or h 0 0) 1 && within 1 most_words r && within 1 most_factor b && leb least_capacity (capacity b d) && fits_share r b d
    && leb n (capacity b d)
    && eqb (word_at h 6) n

-- "types 0 to 2, IDs ≥ 1, data of at most 2R bytes, none in open and close records"
unfoldable pub good_rec : ℕ → List ℕ → Bool
good_rec r fr = leb 4 (length fr) && leb (word_at fr 0) most_type && leb 1 (word_at fr 2) && leb (length fr) (cond (eqb (word_at fr 0) 0) (4 + 2 * r) 4)

unfoldable pub good_recs : ℕ → List (List ℕ) → Bool
good_recs r [] = true
good_recs r (f ∷ fs) = good_rec r f && good_recs r fs

unfoldable pub rec_of : List ℕ → Rec
rec_of fr = record { typ = word_at fr 0; wid = word_at fr 2; body = drop 4 fr }

-- what a sheet says
pub record Sheet : Type 0 where
  pub geo : Geo
  pub recs : List Rec

unfoldable pub frames_sheet : List (List ℕ) → Option Sheet
frames_sheet [] = none
frames_sheet (h ∷ fs) =
    elim (good_head h (length fs) && good_recs (word_at h 1) fs) [
      | true ↦ some (record { geo = geo_of (word_at h 1) (get_or h 3 0) (word_at h 4); recs = map rec_of fs })
      | false ↦ none
    ]

-- "Lines are hexadecimal as above, each ended by LF."
unfoldable pub read_sheet : List ℕ → Option Sheet
read_sheet t =
    let l : Lines = lines_of t in
    elim (eqb (length l.rest) 0 && all_lines l.whole) [ true ↦ frames_sheet (map bytes_of l.whole) | false ↦ none ]

-- "Load packs the records from the share's first block, with no accessor."
unfoldable pub loaded : Sheet → Built
loaded s = say (map puts s.recs) (new_file s.geo (put_all s.geo s.recs empty_store))

-- load: refused 43 if the text is not a sheet
unfoldable pub load : List ℕ → Out
load t = elim (read_sheet t) [ none ↦ unmade (shows 43 []) | some s ↦ leaves (shows 0 []) (loaded s) ]

-- save, with n bytes of output: refused 44 if the output is too short
unfoldable pub save : ℕ → Built → Out
save n b =
    let t : List ℕ = sheet b.geo b.store.recs in
    elim (leb (length t) n) [ true ↦ leaves (shows 0 t) b | false ↦ leaves (shows 44 []) b ]
