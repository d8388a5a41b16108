-- The file and the accessor that a call names: as the segment shows them, and as the rules have them.
use Rattle.std.specs.Prelude.{ℕ, ◌+◌, ◌*◌, true, false, cond, List, ltb, leb, eqb, Result, Ok, Err}
use Rattle.std.proofs.Math.Option.{Option, none, some}
use Rattle.rules.specs.Limits.{files, places}
use Rattle.rules.specs.State.{Acc, File, unbuilt, built}
use Rattle.rules.specs.Requests.{acc_at}
use Rattle.rules.specs.Desk.{Desk, file_of}
use Rattle.segment.specs.Fields.{file_at, place_at}
use Rattle.accessors.specs.declared.Accessor.{Accessor}
use Rattle.kinds.specs.declared.Outstanding.{Outstanding}
use Rattle.kinds.specs.declared.refusals.Refusal.{Refusal}
use Rattle.kinds.specs.declared.refusals.Refusal.TheVariants as refusal
use Rattle.accessors.specs.Sides.{side_of}
use Rattle.accessors.specs.Outstanding.{outstanding_at, outstanding_of}

-- the R of file f; 0 if f is above 7
unfoldable pub words_at : List ℕ → ℕ → ℕ
words_at s f = cond (leb files f) 0 (file_at s f).words

-- an open accessor, as a call names it
abbrev pub Open : ℕ → ℕ → Outstanding → Result Accessor Refusal
Open words side request = Ok (record { words = words; side = side; request = request })

unfoldable pub accessor_at : List ℕ → ℕ → ℕ → Result Accessor Refusal
accessor_at s f p =
    cond (eqb (words_at s f) 0) (Err refusal.File)
    (cond (leb places p) (Err refusal.Accessor)
    (cond (eqb (place_at s (places * f + p)).side 0) (Err refusal.Accessor)
    (Open (words_at s f) (place_at s (places * f + p)).side (outstanding_at s f p (place_at s (places * f + p)).side))))

-- the accessor at a place of a built file; refused if it is not open
unfoldable pub accessor_in : ℕ → Option Acc → Result Accessor Refusal
accessor_in words none = Err refusal.Accessor
accessor_in words (some a) = Open words (side_of (some a)) (outstanding_of a.req)

-- the accessor p of a file; refused if the file is not built
unfoldable pub accessor_on : File → ℕ → Result Accessor Refusal
accessor_on unbuilt p = Err refusal.File
accessor_on (built b) p = accessor_in b.geo.words (acc_at b p)

-- the accessor that f and p name on a desk; refused if f is above 7
unfoldable pub accessor_of : Desk → ℕ → ℕ → Result Accessor Refusal
accessor_of d f p = elim (ltb f files) [ true ↦ accessor_on (file_of d f) p | false ↦ Err refusal.File ]
