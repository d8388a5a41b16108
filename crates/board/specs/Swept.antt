-- Whether the bytes that no call reads are zero, as the memories show it. For memories that stand for a desk that is `swept` of the desk and the memories
-- (`swept_is` in proofs/Swept.antt).
use Rattle.std.specs.Prelude.{ℕ, zero, suc, ◌+◌, ◌-◌, ◌*◌, Bool, true, cond, ◌&&◌, List, eqb}
use Rattle.words.specs.Word.{quiet}
use Rattle.rules.specs.Limits.{files, places, buffer_bytes}
use Rattle.rules.specs.State.{Geo, unbuilt}
use Rattle.rules.specs.Memories.{share_at}
use Rattle.shares.specs.Tails.{tails_zero}
use Rattle.segment.specs.Fields.{file_at, place_at}
use Rattle.ring.specs.Ring.{geo, Fitted}
use Rattle.memory.specs.Memories.{Memories}
use Rattle.memory.specs.Stands.{buffers_at}
use Rattle.memory.specs.Swept.{file_swept}
use Rattle.accessors.specs.Accessors.{words_at}
use Rattle.midst.specs.declared.File.{File}
use Rattle.midst.specs.File.{file_of_row}
use Rattle.notices.specs.declared.Request.{Request}
use Rattle.notices.specs.declared.Request.TheVariants.{Idle, Reads, Writes, HasRead, HasWritten}
use Rattle.board.specs.Found.{request_at}

-- whether each of the first n numbers passes a test
unfoldable pub every : (ℕ → Bool) → ℕ → Bool
every t zero = true
every t (suc n) = every t n && t n

-- how many bytes of a request lie in its accessor's buffer
unfoldable pub size_of : Request → ℕ
size_of Idle = 0
size_of (Reads n left first) = 0
size_of (Writes n left first) = n
size_of (HasRead st n) = n
size_of (HasWritten st) = 0

-- how many bytes lie in the buffer of place p of file f, whose accessor is on that side: none if no accessor is open there
unfoldable pub size_on : List ℕ → ℕ → ℕ → ℕ → ℕ
size_on s f p side = cond (eqb side 0) 0 (size_of (request_at s f p side))

abbrev pub size_at : List ℕ → ℕ → ℕ → ℕ
size_at s f p = size_on s f p (place_at s (places * f + p)).side

-- whether the buffer of place p, one of a file's eight, is zero after its first n bytes
unfoldable pub rest_zero : List ℕ → ℕ → ℕ → Bool
rest_zero xs p n = quiet xs (buffer_bytes * p + n) (buffer_bytes - n)

-- whether each of the eight buffers of file f is zero after what lies there
unfoldable pub rests_at : List ℕ → List ℕ → ℕ → Bool
rests_at s xs f = every (λ p. rest_zero xs p (size_at s f p)) places

-- file f as its row has it, and its geometry
abbrev pub row_file : List ℕ → ℕ → File
row_file s f = file_of_row (file_at s f)

abbrev pub geo_at : List ℕ → ℕ → Geo
geo_at s f = geo (row_file s f).words (row_file s f).ring

abbrev pub FittedAt : List ℕ → ℕ → Type 0
FittedAt s f = Fitted (row_file s f).words (row_file s f).ring

-- whether the share and the buffers of file f are zero where no call reads them: `built_zero` if it is built, `parts_zero` in either case

unfoldable pub built_zero : List ℕ → ℕ → List ℕ → List ℕ → Bool
built_zero s f share buffers = tails_zero (geo_at s f) share && rests_at s buffers f

unfoldable pub parts_zero : List ℕ → ℕ → List ℕ → List ℕ → Bool
parts_zero s f share buffers = cond (eqb (words_at s f) 0) (file_swept unbuilt share buffers) (built_zero s f share buffers)

unfoldable pub file_zero : Memories → ℕ → Bool
file_zero m f = parts_zero m.segment f (share_at f m.blocks) (buffers_at f m.buffers)

unfoldable pub files_zero : Memories → Bool
files_zero m = every (file_zero m) files
