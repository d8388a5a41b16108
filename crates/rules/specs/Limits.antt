-- Every limit of document 01, by name. The limits used in judging a call are kept apart from the memory sizes, which they have to fit:
-- proofs/Fits.antt says so.
use Rattle.std.specs.Prelude.{ℕ, ◌+◌, ◌*◌}

-- "Eight files, 0 to 7, each with eight accessor places, 0 to 7."
abbrev pub files : ℕ
files = 8

abbrev pub places : ℕ
places = 8

-- "128 entries of ten 16-bit words"
abbrev pub entries : ℕ
entries = 128

-- Limits used in judging calls.

-- "Record size R words 1..128, blocking factor B 1..16, records N 1..2,000, extents X 1..32."
abbrev pub most_words : ℕ
most_words = 128

abbrev pub most_factor : ℕ
most_factor = 16

abbrev pub most_records : ℕ
most_records = 2000

abbrev pub most_extents : ℕ
most_extents = 32

-- "D × block size above 2,048 words"
abbrev pub most_share : ℕ
most_share = 2048

-- what a read hands out under control 46: "type and ID words before the data"
abbrev pub header_words : ℕ
header_words = 2

-- "Read counts run from −260 to 130"
abbrev pub most_read_words : ℕ
most_read_words = header_words + most_words

abbrev pub most_read_bytes : ℕ
most_read_bytes = 2 * most_read_words

-- a line of the event program: "Upper-case digits, at most 261 bytes", which are "04 file acc count(2)" and then the longest record that is written
abbrev pub write_head : ℕ
write_head = 5

abbrev pub line_bytes : ℕ
line_bytes = write_head + 2 * most_words

-- the most bytes of a sheet's line: "Lines are hexadecimal as above"
abbrev pub sheet_line_bytes : ℕ
sheet_line_bytes = write_head + 2 * most_words

-- "access, share and multiaccess: 0 to 3"
abbrev pub most_mode : ℕ
most_mode = 3

-- what a sheet needs: "C ≥ 3" and "types 0 to 2"
abbrev pub least_capacity : ℕ
least_capacity = 3

abbrev pub most_type : ℕ
most_type = 2

-- Memory sizes.

-- the longest record that the memories have room for
abbrev pub room_words : ℕ
room_words = 128

-- "eight shares of 4,096 bytes"
abbrev pub share_words : ℕ
share_words = 2048

abbrev pub share_bytes : ℕ
share_bytes = 2 * share_words

-- "64 record buffers of 260 bytes": the two words that control 46 hands out first, and the longest record
abbrev pub buffer_bytes : ℕ
buffer_bytes = 2 * (header_words + room_words)

-- "264 bytes for its answer": "03 00 log(2)", and then what a buffer holds
abbrev pub answer_head : ℕ
answer_head = 4

abbrev pub answer_room : ℕ
answer_room = answer_head + buffer_bytes

-- the memory into which a look's record is copied
abbrev pub record_room : ℕ
record_room = buffer_bytes
