-- Where each word of the segment lies, counted in words and computed from the counts and the widths of its parts: list heads, entries, a row for
-- each file and for each accessor place. The limits of document 01 come from the rules; the widths are set here, and src/layout.rt has the same names.
use Rattle.std.specs.Prelude.{ℕ, ◌+◌, ◌-◌, ◌*◌, cond, ltb}
use Rattle.rules.specs.Limits.{files, places, entries}

-- the lists: free; a read queue and a write queue for each file; a reply port for each place of the desk; the timer list
abbrev pub desk_places : ℕ
desk_places = files * places

abbrev pub free_list : ℕ
free_list = 0

abbrev pub read_queues : ℕ
read_queues = free_list + 1

abbrev pub write_queues : ℕ
write_queues = read_queues + files

abbrev pub reply_ports : ℕ
reply_ports = write_queues + files

abbrev pub timer_list : ℕ
timer_list = reply_ports + desk_places

abbrev pub list_count : ℕ
list_count = timer_list + 1

abbrev pub read_queue : ℕ → ℕ
read_queue f = read_queues + f

abbrev pub write_queue : ℕ → ℕ
write_queue f = write_queues + f

abbrev pub reply_port : ℕ → ℕ
reply_port i = reply_ports + i

-- the word that ends a list; any word that is not an entry's number ends a walk
abbrev pub nil : ℕ
nil = 65535

-- "entries of ten 16-bit words": an entry's link, and its data after it
abbrev pub data_words : ℕ
data_words = 9

abbrev pub entry_width : ℕ
entry_width = 1 + data_words

abbrev pub link_at : ℕ → ℕ
link_at e = list_count + entry_width * e

abbrev pub data_at : ℕ → ℕ
data_at e = list_count + 1 + entry_width * e

-- the rows: those of the files, then those of the places, each kind with a width of its own. Heads and links lie before them
abbrev pub file_width : ℕ
file_width = 8

abbrev pub place_fields : ℕ
place_fields = 8

-- the number of spare words after a place's fields: they must be zero, and only fresh writes them
abbrev pub place_spare : ℕ
place_spare = 0

abbrev pub place_width : ℕ
place_width = place_fields + place_spare

abbrev pub file_rows : ℕ
file_rows = list_count + entry_width * entries

abbrev pub place_rows : ℕ
place_rows = file_rows + file_width * files

abbrev pub segment_words : ℕ
segment_words = place_rows + place_width * desk_places

abbrev pub segment_bytes : ℕ
segment_bytes = 2 * segment_words

abbrev pub file_row_at : ℕ → ℕ
file_row_at f = file_rows + file_width * f

abbrev pub place_row_at : ℕ → ℕ
place_row_at i = place_rows + place_width * i

-- all rows under one numbering: `row_at` is where row i begins, `row_width` how wide it is
abbrev pub row_count : ℕ
row_count = files + desk_places

abbrev pub file_row : ℕ → ℕ
file_row f = f

abbrev pub place_row : ℕ → ℕ
place_row i = files + i

unfoldable pub row_at : ℕ → ℕ
row_at i = cond (ltb i files) (file_row_at i) (place_row_at (i - files))

unfoldable pub row_width : ℕ → ℕ
row_width i = cond (ltb i files) file_width place_width
