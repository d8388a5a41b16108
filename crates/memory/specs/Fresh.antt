-- The bytes of the memories of a fresh desk.
use Rattle.std.specs.Prelude.{ℕ, zero, suc, ◌-◌, ◌*◌, ◌/◌, ◌%◌, cond, List, [], ◌++◌, ltb, eqb}
use Rattle.words.specs.Word.{word, zeros}
use Rattle.segment.specs.Layout.{read_queues, list_count, nil, entry_width, file_rows, segment_words}
use Rattle.rules.specs.Limits.{files, places, entries, share_bytes, buffer_bytes}
use Rattle.memory.specs.Memories.{Memories, memories}

-- the bytes of the n words w 0, w 1, ..
unfoldable pub table : ℕ → (ℕ → ℕ) → List ℕ
table zero w = []
table (suc n) w = word (w 0) ++ table n (λ k. w (suc k))

-- the link of entry e: the next entry, or nil for the last
unfoldable pub fresh_link : ℕ → ℕ
fresh_link e = cond (ltb (suc e) entries) (suc e) nil

-- word k of a fresh segment: "the free list in order of entry number", the other lists empty, all else zero
unfoldable pub fresh_word : ℕ → ℕ
fresh_word k =
    cond (ltb k read_queues) 0
    (cond (ltb k list_count) nil
    (cond (ltb k file_rows) (cond (eqb ((k - list_count) % entry_width) 0) (fresh_link ((k - list_count) / entry_width)) 0)
    0))

unfoldable pub fresh_segment : List ℕ
fresh_segment = table segment_words fresh_word

unfoldable pub fresh_blocks : List ℕ
fresh_blocks = zeros (share_bytes * files)

unfoldable pub fresh_buffers : List ℕ
fresh_buffers = zeros (places * buffer_bytes * files)

abbrev pub fresh_memories : Memories
fresh_memories = memories fresh_segment fresh_blocks fresh_buffers
