-- What each operation on lists does to the segment's bytes. A slot is the number of a word that holds an entry's number or nil: a head, or an
-- entry's link. A word below `entries` is an entry's number; any other ends the list, so no memory can lead a walk out of the segment.
use Rattle.std.specs.Prelude.{ℕ, zero, suc, ◌≡◌, ◌<◌, Bool, cond, List, ltb, eqb, get_or, replicate}
use Rattle.rules.specs.Limits.{entries}
use Rattle.segment.specs.Layout.{link_at, free_list, data_words}
use Rattle.segment.specs.declared.Entry.{Entry}
use Rattle.segment.specs.Table.{nth, put_nth, data_of, put_data}
use Rattle.segment.specs.Fields.{entry_at}

-- the slot at the end of the list that starts at slot p, after at most n links
unfoldable pub end_slot : List ℕ → ℕ → ℕ → ℕ
end_slot s p zero = p
end_slot s p (suc n) = cond (ltb (nth s p) entries) (end_slot s (link_at (nth s p)) n) p

-- the first slot whose entry's data pass the test, or the list's end, after at most n links
unfoldable pub seek : (List ℕ → Bool) → List ℕ → ℕ → ℕ → ℕ
seek t s p zero = p
seek t s p (suc n) = cond (ltb (nth s p) entries) (cond (t (data_of s (nth s p))) p (seek t s (link_at (nth s p)) n)) p

-- whether word i of the data is v; `over`: whether it is above v
abbrev pub has : ℕ → ℕ → List ℕ → Bool
has i v m = eqb (get_or m i 0) v

abbrev pub over : ℕ → ℕ → List ℕ → Bool
over i v m = ltb v (get_or m i 0)

-- what `answers` says of each entry, the test says of its data
abbrev pub IsTestOf : (Entry → Bool → Type 0) → List ℕ → (List ℕ → Bool) → Type 0
IsTestOf answers s t = (e : ℕ) (b : Bool) → e < entries → answers (entry_at s e) b → b ≡ t (data_of s e)

-- puts entry e in at slot p; `unlink` takes out what slot p holds
unfoldable pub insert : List ℕ → ℕ → ℕ → List ℕ
insert s p e = put_nth (put_nth s (link_at e) (nth s p)) p e

unfoldable pub unlink : List ℕ → ℕ → List ℕ
unlink s p = cond (ltb (nth s p) entries) (put_nth s p (nth s (link_at (nth s p)))) s

-- puts entry e in at the end of list l
unfoldable pub append : List ℕ → ℕ → ℕ → List ℕ
append s l e = insert s (end_slot s l entries) e

-- takes the first free entry and fills it with m
unfoldable pub taken : List ℕ → List ℕ → List ℕ
taken s m = cond (ltb (nth s free_list) entries) (put_data (unlink s free_list) (nth s free_list) m) s

-- frees entry e, which is "zeroed but for the link" and goes "to the front of the free list"
unfoldable pub released : List ℕ → ℕ → List ℕ
released s e = insert (put_data s e (replicate data_words 0)) free_list e
