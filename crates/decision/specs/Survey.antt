-- What the walks of the lists find out, put plainly: the lists, what their entries hold, and that a place has at most one request and one timer.
use Rattle.std.specs.Prelude.{ℕ, ◌+◌, ◌*◌, ◌/◌, ◌≤◌, ◌<◌, ◌≡◌, true, cond, List, [], ◌∷◌, map, ltb, eqb, length, get_or}
use Rattle.occurrences.specs.Count.{bit, count, total}
use Rattle.rules.specs.Limits.{files, places, entries, buffer_bytes}
use Rattle.laws.specs.Bounds.{least_refusal}
use Rattle.segment.specs.Layout.{list_count, data_at, free_list, read_queue, write_queue, reply_port, timer_list}
use Rattle.ports.specs.Lists.{Chain}
use Rattle.sound.specs.Rows.{file_word, side_at, zero_words}
use Rattle.sound.specs.Walks.{entry_word, place_in, size_in, free_entry}

-- P holds of each element
unfoldable pub Each : (ℕ → Type 0) → List ℕ → Type 0
Each P [] = Unit {0}
Each P (x ∷ l) = P x × Each P l

pub record ReadEntry (s : List ℕ) (f e : ℕ) : Type 0 where
  pub place : place_in s e < files * places
  pub file : place_in s e / places ≡ f
  pub side : side_at s (place_in s e) ≡ 1
  pub unit : entry_word s e 1 ≤ 1
  pub limit : entry_word s e 2 ≤ buffer_bytes
  pub keep : entry_word s e 3 ≤ 1
  pub rest : zero_words s (data_at e + 4) 5 ≡ true

pub record WriteEntry (s : List ℕ) (f e : ℕ) : Type 0 where
  pub place : place_in s e < files * places
  pub file : place_in s e / places ≡ f
  pub side : side_at s (place_in s e) ≡ 2
  pub unit : entry_word s e 1 ≤ 1
  pub middle : zero_words s (data_at e + 2) 4 ≡ true
  pub size : size_in s e ≤ 2 * file_word s f 0
  pub rest : zero_words s (data_at e + 7) 2 ≡ true

pub record PortEntry (s : List ℕ) (i e : ℕ) : Type 0 where
  pub place : place_in s e ≡ i
  pub side : 1 ≤ side_at s i
  pub middle : zero_words s (data_at e + 1) 3 ≡ true
  pub status : entry_word s e 4 < least_refusal
  pub size : size_in s e ≤ cond (eqb (side_at s i) 1) buffer_bytes 0
  pub rest : zero_words s (data_at e + 7) 2 ≡ true

pub record TimerEntry (s : List ℕ) (e : ℕ) : Type 0 where
  pub place : place_in s e < files * places
  pub middle : zero_words s (data_at e + 1) 6 ≡ true
  pub rest : entry_word s e 8 ≡ 0

-- the seconds of the timers are in order, smallest first, the first at least lo
unfoldable pub InOrder : List ℕ → ℕ → List ℕ → Type 0
InOrder s lo [] = Unit {0}
InOrder s lo (e ∷ l) = (lo ≤ entry_word s e 7) × InOrder s (entry_word s e 7) l

-- how many entries of a list belong to place i
unfoldable pub named : List ℕ → ℕ → List ℕ → ℕ
named s i l = count i (map (place_in s) l)

-- how many requests of place i wait in its file's queues; `completed_at`: how many are completed
unfoldable pub waiting_at : List ℕ → List (List ℕ) → ℕ → ℕ
waiting_at s ls i = named s i (get_or ls (read_queue (i / places)) []) + named s i (get_or ls (write_queue (i / places)) [])

unfoldable pub completed_at : List (List ℕ) → ℕ → ℕ
completed_at ls i = length (get_or ls (reply_port i) [])

unfoldable pub timers_at : List ℕ → List (List ℕ) → ℕ → ℕ
timers_at s ls i = named s i (get_or ls timer_list [])

pub record Survey (s : List ℕ) (ls : List (List ℕ)) : Type 0 where
  pub heads : length ls ≡ list_count
  pub chains : (l : ℕ) → l < list_count → Chain s l (get_or ls l [])
  pub once : (x : ℕ) → total x ls ≡ bit (ltb x entries)
  pub free : Each (λ e. free_entry s e ≡ true) (get_or ls free_list [])
  pub reads : (f : ℕ) → f < files → Each (ReadEntry s f) (get_or ls (read_queue f) [])
  pub writes : (f : ℕ) → f < files → Each (WriteEntry s f) (get_or ls (write_queue f) [])
  pub ports : (i : ℕ) → i < files * places → Each (PortEntry s i) (get_or ls (reply_port i) [])
  pub timers : Each (TimerEntry s) (get_or ls timer_list [])
  pub order : InOrder s 1 (get_or ls timer_list [])
  -- a place has at most one request, and at most one timer, only if its request waits
  pub single : (i : ℕ) → i < files * places → waiting_at s ls i + completed_at ls i ≤ 1
  pub timed : (i : ℕ) → i < files * places → timers_at s ls i ≤ waiting_at s ls i
