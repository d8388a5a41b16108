-- The words of a fresh segment, one by one as the code gives them, and stored one after another.
use Prim.Native.Nat.{ℕ, zero, suc, ◌+◌, ◌-◌, ◌*◌, ◌/◌, ◌%◌, ◌≤◌, ◌<◌}
use mathlib.Core.Path.{◌≡◌, refl, sym, ap, ◌∙◌}
use mathlib.Core.List.{List, [], ◌++◌}
use native.Mathlib.Omega.{arith}
use native.Mathlib.Numerals.{add-one}
use lib.ListN.{length}
use lib.Seq.{sets}
use borrow.Author.Tests.{lt-ltb, le-ltb, eq-eqb, ne_eqb}
use Rattle.words.specs.Word.{word}
use Rattle.words.proofs.Runs.{sets-at}
use Rattle.words.proofs.Parts.{sets-whole}
use Rattle.segment.specs.Layout.{read_queues, list_count, nil, entry_width, file_rows, segment_words, segment_bytes}
use Rattle.segment.specs.Table.{put_nth}
use Rattle.rules.specs.Limits.{entries}
use Rattle.memory.specs.Fresh.{table, fresh_link, fresh_word, fresh_segment}

-- each exit of the tests

pub link-next : (e : ℕ) → e + 1 < entries → e + 1 ≡ fresh_link e
unfolding fresh_link
link-next e h = let k : suc e < entries = omega arith in rw (lt-ltb (suc e) entries k) (add-one e)

pub link-last : (e : ℕ) → entries ≤ e + 1 → nil ≡ fresh_link e
unfolding fresh_link
link-last e h = let k : entries ≤ suc e = omega arith in rw (le-ltb (suc e) entries k)

pub word-free : (k : ℕ) → k < read_queues → 0 ≡ fresh_word k
unfolding fresh_word
word-free k h = rw (lt-ltb k read_queues h)

pub word-list : (k : ℕ) → read_queues ≤ k → k < list_count → nil ≡ fresh_word k
unfolding fresh_word
word-list k l h = rw (le-ltb k read_queues l, lt-ltb k list_count h)

pub word-link : (k : ℕ) → read_queues ≤ k → list_count ≤ k → k < file_rows → (k - list_count) % entry_width ≡ 0 → fresh_link ((k - list_count) / entry_width) ≡ fresh_word k
unfolding fresh_word
word-link k l m h e = rw (le-ltb k read_queues l, le-ltb k list_count m, lt-ltb k file_rows h, eq-eqb ((k - list_count) % entry_width) 0 e)

pub word-data : (k : ℕ) → read_queues ≤ k → list_count ≤ k → k < file_rows → ((k - list_count) % entry_width ≡ 0 → ⊥) → 0 ≡ fresh_word k
unfolding fresh_word
word-data k l m h e = rw (le-ltb k read_queues l, le-ltb k list_count m, lt-ltb k file_rows h, ne_eqb ((k - list_count) % entry_width) 0 e)

pub word_row : (k : ℕ) → read_queues ≤ k → list_count ≤ k → file_rows ≤ k → 0 ≡ fresh_word k
unfolding fresh_word
word_row k l m h = rw (le-ltb k read_queues l, le-ltb k list_count m, le-ltb k file_rows h)

-- the bytes of the n words starting at word k
unfoldable pub from : ℕ → ℕ → List ℕ
from k zero = []
from k (suc n) = word (fresh_word k) ++ from (suc k) n

from-table : (n k : ℕ) (w : ℕ → ℕ) → ((j : ℕ) → w j ≡ fresh_word (k + j)) → table n w ≡ from k n
unfolding table from
from-table zero k w h = refl
from-table (suc n) k w h =
    let z : k + 0 ≡ k = omega arith in
    let e : w 0 ≡ fresh_word k = h 0 ∙ ap fresh_word z in
    rw (e, from-table n (suc k) (λ j. w (suc j)) (λ j. h (suc j) ∙ ap fresh_word (omega arith)))

from_all : fresh_segment ≡ from 0 segment_words
unfolding fresh_segment
from_all = from-table segment_words 0 fresh_word (λ j. ap fresh_word (omega arith))

length_from : (n k : ℕ) → length (from k n) ≡ 2 * n
unfolding from
length_from zero k = refl
length_from (suc n) k = omega (arith, length_from n (suc k))

-- a turn of the loop: word k is stored, of n
pub from-turn : (s : List ℕ) (k n v : ℕ) → k < n → v ≡ fresh_word k → sets (put_nth s k v) (2 * (k + 1)) (from (k + 1) (n - (k + 1))) ≡ sets s (2 * k) (from k (n - k))
unfolding put_nth from
from-turn s k n v h e =
    let a : n - k ≡ suc (n - (k + 1)) = omega arith in
    rw (a, e, add-one k) (sets-at (word (fresh_word k)) (from (suc k) (n - suc k)) s (2 * k) (2 * suc k) (omega arith))

-- the end
pub from_end : (s t : List ℕ) (k : ℕ) → length t ≡ segment_bytes → segment_words ≤ k → sets s (2 * k) (from k (segment_words - k)) ≡ sets t (2 * 0) (from 0 segment_words) → s ≡ fresh_segment
from_end s t k l h e =
    let z : segment_words - k ≡ 0 = omega arith in
    let y : sets s (2 * k) (from k (segment_words - k)) ≡ s = rw z (unfold from in refl) in
    sym y ∙ e ∙ sets-whole t (from 0 segment_words) (length_from segment_words 0 ∙ sym l) ∙ sym from_all
