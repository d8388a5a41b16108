-- A read or write is accepted: what its accessor's row says, and the memories after its beginning.
use Prim.Native.Nat.{ℕ, ◌+◌}
use mathlib.Core.Path.{◌≡◌, refl, sym, ap, ap₂, ◌∙◌, subst}
use mathlib.Core.Bool.{Bool, ◌||◌, true, false, cond, ◌&&◌}
use mathlib.Core.List.{List, [], ◌∷◌}
use mathlib.Core.Option.{Option, some}
use mathlib.Core.Logic.{inl}
use native.Mathlib.Omega.{arith}
use lib.Dec.{ltb, eqb}
use Rattle.occurrences.specs.Count.{bit}
use Rattle.rules.specs.State.{Acc, Built}
use Rattle.rules.specs.Requests.{is_writer, is_reader, writers, readers, acc_at, with_accs, alter_acc, begun}
use Rattle.rules.specs.Transfer.{may_wait}
use Rattle.rules.specs.Desk.{Desk}
use Rattle.rules.specs.Allocation.{Alloc, place_of}
use Rattle.laws.proofs.Accessors.{count_acc-alter}
use Rattle.laws.proofs.Calls.{begun-mild, begun-at}
use Rattle.segment.specs.declared.PlaceRow.{PlaceRow}
use Rattle.segment.specs.Layout.{file_width, file_row_at, place_row_at}
use Rattle.segment.specs.Table.{fill}
use Rattle.segment.specs.Fields.{place_words, spared, place_row_of, file_at, place_at}
use Rattle.segment.specs.Table as table
use Rattle.segment.proofs.Rows.{row_other}
use Rattle.accessors.specs.Sides.{count_side}
use Rattle.accessors.proofs.Counted.{count-readers, count-writers}
use Rattle.memory.specs.Memories.{Memories, memories}
use Rattle.memory.specs.Image as image
use Rattle.memory.specs.Fine.{Fine, StandsFor}
use Rattle.midst.specs.declared.File as hand
use Rattle.midst.specs.File.{file_of_row, file_row_words, RowStands}
use Rattle.midst.specs.Mid.{Mid, start}
use Rattle.midst.proofs.Begins.{stands-row, mid-place, mid_row}
use Rattle.midst.proofs.Changes.{mid-below}
use Rattle.midst.proofs.Rows.{mid-mild}
use Rattle.midst.proofs.Walks.{fine-walks}
use Rattle.settling.proofs.FirstReader.{bit-one}
use Rattle.transfers.specs.Rows.{begun_row, begun_segment, may_wait_row}
use Rattle.transfers.proofs.Named.{Named, begin-mid}

kept-bit : (writer keep : Bool) → cond (eqb (1 + bit writer) 2) (bit keep) 0 ≡ bit (writer && keep)
kept-bit true keep = refl
kept-bit false keep = refl

-- what the code of a read or a write has seen and done: x is the file that its row holds, row is the accessor's row, and in the segment xs the accessor has begun
pub record Seen (ms : Memories) (f p : ℕ) (x : hand.File) (row : PlaceRow) (xs : List ℕ) : Type 0 where
  pub file : x ≡ file_of_row (file_at ms.segment f)
  pub place : row ≡ place_at ms.segment (place_of f p)
  pub began : xs ≡ begun_segment ms.segment (place_of f p)

module _ {ms : Memories} {d : Desk} {s : Alloc} {f p : ℕ} (S : StandsFor ms d s) (N : Named d f p) where
  abbrev b : Built
  b = N.b

  abbrev a : Acc
  a = N.a

  pub at-begun : acc_at (alter_acc p begun b) p ≡ some (begun a)
  at-begun = begun-at p a b N.at

  module _ {row : PlaceRow} (read : row ≡ place_at ms.segment (place_of f p)) where
    row_is : row ≡ place_row_of (image.place_words (some a))
    row_is =
        let M = begin-mid S N refl in
        read ∙ mid-place M p (mid-below M p a N.at) ∙ ap (λ (o : Option Acc). place_row_of (image.place_words o)) N.at

    pub row-side : row.side ≡ 1 + bit a.writer
    unfolding place_row_of image.place_words
    row-side = ap (λ (r : PlaceRow). r.side) row_is

    pub row-id : row.id ≡ a.ident
    unfolding place_row_of image.place_words
    row-id = ap (λ (r : PlaceRow). r.id) row_is

    pub row-timeout : row.timeout ≡ a.timeout
    unfolding place_row_of image.place_words
    row-timeout = ap (λ (r : PlaceRow). r.timeout) row_is

    pub row_keep : row.keep ≡ bit a.keep
    unfolding place_row_of image.place_words
    row_keep = ap (λ (r : PlaceRow). r.keep) row_is

    pub row_typed : eqb row.typed 1 ≡ a.typed
    unfolding place_row_of image.place_words
    row_typed = ap (λ (r : PlaceRow). eqb r.typed 1) row_is ∙ bit-one a.typed

    pub row-waits : {n m : ℕ} → n ≡ m → may_wait_row (ltb 0 n) row ≡ may_wait m a
    unfolding may_wait_row may_wait place_row_of image.place_words
    row-waits {m = m} e =
        ap₂ {C = Bool} (λ (k : ℕ) (r : PlaceRow). may_wait_row (ltb 0 k) r) e row_is
        ∙ ap₂ {C = Bool} (λ (t u : Bool). ltb 0 m || t || u) (bit-one a.extended) (bit-one a.first)

    begun-words : spared (place_words (begun_row row)) ≡ image.place_words (some (begun a))
    unfolding begun_row place_words place_row_of image.place_words begun
    begun-words =
        ap (λ (r : PlaceRow). spared (place_words (begun_row r))) row_is
        ∙ ap (λ (k : ℕ). spared ((1 + bit a.writer) ∷ a.ident ∷ a.sharing ∷ a.timeout ∷ bit a.extended ∷ bit a.typed ∷ k ∷ 0 ∷ [])) (kept-bit a.writer a.keep)

  module _ {x : hand.File} {row : PlaceRow} {xs : List ℕ} (v : Seen ms f p x row xs) where
    -- the first operation is spent, and by a read control 47
    pub begun-mid : Mid Fine f (start d s ms) (memories xs ms.blocks ms.buffers) x (alter_acc p begun b)
    unfolding begun_segment
    begun-mid =
        let M = begin-mid S N v.file in
        let is : xs ≡ fill ms.segment (place_row_at (place_of f p)) (place_words (begun_row row)) =
        v.began ∙ ap (λ (r : PlaceRow). fill ms.segment (place_row_at (place_of f p)) (place_words (begun_row r))) (sym v.place) in
        subst (λ (ys : List ℕ). Mid Fine f (start d s ms) (memories ys ms.blocks ms.buffers) x (alter_acc p begun b)) (sym is)
        (mid-mild M p begun a (begun_row row) begun-mild N.at (fine-walks.mild p begun b begun-mild M.good) (begun-words v.place))

    -- the file's row holds the file in hand, wherever its ring has come to
    pub begun-rowed : (y : hand.File) → y.words ≡ x.words → y.ring.factor ≡ x.ring.factor → y.ring.blocks ≡ x.ring.blocks → RowStands xs f y
    unfolding begun_segment
    begun-rowed y words factor blocks' =
        let still : table.row xs (file_row_at f) file_width ≡ table.row ms.segment (file_row_at f) file_width =
        ap (λ (l : List ℕ). table.row l (file_row_at f) file_width) v.began ∙ row_other ms.segment _ _ (file_row_at f) file_width (inl (omega arith)) in
        record {
          file = x;
          row = still ∙ stands-row S f b N.file N.stands ∙ ap file_row_words (sym (begin-mid S N v.file).row);
          words = sym words;
          factor = sym factor;
          blocks = sym blocks';
        }

    -- the sides stay
    pub begun-readers : count_side xs f 1 ≡ readers b
    unfolding readers alter_acc with_accs begun is_reader
    begun-readers =
        count-readers xs f (alter_acc p begun b) begun-mid.allots.matches.agrees.eight (mid_row begun-mid) ∙ count_acc-alter is_reader begun (λ a. refl) b.accs p

    pub begun-writers : count_side xs f 2 ≡ writers b
    unfolding writers alter_acc with_accs begun is_writer
    begun-writers =
        count-writers xs f (alter_acc p begun b) begun-mid.allots.matches.agrees.eight (mid_row begun-mid) ∙ count_acc-alter is_writer begun (λ a. refl) b.accs p
