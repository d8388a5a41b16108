-- One line, one byte, and bytes one after the other.
use Prim.Native.Nat.{ℕ, zero, suc, ◌+◌, ◌-◌, ◌*◌, ◌≤◌, ◌<◌}
use mathlib.Core.Path.{◌≡◌, refl, ap, sym, ◌∙◌, subst}
use mathlib.Core.List.{List, [], ◌∷◌, ◌++◌}
use native.Mathlib.Omega.{arith}
use native.Mathlib.Numerals.{add-one}
use borrow.Author.Tests.{eq-eqb, ne_eqb}
use lib.Dec.{eqb}
use lib.ListN.{length, get_or, take, drop, length-drop, length-append}
use lib.Seq.{sets, take-suc, take_all, take-add}
use Rattle.words.specs.Word.{zeros}
use Rattle.words.proofs.Runs.{length-zeros}
use Rattle.rules.specs.Limits.{answer_room}
use Rattle.rules.specs.Line.{digits_of, line_frame, line_of}
use Rattle.rules.specs.Desk.{event, respond, reply_bytes}
use Rattle.rules.proofs.Split.{by_cases, pick_true, pick-false}
use Rattle.hexadecimal.proofs.Trip.{length_digits}
use Rattle.promises.proofs.Events.{event-says}
use Rattle.lines.specs.Asked.{answer_line, Gives, Asked}
use Rattle.lines.proofs.Parts.{put_first}
use Rattle.serving.specs.Going.{most_held, Going, line_ends, byte, goes, ends, written, Printed, At}
use Rattle.serving.proofs.Parts.{filled_more, kept_more, frame-kept, some-held, none-held}
use Rattle.memory.specs.Memories.{Memories}

-- a line is answered
pub line-answered : (g : Going) (m : Memories) (line out : List ℕ) (m' : Memories) (out' : List ℕ) (used r : ℕ)
    → Asked m line out m' out' used r → used + answer_line ≤ length out → r ≤ used + answer_line
    → line_frame line ≡ line_frame g.part
    → Printed g m out used → Printed (line_ends g) m' out' r
unfolding line_ends line_of
line-answered g m line out m' out' used r a h k e p =
    let n = a.size in
    let v = a.answer in
    let room = length-zeros answer_room in
    let x = subst (λ (f : List ℕ). Gives m f m' v n) e a.event in
    let (stays, told) = event-says m (zeros answer_room) (line_frame g.part) room m' v n x g.desk g.alloc p.stands in
    let said = reply_bytes (respond g.desk (event (line_frame g.part))).reply in
    let w : take n v ≡ said = rw told.bytes (put_first (zeros answer_room) said n told.size (omega (arith, a.end, told.size, room))) in
    let long : length (line_of said) ≡ 2 * n + 1 = omega (arith, length-append (digits_of said) (10 ∷ []), length_digits said, told.size) in
    record {
      stands = stays.stands;
      filled =
          ap (take r) a.printed
          ∙ ap (λ (y : List ℕ). take r (sets out used (line_of y))) w
          ∙ filled_more out (line_of said) used r (omega (arith, a.end, long)) (omega (arith, a.end, long))
          ∙ ap (λ (y : List ℕ). y ++ line_of said) p.filled;
    }

-- the line that is held says what the whole line says
pub frame-held : (g : Going) (ms : Memories) (line out : List ℕ) (n m : ℕ) → At g ms line out n m → line_frame (take n line) ≡ line_frame g.part
frame-held g ms line out n m a = ap line_frame a.held ∙ frame-kept g.part

pub byte-line : (g : Going) (b : ℕ) → b ≡ 10 → byte g b ≡ line_ends g
unfolding byte
byte-line g b e = pick_true _ _ _ (eq-eqb b 10 e)

pub byte_more : (g : Going) (b : ℕ) → (b ≡ 10 → ⊥) → byte g b ≡ record { desk = g.desk; alloc = g.alloc; part = g.part ++ (b ∷ []); printed = g.printed }
unfolding byte
byte_more g b h = pick-false _ _ _ (ne_eqb b 10 h)

pub line_at : (g : Going) (m : Memories) (line out : List ℕ) (b r : ℕ) → b ≡ 10 → Printed (line_ends g) m out r → At (byte g b) m line out 0 r
unfolding line_ends
line_at g m line out b r e p =
    subst (λ (x : Going). At x m line out 0 r) (sym (byte-line g b e)) (record { printed = p; held = refl })

pub byte_at : (g : Going) (ms : Memories) (line line' out : List ℕ) (b n m r : ℕ) → (b ≡ 10 → ⊥) → take r line' ≡ take most_held (take n line ++ (b ∷ []))
    → At g ms line out n m → At (byte g b) ms line' out r m
byte_at g ms line line' out b n m r h e a =
    subst (λ (x : Going). At x ms line' out r m) (sym (byte_more g b h))
    (record {
      printed = record { stands = a.printed.stands; filled = a.printed.filled };
      held = e ∙ ap (λ (x : List ℕ). take most_held (x ++ (b ∷ []))) a.held ∙ kept_more g.part most_held b;
    })

pub goes-append : (g : Going) (a b : List ℕ) → goes g (a ++ b) ≡ goes (goes g a) b
unfolding goes
goes-append g [] b = refl
goes-append g (x ∷ a) b = goes-append (byte g x) a b

pub goes-more : (g : Going) (l : List ℕ) (i : ℕ) → i < length l → goes g (take (i + 1) l) ≡ byte (goes g (take i l)) (get_or l i 0)
unfolding goes
goes-more g l i h = rw (add-one i, take-suc l i 0 h) (goes-append g (take i l) (get_or l i 0 ∷ []))

pub goes_at : (g : Going) (l : List ℕ) (ms : Memories) (line out : List ℕ) (i n m : ℕ) → i < length l
    → At (byte (goes g (take i l)) (get_or l i 0)) ms line out n m → At (goes g (take (i + 1) l)) ms line out n m
goes_at g l ms line out i n m h = subst (λ (x : Going). At x ms line out n m) (sym (goes-more g l i h))

-- output that is full holds the answer to a byte at least
pub some-taken : (i u : ℕ) → (i ≡ 0 → u ≡ 0) → 0 < u → 0 < i
some-taken zero u h k = absurd (omega (arith, h refl))
some-taken (suc i) u h k = omega arith

-- the input ends with no line begun, or in the middle of one
pub ends-none : (g : Going) (ms : Memories) (line out : List ℕ) (n m : ℕ) → length line ≡ most_held → n ≤ most_held → n ≡ 0
    → At g ms line out n m → Printed (ends g) ms out m
unfolding ends
ends-none g ms line out n m l h z a =
    let none = some-held line g.part n most_held l h (omega arith) a.held z in
    subst (λ (x : Going). Printed x ms out m) (sym (pick_true _ _ _ (eq-eqb (length g.part) 0 none))) a.printed

pub ends-line : (g : Going) (ms : Memories) (line out : List ℕ) (ms' : Memories) (out' : List ℕ) (n m r : ℕ) → length line ≡ most_held → n ≤ most_held → (n ≡ 0 → ⊥)
    → At g ms line out n m → Printed (line_ends g) ms' out' r → Printed (ends g) ms' out' r
unfolding ends
ends-line g ms line out ms' out' n m r l h z a =
    let some : length g.part ≡ 0 → ⊥ = λ k. z (none-held line g.part n most_held l h (omega arith) a.held k) in
    subst (λ (x : Going). Printed x ms' out' r) (sym (pick-false _ _ _ (ne_eqb (length g.part) 0 some)))

-- what was written before changes nothing of what follows

pub written_byte : (g : Going) (b : ℕ) → written (byte (written g) b) ≡ written (byte g b)
unfolding byte line_ends written
written_byte g b =
    by_cases (eqb b 10)
    (λ e. ap written (pick_true _ _ _ e) ∙ sym (ap written (pick_true _ _ _ e)))
    (λ e. ap written (pick-false _ _ _ e) ∙ sym (ap written (pick-false _ _ _ e)))

pub written-goes : (g : Going) (l : List ℕ) → written (goes (written g) l) ≡ written (goes g l)
unfolding goes written
written-goes g [] = refl
written-goes g (b ∷ l) =
    sym (written-goes (byte (written g) b) l) ∙ ap (λ (x : Going). written (goes x l)) (written_byte g b) ∙ written-goes (byte g b) l

pub written_at : (g : Going) (ms : Memories) (line out : List ℕ) (n m : ℕ) → At g ms line out n m → At (written g) ms line out n 0
unfolding written
written_at g ms line out n m a = record { printed = record { stands = a.printed.stands; filled = refl }; held = a.held }

-- a piece more of a chunk was taken, and its output written
pub piece-at : (g : Going) (l : List ℕ) (ms : Memories) (line out : List ℕ) (i k n m : ℕ)
    → At (goes (written (goes g (take i l))) (take k (take (length l - i) (drop i l)))) ms line out n m
    → At (written (goes g (take (i + k) l))) ms line out n 0
piece-at g l ms line out i k n m a =
    let rest : take (length l - i) (drop i l) ≡ drop i l = take_all (length l - i) (drop i l) (omega (arith, length-drop i l)) in
    let e : written (goes (written (goes g (take i l))) (take k (take (length l - i) (drop i l)))) ≡ written (goes g (take (i + k) l)) =
    written-goes (goes g (take i l)) (take k (take (length l - i) (drop i l)))
    ∙ ap (λ (x : List ℕ). written (goes (goes g (take i l)) (take k x))) rest
    ∙ ap written (sym (goes-append g (take i l) (take k (drop i l))))
    ∙ ap (λ (x : List ℕ). written (goes g x)) (sym (take-add i k l)) in
    subst (λ (x : Going). At x ms line out n 0) e (written_at _ ms line out n m a)

-- the whole of a chunk was taken
pub chunk-at : (g : Going) (l : List ℕ) (ms : Memories) (line out : List ℕ) (i n m : ℕ) → length l ≤ i → At (written (goes g (take i l))) ms line out n m
    → At (written (goes g l)) ms line out n m
chunk-at g l ms line out i n m h =
    subst (λ (x : List ℕ). At (written (goes g x)) ms line out n m) (take_all i l h)
