-- What is printed of a text is what is printed of its parts, one after the other.
use Rattle.std.proofs.Common.{Bool, true, false, Option}
use Prim.Native.Nat.{ℕ, ◌+◌, ◌-◌, ◌<◌}
use mathlib.Core.Path.{◌≡◌, refl, ap, sym, ◌∙◌, subst}
use mathlib.Core.Bool.{true≢false}
use mathlib.Core.List.{List, [], ◌∷◌, ◌++◌, append_assoc, append-nil}
use native.Mathlib.Omega.{arith}
use lib.Dec.{eqb}
use lib.ListN.{length, take, drop, length-drop}
use lib.Seq.{take_all, take-add}
use Rattle.std.specs.Io.KnownBytes.{Appends, Consumes, IsAtEnd}
use Rattle.std.proofs.KnownBytes.{Appends-nil, Appends-trans, Consumes-nil, Consumes-trans}
use Rattle.rules.proofs.Split.{by_cases, pick_true, pick-false}
use Rattle.memory.specs.Memories.{Memories}
use Rattle.memory.specs.Fine.{StandsFor}
use Rattle.rules.specs.Desk.{Desk}
use Rattle.rules.specs.Allocation.{Alloc}
use Rattle.serving.specs.Going.{Going, begun, line_ends, byte, goes, ends, written, Printed, At}
use Rattle.serving.specs.Told.{said, answers, all_answers, Heard, Told}
use Rattle.serving.proofs.Steps.{goes-append, written_byte, written-goes}

pub said-append : (aloud : Bool) (a b : List ℕ) → said aloud (a ++ b) ≡ said aloud a ++ said aloud b
unfolding said
said-append true a b = refl
said-append false a b = refl

-- a byte adds to what is printed
printed_byte : (g : Going) (b : ℕ) → (byte g b).printed ≡ g.printed ++ (byte (written g) b).printed
unfolding byte line_ends written
printed_byte g b =
    by_cases (eqb b 10)
    (λ e. ap (λ (x : Going). x.printed) (pick_true _ _ _ e) ∙ ap (λ (x : Going). g.printed ++ x.printed) (sym (pick_true _ _ _ e)))
    (λ e. ap (λ (x : Going). x.printed) (pick-false _ _ _ e) ∙ sym (append-nil g.printed) ∙ ap (λ (x : Going). g.printed ++ x.printed) (sym (pick-false _ _ _ e)))

-- what was printed before changes nothing of what follows
answers_byte : (g : Going) (b : ℕ) (t : List ℕ) → answers (byte (written g) b) t ≡ answers (byte g b) t
unfolding answers
answers_byte g b t = ap (λ (x : Going). (goes x t).printed) (written_byte g b)

answers-none : (g : Going) → answers g [] ≡ []
unfolding answers goes written
answers-none g = refl

answers-more : (g : Going) (b : ℕ) (t : List ℕ) → answers g (b ∷ t) ≡ (goes (byte (written g) b) t).printed
unfolding answers goes
answers-more g b t = refl

pub printed-goes : (g : Going) (t : List ℕ) → (goes g t).printed ≡ g.printed ++ answers g t
unfolding goes
printed-goes g [] = sym (append-nil g.printed) ∙ ap (λ (x : List ℕ). g.printed ++ x) (sym (answers-none g))
printed-goes g (b ∷ t) =
    printed-goes (byte g b) t
    ∙ ap (λ (x : List ℕ). x ++ answers (byte g b) t) (printed_byte g b)
    ∙ append_assoc g.printed (byte (written g) b).printed (answers (byte g b) t)
    ∙ ap (λ (x : List ℕ). g.printed ++ ((byte (written g) b).printed ++ x)) (sym (answers_byte g b t))
    ∙ ap (λ (x : List ℕ). g.printed ++ x) (sym (printed-goes (byte (written g) b) t))
    ∙ ap (λ (x : List ℕ). g.printed ++ x) (sym (answers-more g b t))

answers-goes : (g : Going) (a b : List ℕ) → answers (goes (written g) a) b ≡ answers (goes g a) b
unfolding answers
answers-goes g a b = ap (λ (x : Going). (goes x b).printed) (written-goes g a)

pub answers-append : (g : Going) (a b : List ℕ) → answers g (a ++ b) ≡ answers g a ++ answers (goes g a) b
unfolding answers
answers-append g a b =
    ap (λ (x : Going). x.printed) (goes-append (written g) a b)
    ∙ printed-goes (goes (written g) a) b
    ∙ ap (λ (x : List ℕ). (goes (written g) a).printed ++ x) (answers-goes g a b)

-- the end of the input adds to what is printed
ends-printed : (g : Going) → (ends g).printed ≡ g.printed ++ (ends (written g)).printed
unfolding ends line_ends written
ends-printed g =
    by_cases (eqb (length g.part) 0)
    (λ e. ap (λ (x : Going). x.printed) (pick_true _ _ _ e) ∙ sym (append-nil g.printed) ∙ ap (λ (x : Going). g.printed ++ x.printed) (sym (pick_true _ _ _ e)))
    (λ e. ap (λ (x : Going). x.printed) (pick-false _ _ _ e) ∙ ap (λ (x : Going). g.printed ++ x.printed) (sym (pick-false _ _ _ e)))

all-parts : (g : Going) (t : List ℕ) → all_answers g t ≡ answers g t ++ (ends (written (goes g t))).printed
unfolding all_answers answers
all-parts g t = ends-printed (goes (written g) t) ∙ ap (λ (x : Going). (goes (written g) t).printed ++ (ends x).printed) (written-goes g t)

pub all_answers-append : (g : Going) (a b : List ℕ) → all_answers g (a ++ b) ≡ answers g a ++ all_answers (goes g a) b
all_answers-append g a b =
    all-parts g (a ++ b)
    ∙ ap (λ (x : List ℕ). x ++ (ends (written (goes g (a ++ b)))).printed) (answers-append g a b)
    ∙ ap (λ (x : Going). (answers g a ++ answers (goes g a) b) ++ (ends (written x)).printed) (goes-append g a b)
    ∙ append_assoc (answers g a) (answers (goes g a) b) (ends (written (goes (goes g a) b))).printed
    ∙ ap (λ (x : List ℕ). answers g a ++ x) (sym (all-parts (goes g a) b))

-- what was printed before changes nothing of the desk
ends-stands : (g : Going) (m : Memories) → StandsFor m (ends (written g)).desk (ends (written g)).alloc → StandsFor m (ends g).desk (ends g).alloc
unfolding ends line_ends written
ends-stands g m h =
    by_cases (eqb (length g.part) 0)
    (λ e.
    subst (λ (x : Going). StandsFor m x.desk x.alloc) (sym (pick_true _ _ _ e))
    (subst (λ (x : Going). StandsFor m x.desk x.alloc) (pick_true _ _ _ e) h))
    (λ e.
    subst (λ (x : Going). StandsFor m x.desk x.alloc) (sym (pick-false _ _ _ e))
    (subst (λ (x : Going). StandsFor m x.desk x.alloc) (pick-false _ _ _ e) h))

-- one thing printed after another
said-more : (w w' w'' : Option (List ℕ)) (aloud : Bool) (a b c : List ℕ) → c ≡ a ++ b → Appends w w' (said aloud a) → Appends w' w'' (said aloud b) → Appends w w'' (said aloud c)
said-more w w' w'' aloud a b c e p q =
    subst (λ (x : List ℕ). Appends w w'' x) (sym (ap (said aloud) e ∙ said-append aloud a b)) (Appends-trans w w' w'' _ _ p q)

-- a desk that is not served aloud prints nothing; one that is prints its answers
pub said-silent : (w : Option (List ℕ)) (aloud : Bool) (bytes : List ℕ) → aloud ≡ false → Appends w w (said aloud bytes)
unfolding said
said-silent w true bytes e = absurd (true≢false e)
said-silent w false bytes e = Appends-nil w

pub said-aloud : (w w' : Option (List ℕ)) (aloud : Bool) (bytes : List ℕ) → aloud ≡ true → Appends w w' bytes → Appends w w' (said aloud bytes)
unfolding said
said-aloud w w' true bytes e h = h
said-aloud w w' false bytes e h = absurd (true≢false (sym e))

pub said-none : (w : Option (List ℕ)) (aloud : Bool) (g : Going) → Appends w w (said aloud (answers g []))
unfolding said
said-none w true g = subst (λ (x : List ℕ). Appends w w x) (sym (answers-none g)) (Appends-nil w)
said-none w false g = Appends-nil w

-- a piece more of a chunk was taken, and its output written
pub piece-said : (w w' w'' : Option (List ℕ)) (aloud : Bool) (g : Going) (l : List ℕ) (ms : Memories) (line out filled : List ℕ) (i k n m : ℕ)
    → At (goes (written (goes g (take i l))) (take k (take (length l - i) (drop i l)))) ms line out n m → filled ≡ take m out
    → Appends w w' (said aloud (answers g (take i l))) → Appends w' w'' (said aloud filled)
    → Appends w w'' (said aloud (answers g (take (i + k) l)))
unfolding answers
piece-said w w' w'' aloud g l ms line out filled i k n m a e p q =
    let rest : take (length l - i) (drop i l) ≡ drop i l = take_all (length l - i) (drop i l) (omega (arith, length-drop i l)) in
    let piece : filled ≡ answers (goes g (take i l)) (take k (drop i l)) =
    e ∙ a.printed.filled ∙ ap (λ (x : List ℕ). answers (goes g (take i l)) (take k x)) rest in
    said-more w w' w'' aloud (answers g (take i l)) filled (answers g (take (i + k) l))
    (ap (answers g) (take-add i k l) ∙ answers-append g (take i l) (take k (drop i l)) ∙ ap (λ (x : List ℕ). answers g (take i l) ++ x) (sym piece))
    p q

-- a desk at which nothing was read yet
pub heard-none : (r w : Option (List ℕ)) (aloud : Bool) (g : Going) (m : Memories) (line out : List ℕ) (n : ℕ) → Consumes r r []
    → At (written g) m line out n 0 → Heard r r w w aloud g m line out n
unfolding goes
heard-none r w aloud g m line out n c a = record { text = []; read = c; printed = said-none w aloud g; on = a }

pub begun-heard : (r w : Option (List ℕ)) (aloud : Bool) (d : Desk) (s : Alloc) (m : Memories) (line out : List ℕ) (n : ℕ) → n ≡ 0 → StandsFor m d s
    → Heard r r w w aloud (begun d s) m line out n
unfolding begun written
begun-heard r w aloud d s m line out n e h =
    heard-none r w aloud (begun d s) m line out n (Consumes-nil r) (record { printed = record { stands = h; filled = refl }; held = ap (λ (k : ℕ). take k line) e })

-- a read that gives nothing, though there is room, finds the end
pub none-read : (r r' : Option (List ℕ)) (n : ℕ) (chunk : List ℕ) → n ≡ 0 → 0 < length chunk
    → Consumes r r' (take n chunk) × (n ≡ 0 → 0 < length chunk → IsAtEnd r') → Consumes r r' [] × IsAtEnd r'
none-read r r' n chunk z some h = (subst (λ (k : ℕ). Consumes r r' (take k chunk)) z h.0, h.1 z some)

-- the input ends where nothing more is read
pub told-end : (r r' w w' : Option (List ℕ)) (aloud : Bool) (g : Going) (m : Memories) (out filled : List ℕ) (n : ℕ) → Consumes r r' [] → IsAtEnd r'
    → Printed (ends (written g)) m out n → filled ≡ take n out → Appends w w' (said aloud filled) → Told r r' w w' aloud g m
unfolding all_answers goes
told-end r r' w w' aloud g m out filled n c e p f q = record {
  text = [];
  read = c;
  end = e;
  printed = subst (λ (x : List ℕ). Appends w w' (said aloud x)) (f ∙ p.filled) q;
  stands = ends-stands g m p.stands;
}

-- one text after another
pub heard_on : (r r' r'' w w' w'' : Option (List ℕ)) (aloud : Bool) (g : Going) (m m' : Memories) (line out line' out' : List ℕ) (n n' : ℕ) (h : Heard r r' w w' aloud g m line out n)
    → Heard r' r'' w' w'' aloud (goes g h.text) m' line' out' n' → Heard r r'' w w'' aloud g m' line' out' n'
heard_on r r' r'' w w' w'' aloud g m m' line out line' out' n n' h k = record {
  text = h.text ++ k.text;
  read = Consumes-trans r r' r'' h.text k.text h.read k.read;
  printed = said-more w w' w'' aloud _ _ _ (answers-append g h.text k.text) h.printed k.printed;
  on = subst (λ (x : Going). At (written x) m' line' out' n' 0) (sym (goes-append g h.text k.text)) k.on;
}

pub told_on : (r r' r'' w w' w'' : Option (List ℕ)) (aloud : Bool) (g : Going) (m m' : Memories) (line out : List ℕ) (n : ℕ) (h : Heard r r' w w' aloud g m line out n)
    → Told r' r'' w' w'' aloud (goes g h.text) m' → Told r r'' w w'' aloud g m'
told_on r r' r'' w w' w'' aloud g m m' line out n h k = record {
  text = h.text ++ k.text;
  read = Consumes-trans r r' r'' h.text k.text h.read k.read;
  end = k.end;
  printed = said-more w w' w'' aloud _ _ _ (all_answers-append g h.text k.text) h.printed k.printed;
  stands = subst (λ (x : Going). StandsFor m' (ends x).desk (ends x).alloc) (sym (goes-append g h.text k.text)) k.stands;
}
