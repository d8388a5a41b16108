-- What the program goes through is what the rules say that it prints, however the input is cut into reads.
use Prim.Native.Nat.{ℕ}
use mathlib.Core.Path.{◌≡◌, refl, ap, sym, ◌∙◌}
use mathlib.Core.List.{List, [], ◌∷◌, ◌++◌, map, append_assoc, append-nil}
use lib.Dec.{eqb}
use lib.ListN.{length}
use Rattle.rules.specs.Line.{line_frame, line_of, Lines, lines_from, lines_of}
use Rattle.rules.specs.Reply.{Reply}
use Rattle.rules.specs.Desk.{Desk, Call, event, fresh_desk, respond, replies, after, reply_bytes, input_lines, answer_lines, program}
use Rattle.rules.specs.Allocation.{alloc_after}
use Rattle.rules.proofs.Split.{by_cases, pick_true, pick-false}
use Rattle.memory.specs.Fresh.{fresh_memories}
use Rattle.memory.proofs.Fresh.{fresh-stands}
use Rattle.memory.proofs.Reached.{reached}
use Rattle.serving.specs.Going.{Going, begun, begins, line_ends, byte, goes, ends, At}

-- the calls that lines make
unfoldable pub calls : List (List ℕ) → List Call
calls l = map (λ x. event (line_frame x)) l

pub answers-append : (a b : List Reply) → answer_lines (a ++ b) ≡ answer_lines a ++ answer_lines b
unfolding answer_lines
answers-append [] b = refl
answers-append (r ∷ a) b = ap (λ (x : List ℕ). line_of (reply_bytes r) ++ x) (answers-append a b) ∙ sym (append_assoc (line_of (reply_bytes r)) (answer_lines a) (answer_lines b))

pub replies-append : (d : Desk) (a b : List Call) → replies d (a ++ b) ≡ replies d a ++ replies (after d a) b
unfolding replies after
replies-append d [] b = refl
replies-append d (c ∷ a) b = ap (λ (x : List Reply). (respond d c).reply ∷ x) (replies-append (respond d c).desk a b)

pub calls-append : (a b : List (List ℕ)) → calls (a ++ b) ≡ calls a ++ calls b
unfolding calls
calls-append [] b = refl
calls-append (x ∷ a) b = ap (λ (l : List Call). event (line_frame x) ∷ l) (calls-append a b)

-- the state after a text: the desk after its lines, what follows the last of them, and their answers
pub record Behind (g : Going) (t : List ℕ) : Type 0 where
  pub desk : (goes g t).desk ≡ after g.desk (calls (lines_from g.part t).whole)
  pub part : (goes g t).part ≡ (lines_from g.part t).rest
  pub printed : (goes g t).printed ≡ g.printed ++ answer_lines (replies g.desk (calls (lines_from g.part t).whole))

pub behind : (g : Going) (t : List ℕ) → Behind g t
unfolding goes lines_from calls after replies answer_lines byte line_ends
behind g [] = record { desk = refl; part = refl; printed = sym (append-nil g.printed) }
behind g (b ∷ t) =
    by_cases (eqb b 10)
    (λ e.
    let eg : byte g b ≡ line_ends g = pick_true _ _ _ e in
    let el : lines_from g.part (b ∷ t) ≡ record { whole = g.part ∷ (lines_from [] t).whole; rest = (lines_from [] t).rest } = pick_true _ _ _ e in
    let h = behind (line_ends g) t in
    record {
      desk = ap (λ (x : Going). (goes x t).desk) eg ∙ h.desk ∙ ap (λ (x : Lines). after g.desk (calls x.whole)) (sym el);
      part = ap (λ (x : Going). (goes x t).part) eg ∙ h.part ∙ ap (λ (x : Lines). x.rest) (sym el);
      printed =
          ap (λ (x : Going). (goes x t).printed) eg
          ∙ h.printed
          ∙ append_assoc g.printed (line_of (reply_bytes (respond g.desk (event (line_frame g.part))).reply)) (answer_lines (replies (line_ends g).desk (calls (lines_from [] t).whole)))
          ∙ ap (λ (x : Lines). g.printed ++ answer_lines (replies g.desk (calls x.whole))) (sym el);
    })
    (λ e.
    let more : Going = record { desk = g.desk; alloc = g.alloc; part = g.part ++ (b ∷ []); printed = g.printed } in
    let eg : byte g b ≡ more = pick-false _ _ _ e in
    let el : lines_from g.part (b ∷ t) ≡ lines_from (g.part ++ (b ∷ [])) t = pick-false _ _ _ e in
    let h = behind more t in
    record {
      desk = ap (λ (x : Going). (goes x t).desk) eg ∙ h.desk ∙ ap (λ (x : Lines). after g.desk (calls x.whole)) (sym el);
      part = ap (λ (x : Going). (goes x t).part) eg ∙ h.part ∙ ap (λ (x : Lines). x.rest) (sym el);
      printed = ap (λ (x : Going). (goes x t).printed) eg ∙ h.printed ∙ ap (λ (x : Lines). g.printed ++ answer_lines (replies g.desk (calls x.whole))) (sym el);
    })

-- what it has printed at the end of the input is what the rules say
pub prints : (t : List ℕ) → (ends (goes begins t)).printed ≡ program t
unfolding ends begun begins line_ends program input_lines lines_of calls answer_lines replies
prints t =
    let h = behind begins t in
    let l : Lines = lines_from [] t in
    let same : eqb (length (goes begins t).part) 0 ≡ eqb (length l.rest) 0 = ap (λ (x : List ℕ). eqb (length x) 0) h.part in
    by_cases (eqb (length l.rest) 0)
    (λ e.
    ap (λ (x : Going). x.printed) (pick_true _ _ _ (same ∙ e))
    ∙ h.printed
    ∙ ap (λ (x : List (List ℕ)). answer_lines (replies fresh_desk (calls x))) (sym (pick_true _ _ _ e)))
    (λ e.
    let last : Call = event (line_frame l.rest) in
    let d : Desk = after fresh_desk (calls l.whole) in
    ap (λ (x : Going). x.printed) (pick-false _ _ _ (same ∙ e))
    ∙ ap (λ (x : List ℕ). x ++ line_of (reply_bytes (respond (goes begins t).desk (event (line_frame (goes begins t).part))).reply)) h.printed
    ∙ ap (λ (x : List ℕ). answer_lines (replies fresh_desk (calls l.whole)) ++ line_of (reply_bytes (respond (goes begins t).desk (event (line_frame x))).reply)) h.part
    ∙ ap (λ (x : Desk). answer_lines (replies fresh_desk (calls l.whole)) ++ line_of (reply_bytes (respond x last).reply)) h.desk
    ∙ ap (λ (x : List ℕ). answer_lines (replies fresh_desk (calls l.whole)) ++ x) (sym (append-nil (line_of (reply_bytes (respond d last).reply))))
    ∙ sym (answers-append (replies fresh_desk (calls l.whole)) ((respond d last).reply ∷ []))
    ∙ ap answer_lines (sym (replies-append fresh_desk (calls l.whole) (last ∷ [])))
    ∙ ap (λ (x : List Call). answer_lines (replies fresh_desk x)) (sym (calls-append l.whole (l.rest ∷ [])))
    ∙ ap (λ (x : List (List ℕ)). answer_lines (replies fresh_desk (calls x))) (sym (pick-false _ _ _ e)))

-- the program begins with the memories of a fresh desk
pub begins-at : (line out : List ℕ) → At begins fresh_memories line out 0 0
unfolding begun begins after alloc_after
begins-at line out = record { printed = record { stands = reached [] fresh_memories fresh-stands; filled = refl }; held = refl }
