-- The contract of `answer_line` leaves nothing open: two results that meet it are the same, in what is printed and in all lent memories.
use Prim.Native.Nat.{ℕ, ◌+◌, ◌*◌}
use mathlib.Core.Path.{◌≡◌, ap, sym, ◌∙◌}
use mathlib.Core.List.{List}
use lib.ListN.{take}
use lib.Seq.{sets}
use Rattle.words.specs.Word.{zeros, Bytes}
use Rattle.rules.specs.Limits.{answer_room}
use Rattle.rules.specs.Line.{line_frame, line_of}
use Rattle.promises.specs.Promise.{Given, event, answer, given_size, given_memory}
use Rattle.promises.proofs.Same.{promise-same}
use Rattle.lines.specs.Asked.{Asked}
use Rattle.memory.specs.Memories.{Memories}

pub asked-same : (m : Memories) (line out : List ℕ) (n : Memories) (o : List ℕ) (n' : Memories) (o' : List ℕ) (used r r' : ℕ) → Bytes m.segment → Bytes m.blocks → Bytes m.buffers
    → Asked m line out n o used r → Asked m line out n' o' used r' → (r ≡ r') × (n ≡ n') × (o ≡ o')
unfolding given_size given_memory
asked-same m line out n o n' o' used r r' bs bb bf A B =
    let (g, e) = promise-same m bs bb bf (event (zeros answer_room) (line_frame line)) (answer A.size A.answer) (answer B.size B.answer) n n' A.event B.event in
    let told = ap (λ (h : Given). sets out used (line_of (take (given_size h) (given_memory h)))) g in
    (A.end ∙ ap (λ (h : Given). used + (2 * given_size h + 1)) g ∙ sym B.end, e, A.printed ∙ told ∙ sym B.printed)
