-- Events: the frame (bytes) of each, in the order of document 01's table.
use Rattle.std.specs.Prelude.{cond, List, ℕ, ◌+◌, eqb, length, get_or}
use Rattle.rules.specs.Limits.{write_head}
use Rattle.words.specs.Word.{word_at}
use Rattle.kinds.specs.declared.Control.TheVariants.{Timeout, Verify, Abort, Extended, Typed, Keep}
use Rattle.kinds.specs.declared.Event.TheVariants.{Build, Open, Read, Write, Control, Collect, Close, Time, Counts}
use Rattle.kinds.specs.declared.Frame.{Frame}
use Rattle.kinds.specs.declared.Frame.TheVariants.{Event, Code, Shape}
use Rattle.rules.specs.TransferCounts.{count_bytes}

-- "Controls: 4 timeout seconds; 6 verify (nothing to do here); 43 abort; 45, 46, 47"
unfoldable pub control_frame : ℕ → ℕ → ℕ → ℕ → Frame
control_frame file acc code param =
    cond (eqb code 4) (Event (Control file acc (Timeout param)))
    (cond (eqb code 6) (Event (Control file acc (Verify param)))
    (cond (eqb code 43) (Event (Control file acc (Abort param)))
    (cond (eqb code 45) (Event (Control file acc (Extended param)))
    (cond (eqb code 46) (Event (Control file acc (Typed param)))
    (cond (eqb code 47) (Event (Control file acc (Keep param)))
    (Code file acc))))))

-- the frame e if there are n bytes, else no shape
unfoldable pub of_length : ℕ → List ℕ → Frame → Frame
of_length n fr e = cond (eqb (length fr) n) e Shape

unfoldable pub frame_of : List ℕ → Frame
frame_of fr =
    let b : ℕ → ℕ = λ i. get_or fr i 0 in
    let w : ℕ → ℕ = word_at fr in
    cond (eqb (b 0) 1) (of_length 8 fr (Event (Build (b 1) (w 2) (b 4) (w 5) (b 7))))
    (cond (eqb (b 0) 2) (of_length 5 fr (Event (Open (b 1) (b 2) (b 3) (b 4))))
    (cond (eqb (b 0) 3) (of_length 5 fr (Event (Read (b 1) (b 2) (w 3))))
    (cond (eqb (b 0) 4) (of_length (write_head + count_bytes (w 3)) fr (Event (Write (b 1) (b 2) (w 3))))
    (cond (eqb (b 0) 5) (of_length 6 fr (control_frame (b 1) (b 2) (b 3) (w 4)))
    (cond (eqb (b 0) 6) (of_length 3 fr (Event (Collect (b 1) (b 2))))
    (cond (eqb (b 0) 7) (of_length 3 fr (Event (Close (b 1) (b 2))))
    (cond (eqb (b 0) 8) (of_length 3 fr (Event (Time (w 1))))
    (cond (eqb (b 0) 9) (of_length 2 fr (Event (Counts (b 1))))
    Shape))))))))
