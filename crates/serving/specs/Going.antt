-- How the event program goes through its input: byte by byte, whatever the sizes of the reads.
use Rattle.std.specs.Prelude.{◌≡◌, true, false, List, [], ◌∷◌, ◌++◌, ℕ, ◌+◌, ◌*◌, eqb, length, take}
use Rattle.rules.specs.Limits.{line_bytes}
use Rattle.rules.specs.Line.{line_frame, line_of}
use Rattle.rules.specs.Desk.{Desk, Call, event, asked, fresh_desk, Responded, respond, reply_bytes}
use Rattle.rules.specs.Allocation.{Alloc, fresh_alloc, alloc_asked}
use Rattle.memory.specs.Memories.{Memories}
use Rattle.memory.specs.Fine.{StandsFor}

-- one digit more than the longest valid line has; a line of that length is invalid, whatever follows
abbrev pub most_held : ℕ
most_held = 2 * line_bytes + 1

-- the number of bytes of the output memory, which is written at once
abbrev pub out_bytes : ℕ
out_bytes = 65536

-- the state of the event program: the desk and its allocation, the bytes of a line that has not ended, and what was printed
pub record Going : Type 0 where
  pub desk : Desk
  pub alloc : Alloc
  pub part : List ℕ
  pub printed : List ℕ

-- the state before any of the input
unfoldable pub begun : Desk → Alloc → Going
begun d s = record { desk = d; alloc = s; part = []; printed = [] }

unfoldable pub begins : Going
begins = begun fresh_desk fresh_alloc

-- the state after the line ends, which is answered by a line
unfoldable pub line_ends : Going → Going
line_ends g =
    let c : Call = event (line_frame g.part) in
    let r : Responded = respond g.desk c in
    record { desk = r.desk; alloc = alloc_asked g.desk (asked c) g.alloc; part = []; printed = g.printed ++ line_of (reply_bytes r.reply) }

unfoldable pub byte : Going → ℕ → Going
byte g b =
    elim (eqb b 10) [
      | true ↦ line_ends g
      | false ↦ record { desk = g.desk; alloc = g.alloc; part = g.part ++ (b ∷ []); printed = g.printed }
    ]

unfoldable pub goes : Going → List ℕ → Going
goes g [] = g
goes g (b ∷ t) = goes (byte g b) t

-- the state after what was printed is written, and no longer held
unfoldable pub written : Going → Going
written g = record { desk = g.desk; alloc = g.alloc; part = g.part; printed = [] }

-- "lines ended by LF (the last may lack it)"
unfoldable pub ends : Going → Going
ends g = elim (eqb (length g.part) 0) [ true ↦ g | false ↦ line_ends g ]

-- the memories stand for the state's desk, and the first m bytes of `out` are what was printed
pub record Printed (g : Going) (ms : Memories) (out : List ℕ) (m : ℕ) : Type 0 where
  pub stands : StandsFor ms g.desk g.alloc
  pub filled : take m out ≡ g.printed

-- memories and `out` are the state's, and the first n bytes of `line` are those of the state's line, as far as they are kept
pub record At (g : Going) (ms : Memories) (line out : List ℕ) (n m : ℕ) : Type 0 where
  pub printed : Printed g ms out m
  pub held : take n line ≡ take most_held g.part
