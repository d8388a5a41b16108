-- The three memories of a desk: a host lends them to every call, and what is said of a desk in bytes is said of all three together.
use Rattle.std.specs.Prelude.{ℕ, List}

pub record Memories : Type 0 where
  pub segment : List ℕ
  pub blocks : List ℕ
  pub buffers : List ℕ

abbrev pub memories : List ℕ → List ℕ → List ℕ → Memories
memories segment blocks buffers = record { segment = segment; blocks = blocks; buffers = buffers }

-- The bytes of a slice, as a contract sees a parameter.
abbrev Slice : Type 0
Slice = List ℕ

-- The memories that a call is lent, for a `requires`.
abbrev pub lent : Slice → Slice → Slice → Memories
lent segment blocks buffers = memories segment blocks buffers

-- The memories that a call was lent, for an `ensures`.
abbrev pub was : Slice → Slice → Slice → Memories
was segment blocks buffers = memories segment blocks buffers

-- The memories that a call leaves.
abbrev pub left : Slice → Slice → Slice → Memories
left segment blocks buffers = memories segment blocks buffers
