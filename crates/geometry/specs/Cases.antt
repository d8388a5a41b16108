-- The cases that document 01 marks P ("proved"), as a table under one statement that antt computes.
use Rattle.std.specs.Prelude.{ℕ, ◌-◌, Bool, true, false, List, [], ◌∷◌, ◌≡◌, refl}
use Rattle.rules.specs.Geometry.{data_blocks, capacity, block_size, fits_share}
use Rattle.rules.specs.TransferCounts.{readable}
use Rattle.rules.specs.Desk.{program}
use Rattle.rules.proofs.All.{All}
use Rattle.rules.proofs.Script.{lines, Plays}

-- a row: what the rules work out, and what the paper says
pub record Case : Type 0 where
  pub got : List ℕ
  pub says : List ℕ

unfoldable pub worked : List Case → List (List ℕ)
worked [] = []
worked (c ∷ cs) = c.got ∷ worked cs

unfoldable pub said : List Case → List (List ℕ)
said [] = []
said (c ∷ cs) = c.says ∷ said cs

-- the capacity of a file of n records, b to a block, x extents
unfoldable pub capacity_of : ℕ → ℕ → ℕ → ℕ
capacity_of n b x = capacity b (data_blocks n b x)

-- 1 for a number or a file that is accepted, 0 for one that is refused
unfoldable pub taken : Bool → ℕ
taken true = 1
taken false = 0

-- the count −n as it is in its frame
unfoldable pub minus : ℕ → ℕ
minus n = 65536 - n

-- one row for each thing the paper says, with as many numbers
unfoldable pub cases : List Case
cases =
    -- "(N,B,X) = (51,3,8) gives 69; (1023,1,8) gives 1,031; (1,1,1) gives 3."
    record { got = capacity_of 51 3 8 ∷ capacity_of 1023 1 8 ∷ capacity_of 1 1 1 ∷ []; says = 69 ∷ 1031 ∷ 3 ∷ [] }
    -- "block size for (R,B): (100,10) 1,032; (128,3) 395."
    ∷ record { got = block_size 100 10 ∷ block_size 128 3 ∷ []; says = 1032 ∷ 395 ∷ [] }
    -- "R 128, B 1, X 1: N 13 is built with 15 data blocks,"
    ∷ record { got = data_blocks 13 1 1 ∷ taken (fits_share 128 1 (data_blocks 13 1 1)) ∷ []; says = 15 ∷ 1 ∷ [] }
    -- "N 14 refused 38."
    ∷ record { got = taken (fits_share 128 1 (data_blocks 14 1 1)) ∷ []; says = 0 ∷ [] }
    -- "read counts 130 and −260 taken,"
    ∷ record { got = taken (readable 130) ∷ taken (readable (minus 260)) ∷ []; says = 1 ∷ 1 ∷ [] }
    -- "131, −261 and −32768 refused 35."
    ∷ record { got = taken (readable 131) ∷ taken (readable (minus 261)) ∷ taken (readable (minus 32768)) ∷ []; says = 0 ∷ 0 ∷ 0 ∷ [] }
    -- the event program's answers to the builds: refused 38 for N 14, built with 15 data blocks for N 13
    ∷ record {
      got = program (lines ("0100008001000E01" ∷ "0100008001000D01" ∷ []));
      says = lines ("0126" ∷ "0100000F" ∷ []);
    }
    -- the event program's answers to reads: 35 for counts 131, −261, −32768; 130 waits, and is aborted; −260 ends with status 2
    ∷ record {
      got = program (lines ("0100000401000101" ∷ "0200000100" ∷ "0300000083" ∷ "030000FEFB" ∷ "0300008000" ∷ "0300000082" ∷ "0500002B0000" ∷ "030000FEFC" ∷ []));
      says = lines ("01000003" ∷ "0200000000" ∷ "0323" ∷ "0323" ∷ "0323" ∷ "0301" ∷ "0500" ∷ "0302" ∷ []);
    }
    -- "timeout 5: time 4 completes nothing, then 1 completes it."
    ∷ record {
      got = program (lines ("0100000401000101" ∷ "0200000100" ∷ "050000040005" ∷ "0300000001" ∷ "080004" ∷ "060000" ∷ "080001" ∷ "060000" ∷ []));
      says = lines ("01000003" ∷ "0200000000" ∷ "0500" ∷ "0301" ∷ "0800" ∷ "0601" ∷ "0800" ∷ "0616" ∷ []);
    }
    ∷ []

pub cases-hold : worked cases ≡ said cases
unfolding All Plays worked said cases capacity_of taken minus
cases-hold = refl
