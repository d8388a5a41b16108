-- What is read and what is printed while a desk is served, as far as the streams tell their bytes.
use Rattle.std.specs.Prelude.{Bool, true, false, List, [], ℕ, Option}
use Rattle.std.specs.Io.KnownBytes.{Appends, Consumes, IsAtEnd}
use Rattle.memory.specs.Memories.{Memories}
use Rattle.memory.specs.Fine.{StandsFor}
use Rattle.serving.specs.Going.{Going, goes, ends, written, At}

-- a desk that is not served aloud prints no answers
unfoldable pub said : Bool → List ℕ → List ℕ
said aloud bytes = elim aloud [ true ↦ bytes | false ↦ [] ]

-- the lines that answer a text; a line that has not ended is not answered
unfoldable pub answers : Going → List ℕ → List ℕ
answers g t = (goes (written g) t).printed

-- the lines that answer a text where the input ends after it
unfoldable pub all_answers : Going → List ℕ → List ℕ
all_answers g t = (ends (goes (written g) t)).printed

-- a text was read and answered; the input had the bytes r and has r' left, the output had w and has w'
pub record Heard (r r' w w' : Option (List ℕ)) (aloud : Bool) (g : Going) (m : Memories) (line out : List ℕ) (n : ℕ) : Type 0 where
  pub text : List ℕ
  pub read : Consumes r r' text
  pub printed : Appends w w' (said aloud (answers g text))
  pub on : At (written (goes g text)) m line out n 0

-- the input was read to its end, and all of it answered
pub record Told (r r' w w' : Option (List ℕ)) (aloud : Bool) (g : Going) (m : Memories) : Type 0 where
  pub text : List ℕ
  pub read : Consumes r r' text
  pub end : IsAtEnd r'
  pub printed : Appends w w' (said aloud (all_answers g text))
  pub stands : StandsFor m (ends (goes g text)).desk (ends (goes g text)).alloc
