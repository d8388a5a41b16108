-- The bytes of a text that a definition has in quotes.
use Rattle.std.specs.Prelude.{ℕ, List, [], ◌∷◌}
use Prim.Native.Char.{code}
use Prim.Native.String.{String}
use Prim.Native.String as string

unfoldable pub spell : String → List ℕ
spell string.[] = []
spell (string.◌∷◌ c s) = code c ∷ spell s
