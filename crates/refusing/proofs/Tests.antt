-- A test that a function made, by its contract.
use mathlib.Core.Path.{◌≡◌, sym, ◌∙◌}
use mathlib.Core.Bool.{Bool, true, false}

pub held : {t x : Bool} → t ≡ x → t ≡ true → x ≡ true
held e k = sym e ∙ k

pub failed : {t x : Bool} → t ≡ x → t ≡ false → x ≡ false
failed e k = sym e ∙ k
