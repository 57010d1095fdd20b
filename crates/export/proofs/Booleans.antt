-- Of two tests that fail together, each fails: for the quick ways. Assumes nothing.
use mathlib.Core.Path.{◌≡◌, refl}
use mathlib.Core.Bool.{Bool, true, false, ◌||◌}

pub left_fails : (a b : Bool) → (a || b) ≡ false → a ≡ false
left_fails false b e = refl
left_fails true b e = e

pub right_fails : (a b : Bool) → (a || b) ≡ false → b ≡ false
right_fails false b e = e
right_fails true b e = cc
