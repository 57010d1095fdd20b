-- A theorem: line 7 of the full check cannot arise in the plain one (document 01, "Without separators"). The crate's plain check
-- tests it after line 6, and the answer is the same without it. Assumes nothing.
use Rattle.std.proofs.Common.{◌≡◌, ℕ, Bool, true, false, ◌&&◌, ◌||◌, List, [], ◌∷◌, ◌++◌, refl}
use Rattle.word.specs.declared.format_flags.Format.{Format}
use Rattle.word.specs.Check.{line, first_failing, valid_punctuation, radix_lines, plain_control_lines, plain_flags, plain_check}
use Rattle.word.proofs.Lines.{joined}

-- the lines in the crate's order
abbrev pub plain_check_with_line7 : Format → ℕ
plain_check_with_line7 f =
    first_failing (radix_lines f ++ (plain_control_lines f ++ (line 7 (valid_punctuation f) ∷ line 15 (plain_flags f) ∷ [])))

-- lines 4 to 6 with any tests s, p and x of the three bytes, then line 7, which holds where two of the tests do or where e does
idle : (s p x e : Bool) (rest : List ℕ)
    → first_failing (line 4 s ∷ line 5 p ∷ line 6 x ∷ line 7 ((s && p) || (s && x) || (p && x) || e) ∷ rest)
    ≡ first_failing (line 4 s ∷ line 5 p ∷ line 6 x ∷ rest)
idle false p x e rest = refl
idle true false x e rest = refl
idle true true false e rest = refl
idle true true true e rest = refl

pub line_7_cannot_arise : (f : Format) → plain_check_with_line7 f ≡ plain_check f
unfolding plain_check plain_control_lines valid_punctuation
line_7_cannot_arise f =
    let rest = line 15 (plain_flags f) ∷ [] in
    rw (joined (radix_lines f) (plain_control_lines f ++ (line 7 (valid_punctuation f) ∷ rest)), joined (radix_lines f) (plain_control_lines f ++ rest), idle)
