-- `word::not_feature_format::format_error_impl` meets its contract: it stops at the first group of lines with a failing one.
-- Assumes nothing.
use Rattle.std.proofs.Common.{ℕ, List, [], ◌∷◌, ◌++◌}
use Rattle.word.specs.declared.format_flags.Format.{Format}
use Rattle.word.specs.Check.{line, plain_flags, radix_lines, plain_control_lines, plain_check}
use Rattle.word.proofs.Lines.{line_first, stops, goes_on}
use Rattle.word.proofs.not_feature_format.format_error_impl.Goals as goal

after_control : Format → List ℕ
after_control f = line 15 (plain_flags f) ∷ []

after_radix : Format → List ℕ
after_radix f = plain_control_lines f ++ after_control f

pub returns-then-not-radix_holds : goal.returns-then-not-radix_holds
unfolding plain_check after_radix after_control
returns-then-not-radix_holds c =
    let f = c.args.format in
    stops _ _ (radix_lines f) (after_radix f) c.radix_error_impl-radix.ensures c.is_success-radix_holds.ensures c.if-not-radix_holds.true

pub returns-then-not-control_holds : goal.returns-then-not-control_holds
unfolding plain_check after_radix after_control
returns-then-not-control_holds c =
    let f = c.args.format in
    goes_on _ _ (radix_lines f) (after_radix f) c.radix_error_impl-radix.ensures c.is_success-radix_holds.ensures _ c.if-not-radix_holds.false
    (stops _ _ (plain_control_lines f) (after_control f) c.control_error-control.ensures c.is_success-control_holds.ensures c.if-not-control_holds.true)

pub returns : goal.returns
unfolding plain_check after_radix after_control
returns c =
    let f = c.args.format in
    goes_on _ _ (radix_lines f) (after_radix f) c.radix_error_impl-radix.ensures c.is_success-radix_holds.ensures _ c.if-not-radix_holds.false
    (goes_on _ _ (plain_control_lines f) (after_control f) c.control_error-control.ensures c.is_success-control_holds.ensures _ c.if-not-control_holds.false
    (rw (line_first 14, c.line.ensures, c.has_valid_flags.ensures)))
