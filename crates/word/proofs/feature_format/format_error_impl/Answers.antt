-- `word::feature_format::format_error_impl` meets its contract: it stops at the first group of lines with a failing one. Assumes nothing.
use Rattle.std.proofs.Common.{ℕ, List, ◌++◌}
use Rattle.word.specs.declared.format_flags.Format.{Format}
use Rattle.word.specs.Check.{radix_lines, control_lines, flag_lines, consecutive_lines, full_check}
use Rattle.word.proofs.Lines.{stops, goes_on}
use Rattle.word.proofs.feature_format.format_error_impl.Goals as goal

after_control : Format → List ℕ
after_control f = flag_lines f ++ consecutive_lines f

after_radix : Format → List ℕ
after_radix f = control_lines f ++ after_control f

pub returns-then-not-radix_holds : goal.returns-then-not-radix_holds
unfolding full_check after_radix after_control
returns-then-not-radix_holds c =
    let f = c.args.format in
    stops _ _ (radix_lines f) (after_radix f) c.radix_error_impl-radix.ensures c.is_success-radix_holds.ensures c.if-not-radix_holds.true

pub returns-then-not-control_holds : goal.returns-then-not-control_holds
unfolding full_check after_radix after_control
returns-then-not-control_holds c =
    let f = c.args.format in
    goes_on _ _ (radix_lines f) (after_radix f) c.radix_error_impl-radix.ensures c.is_success-radix_holds.ensures _ c.if-not-radix_holds.false
    (stops _ _ (control_lines f) (after_control f) c.control_error-control.ensures c.is_success-control_holds.ensures c.if-not-control_holds.true)

pub returns-then-not-flags_hold : goal.returns-then-not-flags_hold
unfolding full_check after_radix after_control
returns-then-not-flags_hold c =
    let f = c.args.format in
    goes_on _ _ (radix_lines f) (after_radix f) c.radix_error_impl-radix.ensures c.is_success-radix_holds.ensures _ c.if-not-radix_holds.false
    (goes_on _ _ (control_lines f) (after_control f) c.control_error-control.ensures c.is_success-control_holds.ensures _ c.if-not-control_holds.false
    (stops _ _ (flag_lines f) (consecutive_lines f) c.flag_error-flags.ensures c.is_success-flags_hold.ensures c.if-not-flags_hold.true))

pub returns : goal.returns
unfolding full_check after_radix after_control
returns c =
    let f = c.args.format in
    goes_on _ _ (radix_lines f) (after_radix f) c.radix_error_impl-radix.ensures c.is_success-radix_holds.ensures _ c.if-not-radix_holds.false
    (goes_on _ _ (control_lines f) (after_control f) c.control_error-control.ensures c.is_success-control_holds.ensures _ c.if-not-control_holds.false
    (goes_on _ _ (flag_lines f) (consecutive_lines f) c.flag_error-flags.ensures c.is_success-flags_hold.ensures _ c.if-not-flags_hold.false
    c.consecutive_error.ensures))
