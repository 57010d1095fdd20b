-- `word::feature_format::radix_error_impl` meets its contract, line by line. Assumes nothing.
use Rattle.std.proofs.Common.{sym}
use Rattle.word.specs.Check.{radix_lines}
use Rattle.word.proofs.Lines.{line_first}
use Rattle.word.proofs.feature_format.radix_error_impl.Goals as goal

pub returns-then-not-valid : goal.returns-then-not-valid
unfolding radix_lines
returns-then-not-valid c =
    rw (
      line_first 0,
      sym c.mantissa_radix.ensures,
      sym c.is_valid_radix-valid.ensures,
      c.if-not-valid.true,
    )

pub returns : goal.returns
unfolding radix_lines
returns c =
    rw (
      line_first 0,
      sym c.mantissa_radix.ensures,
      sym c.is_valid_radix-valid.ensures,
      c.if-not-valid.false,
      line_first 1,
      line_first 2,
    )
    (cc)
