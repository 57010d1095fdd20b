-- `export::here::found_here` meets its contract: each test in its turn. Assumes nothing.
use Rattle.export.proofs.here.Tests.{here_unserved, here_unclear, here_outside, here_end, here_separator, here_byte}
use Rattle.export.proofs.here.found_here.Goals as goal

pub returns-then-reader-edition : goal.returns-then-reader-edition
returns-then-reader-edition c = let a = c.args in here_unserved a.reader a.state.now a.s.now c.if-reader-edition.true

pub returns-then-alone-fit : goal.returns-then-alone-fit
returns-then-alone-fit c =
    let a = c.args in
    let own = rw c.format_in-format.ensures at c.own_bits.ensures in
    here_unclear a.reader a.state.now a.s.now c.if-reader-edition.false own.small _ _
    (rw (c.own_flags.ensures, own.shifted) at c.is_consecutive_alone-alone.ensures) c.counts_fit-fit.ensures c.if-alone-fit.true

pub returns-then-s-at : goal.returns-then-s-at
returns-then-s-at c =
    let a = c.args in
    let own = rw c.format_in-format.ensures at c.own_bits.ensures in
    here_outside a.reader a.state.now a.s.now c.if-reader-edition.false own.small _ _
    (rw (c.own_flags.ensures, own.shifted) at c.is_consecutive_alone-alone.ensures) c.counts_fit-fit.ensures c.if-alone-fit.false c.if-s-at.true

pub returns-then-s-at-2 : goal.returns-then-s-at-2
returns-then-s-at-2 c =
    let a = c.args in
    let own = rw c.format_in-format.ensures at c.own_bits.ensures in
    here_end a.reader a.state.now a.s.now c.if-reader-edition.false own.small _ _
    (rw (c.own_flags.ensures, own.shifted) at c.is_consecutive_alone-alone.ensures) c.counts_fit-fit.ensures c.if-alone-fit.false c.if-s-at.false c.if-s-at-2.true

pub returns-then-separates : goal.returns-then-separates
returns-then-separates c =
    let a = c.args in
    let own = rw c.format_in-format.ensures at c.own_bits.ensures in
    here_separator a.reader a.state.now a.s.now c.if-reader-edition.false own.small _ _
    (rw (c.own_flags.ensures, own.shifted) at c.is_consecutive_alone-alone.ensures) c.counts_fit-fit.ensures c.if-alone-fit.false c.if-s-at.false c.if-s-at-2.false
    (rw (c.digit_separator-separator.ensures, c.format_in-format.ensures) at c.if-separates.true)

pub returns : goal.returns
returns c =
    let a = c.args in
    let own = rw c.format_in-format.ensures at c.own_bits.ensures in
    here_byte a.reader a.state.now a.s.now c.if-reader-edition.false own.small _ _
    (rw (c.own_flags.ensures, own.shifted) at c.is_consecutive_alone-alone.ensures) c.counts_fit-fit.ensures c.if-alone-fit.false c.if-s-at.false c.if-s-at-2.false
    (rw (c.digit_separator-separator.ensures, c.format_in-format.ensures) at c.if-separates.false)
