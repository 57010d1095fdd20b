-- `reader::rule::rule_word` meets its contract: each arm has the entry of its own cell, and the last is left for cell 31. Assumes nothing.
use Rattle.std.proofs.Common.{ℕ, Bool, arith}
use Rattle.word.specs.Bits.{bit}
use Rattle.reader.specs.Rule.{rule_of}
use Rattle.reader.proofs.rule.Table.{every, every_cell, every_pair, is_entry, entry_holds}
use Rattle.reader.proofs.rule.rule_word.Goals as goal

-- the test of an entry, with all that it computes through
entry_test : ℕ → ℕ → Bool
unfolding every every_cell every_pair is_entry rule_of bit
entry_test = is_entry

pub returns-in-0 : goal.returns-in-0
returns-in-0 c = unfold entry_test in entry_holds 0 _ tt c.in-0.is

pub returns-in-1 : goal.returns-in-1
returns-in-1 c = unfold entry_test in entry_holds 1 _ tt c.in-1.is

pub returns-in-2 : goal.returns-in-2
returns-in-2 c = unfold entry_test in entry_holds 2 _ tt c.in-2.is

pub returns-in-3 : goal.returns-in-3
returns-in-3 c = unfold entry_test in entry_holds 3 _ tt c.in-3.is

pub returns-in-4 : goal.returns-in-4
returns-in-4 c = unfold entry_test in entry_holds 4 _ tt c.in-4.is

pub returns-in-5 : goal.returns-in-5
returns-in-5 c = unfold entry_test in entry_holds 5 _ tt c.in-5.is

pub returns-in-6 : goal.returns-in-6
returns-in-6 c = unfold entry_test in entry_holds 6 _ tt c.in-6.is

pub returns-in-7 : goal.returns-in-7
returns-in-7 c = unfold entry_test in entry_holds 7 _ tt c.in-7.is

pub returns-in-8 : goal.returns-in-8
returns-in-8 c = unfold entry_test in entry_holds 8 _ tt c.in-8.is

pub returns-in-9 : goal.returns-in-9
returns-in-9 c = unfold entry_test in entry_holds 9 _ tt c.in-9.is

pub returns-in-10 : goal.returns-in-10
returns-in-10 c = unfold entry_test in entry_holds 10 _ tt c.in-10.is

pub returns-in-11 : goal.returns-in-11
returns-in-11 c = unfold entry_test in entry_holds 11 _ tt c.in-11.is

pub returns-in-12 : goal.returns-in-12
returns-in-12 c = unfold entry_test in entry_holds 12 _ tt c.in-12.is

pub returns-in-13 : goal.returns-in-13
returns-in-13 c = unfold entry_test in entry_holds 13 _ tt c.in-13.is

pub returns-in-14 : goal.returns-in-14
returns-in-14 c = unfold entry_test in entry_holds 14 _ tt c.in-14.is

pub returns-in-15 : goal.returns-in-15
returns-in-15 c = unfold entry_test in entry_holds 15 _ tt c.in-15.is

pub returns-in-16 : goal.returns-in-16
returns-in-16 c = unfold entry_test in entry_holds 16 _ tt c.in-16.is

pub returns-in-17 : goal.returns-in-17
returns-in-17 c = unfold entry_test in entry_holds 17 _ tt c.in-17.is

pub returns-in-18 : goal.returns-in-18
returns-in-18 c = unfold entry_test in entry_holds 18 _ tt c.in-18.is

pub returns-in-19 : goal.returns-in-19
returns-in-19 c = unfold entry_test in entry_holds 19 _ tt c.in-19.is

pub returns-in-20 : goal.returns-in-20
returns-in-20 c = unfold entry_test in entry_holds 20 _ tt c.in-20.is

pub returns-in-21 : goal.returns-in-21
returns-in-21 c = unfold entry_test in entry_holds 21 _ tt c.in-21.is

pub returns-in-22 : goal.returns-in-22
returns-in-22 c = unfold entry_test in entry_holds 22 _ tt c.in-22.is

pub returns-in-23 : goal.returns-in-23
returns-in-23 c = unfold entry_test in entry_holds 23 _ tt c.in-23.is

pub returns-in-24 : goal.returns-in-24
returns-in-24 c = unfold entry_test in entry_holds 24 _ tt c.in-24.is

pub returns-in-25 : goal.returns-in-25
returns-in-25 c = unfold entry_test in entry_holds 25 _ tt c.in-25.is

pub returns-in-26 : goal.returns-in-26
returns-in-26 c = unfold entry_test in entry_holds 26 _ tt c.in-26.is

pub returns-in-27 : goal.returns-in-27
returns-in-27 c = unfold entry_test in entry_holds 27 _ tt c.in-27.is

pub returns-in-28 : goal.returns-in-28
returns-in-28 c = unfold entry_test in entry_holds 28 _ tt c.in-28.is

pub returns-in-29 : goal.returns-in-29
returns-in-29 c = unfold entry_test in entry_holds 29 _ tt c.in-29.is

pub returns-in-30 : goal.returns-in-30
returns-in-30 c = unfold entry_test in entry_holds 30 _ tt c.in-30.is

pub returns-in_default : goal.returns-in_default
returns-in_default c = unfold entry_test in entry_holds 31 _ tt (omega arith)
