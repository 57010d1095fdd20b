-- A chunk of the input taken in byte by byte, for `take_in`. Assumes nothing.
use Rattle.std.proofs.Common.{◌≡◌, ℕ, ◌+◌, ◌≤◌, ◌<◌, List, length, drop, get_or, add-one, drop-cons}
use lib.ListN.{drop_of_length-le}
use Rattle.vectors.specs.declared.lines.Progress.{Progress}
use Rattle.vectors.specs.Lines.{byte_taken, all_taken}

module _ {ROOM : ℕ} (chunk : List ℕ) (i : ℕ) (p : Progress ROOM) where
  pub one_taken : (after : Progress ROOM) → i < length chunk → after ≡ byte_taken (get_or chunk i 0) p
      → all_taken (drop i chunk) p ≡ all_taken (drop (i + 1) chunk) after
  unfolding all_taken
  one_taken after inside is = rw (add-one, drop-cons chunk i 0 inside, is)

  pub all_taken_lem : length chunk ≤ i → all_taken (drop i chunk) p ≡ p
  unfolding all_taken
  all_taken_lem end = rw (drop_of_length-le chunk end)
