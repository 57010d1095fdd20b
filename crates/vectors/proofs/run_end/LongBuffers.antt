-- The search in a long buffer, for `search_again`. Assumes nothing.
use Prim.Native.Nat.{ℕ, ◌-◌, ◌≤◌, ◌<◌}
use mathlib.Core.Path.{◌≡◌, refl, ◌∙◌, ap}
use mathlib.Core.List.{List}
use native.Mathlib.Omega.{arith}
use lib.ListN.{length, take}
use borrow.Author.Tests.{le-leb, lt-leb}
use Rattle.reader.specs.declared.search.RunSearch.{RunSearch}
use Rattle.reader.specs.Search.{run_search_of}
use Rattle.std.specs.Prelude.{None, Some}
use Rattle.vectors.specs.Packed.{byte_of}
use Rattle.vectors.specs.Call.{buffer_of}
use Rattle.vectors.specs.RunEnd.{long_buffer_of, packed_search, searched_of}

module _ (numbers : List ℕ) where
  forty_bytes : length (long_buffer_of numbers) ≡ 40
  unfolding buffer_of long_buffer_of
  forty_bytes = refl

module _ (what : ℕ) (numbers buffer : List ℕ) (end : ℕ) (is : buffer ≡ long_buffer_of numbers) (to : end ≡ byte_of what 1) where
  forty : length buffer ≡ 40
  forty = ap length is ∙ forty_bytes numbers

  pub too_long : length buffer < end → None ≡ searched_of what numbers
  unfolding searched_of
  too_long past =
      let long : 40 < byte_of what 1 = omega (arith, past, forty, to) in
      rw (lt-leb (byte_of what 1) 40 long)

  pub searched : (separator at answer : ℕ) (found : RunSearch)
      → end ≤ length buffer → separator ≡ byte_of what 0 → at ≡ byte_of what 2
      → found ≡ run_search_of separator (take (end - 0) buffer) at → answer ≡ packed_search found → Some answer ≡ searched_of what numbers
  unfolding searched_of
  searched separator at answer found within by from known packed =
      let short : byte_of what 1 ≤ 40 = omega (arith, within, forty, to) in
      let whole : end - 0 ≡ end = omega arith in
      rw (le-leb (byte_of what 1) 40 short) (ap Some (packed ∙ ap packed_search (known ∙ rw (whole, is, to, by, from))))
