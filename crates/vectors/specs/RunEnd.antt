-- A recorded search for the end of a run: what its packed numbers ask, and how the answer is packed. Assumes nothing.
use Rattle.std.specs.Prelude.{ℕ, cond, List, [], ◌∷◌, ◌++◌, nat_le, take, slice_index, Option, None, Some}
use Rattle.reader.specs.declared.search.RunSearch.{RunSearch}
use Rattle.reader.specs.Search.{run_search_of}
use Rattle.vectors.specs.Packed.{byte_of, all_behind}
use Rattle.vectors.specs.Call.{buffer_of}

-- The buffer: up to forty bytes, those of five numbers one behind the other.
abbrev pub eight_of : List ℕ → ℕ → List ℕ
eight_of numbers i = buffer_of (slice_index numbers i)

unfoldable pub long_buffer_of : List ℕ → List ℕ
long_buffer_of numbers = eight_of numbers 0 ++ eight_of numbers 1 ++ eight_of numbers 2 ++ eight_of numbers 3 ++ eight_of numbers 4

-- The answer: the end, the steps over eight bytes, the steps over one, and zeros.
unfoldable pub packed_search : RunSearch → ℕ
packed_search found = all_behind 0 (found.end ∷ found.eights ∷ found.ones ∷ 0 ∷ 0 ∷ 0 ∷ 0 ∷ 0 ∷ [])

-- The bytes of `what`: the separator, the buffer's length, and the place that the search begins at. No search where the buffer is
-- longer than forty bytes.
unfoldable pub searched_of : ℕ → List ℕ → Option ℕ
searched_of what numbers =
    cond (nat_le (byte_of what 1) 40)
    (Some (packed_search (run_search_of (byte_of what 0) (take (byte_of what 1) (long_buffer_of numbers)) (byte_of what 2))))
    None
