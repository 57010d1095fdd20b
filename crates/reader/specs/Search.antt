-- The search for the end of a run of separators, with the steps that it counts (document 02, 2026-02). Assumes nothing.
use Rattle.std.specs.Prelude.{ℕ, ◌+◌, ◌/◌, ◌%◌, List, drop}
use Rattle.reader.specs.declared.search.RunSearch.{RunSearch}
use Rattle.reader.specs.Place.{separator_run}

-- "over k separators exactly k/8, rounded down, over eight bytes and the rest over one"
abbrev pub search_over : ℕ → ℕ → RunSearch
search_over at k = record { end = at + k; eights = k / 8; ones = k % 8 }

-- from a place on: with separator 0, and where no byte is left, there are none
abbrev pub run_search_of : ℕ → List ℕ → ℕ → RunSearch
run_search_of separator s at = search_over at (separator_run separator (drop at s))
