-- A recorded call is that of the definition, from what `repeat` took out of its numbers. Assumes nothing.
use Prim.Native.Nat.{ℕ, ◌-◌, ◌≤◌, ◌<◌}
use mathlib.Core.Path.{◌≡◌, refl, ◌∙◌, ap}
use mathlib.Core.List.{List, [], ◌∷◌}
use native.Mathlib.Omega.{arith}
use lib.ListN.{length, take, get_or}
use borrow.Author.Tests.{le-leb, lt-leb}
use Rattle.word.specs.declared.format_flags.Format.{Format}
use Rattle.reader.specs.declared.state.Reader.{Reader}
use Rattle.reader.specs.declared.state.State.{State}
use Rattle.reader.specs.State.{reader_named}
use Rattle.std.specs.Prelude.{Option, Some, None}
use Rattle.std.specs.Int.{w64, to_le_bytes, to_be_bytes}
use Rattle.std.proofs.Math.Nat.{div-one}
use Rattle.vectors.specs.Packed.{byte_of}
use Rattle.vectors.specs.Call.{buffer_of, state_of, answer_to, asked_of, repeated_of}

-- a number's bytes, the lowest first, and the highest first
pub lowest_first : (n : ℕ) → to_le_bytes w64 n ≡ buffer_of n
unfolding buffer_of byte_of
lowest_first n = rw div-one

abbrev pub all_of : ℕ → List ℕ
all_of n = byte_of n 0 ∷ byte_of n 1 ∷ byte_of n 2 ∷ byte_of n 3 ∷ byte_of n 4 ∷ byte_of n 5 ∷ byte_of n 6 ∷ byte_of n 7 ∷ []

highest_first : (n : ℕ) → to_be_bytes w64 n ≡ all_of n
unfolding byte_of
highest_first n = rw div-one

pub high : (bytes : List ℕ) (n i : ℕ) → bytes ≡ to_be_bytes w64 n → get_or bytes i 0 ≡ get_or (all_of n) i 0
high bytes n i is = ap (λ l. get_or l i 0) (is ∙ highest_first n)

buffer_length : (bytes : ℕ) → length (buffer_of bytes) ≡ 8
unfolding buffer_of
buffer_length bytes = refl

pub eight_bytes : (buffer : List ℕ) (n : ℕ) → buffer ≡ to_le_bytes w64 n → length buffer ≡ 8
eight_bytes buffer n is = ap length (is ∙ lowest_first n) ∙ buffer_length n

module _ (what bytes : ℕ) (f : Format) (buffer : List ℕ) (end : ℕ) (to : end ≡ byte_of what 2) where
  pub same_call : buffer ≡ buffer_of bytes → (r : Reader) (answer : Option ℕ) (kind value : ℕ) (st : State)
      → kind ≡ byte_of what 0 → value ≡ byte_of what 7 → st ≡ state_of what f
      → answer ≡ answer_to kind (take (end - 0) buffer) st r value → answer ≡ asked_of what f bytes r
  unfolding state_of
  same_call is r answer kind value st k v s known =
      let whole : end - 0 ≡ end = omega arith in known ∙ rw (k, v, s, whole, is, to)

  module _ (size : length buffer ≡ 8) where
    pub too_long : length buffer < end → None ≡ repeated_of what f bytes
    unfolding repeated_of
    too_long past =
        let long : 8 < byte_of what 2 = omega (arith, past, size, to) in
        rw (lt-leb (byte_of what 2) 8 long)

    module _ (within : end ≤ length buffer) (n : ℕ) (who : Option Reader) (by : n ≡ byte_of what 1) (named : reader_named n ≡ who) where
      short : byte_of what 2 ≤ 8
      short = omega (arith, within, size, to)

      pub no_reader : who ≡ None → None ≡ repeated_of what f bytes
      unfolding repeated_of
      no_reader e = rw (le-leb (byte_of what 2) 8 short, ← by, named, e)

      pub asked : (r : Reader) (answer : Option ℕ) → who ≡ Some r → answer ≡ asked_of what f bytes r → answer ≡ repeated_of what f bytes
      unfolding repeated_of
      asked r answer e known = rw (le-leb (byte_of what 2) 8 short, ← by, named, e) known
