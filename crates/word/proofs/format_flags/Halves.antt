-- A field of the 128-bit word, at any position and width, is the field of the half that it lies in: for `low_bits` and `byte_at`.
-- Assumes nothing.
use Rattle.std.proofs.Common.{◌≡◌, ℕ, ◌+◌, ◌-◌, ◌*◌, ◌/◌, ◌%◌, ◌^◌, ◌<◌, ◌≤◌, sym, ap, ◌∙◌, arith}
use lib.Pow as pow
use Rattle.word.specs.declared.format_flags.Format.{Format}
use Rattle.word.specs.Bits.{bits}
use Rattle.word.specs.Word.{word, field}

-- of a number below 2 ^ total, the bits that end by `total` are those of the number with more put on top
pub bits_below : (n total shift width : ℕ) → shift + width ≤ total → bits (n % 2 ^ total) shift width ≡ bits n shift width
bits_below n total shift width fits =
    let e : (total - (width + shift)) + (width + shift) ≡ total = omega arith in
    sym (pow.field (n % 2 ^ total) width shift)
    ∙ ap (λ (x : ℕ). x / 2 ^ shift) (rw (sym e) (pow.mod-mod-pow n (total - (width + shift)) (width + shift)))
    ∙ pow.field n width shift

pub low_half : (f : Format) (shift width : ℕ) → f.lo < 2 ^ 64 → shift + width ≤ 64 → bits f.lo shift width ≡ field f shift width
unfolding word field
low_half f shift width small fits =
    ap (λ (x : ℕ). bits x shift width) (sym (pow.low f.hi 64 small)) ∙ bits_below (f.hi * 2 ^ 64 + f.lo) 64 shift width fits

pub high_half : (f : Format) (shift width : ℕ) → f.lo < 2 ^ 64 → 64 ≤ shift → bits f.hi (shift - 64) width ≡ field f shift width
unfolding word field
high_half f shift width small above =
    let e : 64 + (shift - 64) ≡ shift = omega arith in
    ap (λ (x : ℕ). bits x (shift - 64) width) (sym (pow.high f.hi 64 small))
    ∙ ap (λ (x : ℕ). x % 2 ^ width) (pow.shr-shr (f.hi * 2 ^ 64 + f.lo) 64 (shift - 64) ∙ ap (λ (k : ℕ). (f.hi * 2 ^ 64 + f.lo) / 2 ^ k) e)
