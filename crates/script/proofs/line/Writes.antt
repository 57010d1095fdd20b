-- Writing bytes behind others (`Wrote`), one after the other: for every function that writes. Assumes nothing.
use mathlib.Core.Path.{◌≡◌, refl, ◌∙◌, ap}
use mathlib.Core.List.{List, [], ◌∷◌, ◌++◌, append_assoc, append-nil}
use Prim.Native.Nat.{ℕ, ◌+◌, ◌≤◌, ◌<◌}
use native.Mathlib.Omega.{arith}
use native.Mathlib.Numerals.{add-one}
use lib.ListN.{length, take, set, length-append, length-set, length-take}
use lib.Seq.{take-suc-set}
use Rattle.script.specs.Line.{Wrote}

pub wrote_byte : (out : List ℕ) (at b : ℕ) → at < length out → Wrote out at (b ∷ []) (set out at b) (at + 1)
wrote_byte out at b inside =
    record { size = simp length-set; place = refl; contents = rw (add-one, take-suc-set out at b inside) }

pub wrote_nothing : (out : List ℕ) (at : ℕ) → Wrote out at [] out at
wrote_nothing out at = record { size = refl; place = omega arith; contents = simp append-nil }

pub wrote_then : {before middle after : List ℕ} {at between end : ℕ} {first second : List ℕ}
    → Wrote before at first middle between → Wrote middle between second after end → Wrote before at (first ++ second) after end
wrote_then {at = at} {first = first} {second = second} w v =
    record {
      size = v.size ∙ w.size;
      place = simp length-append (omega (arith, v.place, w.place));
      contents = rw (v.contents, w.contents, append_assoc);
    }

-- the same bytes and the same end, said otherwise
pub wrote_as : {before after : List ℕ} {at end end' : ℕ} {bytes bytes' : List ℕ}
    → Wrote before at bytes after end → bytes ≡ bytes' → end ≡ end' → Wrote before at bytes' after end'
wrote_as w e f = rw (← e, ← f) w

pub wrote_inside : {before after bytes : List ℕ} {at end : ℕ} → at ≤ length before → Wrote before at bytes after end → end ≤ length after
wrote_inside {before = before} {after = after} {bytes = bytes} {at = at} {end = end} inside w =
    let sizes : length (take end after) ≡ length (take at before ++ bytes) = ap length w.contents in
    omega (arith, simp (length-take, length-append) at sizes, w.place, inside)
