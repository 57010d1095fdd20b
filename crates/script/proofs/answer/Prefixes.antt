-- What a whole record says, and the bytes behind it print, does not depend on what follows: for the loop over records. Assumes nothing.
use mathlib.Core.Path.{◌≡◌, refl}
use mathlib.Core.Bool.{Bool, true, false}
use mathlib.Core.List.{List, [], ◌∷◌, ◌++◌, append-nil}
use Prim.Native.Nat.{ℕ, zero, suc, ◌+◌, ◌≤◌, ◌<◌, min}
use native.Mathlib.Omega.{arith}
use borrow.Author.Tests.{ltb-true, ltb-false, le-ltb}
use Rattle.std.proofs.lemmas.List.{drop_min}
use Rattle.std.specs.Prelude.{Result, Ok, Err}
use lib.Dec.{ltb}
use lib.ListN.{length, drop, length-append, length-drop}
use lib.Seq.{take-append-le, drop-append-le}
use Rattle.script.specs.declared.record.Kind.{Kind}
use Rattle.script.specs.declared.record.Kind.TheVariants as kind
use Rattle.script.specs.declared.refusal.Refusal.{Refusal}
use Rattle.script.specs.Record.{kind_of, body_length, size_behind, number_at, whole_record, record_behind, record_at}
use Rattle.script.specs.Run.{Run}
use Rattle.script.specs.Script.{response_at, output_from}

number_append : (body rest : List ℕ) (place size : ℕ) → place + size ≤ length body → number_at (body ++ rest) place size ≡ number_at body place size
number_append body rest place size inside =
    let fits : size ≤ length (drop place body) = simp length-drop (omega (arith, inside)) in
    rw (drop-append-le place body rest (omega (arith, inside)), take-append-le size (drop place body) rest fits)

whole_append : (k : Kind) (body rest : List ℕ) → body_length k ≤ length body → whole_record k (body ++ rest) ≡ whole_record k body
whole_append kind.Text body rest whole = rw (number_append body rest 0 1 (omega (arith, whole)))
whole_append kind.Open body rest whole =
    rw (number_append body rest 0 8 (omega (arith, whole)), number_append body rest 8 8 (omega (arith, whole)))
whole_append kind.Peek body rest whole = rw (number_append body rest 0 1 (omega (arith, whole)))
whole_append kind.Take body rest whole = rw (number_append body rest 0 1 (omega (arith, whole)))
whole_append kind.Read body rest whole =
    rw (number_append body rest 0 1 (omega (arith, whole)), number_append body rest 1 1 (omega (arith, whole)))
whole_append kind.ZeroSkip body rest whole = rw (number_append body rest 0 1 (omega (arith, whole)))
whole_append kind.Block body rest whole =
    rw (number_append body rest 0 1 (omega (arith, whole)), number_append body rest 1 4 (omega (arith, whole)))

behind_append : (k : Result Kind Refusal) (body rest : List ℕ) → size_behind k ≤ length body → record_behind k (body ++ rest) ≡ record_behind k body
behind_append (Err refused) body rest whole = refl
behind_append (Ok k) body rest whole =
    let longer : body_length k ≤ length (body ++ rest) = simp length-append (omega (arith, whole)) in
    rw (le-ltb (length (body ++ rest)) (body_length k) longer, le-ltb (length body) (body_length k) whole, whole_append k body rest whole)

record_append : (n : ℕ) (body rest : List ℕ) → size_behind (kind_of n) ≤ length body → record_at n (body ++ rest) ≡ record_at n body
unfolding record_at
record_append n body rest whole = behind_append (kind_of n) body rest whole

-- the same of a record that is cut short, where nothing follows
pub response_append : (run : Run) (n : ℕ) (body rest : List ℕ) → (length body < size_behind (kind_of n) → rest ≡ [])
    → response_at run n (body ++ rest) ≡ response_at run n body
unfolding response_at
response_append run n body rest ends = go (ltb (length body) (size_behind (kind_of n))) refl where
  go : (b : Bool) → ltb (length body) (size_behind (kind_of n)) ≡ b → response_at run n (body ++ rest) ≡ response_at run n body
  go true e = rw (ends (ltb-true _ _ e), append-nil)
  go false e = rw (record_append n body rest (omega (arith, ltb-false (length body) (size_behind (kind_of n)) e)))

-- the bytes of a body are passed over, as many as there are
behind_body : (body rest : List ℕ) (size : ℕ) (run : Run) → (length body < size → rest ≡ [])
    → output_from (body ++ rest) size run ≡ output_from (drop size body ++ rest) 0 run
behind_body [] rest zero run ends = refl
behind_body [] rest (suc k) run ends = rw (ends (omega arith))
behind_body (b ∷ body) rest zero run ends = refl
behind_body (b ∷ body) rest (suc k) run ends = behind_body body rest k run (λ less. ends (omega (arith, less)))

-- one record, and what follows it
pub turn : (n : ℕ) (body rest : List ℕ) (run : Run) → (length body < size_behind (kind_of n) → rest ≡ [])
    → output_from (n ∷ (body ++ rest)) 0 run
    ≡ (response_at run n body).line ++ output_from (drop (min (size_behind (kind_of n)) (length body)) body ++ rest) 0 (response_at run n body).run
turn n body rest run ends =
    rw (response_append run n body rest ends, behind_body body rest (size_behind (kind_of n)) (response_at run n body).run ends, drop_min (size_behind (kind_of n)) body)
