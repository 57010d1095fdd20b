-- The source's tables hold what the definitions say, in every case: tests that antt computes, and the laws that they give: for the
-- functions of src/rule.rt. Assumes nothing.
use Rattle.std.proofs.Common.{◌≡◌, ℕ, ◌+◌, ◌*◌, Bool, true, false, cond, ◌&&◌, T, eqb, sym, refl, ◌∙◌, eq-eqb}
use mathlib.Core.Bool.{beq}
use Rattle.word.specs.Bits.{bit}
use Rattle.reader.specs.declared.rule.Flags.{Flags}
use Rattle.reader.specs.declared.rule.Wanted.{Wanted}
use Rattle.reader.specs.declared.rule.Neighbour.{Neighbour}
use Rattle.reader.specs.Rule.{rule_of, names_of}
use Rattle.reader.specs.Code.RuleWords.{cell_of, code_of}

pub same : (a b : Bool) → T (beq a b) → a ≡ b
same true true t = refl
same true false t = absurd t
same false true t = absurd t
same false false t = refl

left : (a b : Bool) → T (a && b) → T a
left true b t = tt
left false b t = t

right : (a b : Bool) → T (a && b) → T b
right true b t = t
right false b t = absurd t

-- a test passes for both Bools
unfoldable pub every : (Bool → Bool) → Bool
every test = test true && test false

bool_at : (test : Bool → Bool) → T (every test) → (b : Bool) → T (test b)
unfolding every
bool_at test t true = left (test true) (test false) t
bool_at test t false = right (test true) (test false) t

-- it passes for every cell of the table: four flags, and whether the reader's count is 0
unfoldable pub every_cell : (Flags → Bool → Bool) → Bool
every_cell test =
    every (λ i. every (λ l. every (λ t. every (λ c. every (λ is_first.
    test (record { internal = i; leading = l; trailing = t; consecutive = c }) is_first)))))

pub cell_at : (test : Flags → Bool → Bool) → T (every_cell test) → (flags : Flags) (is_first : Bool) → T (test flags is_first)
unfolding every_cell
cell_at test t flags is_first =
    bool_at _ (bool_at _ (bool_at _ (bool_at _ (bool_at _ t
    flags.internal) flags.leading) flags.trailing) flags.consecutive) is_first

-- it passes for every two neighbours
unfoldable pub every_pair : (Neighbour → Neighbour → Bool) → Bool
every_pair test =
    every (λ pe. every (λ pd. every (λ ps. every (λ ne. every (λ nd. every (λ ns.
    test (record { exists = pe; digit = pd; separator = ps }) (record { exists = ne; digit = nd; separator = ns })))))))

pub pair_at : (test : Neighbour → Neighbour → Bool) → T (every_pair test) → (p n : Neighbour) → T (test p n)
unfolding every_pair
pair_at test t p n =
    bool_at _ (bool_at _ (bool_at _ (bool_at _ (bool_at _ (bool_at _ t
    p.exists) p.digit) p.separator) n.exists) n.digit) n.separator

-- the entry of cell k: each bit is the rule's answer for two neighbours
unfoldable pub is_entry : ℕ → ℕ → Bool
is_entry k word =
    every_cell (λ flags is_first. cond (eqb (cell_of flags is_first) k)
    (every_pair (λ p n. beq (bit word (8 * code_of p + code_of n)) (rule_of flags is_first p n))) true)

pub entry_holds :
    (k word : ℕ) → T (is_entry k word) → {at : ℕ} → at ≡ k →
    (flags : Flags) (is_first : Bool) (p n : Neighbour) → at ≡ cell_of flags is_first →
    bit word (8 * code_of p + code_of n) ≡ rule_of flags is_first p n
unfolding is_entry
entry_holds k word t e flags is_first p n h =
    same _ _ (pair_at _ (rw (eq-eqb (cell_of flags is_first) k (sym h ∙ e)) at (cell_at _ t flags is_first)) p n)

-- two masks: the cells that name the previous neighbour, and those that name the next
abbrev named_by : ℕ → ℕ → Flags → Bool → Wanted
named_by previous next flags is_first =
    record { previous = bit previous (cell_of flags is_first); next = bit next (cell_of flags is_first) }

abbrev same_named : Wanted → Wanted → Bool
same_named a b = beq a.previous b.previous && beq a.next b.next

same_named_lem : (a b : Wanted) → T (same_named a b) → a ≡ b
same_named_lem a b t =
    let p = beq a.previous b.previous in
    let n = beq a.next b.next in
    λ i. record { previous = same a.previous b.previous (left p n t) i; next = same a.next b.next (right p n t) i }

unfoldable pub are_names : ℕ → ℕ → Bool
are_names previous next = every_cell (λ flags is_first. same_named (named_by previous next flags is_first) (names_of flags is_first))

pub names_hold :
    (previous next : ℕ) → T (are_names previous next) →
    (flags : Flags) (is_first : Bool) → named_by previous next flags is_first ≡ names_of flags is_first
unfolding are_names
names_hold previous next t flags is_first = same_named_lem _ _ (cell_at _ t flags is_first)
