-- The formulas of a rule: its entries, "in postfix order", read with a stack of formulas, the top first.
use Rattle.std.specs.Prelude.{ℕ, zero, suc, ◌+◌, cond, ◌&&◌, List, [], ◌∷◌, ◌++◌, reverse, leb, eqb, length, get_or, take}
use Rattle.std.proofs.Math.Option.{Option, none, some}
use Rattle.mtl.specs.Formula.{Formula}
use Rattle.mtl.specs.Formula.Formula.{letter, not, or, previous, next, since, until}
use Rattle.rule.specs.declared.Entry.{Entry}

-- an operator with one operand, put on the stack in its place; none where the operand is lacking
abbrev pub unary : (Formula → Formula) → List Formula → Option (List Formula)
unary f [] = none
unary f (φ ∷ stack) = some (f φ ∷ stack)

-- an operator with two, "left then right": the right one stands on top
abbrev pub binary : (Formula → Formula → Formula) → List Formula → Option (List Formula)
binary f [] = none
binary f (ψ ∷ []) = none
binary f (ψ ∷ (φ ∷ stack)) = some (f φ ψ ∷ stack)

-- The table of kinds: the stack after an entry of a kind from 0 to 6. There is no kind above.
unfoldable pub push_kind : ℕ → Entry → List Formula → Option (List Formula)
push_kind zero e stack = some (letter e.letter ∷ stack)
push_kind (suc zero) e stack = unary not stack
push_kind (suc (suc zero)) e stack = binary or stack
push_kind (suc (suc (suc zero))) e stack = unary (previous e.low e.high) stack
push_kind (suc (suc (suc (suc zero)))) e stack = unary (next e.low e.high) stack
push_kind (suc (suc (suc (suc (suc zero))))) e stack = binary (since e.low e.high) stack
push_kind (suc (suc (suc (suc (suc (suc zero)))))) e stack = binary (until e.low e.high) stack
push_kind (suc (suc (suc (suc (suc (suc (suc above))))))) e stack = none

-- the stack after one entry more
abbrev pub push : Entry → Option (List Formula) → Option (List Formula)
push e none = none
push e (some stack) = push_kind e.kind e stack

-- the stack after these entries, in their order, from this stack on; none once an entry lacks an operand
unfoldable pub read : List Entry → Option (List Formula) → Option (List Formula)
read [] stack = stack
read (e ∷ rest) stack = read rest (push e stack)

-- the stack after the first n entries
abbrev pub stack_after : List Entry → ℕ → Option (List Formula)
stack_after t n = read (take n t) (some [])

-- How many formulas a rule leaves, at least and at most: of version 1 one, or none where it has no entry, "a count of 0 now means that
-- every position is yes"; "Rule version 2 leaves one to eight formulas".
abbrev pub fewest_formulas : (version : ℕ) → ℕ
fewest_formulas version = cond (eqb version 1) 0 1

abbrev pub most_formulas : (version : ℕ) → ℕ
most_formulas version = cond (eqb version 1) 1 8

-- The formulas that are left, in the order of the rule, the bottom of the stack first: none where "some entry lacks an operand", or
-- where there are too few or too many.
abbrev pub left_by : (version : ℕ) → Option (List Formula) → Option (List Formula)
left_by version none = none
left_by version (some stack) =
    cond (leb (fewest_formulas version) (length stack) && leb (length stack) (most_formulas version)) (some (reverse stack)) none

-- the formulas of the first n entries
abbrev pub formulas : (version : ℕ) → List Entry → ℕ → Option (List Formula)
formulas version t n = left_by version (stack_after t n)

-- the formulas of an accepted rule; what stands here for a refused rule is used by nothing
abbrev pub formulas_or : Option (List Formula) → List Formula
formulas_or none = []
formulas_or (some fs) = fs

-- the entry of a formula's outermost operator: "an unused field is zero"
abbrev pub root : Formula → Entry
root (letter k) = record { kind = 0; letter = k; low = 0; high = 0 }
root (not φ) = record { kind = 1; letter = 0; low = 0; high = 0 }
root (or φ ψ) = record { kind = 2; letter = 0; low = 0; high = 0 }
root (previous low high φ) = record { kind = 3; letter = 0; low = low; high = high }
root (next low high φ) = record { kind = 4; letter = 0; low = low; high = high }
root (since low high φ ψ) = record { kind = 5; letter = 0; low = low; high = high }
root (until low high φ ψ) = record { kind = 6; letter = 0; low = low; high = high }

-- the other way: a formula's entries in postfix order
unfoldable pub postfix : Formula → List Entry
postfix (letter k) = root (letter k) ∷ []
postfix (not φ) = postfix φ ++ (root (not φ) ∷ [])
postfix (or φ ψ) = postfix φ ++ postfix ψ ++ (root (or φ ψ) ∷ [])
postfix (previous low high φ) = postfix φ ++ (root (previous low high φ) ∷ [])
postfix (next low high φ) = postfix φ ++ (root (next low high φ) ∷ [])
postfix (since low high φ ψ) = postfix φ ++ postfix ψ ++ (root (since low high φ ψ) ∷ [])
postfix (until low high φ ψ) = postfix φ ++ postfix ψ ++ (root (until low high φ ψ) ∷ [])

-- the entries of a list of formulas, one after the other
unfoldable pub postfixes : List Formula → List Entry
postfixes [] = []
postfixes (φ ∷ fs) = postfix φ ++ postfixes fs

-- the number of a formula's entries
unfoldable pub size : Formula → ℕ
size (letter k) = 1
size (not φ) = size φ + 1
size (or φ ψ) = size φ + size ψ + 1
size (previous low high φ) = size φ + 1
size (next low high φ) = size φ + 1
size (since low high φ ψ) = size φ + size ψ + 1
size (until low high φ ψ) = size φ + size ψ + 1

-- formula k of a list; what stands here behind the last is used by nothing
abbrev pub formula : List Formula → ℕ → Formula
formula fs k = get_or fs k (letter 0)

-- the number of entries before those of formula k
unfoldable pub start : List Formula → ℕ → ℕ
start fs zero = 0
start fs (suc k) = start fs k + size (formula fs k)
