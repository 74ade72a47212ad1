-- The entries of a rule, as they stand in its bytes.
use Rattle.std.specs.Prelude.{ℕ, zero, suc, ◌+◌, ◌*◌, List, [], ◌∷◌, ◌++◌, get_or, take}
use Rattle.rule.specs.declared.Entry.{Entry}
use Rattle.rule.specs.Bytes.{byte, word16, word32}

-- "then a 16-bit version", after the mark: 1, or since document 02, paper 8, 2
abbrev pub version : List ℕ → ℕ
version s = word16 s 3

-- "an 8-bit entry count", after the mark and the version
abbrev pub count : List ℕ → ℕ
count s = byte s 5

-- "Each entry has 10 bytes: kind (8 bits), letter (8 bits), low (32 bits), high (32 bits)", after the 8 bytes of the header
abbrev pub entry_of : List ℕ → ℕ → Entry
entry_of s k =
    record { kind = byte s (8 + k * 10); letter = byte s (8 + k * 10 + 1); low = word32 s (8 + k * 10 + 2); high = word32 s (8 + k * 10 + 6) }

-- the first n entries
unfoldable pub first_entries : List ℕ → ℕ → List Entry
first_entries s zero = []
first_entries s (suc n) = first_entries s n ++ (entry_of s n ∷ [])

-- The decoded rule: "At most 128 entries make one rule." Behind a rule's last entry stand blank ones.
abbrev pub decoded : List ℕ → List Entry
decoded s = first_entries s 128

-- an entry whose fields are all 0
abbrev pub blank : Entry
blank = record { kind = 0; letter = 0; low = 0; high = 0 }

-- the entry with number k
abbrev pub entry : List Entry → ℕ → Entry
entry t k = get_or t k blank

-- the rule's own entries, in their order
abbrev pub entries : List ℕ → List Entry
entries s = take (count s) (decoded s)
