-- "The generator is Marsaglia's xorshift32 with shifts 13 left, 17 right, 5 left", as functions on numbers below 2 ^ 32.
use Rattle.std.specs.Prelude.{ℕ, zero, suc, ◌+◌, ◌*◌, ◌/◌, ◌%◌, ◌^◌}

-- exclusive or of the last n bits of two numbers: their sum bit by bit, without a carry
unfoldable pub xor : (n a b : ℕ) → ℕ
xor zero a b = 0
xor (suc n) a b = xor n (a / 2) (b / 2) * 2 + (a + b) % 2

-- a number's 32 bits, with those moved left or right by some places put over them
abbrev pub shift_left : (x by : ℕ) → ℕ
shift_left x by = xor 32 x (x * 2 ^ by % 2 ^ 32)

abbrev pub shift_right : (x by : ℕ) → ℕ
shift_right x by = xor 32 x (x / 2 ^ by)

-- "shifts 13 left, 17 right, 5 left"
abbrev pub xorshift : ℕ → ℕ
xorshift x = shift_left (shift_right (shift_left x 13) 17) 5

-- "each draw moves the generator on by one step and is its new state": the state after n draws, and so the n-th draw
unfoldable pub state_after : (seed n : ℕ) → ℕ
state_after seed zero = seed
state_after seed (suc n) = xorshift (state_after seed n)
