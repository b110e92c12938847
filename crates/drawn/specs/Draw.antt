-- Draws: numbers of 32 bits, each made from the one before by three shifts.
use Rattle.std.specs.Prelude.{ℕ, zero, suc, ◌*◌, ◌/◌, ◌%◌, ◌^◌, List, [], ◌∷◌}
use Rattle.std.specs.Int.Bits.{bit_xor}

-- x xor (x shifted left by k), kept to 32 bits
unfoldable pub xor_left : ℕ → ℕ → ℕ
xor_left k x = bit_xor x (x * 2 ^ k) % 2 ^ 32

-- x xor (x shifted right by k), kept to 32 bits
unfoldable pub xor_right : ℕ → ℕ → ℕ
xor_right k x = bit_xor x (x / 2 ^ k) % 2 ^ 32

-- the draw that follows x: left by 13, then right by 17, then left by 5
unfoldable pub next_draw : ℕ → ℕ
next_draw x = xor_left 5 (xor_right 17 (xor_left 13 x))

-- the nth draw from a number, counted from 1
unfoldable pub nth_draw : ℕ → ℕ → ℕ
nth_draw zero x = x
nth_draw (suc n) x = nth_draw n (next_draw x)

-- the first n draws from a number, in order
unfoldable pub draws : ℕ → ℕ → List ℕ
draws zero x = []
draws (suc n) x = next_draw x ∷ draws n (next_draw x)
