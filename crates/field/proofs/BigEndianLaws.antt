-- The laws of big-endian numbers: by these the functions are proved, here and above. No proof elsewhere unfolds the definitions.
--     bytes_number, number_back     what was written reads back, at any width, whatever follows it
--     number_bytes                  what was read writes back, of bytes
-- Assumes nothing.
use Rattle.std.proofs.Common.{◌≡◌, ℕ, zero, suc, ◌+◌, ◌*◌, ◌/◌, ◌%◌, ◌^◌, ◌<◌, ◌≤◌, List, [], ◌∷◌, ◌++◌, length, get_or, take, drop, sym, refl, ap, ◌∙◌, le_of_suc-le-suc, not-suc-le-zero, add-zero, mul-le-mul_right, mod-lt, mod-eq_of_lt, mul_assoc, mul_comm, add-mul, pow-suc, div-add-mod', mul_right_comm, arith, get_or-drop, get_or-take, div-one}
use Rattle.std.specs.Int.{bytes_high_first}
use lib.ListN.{get_or-append}
use native.Mathlib.Nat.{mod-one, one-le-pow}
use native.Mathlib.Nat.{mul-add-mod_self_left, mul-add-mod_self_right, mul-add-div_right, div-eq_of_lt}
use Rattle.field.specs.BigEndian.{Bytes, big_endian, big_endian_bytes}

-- two bytes at a place
pub number16_at : (s : List ℕ) (at : ℕ) → big_endian 2 (drop at s) ≡ get_or s at 0 * 256 + get_or s (at + 1) 0
unfolding big_endian
number16_at s at = simp (get_or-drop, add-zero) (omega arith)

-- four bytes at a place
pub number32_at : (s : List ℕ) (at : ℕ) → big_endian 4 (drop at s) ≡ ((get_or s at 0 * 256 + get_or s (at + 1) 0) * 256 + get_or s (at + 2) 0) * 256 + get_or s (at + 3) 0
unfolding big_endian
number32_at s at = simp (get_or-drop, add-zero) (omega arith)

-- four bytes are two and two
pub number32_halves : (l : List ℕ) → big_endian 4 l ≡ big_endian 2 l * 65536 + big_endian 2 (drop 2 l)
unfolding big_endian
number32_halves l = simp get_or-drop (omega arith)

-- a number that lies in the first k bytes is there in a longer list too
pub number_take : (n k : ℕ) (l : List ℕ) → n ≤ k → big_endian n (take k l) ≡ big_endian n l
unfolding big_endian
number_take zero k l h = refl
number_take (suc n) k l h = let h' : n ≤ k = omega arith in rw (number_take n k l, get_or-take k l n 0)

-- whatever comes after its bytes
pub number_append : (n : ℕ) (l m : List ℕ) → n ≤ length l → big_endian n (l ++ m) ≡ big_endian n l
unfolding big_endian
number_append zero l m h = refl
number_append (suc n) l m h = let h' : n ≤ length l = omega arith in rw (number_append n l m, get_or-append l m 0 n)

number_none : (l : List ℕ) → big_endian 0 l ≡ 0
unfolding big_endian
number_none l = refl

number_suc : (n : ℕ) (l : List ℕ) → big_endian (suc n) l ≡ big_endian n l * 256 + get_or l n 0
unfolding big_endian
number_suc n l = refl

-- by its highest byte
number_cons : (n b : ℕ) (l : List ℕ) → big_endian (suc n) (b ∷ l) ≡ b * 256 ^ n + big_endian n l
unfolding big_endian
number_cons zero b l = omega arith
number_cons (suc n) b l = rw (number_cons n b l, pow-suc 256 n, ← mul_assoc b (256 ^ n) 256) (omega (arith, add-mul (b * 256 ^ n) (big_endian n l) 256))

pub bytes_length : (n v : ℕ) → length (big_endian_bytes n v) ≡ n
unfolding big_endian_bytes
bytes_length zero v = refl
bytes_length (suc n) v = ap suc (bytes_length n v)

-- the remainder by 256 times m, by its part above m and the rest
split : (v m : ℕ) → 0 < m → v % (m * 256) ≡ v / m % 256 * m + v % m
split v m h =
    let q = v / m in
    let c = q % 256 * m + v % m in
    let whole : v ≡ q * m + v % m = sym (div-add-mod' v m) in
    let parts : q ≡ q / 256 * 256 + q % 256 = omega arith in
    let high : q / 256 * 256 * m ≡ m * 256 * (q / 256) = mul_right_comm (q / 256) 256 m ∙ mul_assoc (q / 256) m 256 ∙ mul_comm (q / 256) (m * 256) in
    let again : v ≡ m * 256 * (q / 256) + c = whole ∙ omega (arith, ap (λ (x : ℕ). x * m) parts, add-mul (q / 256 * 256) (q % 256) m, high) in
    let below : c < m * 256 = omega (arith, mul-le-mul_right m (le_of_suc-le-suc (mod-lt q (lit 256))), mod-lt v h) in
    ap (λ (x : ℕ). x % (m * 256)) again ∙ mul-add-mod_self_left (m * 256) (q / 256) c ∙ mod-eq_of_lt below
  where
    lit : (k : ℕ) → 0 < 256
    lit k = omega arith

-- what `to_be_bytes` gives, at any width
pub library_bytes : (n v : ℕ) → bytes_high_first n v ≡ big_endian_bytes n v
unfolding big_endian_bytes
library_bytes zero v = refl
library_bytes (suc zero) v = rw div-one
library_bytes (suc (suc n)) v = ap (λ (l : List ℕ). v / 256 ^ suc n % 256 ∷ l) (library_bytes (suc n) v)

-- what n bytes hold of a number
pub bytes_mod : (n v : ℕ) → big_endian n (big_endian_bytes n v) ≡ v % 256 ^ n
unfolding big_endian_bytes
bytes_mod zero v = number_none (big_endian_bytes zero v) ∙ sym (mod-one v)
bytes_mod (suc n) v = number_cons n (v / 256 ^ n % 256) (big_endian_bytes n v) ∙ rw (bytes_mod n v, pow-suc 256 n) (sym (split v (256 ^ n) (one-le-pow n 256 (omega arith))))

pub bytes_number : (n v : ℕ) → v < 256 ^ n → big_endian n (big_endian_bytes n v) ≡ v
bytes_number n v h = bytes_mod n v ∙ mod-eq_of_lt h

-- whatever follows the bytes
pub number_back : (n v : ℕ) (rest : List ℕ) → v < 256 ^ n → big_endian n (big_endian_bytes n v ++ rest) ≡ v
number_back n v rest h = number_append n (big_endian_bytes n v) rest (omega (arith, bytes_length n v)) ∙ bytes_number n v h

-- ---- of bytes, the other way

pub bytes_tail : (b : ℕ) (l : List ℕ) → Bytes (b ∷ l) → Bytes l
bytes_tail b l h i = h (suc i)

pub bytes_take : (n : ℕ) (l : List ℕ) → Bytes l → Bytes (take n l)
bytes_take zero l h i = omega arith
bytes_take (suc n) [] h i = omega arith
bytes_take (suc n) (b ∷ l) h zero = h 0
bytes_take (suc n) (b ∷ l) h (suc i) = bytes_take n l (bytes_tail b l h) i

pub bytes_drop : (n : ℕ) (l : List ℕ) → Bytes l → Bytes (drop n l)
bytes_drop n l h i = rw get_or-drop (h (n + i))

pub number_fits : (n : ℕ) (l : List ℕ) → Bytes l → big_endian n l < 256 ^ n
number_fits zero l h = rw (number_none l) (omega arith)
number_fits (suc n) l h = rw (number_suc n l, pow-suc 256 n) (omega (arith, h n, number_fits n l h))

-- the low bytes know nothing of what stands above them
bytes_above : (n c x : ℕ) → big_endian_bytes n (c * 256 ^ n + x) ≡ big_endian_bytes n x
unfolding big_endian_bytes
bytes_above zero c x = refl
bytes_above (suc n) c x =
    let m = 256 ^ n in
    let regroup : c * 256 ^ suc n ≡ c * 256 * m = rw (pow-suc 256 n) (sym (mul_assoc c m 256) ∙ mul_right_comm c m 256) in
    let first : (c * 256 * m + x) / m % 256 ≡ x / m % 256 = rw (mul-add-div_right (one-le-pow n 256 (omega arith)) (c * 256) x) (mul-add-mod_self_right c 256 (x / m)) in
    rw (regroup, first, bytes_above n (c * 256) x)

pub bytes_low : (n v : ℕ) → big_endian_bytes n (v % 256 ^ n) ≡ big_endian_bytes n v
bytes_low n v = sym (bytes_above n (v / 256 ^ n) (v % 256 ^ n)) ∙ ap (big_endian_bytes n) (div-add-mod' v (256 ^ n))

pub number_bytes : (n : ℕ) (l : List ℕ) → Bytes l → n ≤ length l → big_endian_bytes n (big_endian n l) ≡ take n l
unfolding big_endian_bytes
number_bytes zero l h k = refl
number_bytes (suc n) [] h k = absurd (not-suc-le-zero k)
number_bytes (suc n) (b ∷ l) h k =
    let m = 256 ^ n in
    let x = big_endian n l in
    let high : (b * m + x) / m % 256 ≡ b = rw (mul-add-div_right (one-le-pow n 256 (omega arith)) b x, div-eq_of_lt (number_fits n l (bytes_tail b l h)), add-zero b) (mod-eq_of_lt (h 0)) in
    rw (number_cons n b l, high, bytes_above n b x, number_bytes n l (bytes_tail b l h) (le_of_suc-le-suc k))
