-- Draws: what 32 bits keep of them, and samples drawn one after another.
--     draw_is                         three shifts of 32 bits are the next draw
--     nth_after, samples_after        n draws, and m more from the last of them
--     draws_at                        each draw of a list
--     samples_length, samples_fit     n draws give n samples
--     turn_next, turn_left, turn_last  one more turn of the loop that draws samples
-- Assumes nothing.
use Prim.Native.Nat.{ℕ, zero, suc, ◌+◌, ◌-◌, ◌*◌, ◌/◌, ◌%◌, ◌^◌, ◌<◌}
use mathlib.Core.List.{◌∷◌, ◌++◌, map, map-append}
use mathlib.Core.Path.{◌≡◌, refl, sym, ap, ◌∙◌}
use native.Mathlib.Nat.{zero-add, suc-add, mod-lt, mod-eq_of_lt, div-le_self, lt_of_le_of_lt}
use native.Mathlib.Omega.{arith}
use lib.Bits.{bit_xor, xor_mod}
use lib.ListN.{length, drop, get_or, length-map}
use lib.Pow.{pow_pos}
use Rattle.laws.proofs.Prefix.{rest_past}
use Rattle.field.specs.Signed.{sample_of, Samples}
use Rattle.field.proofs.SignedLaws.{sample_fits, samples_map}
use Rattle.drawn.specs.Draw.{xor_left, xor_right, next_draw, nth_draw, draws}
use Rattle.drawn.specs.DrawnVoice.{drawn_samples}

-- ---- one draw

-- a number of 32 bits xor another, kept to 32 bits
kept : (x y : ℕ) → x < 2 ^ 32 → bit_xor x (y % 2 ^ 32) ≡ bit_xor x y % 2 ^ 32
kept x y h = sym (xor_mod x y 32 ∙ ap (λ (z : ℕ). bit_xor z (y % 2 ^ 32)) (mod-eq_of_lt h))

left_is : (k x : ℕ) → x < 2 ^ 32 → bit_xor x (x * 2 ^ k % 2 ^ 32) ≡ xor_left k x
unfolding xor_left
left_is k x h = kept x (x * 2 ^ k) h

right_is : (k x : ℕ) → x < 2 ^ 32 → bit_xor x (x / 2 ^ k) ≡ xor_right k x
unfolding xor_right
right_is k x h = ap (bit_xor x) (sym (mod-eq_of_lt (lt_of_le_of_lt (div-le_self x (2 ^ k)) h))) ∙ kept x (x / 2 ^ k) h

left_small : (k x : ℕ) → xor_left k x < 2 ^ 32
unfolding xor_left
left_small k x = mod-lt (bit_xor x (x * 2 ^ k)) (pow_pos 32)

right_small : (k x : ℕ) → xor_right k x < 2 ^ 32
unfolding xor_right
right_small k x = mod-lt (bit_xor x (x / 2 ^ k)) (pow_pos 32)

-- x after the first of the three shifts, and after the second, as the code makes them
abbrev shifted_left : ℕ → ℕ
shifted_left x = bit_xor x (x * 2 ^ 13 % 2 ^ 32)

abbrev shifted_right : ℕ → ℕ
shifted_right x = bit_xor (shifted_left x) (shifted_left x / 2 ^ 17)

pub draw_is : (x : ℕ) → x < 2 ^ 32 → bit_xor (shifted_right x) (shifted_right x * 2 ^ 5 % 2 ^ 32) ≡ next_draw x
unfolding next_draw
draw_is x h =
    let a : shifted_left x ≡ xor_left 13 x = left_is 13 x h in
    let b : shifted_right x ≡ xor_right 17 (xor_left 13 x) = ap (λ (y : ℕ). bit_xor y (y / 2 ^ 17)) a ∙ right_is 17 (xor_left 13 x) (left_small 13 x) in
    ap (λ (y : ℕ). bit_xor y (y * 2 ^ 5 % 2 ^ 32)) b ∙ left_is 5 (xor_right 17 (xor_left 13 x)) (right_small 17 (xor_left 13 x))

-- ---- many draws

pub nth_after : (n m x : ℕ) → nth_draw (n + m) x ≡ nth_draw m (nth_draw n x)
unfolding nth_draw
nth_after zero m x = rw (zero-add m)
nth_after (suc n) m x = rw (suc-add n m) (nth_after n m (next_draw x))

pub draws_at : (n i x : ℕ) → i < n → get_or (draws n x) i 0 ≡ nth_draw (i + 1) x
unfolding draws nth_draw
draws_at zero i x h = absurd (omega arith)
draws_at (suc n) zero x h = refl
draws_at (suc n) (suc i) x h = rw (suc-add i 1) (draws_at n i (next_draw x) (omega arith))

draws_after : (n m x : ℕ) → draws (n + m) x ≡ draws n x ++ draws m (nth_draw n x)
unfolding draws nth_draw
draws_after zero m x = rw (zero-add m)
draws_after (suc n) m x = rw (suc-add n m) (ap (◌∷◌ (next_draw x)) (draws_after n m (next_draw x)))

draws_length : (n x : ℕ) → length (draws n x) ≡ n
unfolding draws
draws_length zero x = refl
draws_length (suc n) x = ap suc (draws_length n (next_draw x))

pub samples_length : (n x : ℕ) → length (drawn_samples n x) ≡ n
unfolding drawn_samples
samples_length n x = length-map (draws n x) _ ∙ draws_length n x

pub samples_after : (n m x : ℕ) → drawn_samples (n + m) x ≡ drawn_samples n x ++ drawn_samples m (nth_draw n x)
unfolding drawn_samples
samples_after n m x = ap (map (λ draw. sample_of (draw % 256))) (draws_after n m x) ∙ map-append _ (draws n x) (draws m (nth_draw n x))

pub samples_fit : (n x : ℕ) → Samples (drawn_samples n x)
unfolding drawn_samples
samples_fit n x = samples_map _ (λ draw. sample_fits (draw % 256)) (draws n x)

-- ---- a turn of the loop: x is the last of i draws, and n - i are left

module _ (number n i x y : ℕ) (more : i < n) (y_is : y ≡ next_draw x) where
  pub turn_last : nth_draw (n - i) x ≡ nth_draw n number → nth_draw (n - (i + 1)) y ≡ nth_draw n number
  unfolding nth_draw
  turn_last e =
      let one : n - i ≡ suc (n - (i + 1)) = omega arith in
      rw y_is (sym (ap (λ (k : ℕ). nth_draw k x) one) ∙ e)

  module _ (left : drop i (drawn_samples n number) ≡ drawn_samples (n - i) x) where
    pub turn_next : drop i (drawn_samples n number) ≡ sample_of (y % 256) ∷ drawn_samples (n - (i + 1)) y
    unfolding drawn_samples draws
    turn_next =
        let one : n - i ≡ suc (n - (i + 1)) = omega arith in
        rw y_is (left ∙ ap (λ (k : ℕ). drawn_samples k x) one)

    pub turn_left : drop (i + 1) (drawn_samples n number) ≡ drawn_samples (n - (i + 1)) y
    turn_left = rest_past (drawn_samples n number) (drawn_samples (n - (i + 1)) y) i (sample_of (y % 256)) turn_next
