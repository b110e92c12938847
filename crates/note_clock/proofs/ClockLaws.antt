-- A clock that is carried from frame to frame.
--     ticked_same, ticked_over            one frame more by one comparison: the rate fits once more, or it doesn't
--     runs, shows_more                    a clock that shows n frames can go on, and then shows one more
--     Carried, carried                    at every frame of a block both numbers are what the division gives
--     held_clock, released_clock          the same of a held note, and of one released at frame u
-- Assumes nothing.
use Prim.Native.Nat.{ℕ, zero, suc, ◌+◌, ◌-◌, ◌*◌, ◌/◌, ◌%◌, ◌≤◌, ◌<◌, ◌^◌}
use mathlib.Core.Path.{◌≡◌, refl, sym, ◌∙◌}
use native.Mathlib.Nat.{add-zero, sub-zero, add-mul, one-mul, mod-lt, div-add-mod', le-mul_of_pos_right}
use native.Mathlib.Omega.{arith}
use lib.Arith.{digits_div, digits_mod}
use Rattle.note_clock.specs.Clock.{Shows, Ticked, Runs}
use Rattle.note_clock.specs.declared.Clock.{Clock}

-- ---- one frame more

module _ (c : Clock) (r : Runs c) where
  pub whole_small : c.whole ≤ 1000
  whole_small =
      let some : 0 < c.rate = omega (arith, r.part_small) in
      omega (arith, r.thousand, le-mul_of_pos_right c.whole some)

  pub ticked_same : c.rem < c.rate - c.part → Ticked c (record { rate = c.rate; whole = c.whole; part = c.part; ms = c.ms + c.whole; rem = c.rem + c.part })
  ticked_same h =
      record {
        times = c.whole;
        ms_is = refl;
        rem_is = omega (arith, r.thousand);
        fits_no_more = omega arith;
        rate_is = refl;
        whole_is = refl;
        part_is = refl;
      }

  pub ticked_over : c.rate - c.part ≤ c.rem
      → Ticked c (record { rate = c.rate; whole = c.whole; part = c.part; ms = c.ms + c.whole + 1; rem = c.rem - (c.rate - c.part) })
  ticked_over h =
      record {
        times = c.whole + 1;
        ms_is = omega arith;
        rem_is = omega (arith, r.thousand, r.part_small, add-mul c.whole 1 c.rate, one-mul c.rate);
        fits_no_more = omega (arith, r.rem_small, r.part_small);
        rate_is = refl;
        whole_is = refl;
        part_is = refl;
      }

-- ---- a clock that shows n frames

module _ {rate n : ℕ} {c : Clock} (s : Shows rate n c) (z : 0 < rate) where
  -- its numbers add up to 1,000 for each frame
  sum_is : c.ms * rate + c.rem ≡ 1000 * n
  sum_is = rw (s.ms_is, s.rem_is) (div-add-mod' (1000 * n) rate)

  pub runs : rate ≤ 192000 → n ≤ 2 ^ 33 → Runs c
  runs fits few =
      rw s.rate_is
      (record {
        rem_small = rw s.rem_is (mod-lt (1000 * n) z);
        thousand = rw (s.whole_is, s.part_is) (div-add-mod' 1000 rate);
        part_small = rw s.part_is (mod-lt 1000 z);
        rate_fits = fits;
        ms_fits = omega (arith, sum_is, le-mul_of_pos_right c.ms z);
      })

  pub shows_more : (r : Clock) → Ticked c r → Shows rate (n + 1) r
  shows_more r t =
      let small : r.rem < rate = rw s.rate_is at t.fits_no_more in
      let added : r.rem + t.times * rate ≡ c.rem + 1000 = rw s.rate_is at t.rem_is in
      let sum : r.ms * rate + r.rem ≡ 1000 * (n + 1) = rw t.ms_is (omega (arith, add-mul c.ms t.times rate, added, sum_is)) in
      record {
        rate_is = t.rate_is ∙ s.rate_is;
        ms_is = rw (← sum) (sym (digits_div r.ms small));
        rem_is = rw (← sum) (sym (digits_mod r.ms small));
        whole_is = t.whole_is ∙ s.whole_is;
        part_is = t.part_is ∙ s.part_is;
      }

-- ---- the clocks of a block

-- the clock of each frame from m on, counted from frame u: the first by division, the others a frame more than the one before
pub record Carried (rate u m : ℕ) (clock : ℕ → Clock) : Type 0 where
  pub first : Shows rate (m - u) (clock m)
  pub next : (p : ℕ) → m ≤ p → Ticked (clock p) (clock (p + 1))

module _ (rate u m : ℕ) (clock : ℕ → Clock) (z : 0 < rate) (h : u ≤ m) (c : Carried rate u m clock) where
  after : (i : ℕ) → Shows rate (m + i - u) (clock (m + i))
  after zero = rw (add-zero m) c.first
  after (suc i) =
      let more : m + suc i ≡ m + i + 1 = omega arith in
      let passed : m + i + 1 - u ≡ m + i - u + 1 = omega arith in
      rw (more, passed) (shows_more (after i) z (clock (m + i + 1)) (c.next (m + i) (omega arith)))

  pub carried : (p : ℕ) → m ≤ p → Shows rate (p - u) (clock p)
  carried p l = let e : m + (p - m) ≡ p = omega arith in rw e at (after (p - m))

-- a held note's clock counts from frame 0: quotient and remainder of 1,000 × p, over or not
pub held_clock : (rate m : ℕ) (clock : ℕ → Clock) → 0 < rate → Carried rate 0 m clock → (p : ℕ) → m ≤ p → ((clock p).ms ≡ 1000 * p / rate) × ((clock p).rem ≡ 1000 * p % rate)
held_clock rate m clock z c p l =
    let s : Shows rate p (clock p) = rw (sub-zero p) at (carried rate 0 m clock z (omega arith) c p l) in
    (s.ms_is, s.rem_is)

-- and from the key-up at frame u on, in a block that doesn't begin before it: those of 1,000 × (p - u)
pub released_clock : (rate u m : ℕ) (clock : ℕ → Clock) → 0 < rate → u ≤ m → Carried rate u m clock → (p : ℕ) → m ≤ p
    → ((clock p).ms ≡ 1000 * (p - u) / rate) × ((clock p).rem ≡ 1000 * (p - u) % rate)
released_clock rate u m clock z h c p l = let s = carried rate u m clock z h c p l in (s.ms_is, s.rem_is)
