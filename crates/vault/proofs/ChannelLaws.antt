-- A channel octave by octave: where the octaves lie, how far a loop over them has come, and what is left of an octave that was put through f.
-- Assumes nothing.
use Prim.Native.Nat.{ℕ, zero, suc, ◌+◌, ◌-◌, ◌*◌, ◌^◌, ◌≤◌, ◌<◌}
use mathlib.Core.Bool.{true, false}
use mathlib.Core.List.{List, ◌++◌, append-nil, append_assoc}
use mathlib.Core.Logic.{⊎_elim}
use mathlib.Core.Path.{◌≡◌, refl, sym, ap, ap₂, ◌∙◌}
use native.Mathlib.Nat.{mul-add, mul-zero, mul-one, mul-le-mul_left, eq-or-lt_of_le, le_of_suc-le-suc}
use native.Mathlib.Numerals.{add-one}
use native.Mathlib.Omega.{arith}
use borrow.Author.Tests.{eq-eqb, ne_eqb, eqb-true}
use lib.IntN.{ℤ}
use lib.ListN.{length, take, drop, length-append, length-drop, drop_of_length-le}
use lib.Pow.{pow_pos, pow_mono}
use lib.Seq.{take_all, take-add, take_at, drop_at, drop-drop, take-append-le, drop-append-le, length-take-le}
use Rattle.field.specs.Signed.{Samples}
use Rattle.header.specs.Octaves.{hi, octaves, octaves_there, total_samples}
use Rattle.header.specs.declared.voice_header.VoiceHeader.{VoiceHeader}
use Rattle.header.proofs.OctaveLaws.{octave_next, octave_end}
use Rattle.body_read.specs.Sides.{lengths_suit}
use Rattle.body_read.proofs.SideLaws.{suit_parts}
use Rattle.octaves.specs.Octave.{octave_part, octave_of}
use Rattle.octaves.specs.Part.{part_of}
use Rattle.octaves.specs.declared.part.Part.{Part}
use Rattle.octaves.proofs.PartLaws.{octave_whole, octave_at, part_samples}
use Rattle.vault.specs.DifferenceOrder.{first_octaves, each_octave}
use Rattle.std.specs.Prelude.{Option}

-- ---- where the octaves lie

-- where hi = 0 the channel is its only octave
module _ (f : List ℤ → List ℤ) (h : VoiceHeader) (channel : List ℤ) (z : hi h ≡ 0) where
  pub sole_octave : octave_of h 0 channel ≡ channel
  sole_octave = ap (λ (p : Option Part). part_of p channel) (octave_whole h (length channel) 0 z refl) ∙ take_all (length channel) channel (omega arith)

  pub sole_each : each_octave f h channel ≡ f channel
  unfolding first_octaves
  sole_each = rw (eq-eqb (hi h) 0 z) (ap f sole_octave)

-- the places before octave k
abbrev pub places_before : VoiceHeader → ℕ → ℕ
places_before h k = hi h * (2 ^ k - 1)

-- these and the length of the highest are the length of octave k
octave_long : (h : VoiceHeader) (k : ℕ) → places_before h k + hi h ≡ hi h * 2 ^ k
octave_long h k =
    let one_more : 2 ^ k - 1 + 1 ≡ 2 ^ k = omega (arith, pow_pos k) in
    ap (λ (x : ℕ). places_before h k + x) (sym (mul-one (hi h))) ∙ sym (mul-add (hi h) (2 ^ k - 1) 1) ∙ ap (λ (x : ℕ). hi h * x) one_more

pub start_next : (h : VoiceHeader) (k : ℕ) → places_before h k + (places_before h k + hi h) ≡ places_before h (suc k)
start_next h k = ap (λ (x : ℕ). places_before h k + x) (octave_long h k) ∙ octave_next h k ∙ ap (places_before h) (add-one k)

start_rises : (h : VoiceHeader) (k m : ℕ) → k < m → places_before h (suc k) ≤ places_before h m
start_rises h k m l =
    let p : 2 ^ suc k ≤ 2 ^ m = pow_mono l in
    let q : 2 ^ suc k - 1 ≤ 2 ^ m - 1 = omega arith in
    mul-le-mul_left (hi h) q

-- a channel that has all octaves
module _ (h : VoiceHeader) (some : hi h ≡ 0 → ⊥) (channel : List ℤ) (all : length channel ≡ total_samples h) where
  pub there : octaves_there h ≡ octaves h
  there = rw (ne_eqb (hi h) 0 some)

  start_all : places_before h (octaves h) ≡ length channel
  unfolding total_samples
  start_all = sym all

  module _ (k : ℕ) (l : k < octaves h) where
    pub end_within : places_before h k + (places_before h k + hi h) ≤ length channel
    end_within = omega (arith, octave_long h k, octave_end h k l)

    pub octave_is : octave_of h k channel ≡ take (places_before h k + hi h) (drop (places_before h k) channel)
    octave_is =
        ap (λ (p : Option Part). part_of p channel) (octave_at h (length channel) k some l (omega (arith, octave_end h k l)))
        ∙ ap (λ (n : ℕ). take n (drop (places_before h k) channel)) (sym (octave_long h k))

    pub octave_length : length (octave_of h k channel) ≡ places_before h k + hi h
    octave_length =
        ap length octave_is ∙ length-take-le (places_before h k + hi h) (drop (places_before h k) channel) (omega (arith, end_within, length-drop (places_before h k) channel))

-- a channel whose length suits the header has all octaves
pub suited_all : (h : VoiceHeader) (n : ℕ) → lengths_suit h false n 0 ≡ true → (hi h ≡ 0 → ⊥) → n ≡ total_samples h
suited_all h n suits some = eqb-true n (total_samples h) (rw (ne_eqb (hi h) 0 some) at (suit_parts h false n 0 suits).0)

-- ---- the loop over the octaves

-- the first octaves are done, in a buffer that held `held`, and the next begins at `at`
pub record Reached (f : List ℤ → List ℤ) (h : VoiceHeader) (channel held out : List ℤ) (at : ℕ) : Type 0 where
  pub count : ℕ
  pub within : count ≤ octaves h
  pub start : at ≡ places_before h count
  pub so_far : out ≡ first_octaves f h count channel ++ drop at held

pub reached_none : (f : List ℤ → List ℤ) (h : VoiceHeader) (channel held : List ℤ) → Reached f h channel held held 0
unfolding first_octaves
reached_none f h channel held = record { count = 0; within = omega arith; start = omega arith; so_far = refl }

module _ (f : List ℤ → List ℤ) (h : VoiceHeader) (some : hi h ≡ 0 → ⊥) (channel : List ℤ) (all : length channel ≡ total_samples h)
    (held out : List ℤ) (at : ℕ) (r : Reached f h channel held out at) where
  -- before the end there is an octave more
  pub reached_more : at < length channel → r.count < octaves h
  reached_more more = ⊎_elim (λ e. absurd (omega (arith, r.start, ap (places_before h) e, start_all h some channel all))) (λ l. l) (eq-or-lt_of_le r.within)

  -- it ends within the channel
  pub reached_end : at < length channel → at + (at + hi h) ≤ length channel
  reached_end more = rw r.start (end_within h some channel all r.count (reached_more more))

  -- the next octave, which has n samples and ends at `end`, is put through f, and `done` stored over its places
  module _ (more : at < length channel) (room : length held ≡ length channel) (kept : length out ≡ length held)
      (done : List ℤ) (end n : ℕ) (end_is : end ≡ at + (at + hi h)) (n_is : n ≡ end - at) (is : done ≡ f (take n (drop at channel))) where
    abbrev made : List ℤ
    made = first_octaves f h r.count channel

    made_length : length made ≡ at
    made_length = omega (arith, ap length r.so_far, length-append made (drop at held), length-drop at held)

    octave_done : done ≡ f (octave_of h r.count channel)
    octave_done =
        let long : n ≡ at + hi h = omega arith in
        is ∙ ap f (rw (long, r.start) (sym (octave_is h some channel all r.count (reached_more more))))

    front_kept : take at out ≡ made
    front_kept = ap (take at) r.so_far ∙ take_at made (drop at held) at made_length

    rest_kept : drop n (drop at out) ≡ drop end held
    rest_kept =
        let past : at + n ≡ end = omega arith in
        ap (λ (l : List ℤ). drop n (drop at l)) r.so_far ∙ ap (drop n) (drop_at made (drop at held) at made_length) ∙ drop-drop n at held ∙ ap (λ (k : ℕ). drop k held) past

    pub reached_next : Reached f h channel held (take at out ++ (done ++ drop n (drop at out))) end
    unfolding first_octaves
    reached_next = record {
      count = suc r.count;
      within = reached_more more;
      start = end_is ∙ rw r.start (start_next h r.count);
      so_far =
          ap₂ (λ (a b : List ℤ). a ++ (done ++ b)) front_kept rest_kept
          ∙ sym (append_assoc made done (drop end held))
          ∙ ap (λ (l : List ℤ). (made ++ l) ++ drop end held) octave_done;
    }

    pub reached_length : length done ≡ n → length (take at out ++ (done ++ drop n (drop at out))) ≡ length held
    reached_length long =
        let past = reached_end more in
        rw (length-append, length-append) (omega (arith, ap length front_kept, made_length, ap length rest_kept, length-drop end held))

  -- past the last octave there is nothing left
  pub reached_all : at ≡ length channel → length held ≡ length channel → out ≡ each_octave f h channel
  reached_all end room =
      let last : r.count ≡ octaves h = ⊎_elim (λ e. e) (λ l. absurd (omega (arith, r.start, end_within h some channel all r.count l, some_more))) (eq-or-lt_of_le r.within) in
      let nothing = drop_of_length-le held {i = at} (omega arith) in
      r.so_far ∙ ap₂ (λ (k : ℕ) (l : List ℤ). first_octaves f h k channel ++ l) (last ∙ sym (there h some channel all)) nothing ∙ append-nil (each_octave f h channel)
    where
      some_more : 0 < hi h
      some_more = omega (arith, some)

-- ---- octaves that were put through f

module _ (f : List ℤ → List ℤ) (same : (l : List ℤ) → length (f l) ≡ length l) (h : VoiceHeader) (some : hi h ≡ 0 → ⊥) (channel : List ℤ) (all : length channel ≡ total_samples h) where
  pub first_length : (m : ℕ) → m ≤ octaves h → length (first_octaves f h m channel) ≡ places_before h m
  unfolding first_octaves
  first_length zero l = omega arith
  first_length (suc m) l =
      omega (arith, length-append (first_octaves f h m channel) (f (octave_of h m channel)), first_length m (omega arith), same (octave_of h m channel), octave_length h some channel all m (omega arith), start_next h m)

  module _ (m : ℕ) (l : m < octaves h) where
    abbrev before : List ℤ
    before = first_octaves f h m channel

    abbrev next : List ℤ
    next = f (octave_of h m channel)

    -- the octave past the first m
    next_octave : take (places_before h m + hi h) (drop (places_before h m) (before ++ next)) ≡ next
    next_octave =
        ap (take (places_before h m + hi h)) (drop_at before next (places_before h m) (first_length m (omega arith)))
        ∙ take_all (places_before h m + hi h) next (omega (arith, same (octave_of h m channel), octave_length h some channel all m l))

    -- an octave of the first m
    earlier_octave : (k : ℕ) → k < m → take (places_before h k + hi h) (drop (places_before h k) (before ++ next)) ≡ take (places_before h k + hi h) (drop (places_before h k) before)
    earlier_octave k p =
        let inside : places_before h k + (places_before h k + hi h) ≤ length before = omega (arith, start_rises h k m p, start_next h k, first_length m (omega arith)) in
        ap (take (places_before h k + hi h)) (drop-append-le (places_before h k) before next (omega arith))
        ∙ take-append-le (places_before h k + hi h) (drop (places_before h k) before) next (omega (arith, length-drop (places_before h k) before))

  first_octave : (m k : ℕ) → k < m → m ≤ octaves h → take (places_before h k + hi h) (drop (places_before h k) (first_octaves f h m channel)) ≡ f (octave_of h k channel)
  unfolding first_octaves
  first_octave zero k l r = absurd (omega arith)
  first_octave (suc m) k l r =
      ⊎_elim (λ e. rw e (next_octave m r)) (λ p. earlier_octave m r k p ∙ first_octave m k p (omega arith)) (eq-or-lt_of_le (le_of_suc-le-suc l))

  -- a channel that was put through f, octave by octave
  pub each_length : length (each_octave f h channel) ≡ length channel
  each_length = ap (λ (m : ℕ). length (first_octaves f h m channel)) (there h some channel all) ∙ first_length (octaves h) (omega arith) ∙ start_all h some channel all

  -- its octave k is octave k put through f
  pub each_octave_lem : (k : ℕ) → k < octaves h → octave_of h k (each_octave f h channel) ≡ f (octave_of h k channel)
  each_octave_lem k l =
      octave_is h some (each_octave f h channel) (each_length ∙ all) k l
      ∙ ap (λ (m : ℕ). take (places_before h k + hi h) (drop (places_before h k) (first_octaves f h m channel))) (there h some channel all)
      ∙ first_octave (octaves h) k l (omega arith)

  -- where g undoes f on parts of samples, the channel comes back
  module _ (g : List ℤ → List ℤ) (undoes : (l : List ℤ) → Samples l → g (f l) ≡ l) (fits : Samples channel) where
    first_back : (m : ℕ) → m ≤ octaves h → first_octaves g h m (each_octave f h channel) ≡ take (places_before h m) channel
    unfolding first_octaves
    first_back zero l = rw (mul-zero (hi h))
    first_back (suc m) l =
        let octave = octave_of h m channel in
        let back : g (octave_of h m (each_octave f h channel)) ≡ octave = ap g (each_octave_lem m l) ∙ undoes octave (part_samples (octave_part h (length channel) m) channel fits) in
        ap₂ (λ (a b : List ℤ). a ++ b) (first_back m (omega arith)) (back ∙ octave_is h some channel all m l)
        ∙ sym (take-add (places_before h m) (places_before h m + hi h) channel)
        ∙ ap (λ (n : ℕ). take n channel) (start_next h m)

    pub each_back : each_octave g h (each_octave f h channel) ≡ channel
    each_back =
        ap (λ (m : ℕ). first_octaves g h m (each_octave f h channel)) (there h some channel all)
        ∙ first_back (octaves h) (omega arith)
        ∙ take_all (places_before h (octaves h)) channel (omega (arith, start_all h some channel all))
