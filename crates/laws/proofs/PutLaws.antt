-- Runs of stores, joined and under way: the laws of every writer.
-- Assumes nothing.
use Prim.Native.Nat.{ℕ, suc, ◌+◌, ◌-◌, ◌≤◌}
use lib.ListN.{length, take, drop, length-append, length-drop, drop_of_length-le}
use lib.Seq.{sets, sets-eq, take_all, drop-drop}
use mathlib.Core.List.{List, [], ◌∷◌, ◌++◌, append-nil, append_assoc}
use mathlib.Core.Path.{◌≡◌, refl, ap, sym, ◌∙◌}
use native.Mathlib.Nat.{add-zero, zero-add}
use native.Mathlib.Omega.{arith}
use Rattle.laws.specs.Buffer.{written}
use Rattle.laws.specs.Put.{Put}

module _ {A : Type 0} where
  sets_more : (xs d : List A) (at : ℕ) (ys : List A) → sets d at (xs ++ ys) ≡ sets (sets d at xs) (at + length xs) ys
  sets_more [] d at ys = rw (add-zero at)
  sets_more (x ∷ xs) d at ys =
      let e : suc at + length xs ≡ at + suc (length xs) = omega arith in
      rw (← e) (sets_more xs _ (suc at) ys)

  pub put_none : (d : List A) (at : ℕ) → Put d at [] d at
  put_none d at = record { is = refl; end = sym (add-zero at) }

  -- a run of stores, and another from where it ended
  pub put_then : {d d' d'' xs ys : List A} {at r r' : ℕ} → Put d at xs d' r → Put d' r ys d'' r' → Put d at (xs ++ ys) d'' r'
  put_then {d} {d'} {d''} {xs} {ys} {at} p q =
      record { is = q.is ∙ rw (p.is, p.end) (sym (sets_more xs d at ys)); end = rw (q.end, p.end, length-append) (omega arith) }

  -- stores of what is known by an equation
  pub put_same : {d xs ys d' : List A} {at r : ℕ} → xs ≡ ys → Put d at xs d' r → Put d at ys d' r
  put_same e p = rw e at p

  -- where stores of a known length end
  pub put_end : {d xs d' : List A} {at r n : ℕ} → length xs ≡ n → Put d at xs d' r → r ≡ at + n
  put_end e p = rw (← e) p.end

  -- stores over the whole of a buffer
  pub put_whole : {d xs d' : List A} {r : ℕ} → length d ≡ length xs → Put d 0 xs d' r → d' ≡ xs
  put_whole {d} {xs} e p =
      let room : 0 + length xs ≤ length d = omega arith in
      let all : length d ≤ 0 + length xs = omega arith in
      p.is ∙ sets-eq xs d 0 room ∙ rw (drop_of_length-le d all) (append-nil xs)

  -- stores at the front of a buffer that has room for them
  pub put_front : {d xs d' : List A} {r : ℕ} → length xs ≤ length d → Put d 0 xs d' r → d' ≡ written xs d
  put_front {d} {xs} h p =
      let room : 0 + length xs ≤ length d = omega arith in
      p.is ∙ sets-eq xs d 0 room ∙ rw (zero-add (length xs))

  -- a writer that was lent the part of a buffer from a place on: what it stored there are stores at that place of the whole
  module _ (xs d : List A) (at : ℕ) (room : at + length xs ≤ length d) where
    -- the part is all that is left
    part_is : take (length d - at) (drop at d) ≡ drop at d
    part_is = take_all (length d - at) (drop at d) (omega (arith, length-drop at d))

    pub part_fits : length xs ≤ length (take (length d - at) (drop at d))
    part_fits = rw part_is (omega (arith, length-drop at d))

    nothing_past : drop (length d - at) (drop at d) ≡ []
    nothing_past = drop_of_length-le (drop at d) {i = length d - at} (omega (arith, length-drop at d))

    pub put_part : (n : ℕ) (ys out : List A) → n ≡ length xs → xs ≡ ys → out ≡ written ys (take (length d - at) (drop at d))
        → Put d at xs (take at d ++ (out ++ drop (length d - at) (drop at d))) (at + n)
    put_part n ys out n_is same e =
        let stored : out ≡ xs ++ drop (at + length xs) d = e ∙ rw (← same, part_is) (ap (λ (r : List A). xs ++ r) (drop-drop (length xs) at d)) in
        record {
          is = rw (nothing_past, append-nil out) (ap (λ (r : List A). take at d ++ r) stored ∙ sym (append_assoc (take at d) xs (drop (at + length xs) d)) ∙ sym (sets-eq xs d at room));
          end = ap (λ (k : ℕ). at + k) n_is;
        }

  -- to store `rest` into d from `at` is to store `all` into d₀ from at₀: the invariant of a loop that writes
  pub record Underway (d₀ : List A) (at₀ : ℕ) (all d : List A) (at : ℕ) (rest : List A) : Type 0 where
    pub is : sets d at rest ≡ sets d₀ at₀ all
    pub end : at + length rest ≡ at₀ + length all

  pub underway_start : {d all : List A} {at : ℕ} → Underway d at all d at all
  underway_start = record { is = refl; end = refl }

  module _ {d₀ all : List A} {at₀ : ℕ} where
    pub underway_step : {d d' rest xs : List A} {at r : ℕ} (rest' : List A) → Underway d₀ at₀ all d at rest → rest ≡ xs ++ rest' → Put d at xs d' r → Underway d₀ at₀ all d' r rest'
    underway_step {d} {xs = xs} {at} rest' g e p =
        record { is = rw (p.is, p.end) (sym (sets_more xs d at rest') ∙ ap (sets d at) (sym e) ∙ g.is); end = omega (arith, g.end, p.end, ap length e, length-append xs rest') }

    -- what is stored next ends within the whole
    pub underway_room : {d rest : List A} {at : ℕ} (xs rest' : List A) → Underway d₀ at₀ all d at rest → rest ≡ xs ++ rest' → at + length xs ≤ at₀ + length all
    underway_room xs rest' g e = omega (arith, g.end, ap length e, length-append xs rest')

    pub underway_done : {d rest : List A} {at : ℕ} → Underway d₀ at₀ all d at rest → rest ≡ [] → Put d₀ at₀ all d at
    underway_done {d} {at = at} g e = record { is = ap (sets d at) (sym e) ∙ g.is; end = omega (arith, g.end, ap length e) }
