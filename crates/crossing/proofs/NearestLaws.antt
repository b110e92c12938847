-- What the nearest of the crossings within reach is, and that there is no other.
--     nearest_found, nearest_none      what an answer says
--     found_nearest, none_refused      the answer, by what is known of the crossings: the search cites these, and no definition
--     short_refused                    0 or 1 samples have no crossing
-- Assumes nothing.
use Prim.Native.Nat.{ℕ, ◌-◌, ◌≤◌}
use mathlib.Core.Bool.{Bool, true, false, cond, ◌&&◌, ◌||◌, true≢false}
use mathlib.Core.List.{List, [], ◌∷◌}
use mathlib.Core.Logic.{inl, inr, ⊎_elim}
use mathlib.Core.Path.{◌≡◌, refl, sym, ap, subst}
use native.Mathlib.Omega.{arith}
use borrow.Author.Tests.{ltb-true, ltb-false, eqb-true, eqb-false, leb-true, le-leb}
use lib.Dec.{eqb, ltb, leb}
use lib.IntN.{ℤ}
use lib.ListN.{length}
use Rattle.laws.specs.Among.{Among}
use Rattle.crossing.specs.Crossing.{sign_changes, places_from, those, crossings, far_off, comes_first, nearer, nearest_of, nearest_crossing}
use Rattle.crossing.specs.Promise.{WithinReach, IsNearest}
use Rattle.crossing.proofs.PlaceLaws.{passed, passes, place_bounds, place_in}
use Rattle.refusal.specs.declared.Refusal.TheVariants.{NoCrossing}
use Rattle.refusal.specs.Outcome.{Outcome}
use Rattle.std.specs.Prelude.{Err, Ok}
use Rattle.refusal.specs.declared.Refusal.{Refusal}

-- ---- the nearest of a list

-- j doesn't come before i
pub record NotBefore (place i j : ℕ) : Type 0 where
  pub nearer : far_off place i ≤ far_off place j
  pub earlier : far_off place j ≡ far_off place i → i ≤ j

module _ (place : ℕ) where
  -- of two places the one that the rule takes comes before the other, or is it
  first_of_two : (i j : ℕ) (t : Bool) → comes_first place j i ≡ t → NotBefore place (cond t j i) (cond t i j)
  first_of_two i j = go (ltb (far_off place j) (far_off place i)) refl (eqb (far_off place j) (far_off place i)) refl
    where
      go : (near : Bool) → ltb (far_off place j) (far_off place i) ≡ near → (same : Bool) → eqb (far_off place j) (far_off place i) ≡ same
          → (t : Bool) → (near || same && ltb j i) ≡ t → NotBefore place (cond t j i) (cond t i j)
      go true n same s false e = absurd (true≢false e)
      go false n false s true e = absurd (true≢false (sym e))
      go true n same s true e =
          let less = ltb-true (far_off place j) (far_off place i) n in
          record { nearer = omega (arith, less); earlier = λ equal. absurd (omega (arith, less, equal)) }
      go false n true s true e = record { nearer = omega (arith, eqb-true (far_off place j) (far_off place i) s); earlier = λ _. omega (arith, ltb-true j i e) }
      go false n true s false e = record { nearer = omega (arith, ltb-false (far_off place j) (far_off place i) n); earlier = λ _. omega (arith, ltb-false j i e) }
      go false n false s false e = record {
        nearer = omega (arith, ltb-false (far_off place j) (far_off place i) n);
        earlier = λ equal. absurd (eqb-false (far_off place j) (far_off place i) s equal);
      }

  itself : (i : ℕ) → NotBefore place i i
  itself i = record { nearer = omega arith; earlier = λ _. omega arith }

  onward : (i j k : ℕ) → NotBefore place i j → NotBefore place j k → NotBefore place i k
  onward i j k p q = record {
    nearer = omega (arith, p.nearer, q.nearer);
    earlier = λ same.
        let ij = p.earlier (omega (arith, p.nearer, q.nearer, same)) in
        let jk = q.earlier (omega (arith, p.nearer, q.nearer, same)) in
        omega (arith, ij, jk);
  }

  -- what an answer says of a list: one of its places, which no other comes before; or that it has none
  abbrev Says : Outcome ℕ → List ℕ → Type 0
  Says (Ok i) l = Among i l × ((j : ℕ) → Among j l → NotBefore place i j)
  Says (Err n) l = (n ≡ NoCrossing) × ((j : ℕ) → Among j l → ⊥)

  says : (l : List ℕ) → Says (nearest_of place l) l
  unfolding nearest_of
  says [] = (refl, λ j h. h)
  says (i ∷ is) = go (nearest_of place is) (says is)
    where
      by : (j : ℕ) → Among j is → ((k : ℕ) → Among k is → NotBefore place j k) → (t : Bool) → comes_first place j i ≡ t → Says (Ok (cond t j i)) (i ∷ is)
      by j h least true e = (inr h, λ k. ⊎_elim (λ same. rw same (first_of_two i j true e)) (λ h. least k h))
      by j h least false e = (inl refl, λ k. ⊎_elim (λ same. rw same (itself i)) (λ h. onward i j k (first_of_two i j false e) (least k h)))

      go : (r : Outcome ℕ) → Says r is → Says (nearer place i r) (i ∷ is)
      go (Ok j) s = by j s.0 s.1 (comes_first place j i) refl
      go (Err n) s = (inl refl, λ k. ⊎_elim (λ same. rw same (itself i)) (λ h. absurd (s.1 k h)))

-- ---- the nearest of the crossings within reach

module _ (samples : List ℤ) (place reach : ℕ) where
  abbrev within : List ℕ
  within = those (λ i. leb (far_off place i) reach) (crossings samples)

  within_reach : (j : ℕ) → Among j within → WithinReach samples place reach j
  within_reach j h =
      let near = passed (λ i. leb (far_off place i) reach) j (crossings samples) h in
      let change = passed (sign_changes samples) j (places_from 1 (length samples - 1)) near.0 in
      let bounds = place_bounds j 1 (length samples - 1) change.0 in
      record {
        crossing = record { first = bounds.0; last = omega (arith, bounds.0, bounds.1); changes = change.1 };
        near = leb-true (far_off place j) reach near.1;
      }

  reach_within : (j : ℕ) → WithinReach samples place reach j → Among j within
  reach_within j w =
      let c = w.crossing in
      let there = place_in j 1 (length samples - 1) c.first (omega (arith, c.first, c.last)) in
      passes (λ i. leb (far_off place i) reach) j (crossings samples) (passes (sign_changes samples) j (places_from 1 (length samples - 1)) there c.changes) (le-leb (far_off place j) reach w.near)

  pub nearest_found : (i : ℕ) → nearest_crossing samples place reach ≡ Ok i → IsNearest samples place reach i
  unfolding nearest_crossing
  nearest_found i e =
      let s = subst (λ (r : Outcome ℕ). Says place r within) e (says place within) in
      record { within = within_reach i s.0; nearest = λ j w. (s.1 j (reach_within j w)).nearer; earlier = λ j w. (s.1 j (reach_within j w)).earlier }

  pub nearest_none : (n : Refusal) → nearest_crossing samples place reach ≡ Err n → (n ≡ NoCrossing) × ((j : ℕ) → WithinReach samples place reach j → ⊥)
  unfolding nearest_crossing
  nearest_none n e =
      let s = subst (λ (r : Outcome ℕ). Says place r within) e (says place within) in
      (s.0, λ j w. s.1 j (reach_within j w))

  pub found_nearest : (i : ℕ) → IsNearest samples place reach i → nearest_crossing samples place reach ≡ Ok i
  found_nearest i n = go (nearest_crossing samples place reach) refl
    where
      go : (r : Outcome ℕ) → nearest_crossing samples place reach ≡ r → r ≡ Ok i
      go (Ok j) e =
          let m = nearest_found j e in
          let there = n.nearest j m.within in
          let back = m.nearest i n.within in
          let early = n.earlier j m.within (omega (arith, there, back)) in
          let late = m.earlier i n.within (omega (arith, there, back)) in
          ap Ok (omega (arith, early, late))
      go (Err k) e = absurd ((nearest_none k e).1 i n.within)

  pub none_refused : ((j : ℕ) → WithinReach samples place reach j → ⊥) → nearest_crossing samples place reach ≡ Err NoCrossing
  none_refused none = go (nearest_crossing samples place reach) refl
    where
      go : (r : Outcome ℕ) → nearest_crossing samples place reach ≡ r → r ≡ Err NoCrossing
      go (Ok j) e = absurd (none j (nearest_found j e).within)
      go (Err k) e = ap Err (nearest_none k e).0

  pub short_refused : length samples ≤ 1 → nearest_crossing samples place reach ≡ Err NoCrossing
  short_refused short = none_refused (λ j w. omega (arith, short, w.crossing.first, w.crossing.last))
