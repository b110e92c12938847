-- The search outward from a place: what is known after each distance, and what is found then.
-- Assumes nothing.
use Prim.Native.Nat.{ℕ, ◌+◌, ◌-◌, ◌≤◌, ◌<◌, min}
use mathlib.Core.Bool.{Bool, true, false, true≢false}
use mathlib.Core.List.{List}
use mathlib.Core.Path.{◌≡◌, refl, sym, ap, ◌∙◌}
use native.Mathlib.Omega.{arith}
use borrow.Author.Tests.{eqb-true, eqb-false, ltb-true, ltb-false}
use lib.Dec.{eqb, ltb}
use lib.IntN.{ℤ}
use lib.ListN.{length}
use Rattle.crossing.specs.Crossing.{is_below, unlike, far_off, nearest_crossing}
use Rattle.crossing.specs.Helpers.{Searched}
use Rattle.crossing.specs.Promise.{IsCrossing, WithinReach}
use Rattle.crossing.proofs.NearestLaws.{nearest_found, nearest_none, found_nearest, none_refused}
use Rattle.refusal.specs.declared.Refusal.TheVariants.{NoCrossing}
use Rattle.refusal.specs.Outcome.{Outcome}
use Rattle.std.specs.Prelude.{Err, Ok}

-- ---- two signs

alike : (a b : Bool) → unlike a b ≡ false → b ≡ a
alike true true e = refl
alike false false e = refl
alike true false e = absurd (true≢false e)
alike false true e = absurd (true≢false e)

never_both : (a b c : Bool) → a ≡ c → b ≡ c → unlike a b ≡ true → ⊥
never_both true true c p q e = true≢false (sym e)
never_both false false c p q e = true≢false (sym e)
never_both true false c p q e = true≢false (p ∙ sym q)
never_both false true c p q e = true≢false (q ∙ sym p)

turned : (a b : Bool) → unlike a b ≡ true → unlike b a ≡ true
turned true true e = e
turned true false e = refl
turned false true e = refl
turned false false e = e

-- ---- the search from a place that has a sample

-- before any distance was looked at
pub searched_none : (samples : List ℤ) (start : ℕ) → start < length samples → Searched samples start 0
searched_none samples start there =
    record { inside = there; signs = λ j _ low high. let same : j ≡ start = omega (arith, low, high) in ap (is_below samples) same }

module _ {samples : List ℤ} {start d : ℕ} (s : Searched samples start d) where
  -- what distance d tells: neither of its two places, where there is one, has a sample of another sign
  abbrev BeforeAlike : Type 0
  BeforeAlike = d < start → unlike (is_below samples start) (is_below samples (start - d - 1)) ≡ false

  abbrev AfterAlike : Type 0
  AfterAlike = start + d < length samples → unlike (is_below samples start) (is_below samples (start + d)) ≡ false

  pub searched_more : BeforeAlike → AfterAlike → Searched samples start (d + 1)
  searched_more b a = record { inside = s.inside; signs = λ j there low high. go j there low high (eqb j (start - d - 1)) refl (eqb j (start + d)) refl }
    where
      go : (j : ℕ) → j < length samples → start ≤ j + (d + 1) → j ≤ start + (d + 1 - 1)
          → (first : Bool) → eqb j (start - d - 1) ≡ first → (last : Bool) → eqb j (start + d) ≡ last → is_below samples j ≡ is_below samples start
      go j there low high first f true l =
          let at = eqb-true j (start + d) l in
          rw at (alike (is_below samples start) (is_below samples (start + d)) (a (omega (arith, at, there))))
      go j there low high true f false l = early (ltb d start) refl
        where
          early : (t : Bool) → ltb d start ≡ t → is_below samples j ≡ is_below samples start
          early true t = let at = eqb-true j (start - d - 1) f in rw at (alike (is_below samples start) (is_below samples (start - d - 1)) (b (ltb-true d start t)))
          early false t = s.signs j there (omega (arith, ltb-false d start t)) (omega (arith, high, eqb-false j (start + d) l))
      go j there low high false f false l = s.signs j there (omega (arith, low, eqb-false j (start - d - 1) f)) (omega (arith, high, eqb-false j (start + d) l))

  -- no crossing is nearer than d
  farther : (i : ℕ) → IsCrossing samples i → d ≤ far_off start i
  farther i c = go (ltb (far_off start i) d) refl
    where
      go : (t : Bool) → ltb (far_off start i) d ≡ t → d ≤ far_off start i
      go false t = ltb-false (far_off start i) d t
      go true t =
          let near = ltb-true (far_off start i) d t in
          let one = s.signs (i - 1) (omega (arith, c.last)) (omega (arith, near, c.first)) (omega (arith, near, c.first)) in
          let other = s.signs i c.last (omega (arith, near)) (omega (arith, near)) in
          absurd (never_both (is_below samples (i - 1)) (is_below samples i) (is_below samples start) one other c.changes)

  -- the place before the start that is as far off as one after it isn't a crossing
  not_before : BeforeAlike → (j : ℕ) → IsCrossing samples j → far_off start j ≡ far_off start (start + d) → (t : Bool) → ltb j start ≡ t → start + d ≤ j
  not_before b j c same false t = omega (arith, same, ltb-false j start t)
  not_before b j c same true t =
      let low = ltb-true j start t in
      let at : j ≡ start - d = omega (arith, same, low) in
      let its : is_below samples j ≡ is_below samples start = s.signs j c.last (omega (arith, at)) (omega (arith, low)) in
      let prior : is_below samples (j - 1) ≡ is_below samples start = rw at (alike (is_below samples start) (is_below samples (start - d - 1)) (b (omega (arith, at, low, c.first)))) in
      absurd (never_both (is_below samples (j - 1)) (is_below samples j) (is_below samples start) prior its c.changes)

  module _ (reach : ℕ) where
    pub found_before : d < min (reach + 1) start → unlike (is_below samples start) (is_below samples (start - d - 1)) ≡ true → nearest_crossing samples start reach ≡ Ok (start - d)
    found_before room u = found_nearest samples start reach (start - d) (record {
      within = record {
        crossing = record {
          first = omega (arith, room);
          last = omega (arith, s.inside);
          changes = rw (s.signs (start - d) (omega (arith, s.inside)) (omega (arith, room)) (omega arith)) (turned (is_below samples start) (is_below samples (start - d - 1)) u);
        };
        near = omega (arith, room);
      };
      nearest = λ j w. omega (arith, room, farther j w.crossing);
      earlier = λ j w same. omega (arith, room, same);
    })

    after_it : BeforeAlike → d ≤ reach → start + d < length samples → unlike (is_below samples start) (is_below samples (start + d)) ≡ true
        → nearest_crossing samples start reach ≡ Ok (start + d)
    after_it b near there u = go (eqb d 0) refl
      where
        go : (t : Bool) → eqb d 0 ≡ t → nearest_crossing samples start reach ≡ Ok (start + d)
        go true t =
            let same = s.signs (start + d) there (omega arith) (omega (arith, eqb-true d 0 t)) in
            absurd (never_both (is_below samples start) (is_below samples (start + d)) (is_below samples start) refl same u)
        go false t =
            let later = eqb-false d 0 t in
            let same : is_below samples (start + d - 1) ≡ is_below samples start = s.signs (start + d - 1) (omega (arith, there)) (omega (arith, later)) (omega (arith, later)) in
            found_nearest samples start reach (start + d) (record {
              within = record { crossing = record { first = omega (arith, later); last = there; changes = rw same u }; near = omega (arith, near) };
              nearest = λ j w. omega (arith, farther j w.crossing);
              earlier = λ j w same. not_before b j w.crossing same (ltb j start) refl;
            })

    pub found_after : BeforeAlike → d < min (reach + 1) (length samples - start) → unlike (is_below samples start) (is_below samples (start + d)) ≡ true
        → nearest_crossing samples start reach ≡ Ok (start + d)
    found_after b room = after_it b (omega (arith, room)) (omega (arith, room))

    pub found_none : min (reach + 1) start ≤ d → min (reach + 1) (length samples - start) ≤ d → nearest_crossing samples start reach ≡ Err NoCrossing
    found_none before after = none_refused samples start reach (λ j w. no j w (farther j w.crossing))
      where
        no : (j : ℕ) → WithinReach samples start reach j → d ≤ far_off start j → ⊥
        no j w far = omega (arith, before, after, far, w.near, w.crossing.first, w.crossing.last)

-- ---- a place past the end

to_rest : (a b c : ℕ) → a + b ≤ c → b ≤ c - a
to_rest a b c h = omega arith

of_rest : (a b c : ℕ) → a ≤ c → b ≤ c - a → a + b ≤ c
of_rest a b c h k = omega arith

module _ (samples : List ℤ) (place reach : ℕ) (some : 1 ≤ length samples) (past : length samples ≤ place) where
  abbrev last : ℕ
  last = length samples - 1

  -- what lies between the last sample and the place counts for every crossing
  abbrev between : ℕ
  between = place - last

  apart : (j : ℕ) → IsCrossing samples j → far_off place j ≡ between + far_off last j
  apart j c = omega (arith, some, past, c.last)

  pub past_reach : reach < between → nearest_crossing samples place reach ≡ Err NoCrossing
  past_reach far = none_refused samples place reach (λ j w. omega (arith, far, w.near, apart j w.crossing))

  module _ (near : between ≤ reach) where
    to_last : (j : ℕ) → WithinReach samples place reach j → WithinReach samples last (reach - between) j
    to_last j w = record { crossing = w.crossing; near = to_rest between (far_off last j) reach (rw (apart j w.crossing) at w.near) }

    of_last : (j : ℕ) → WithinReach samples last (reach - between) j → WithinReach samples place reach j
    of_last j w = record { crossing = w.crossing; near = rw (apart j w.crossing) (of_rest between (far_off last j) reach near w.near) }

    -- the search from the last sample, with what is left of the reach, is the search from the place
    pub from_last : nearest_crossing samples last (reach - between) ≡ nearest_crossing samples place reach
    from_last = go (nearest_crossing samples last (reach - between)) refl
      where
        go : (r : Outcome ℕ) → nearest_crossing samples last (reach - between) ≡ r → r ≡ nearest_crossing samples place reach
        go (Err n) e =
            let none = nearest_none samples last (reach - between) n e in
            ap Err none.0 ∙ sym (none_refused samples place reach (λ j w. none.1 j (to_last j w)))
        go (Ok i) e =
            let n = nearest_found samples last (reach - between) i e in
            let its = apart i n.within.crossing in
            sym (found_nearest samples place reach i (record {
              within = of_last i n.within;
              nearest = λ j w. omega (arith, its, apart j w.crossing, n.nearest j (to_last j w));
              earlier = λ j w same. n.earlier j (to_last j w) (omega (arith, its, apart j w.crossing, same));
            }))
