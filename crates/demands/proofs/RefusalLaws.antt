-- By which refusals a chain of steps may be turned back.
--     one_of, all_of                     a refusal of a list, by a test that is computed
--     Within, by_test .. accepted_then   what each step of a chain may be refused by
--     others, holding_among              a rule that holds has one of the refusals, where no other rule holds
--     rules_within                       what rules turn back is refused by one of theirs
--     along                              what is said of a walk from each place on
-- Assumes nothing.
use Prim.Native.Nat.{ℕ, zero, suc, ◌+◌, ◌≤◌, ◌<◌}
use mathlib.Core.Bool.{Bool, true, false, cond, ◌&&◌, ◌||◌}
use mathlib.Core.List.{List, [], ◌∷◌}
use mathlib.Core.Logic.{inl, inr}
use mathlib.Core.Path.{◌≡◌, refl}
use native.Mathlib.Omega.{arith}
use denote.Enum.Bare.{sameb, same_true}
use lib.Dec.{T}
use lib.Ieee.Fits.{and_l, and_r}
use Rattle.std.specs.Prelude.{Err, Ok, ⊤}
use Rattle.laws.specs.Among.{Among}
use Rattle.laws.proofs.Cases.{impossible}
use Rattle.refusal.specs.Outcome.{Outcome, if_accepted, and_then}
use Rattle.refusal.specs.Rules.{Rule, Holds, NoneHolds, first_holding, unless_refused}
use Rattle.refusal.specs.declared.Refusal.{Refusal}
use Rattle.refusal.specs.contracts.Refusal.{the_type}
use Rattle.refusal.proofs.RuleLaws.{turned_back, first_holds}

-- ---- a refusal of a list

-- the tests, by the refusals' own equality
abbrev pub is_one_of : List Refusal → Refusal → Bool
is_one_of [] r = false
is_one_of (q ∷ qs) r = sameb the_type r q || is_one_of qs r

pub one_of : (qs : List Refusal) (r : Refusal) → T (is_one_of qs r) → Among r qs
one_of [] r t = t
one_of (q ∷ qs) r t = go (sameb the_type r q) refl t (one_of qs r)
  where
    go : (u : Bool) → sameb the_type r q ≡ u → T (u || is_one_of qs r) → (T (is_one_of qs r) → Among r qs) → Among r (q ∷ qs)
    go true e t later = inl (same_true the_type tt r q e)
    go false e t later = inr (later t)

abbrev pub are_of : List Refusal → List Refusal → Bool
are_of qs [] = true
are_of qs (r ∷ rs) = is_one_of qs r && are_of qs rs

-- a refusal of the shorter list is one of the longer
pub all_of : (qs rs : List Refusal) → T (are_of qs rs) → (r : Refusal) → Among r rs → Among r qs
all_of qs [] t r a = absurd a
all_of qs (k ∷ rs) t r (inl e) = rw e (one_of qs k (and_l (is_one_of qs k) (are_of qs rs) t))
all_of qs (k ∷ rs) t r (inr a) = all_of qs rs (and_r (is_one_of qs k) (are_of qs rs) t) r a

-- ---- a chain of steps

-- a refusal is one of these
abbrev pub Within : {A : Type 0} → List Refusal → Outcome A → Type 0
Within refusals (Ok a) = Unit
Within refusals (Err r) = Among r refusals

-- whichever a test gives
pub by_test : {A : Type 0} (P : A → Type 0) (t : Bool) {a b : A} → P a → P b → P (cond t a b)
by_test P true p q = p
by_test P false p q = q

-- those of the shorter list are of the longer
pub widened : {A : Type 0} (qs rs : List Refusal) → T (are_of qs rs) → (o : Outcome A) → Within rs o → Within qs o
widened qs rs t (Ok a) w = tt
widened qs rs t (Err r) w = all_of qs rs t r w

module _ (refusals : List Refusal) where
  pub refused_by : {A : Type 0} (o : Outcome A) (r : Refusal) → Within refusals o → o ≡ Err r → Among r refusals
  refused_by o r w e = rw e at w

  pub then_within : {A B : Type 0} (o : Outcome A) (next : A → Outcome B) → Within refusals o → ((a : A) → Within refusals (next a)) → Within refusals (and_then o next)
  then_within (Ok a) next w later = later a
  then_within (Err r) next w later = w

  pub accepted_then : {A : Type 0} (judged : Outcome ⊤) (o : Outcome A) → Within refusals judged → Within refusals o → Within refusals (if_accepted judged o)
  accepted_then (Ok u) o w later = later
  accepted_then (Err r) o w later = w

-- ---- rules

-- the rules whose refusals aren't among these
abbrev pub others : List Refusal → List Rule → List Rule
others refusals [] = []
others refusals (r ∷ rs) = cond (is_one_of refusals r.refusal) (others refusals rs) (r ∷ others refusals rs)

-- where none of those holds, a rule that holds has one of the refusals
pub holding_among : (refusals : List Refusal) (rs : List Rule) → NoneHolds (others refusals rs) → (refusal : Refusal) → Holds refusal rs → Among refusal refusals
holding_among refusals [] none refusal h = absurd h
holding_among refusals (r ∷ rs) none refusal h = go (is_one_of refusals r.refusal) refl none h (λ rest. holding_among refusals rs rest refusal)
  where
    go : (t : Bool) → is_one_of refusals r.refusal ≡ t → NoneHolds (cond t (others refusals rs) (r ∷ others refusals rs)) → Holds refusal (r ∷ rs)
        → (NoneHolds (others refusals rs) → Holds refusal rs → Among refusal refusals) → Among refusal refusals
    go true t none (inl w) later = rw (← w.0) (one_of refusals r.refusal (rw t tt))
    go true t none (inr h) later = later none h
    go false t none (inl w) later = impossible cc
    go false t none (inr h) later = later none.1 h

pub rules_within : {A : Type 0} (refusals : List Refusal) (rs : List Rule) (a : A) → NoneHolds (others refusals rs) → Within refusals (unless_refused (first_holding rs) a)
rules_within {A} refusals rs a none = go (unless_refused (first_holding rs) a) refl
  where
    go : (o : Outcome A) → unless_refused (first_holding rs) a ≡ o → Within refusals o
    go (Ok b) e = tt
    go (Err r) e = holding_among refusals rs none r (first_holds rs r (turned_back (first_holding rs) r a e))

-- ---- a walk

-- what holds at a place because it holds at all later ones holds at every place; from the end on it has to hold without them
pub along : (P : ℕ → Type 0) (end : ℕ) → ((at : ℕ) → (at < end → (next : ℕ) → at < next → P next) → P at) → (at : ℕ) → P at
along P end step at = go end at (omega arith)
  where
    go : (left at : ℕ) → end ≤ at + left → P at
    go zero at h = step at (λ before next on. absurd (omega arith))
    go (suc left) at h = step at (λ before next on. go left next (omega arith))
