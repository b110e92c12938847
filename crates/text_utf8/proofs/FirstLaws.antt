-- The first subsequence of a list of bytes: its bytes are the front of the list, and which of three cases of table 3-7 makes it
-- so.
-- Assumes nothing.
use Prim.Native.Nat.{ℕ, suc, ◌≤◌}
use borrow.Author.Tests.{eqb-true, eqb-false}
use lib.Dec.{eqb}
use lib.ListN.{length, take, drop, take-append-drop}
use lib.Seq.{length-take-le}
use mathlib.Core.Bool.{Bool, true, false, cond}
use mathlib.Core.List.{List, [], ◌∷◌, ◌++◌}
use mathlib.Core.Path.{◌≡◌, refl, sym, ◌∙◌}
use native.Mathlib.Omega.{arith}
use Rattle.laws.proofs.Cases.{impossible}
use Rattle.laws.specs.Walk.{more, last}
use Rattle.text_utf8.proofs.MatchingLaws.{matching_le}
use Rattle.text_utf8.specs.Table.{Range, following}
use Rattle.text_utf8.specs.Utf8.{matching, Subsequence, scalar, ill_formed, from_lead, first_subsequence, bytes}
use Rattle.std.specs.Prelude.{None, Option, Some}

-- p is the first subsequence of its own bytes with r after them:
-- no row begins with its one byte; or it ends before its row is complete; or its row is complete
pub data IsFirst : Subsequence → List ℕ → Type 0 where
  no_row : {b : ℕ} {r : List ℕ} → following b ≡ None → IsFirst (ill_formed (b ∷ [])) r
  part_row : {b : ℕ} {t r : List ℕ} {rs : List Range} → following b ≡ Some rs → matching rs (t ++ r) ≡ length t → (length t ≡ length rs → ⊥) → IsFirst (ill_formed (b ∷ t)) r
  full_row : {b : ℕ} {t r : List ℕ} {rs : List Range} → following b ≡ Some rs → matching rs (t ++ r) ≡ length t → length t ≡ length rs → IsFirst (scalar (b ∷ t)) r

-- p is the first suc n bytes of l
pub record FirstOf (l : List ℕ) (p : Subsequence) (n : ℕ) : Type 0 where
  pub body : bytes p ≡ take (suc n) l
  pub fits : suc n ≤ length l
  pub is : IsFirst p (drop (suc n) l)

pub first_of : (l : List ℕ) (p : Subsequence) (n : ℕ) → first_subsequence l ≡ more p n → FirstOf l p n
unfolding first_subsequence
first_of [] p n e = impossible cc
first_of (b ∷ l) p n e = go (following b) refl e
  where
    go : (o : Option (List Range)) → following b ≡ o → from_lead b o l ≡ more p n → FirstOf (b ∷ l) p n
    go None f e =
        let q : ill_formed (b ∷ []) ≡ p = cc in
        let k : 0 ≡ n = cc in
        rw (← q, ← k) (record { body = refl; fits = omega arith; is = no_row f })
    go (Some rs) f e = sort (eqb (matching rs l) (length rs)) refl e
      where
        long : length (take (matching rs l) l) ≡ matching rs l
        long = length-take-le (matching rs l) l (matching_le rs l)

        same : matching rs (take (matching rs l) l ++ drop (matching rs l) l) ≡ length (take (matching rs l) l)
        same = rw take-append-drop (sym long)

        sort : (u : Bool) → eqb (matching rs l) (length rs) ≡ u
            → more (cond u (scalar (b ∷ take (matching rs l) l)) (ill_formed (b ∷ take (matching rs l) l))) (matching rs l) ≡ more p n
            → FirstOf (b ∷ l) p n
        sort true u e =
            let q : scalar (b ∷ take (matching rs l) l) ≡ p = cc in
            let k : matching rs l ≡ n = cc in
            rw (← q, ← k) (record { body = refl; fits = omega (arith, matching_le rs l); is = full_row f same (long ∙ eqb-true _ _ u) })
        sort false u e =
            let q : ill_formed (b ∷ take (matching rs l) l) ≡ p = cc in
            let k : matching rs l ≡ n = cc in
            rw (← q, ← k) (record { body = refl; fits = omega (arith, matching_le rs l); is = part_row f same (λ d. eqb-false _ _ u (sym long ∙ d)) })

-- only the empty list has no first subsequence
pub first_none : (l : List ℕ) (ps : List Subsequence) → first_subsequence l ≡ last ps → l ≡ []
unfolding first_subsequence
first_none [] ps e = refl
first_none (b ∷ l) ps e = go (following b) e
  where
    go : (o : Option (List Range)) → from_lead b o l ≡ last ps → b ∷ l ≡ []
    go None e = impossible cc
    go (Some rs) e = impossible cc

pub first_nil : first_subsequence [] ≡ last []
unfolding first_subsequence
first_nil = refl
