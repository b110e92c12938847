-- Which lists of subsequences are those of their own bytes: the subsequences of a list, and the same with U+FFFD in the place of
-- the ill-formed ones.
-- Assumes nothing.
use Prim.Native.Nat.{ℕ, zero, suc}
use borrow.Author.Tests.{eq-eqb, ne_eqb}
use lib.ListN.{length, drop, take-append-drop}
use lib.Seq.{drop-append_seam, take-append_seam, drop-nil}
use mathlib.Core.Bool.{Bool, true, false, cond}
use mathlib.Core.List.{List, [], ◌∷◌, ◌++◌, map}
use mathlib.Core.Path.{◌≡◌, refl, sym, ap, ◌∙◌}
use native.Mathlib.Omega.{arith}
use Rattle.laws.proofs.Cases.{impossible}
use Rattle.laws.proofs.WalkLaws.{walk_more}
use Rattle.laws.specs.Walk.{Front, more, last, after, walk, each}
use Rattle.text_utf8.proofs.FirstLaws.{IsFirst, no_row, part_row, full_row, first_of, first_none, first_nil}
use Rattle.text_utf8.specs.Table.{Range, within, following}
use Rattle.text_utf8.specs.Utf8.{matching, Subsequence, scalar, ill_formed, first_subsequence, subsequences, bytes, replaced, lossy}

-- ---- one subsequence

first_more : {p : Subsequence} {r : List ℕ} → IsFirst p r → subsequences (bytes p ++ r) ≡ p ∷ subsequences r
unfolding subsequences first_subsequence
first_more {r = r} (no_row {b} e) = walk_more first_subsequence first_nil (b ∷ r) (ill_formed (b ∷ [])) 0 (rw e)
first_more {r = r} (part_row {b} {t} {rs = rs} e k d) =
    walk_more first_subsequence first_nil (b ∷ (t ++ r)) (ill_formed (b ∷ t)) (length t) (rw (e, k, ne_eqb (length t) (length rs) d, take-append_seam))
    ∙ rw drop-append_seam
first_more {r = r} (full_row {b} {t} {rs = rs} e k d) =
    walk_more first_subsequence first_nil (b ∷ (t ++ r)) (scalar (b ∷ t)) (length t) (rw (e, k, eq-eqb (length t) (length rs) d, take-append_seam))
    ∙ rw drop-append_seam

-- the end of what comes after may be left out
matching_shorter : (rs : List Range) (t x y : List ℕ) → matching rs (t ++ (x ++ y)) ≡ length t → matching rs (t ++ x) ≡ length t
unfolding matching
matching_shorter [] t x y e = e
matching_shorter (r ∷ rs) [] [] y e = refl
matching_shorter (r ∷ rs) [] (b ∷ x) y e = go (within r b) e
  where
    go : (u : Bool) → cond u (suc (matching rs (x ++ y))) 0 ≡ 0 → cond u (suc (matching rs x)) 0 ≡ 0
    go true e = absurd (omega arith)
    go false e = refl
matching_shorter (r ∷ rs) (b ∷ t) x y e = go (matching_shorter rs t x y) (within r b) e
  where
    go :
        (matching rs (t ++ (x ++ y)) ≡ length t → matching rs (t ++ x) ≡ length t) → (u : Bool) →
        cond u (suc (matching rs (t ++ (x ++ y)))) 0 ≡ suc (length t) → cond u (suc (matching rs (t ++ x))) 0 ≡ suc (length t)
    go later true e = ap suc (later (omega arith))
    go later false e = absurd (omega arith)

pub first_shorter : {p : Subsequence} (x y : List ℕ) → IsFirst p (x ++ y) → IsFirst p x
first_shorter x y (no_row f) = no_row f
first_shorter x y (part_row {t = t} {rs = rs} f k d) = part_row f (matching_shorter rs t x y k) d
first_shorter x y (full_row {t = t} {rs = rs} f k d) = full_row f (matching_shorter rs t x y k) d

-- a complete row asks nothing of what comes after
matching_full : (rs : List Range) (t r r' : List ℕ) → matching rs (t ++ r) ≡ length t → length t ≡ length rs → matching rs (t ++ r') ≡ length t
unfolding matching
matching_full [] [] r r' e d = refl
matching_full [] (b ∷ t) r r' e d = absurd (omega arith)
matching_full (x ∷ rs) [] r r' e d = absurd (omega arith)
matching_full (x ∷ rs) (b ∷ t) r r' e d = go (λ e. matching_full rs t r r' e (omega arith)) (within x b) e
  where
    go :
        (matching rs (t ++ r) ≡ length t → matching rs (t ++ r') ≡ length t) → (u : Bool) → cond u (suc (matching rs (t ++ r))) 0 ≡ suc (length t) →
        cond u (suc (matching rs (t ++ r'))) 0 ≡ suc (length t)
    go later true e = ap suc (later (omega arith))
    go later false e = absurd (omega arith)

first_replaced : {p : Subsequence} {r : List ℕ} (r' : List ℕ) → IsFirst p r → IsFirst (replaced p) r'
unfolding following matching
first_replaced r' (no_row f) = full_row refl refl refl
first_replaced r' (part_row f k d) = full_row refl refl refl
first_replaced {r = r} r' (full_row {t = t} {rs = rs} f k d) = full_row f (matching_full rs t r r' k d) d

-- ---- lists of subsequences

-- each is the first of its bytes and those of the ones after it
abbrev pub Consistent : List Subsequence → Type 0
Consistent [] = Unit
Consistent (p ∷ ps) = IsFirst p (each bytes ps) × Consistent ps

pub consistent_same : (ps : List Subsequence) → Consistent ps → subsequences (each bytes ps) ≡ ps
unfolding subsequences walk
consistent_same [] h = refl
consistent_same (p ∷ ps) h = first_more h.0 ∙ ap (λ (qs : List Subsequence). p ∷ qs) (consistent_same ps h.1)

consistent_walk : (k : ℕ) (l : List ℕ) → Consistent (walk first_subsequence k l) × (each bytes (walk first_subsequence k l) ≡ drop k l)
unfolding walk
consistent_walk k [] = (tt, sym (drop-nil k))
consistent_walk (suc k) (b ∷ l) = consistent_walk k l
consistent_walk zero (b ∷ l) = go (λ n. consistent_walk n l) (first_subsequence (b ∷ l)) refl
  where
    go : ((n : ℕ) → Consistent (walk first_subsequence n l) × (each bytes (walk first_subsequence n l) ≡ drop n l)) → (f : Front Subsequence) → first_subsequence (b ∷ l) ≡ f
        → Consistent (after f (λ n. walk first_subsequence n l)) × (each bytes (after f (λ n. walk first_subsequence n l)) ≡ b ∷ l)
    go later (more p n) e =
        let w = later n in
        let f = first_of (b ∷ l) p n e in
        ((rw w.1 f.is, w.0), rw (f.body, w.1) (ap (λ (r : List ℕ). b ∷ r) (take-append-drop n l)))
    go later (last ps) e = let z = first_none (b ∷ l) ps e in impossible cc

pub consistent : (l : List ℕ) → Consistent (subsequences l)
unfolding subsequences
consistent l = (consistent_walk 0 l).0

-- the subsequences lose no byte
pub subsequences_bytes : (l : List ℕ) → each bytes (subsequences l) ≡ l
unfolding subsequences
subsequences_bytes l = (consistent_walk 0 l).1

-- ---- replacement

consistent_replaced : (ps : List Subsequence) → Consistent ps → Consistent (map replaced ps)
consistent_replaced [] h = tt
consistent_replaced (p ∷ ps) h = (first_replaced _ h.0, consistent_replaced ps h.1)

pub each_replaced : (ps : List Subsequence) → each bytes (map replaced ps) ≡ each (λ p. bytes (replaced p)) ps
each_replaced [] = refl
each_replaced (p ∷ ps) = rw (each_replaced ps)

pub lossy_subsequences : (l : List ℕ) → subsequences (lossy l) ≡ map replaced (subsequences l)
unfolding lossy
lossy_subsequences l = rw (← each_replaced) (consistent_same (map replaced (subsequences l)) (consistent_replaced (subsequences l) (consistent l)))
