-- Trimming takes whole subsequences off both ends, so what is left is a part of the bytes, its subsequences are those that were
-- not taken off, and trimming may be done before the replacement as well as after it.
-- Assumes nothing.
use Prim.Native.Nat.{ℕ}
use mathlib.Core.Bool.{Bool, true, false, cond, ◌&&◌}
use mathlib.Core.List.{List, [], ◌∷◌, ◌++◌, map, append_assoc}
use mathlib.Core.Path.{◌≡◌, refl, sym, ap, ◌∙◌}
use Rattle.laws.specs.Walk.{each}
use Rattle.text.specs.Place.{start_white}
use Rattle.text.specs.Text.{before_zero, is_white, trim_start, is_empty, trim_end, trim, clean}
use Rattle.text.specs.WhiteSpace.{code_point, is_white_space}
use Rattle.text_utf8.proofs.FirstLaws.{IsFirst}
use Rattle.text_utf8.proofs.SubsequenceLaws.{first_shorter, Consistent, consistent_same, consistent, subsequences_bytes, each_replaced, lossy_subsequences}
use Rattle.text_utf8.specs.Utf8.{Subsequence, scalar, ill_formed, subsequences, bytes, replaced, lossy}

-- ---- a part of the bytes

-- the white subsequences at the end
abbrev pub end_white : List Subsequence → List Subsequence
end_white [] = []
end_white (p ∷ ps) = cond (is_white p && is_empty (trim_end ps)) (p ∷ ps) (end_white ps)

pub start_split : (ps : List Subsequence) → each bytes ps ≡ each bytes (start_white ps) ++ each bytes (trim_start ps)
unfolding start_white trim_start
start_split [] = refl
start_split (p ∷ ps) = go (start_split ps) (is_white p)
  where
    go : each bytes ps ≡ each bytes (start_white ps) ++ each bytes (trim_start ps) → (u : Bool)
        → bytes p ++ each bytes ps ≡ each bytes (cond u (p ∷ start_white ps) []) ++ each bytes (cond u (trim_start ps) (p ∷ ps))
    go e true = rw append_assoc (ap (λ (r : List ℕ). bytes p ++ r) e)
    go e false = refl

pub end_split : (ps : List Subsequence) → each bytes ps ≡ each bytes (trim_end ps) ++ each bytes (end_white ps)
unfolding trim_end
end_split [] = refl
end_split (p ∷ ps) = go (end_split ps) (is_white p && is_empty (trim_end ps))
  where
    go : each bytes ps ≡ each bytes (trim_end ps) ++ each bytes (end_white ps) → (u : Bool)
        → bytes p ++ each bytes ps ≡ each bytes (cond u [] (p ∷ trim_end ps)) ++ each bytes (cond u (p ∷ ps) (end_white ps))
    go e true = refl
    go e false = rw append_assoc (ap (λ (r : List ℕ). bytes p ++ r) e)

pub trim_split : (l : List ℕ) → l ≡ each bytes (start_white (subsequences l)) ++ (trim l ++ each bytes (end_white (trim_start (subsequences l))))
unfolding trim
trim_split l =
    sym (subsequences_bytes l)
    ∙ start_split (subsequences l)
    ∙ ap (λ (r : List ℕ). each bytes (start_white (subsequences l)) ++ r) (end_split (trim_start (subsequences l)))

-- ---- its subsequences

consistent_start : (ps : List Subsequence) → Consistent ps → Consistent (trim_start ps)
unfolding trim_start
consistent_start [] h = tt
consistent_start (p ∷ ps) h = go (consistent_start ps h.1) (is_white p)
  where
    go : Consistent (trim_start ps) → (u : Bool) → Consistent (cond u (trim_start ps) (p ∷ ps))
    go later true = later
    go later false = h

consistent_end : (ps : List Subsequence) → Consistent ps → Consistent (trim_end ps)
unfolding trim_end
consistent_end [] h = tt
consistent_end (p ∷ ps) h = go (consistent_end ps h.1) (rw end_split at h.0) (is_white p && is_empty (trim_end ps))
  where
    go : Consistent (trim_end ps) → IsFirst p (each bytes (trim_end ps) ++ each bytes (end_white ps)) → (u : Bool) → Consistent (cond u [] (p ∷ trim_end ps))
    go later m true = tt
    go later m false = (first_shorter _ _ m, later)

pub trim_subsequences : (l : List ℕ) → subsequences (trim l) ≡ trim_end (trim_start (subsequences l))
unfolding trim
trim_subsequences l = consistent_same _ (consistent_end _ (consistent_start _ (consistent l)))

-- ---- replacement makes no subsequence white, and none not white

white_replaced : (p : Subsequence) → is_white (replaced p) ≡ is_white p
unfolding code_point is_white_space
white_replaced (scalar l) = refl
white_replaced (ill_formed l) = refl

start_replaced : (ps : List Subsequence) → trim_start (map replaced ps) ≡ map replaced (trim_start ps)
unfolding trim_start
start_replaced [] = refl
start_replaced (p ∷ ps) = rw white_replaced (go (start_replaced ps) (is_white p))
  where
    go : trim_start (map replaced ps) ≡ map replaced (trim_start ps) → (u : Bool) → cond u (trim_start (map replaced ps)) (replaced p ∷ map replaced ps) ≡ map replaced (cond u (trim_start ps) (p ∷ ps))
    go e true = e
    go e false = refl

empty_replaced : (ps : List Subsequence) → is_empty (map replaced ps) ≡ is_empty ps
empty_replaced [] = refl
empty_replaced (p ∷ ps) = refl

end_replaced : (ps : List Subsequence) → trim_end (map replaced ps) ≡ map replaced (trim_end ps)
unfolding trim_end
end_replaced [] = refl
end_replaced (p ∷ ps) = rw (white_replaced, end_replaced ps, empty_replaced) (go (is_white p && is_empty (trim_end ps)))
  where
    go : (u : Bool) → cond u [] (replaced p ∷ map replaced (trim_end ps)) ≡ map replaced (cond u [] (p ∷ trim_end ps))
    go true = refl
    go false = refl

lossy_trim : (l : List ℕ) → lossy (trim l) ≡ trim (lossy l)
unfolding lossy trim
lossy_trim l = rw (trim_subsequences, lossy_subsequences, start_replaced, end_replaced, each_replaced)

-- the order that the code goes by
pub clean_is : (l : List ℕ) → clean l ≡ lossy (trim (before_zero l))
unfolding clean
clean_is l = sym (lossy_trim (before_zero l))
