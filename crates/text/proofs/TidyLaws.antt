-- Zero bytes and white ends: a tidy text has nothing to cut or to trim; what is trimmed is empty or has no white end; and neither
-- trimming nor replacement makes a zero byte.
-- Assumes nothing.
use Prim.Native.Nat.{ℕ}
use lib.Dec.{eqb}
use mathlib.Core.Bool.{Bool, true, false, cond, not, ◌&&◌, and_assoc}
use mathlib.Core.List.{List, [], ◌∷◌, ◌++◌}
use mathlib.Core.Logic.{◌⊎◌, inl, inr}
use mathlib.Core.Path.{◌≡◌, refl, sym, ap, ◌∙◌}
use Rattle.laws.proofs.Cases.{impossible}
use Rattle.laws.specs.Walk.{each}
use Rattle.text.proofs.TrimLaws.{end_white, trim_split, trim_subsequences}
use Rattle.text.specs.Place.{start_white}
use Rattle.text.specs.Text.{before_zero, is_white, trim_start, is_empty, trim_end, trim, zero_free, first_not_white, last_not_white, tidy}
use Rattle.text_utf8.proofs.SubsequenceLaws.{subsequences_bytes}
use Rattle.text_utf8.specs.Utf8.{Subsequence, scalar, ill_formed, subsequences, bytes, replaced, lossy}

pub both_left : (a b : Bool) → (a && b) ≡ true → a ≡ true
both_left true b h = refl
both_left false b h = h

pub both_right : (a b : Bool) → (a && b) ≡ true → b ≡ true
both_right true b h = h
both_right false b h = impossible cc

both : (a b : Bool) → a ≡ true → b ≡ true → (a && b) ≡ true
both a b h k = rw (h, k)

-- ---- nothing to cut or to trim

pub before_zero_same : (l : List ℕ) → zero_free l ≡ true → before_zero l ≡ l
unfolding before_zero
before_zero_same [] h = refl
before_zero_same (b ∷ l) h = go (before_zero_same l) (eqb b 0) h
  where
    go : (zero_free l ≡ true → before_zero l ≡ l) → (u : Bool) → (not u && zero_free l) ≡ true → cond u [] (b ∷ before_zero l) ≡ b ∷ l
    go later true h = impossible cc
    go later false h = rw (later h)

pub start_same : (ps : List Subsequence) → first_not_white ps ≡ true → trim_start ps ≡ ps
unfolding trim_start
start_same [] h = refl
start_same (p ∷ ps) h = go (is_white p) h
  where
    go : (u : Bool) → not u ≡ true → cond u (trim_start ps) (p ∷ ps) ≡ p ∷ ps
    go true h = impossible cc
    go false h = refl

pub end_same : (ps : List Subsequence) → last_not_white ps ≡ true → trim_end ps ≡ ps
unfolding trim_end
end_same [] h = refl
end_same (p ∷ []) h = go (is_white p) h
  where
    go : (u : Bool) → not u ≡ true → cond (u && true) [] (p ∷ []) ≡ p ∷ []
    go true h = impossible cc
    go false h = refl
end_same (p ∷ q ∷ ps) h = rw (end_same (q ∷ ps) h) (go (is_white p))
  where
    go : (u : Bool) → cond (u && false) [] (p ∷ q ∷ ps) ≡ p ∷ q ∷ ps
    go true = refl
    go false = refl

-- ---- no zero byte

zero_free_append : (a b : List ℕ) → zero_free (a ++ b) ≡ (zero_free a && zero_free b)
zero_free_append [] b = refl
zero_free_append (x ∷ a) b = rw (zero_free_append a b) (sym (and_assoc (not (eqb x 0)) (zero_free a) (zero_free b)))

zero_free_left : (a b : List ℕ) → zero_free (a ++ b) ≡ true → zero_free a ≡ true
zero_free_left a b h = both_left (zero_free a) (zero_free b) (sym (zero_free_append a b) ∙ h)

zero_free_right : (a b : List ℕ) → zero_free (a ++ b) ≡ true → zero_free b ≡ true
zero_free_right a b h = both_right (zero_free a) (zero_free b) (sym (zero_free_append a b) ∙ h)

pub zero_free_before_zero : (l : List ℕ) → zero_free (before_zero l) ≡ true
unfolding before_zero
zero_free_before_zero [] = refl
zero_free_before_zero (b ∷ l) = go (zero_free_before_zero l) (eqb b 0) refl
  where
    go : zero_free (before_zero l) ≡ true → (u : Bool) → eqb b 0 ≡ u → zero_free (cond u [] (b ∷ before_zero l)) ≡ true
    go later true e = refl
    go later false e = rw (e, later)

pub zero_free_trim : (l : List ℕ) → zero_free l ≡ true → zero_free (trim l) ≡ true
zero_free_trim l h =
    let a = each bytes (start_white (subsequences l)) in
    let b = each bytes (end_white (trim_start (subsequences l))) in
    zero_free_left (trim l) b (zero_free_right a (trim l ++ b) (sym (ap zero_free (trim_split l)) ∙ h))

zero_free_replaced : (ps : List Subsequence) → zero_free (each bytes ps) ≡ true → zero_free (each (λ p. bytes (replaced p)) ps) ≡ true
zero_free_replaced [] h = refl
zero_free_replaced (scalar l ∷ ps) h =
    let later = zero_free_replaced ps (zero_free_right l (each bytes ps) h) in
    rw (zero_free_append, zero_free_left l (each bytes ps) h) later
zero_free_replaced (ill_formed l ∷ ps) h = zero_free_replaced ps (zero_free_right l (each bytes ps) h)

pub zero_free_lossy : (l : List ℕ) → zero_free l ≡ true → zero_free (lossy l) ≡ true
unfolding lossy
zero_free_lossy l h = zero_free_replaced (subsequences l) (rw subsequences_bytes h)

-- ---- no white end

last_not_white_lem : (p : Subsequence) (qs : List Subsequence) → (is_white p && is_empty qs) ≡ false → (is_empty qs ≡ false → last_not_white qs ≡ true) → last_not_white (p ∷ qs) ≡ true
last_not_white_lem p [] h later = go (is_white p) h
  where
    go : (u : Bool) → (u && true) ≡ false → not u ≡ true
    go true h = impossible cc
    go false h = refl
last_not_white_lem p (q ∷ qs) h later = later refl

end_not_white : (ps : List Subsequence) → is_empty (trim_end ps) ≡ false → last_not_white (trim_end ps) ≡ true
unfolding trim_end
end_not_white [] h = impossible cc
end_not_white (p ∷ ps) h = go (end_not_white ps) (is_white p && is_empty (trim_end ps)) refl h
  where
    go : (is_empty (trim_end ps) ≡ false → last_not_white (trim_end ps) ≡ true) → (u : Bool) → (is_white p && is_empty (trim_end ps)) ≡ u
        → is_empty (cond u [] (p ∷ trim_end ps)) ≡ false → last_not_white (cond u [] (p ∷ trim_end ps)) ≡ true
    go later true e h = impossible cc
    go later false e h = last_not_white_lem p (trim_end ps) e later

-- there are none, or neither end is white
abbrev Trimmed : List Subsequence → Type 0
Trimmed qs = (qs ≡ []) ⊎ ((first_not_white qs ≡ true) × (last_not_white qs ≡ true))

both_trimmed : (ps : List Subsequence) → Trimmed (trim_end (trim_start ps))
unfolding trim_start trim_end
both_trimmed [] = inl refl
both_trimmed (p ∷ ps) = go (both_trimmed ps) (is_white p) refl
  where
    go : Trimmed (trim_end (trim_start ps)) → (u : Bool) → is_white p ≡ u → Trimmed (trim_end (cond u (trim_start ps) (p ∷ ps)))
    go later true e = later
    go later false e = rw e (inr (rw e, last_not_white_lem p (trim_end ps) (rw e) (end_not_white ps)))

pub trim_tidy : (l : List ℕ) → zero_free (trim l) ≡ true → (trim l ≡ []) ⊎ (tidy (trim l) ≡ true)
unfolding tidy
trim_tidy l z = rw trim_subsequences (go _ (both_trimmed (subsequences l)) refl)
  where
    go : (qs : List Subsequence) → Trimmed qs → trim_end (trim_start (subsequences l)) ≡ qs → (trim l ≡ []) ⊎ ((zero_free (trim l) && first_not_white qs && last_not_white qs) ≡ true)
    go qs (inl e) h = inl (sym (subsequences_bytes (trim l)) ∙ rw (trim_subsequences, h, e))
    go qs (inr e) h = inr (both _ _ (both _ _ z e.0) e.1)
