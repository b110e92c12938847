-- A subsequence fed: after a complete row the state is that between two scalar values, and after a row that is not complete, or a
-- byte that begins none, no bytes make the whole well-formed.
-- Assumes nothing.
use Prim.Native.Nat.{ℕ, suc}
use lib.ListN.{length}
use mathlib.Core.Bool.{Bool, true, false, cond}
use mathlib.Core.List.{List, [], ◌∷◌, ◌++◌}
use mathlib.Core.Path.{◌≡◌, refl, ap, ◌∙◌}
use native.Mathlib.Omega.{arith}
use Rattle.laws.specs.Walk.{each}
use Rattle.text_utf8.proofs.FirstLaws.{IsFirst, no_row, part_row, full_row}
use Rattle.text_utf8.proofs.SubsequenceLaws.{Consistent}
use Rattle.text_utf8.specs.Feed.{complete, fed_all}
use Rattle.text_utf8.specs.Table.{Range, within}
use Rattle.text_utf8.specs.Utf8.{matching, Subsequence, bytes, all_well_formed}
use Rattle.std.specs.Prelude.{None, Option, Some}

fed_never : (l : List ℕ) → complete (fed_all None l) ≡ false
fed_never [] = refl
fed_never (b ∷ l) = fed_never l

fed_full_row : (rs : List Range) (t r : List ℕ) → matching rs (t ++ r) ≡ length t → length t ≡ length rs → fed_all (Some rs) (t ++ r) ≡ fed_all (Some []) r
unfolding matching
fed_full_row [] [] r e d = refl
fed_full_row [] (b ∷ t) r e d = absurd (omega arith)
fed_full_row (x ∷ rs) [] r e d = absurd (omega arith)
fed_full_row (x ∷ rs) (b ∷ t) r e d = go (λ e. fed_full_row rs t r e (omega arith)) (within x b) e
  where
    go :
        (matching rs (t ++ r) ≡ length t → fed_all (Some rs) (t ++ r) ≡ fed_all (Some []) r) → (u : Bool) →
        cond u (suc (matching rs (t ++ r))) 0 ≡ suc (length t) → fed_all (cond u (Some rs) None) (t ++ r) ≡ fed_all (Some []) r
    go later true e = later (omega arith)
    go later false e = absurd (omega arith)

fed_part_row : (rs : List Range) (t r : List ℕ) → matching rs (t ++ r) ≡ length t → (length t ≡ length rs → ⊥) → complete (fed_all (Some rs) (t ++ r)) ≡ false
unfolding matching
fed_part_row [] [] r e d = absurd (d refl)
fed_part_row [] (b ∷ t) r e d = absurd (omega arith)
fed_part_row (x ∷ rs) [] [] e d = refl
fed_part_row (x ∷ rs) [] (b ∷ r) e d = go (within x b) e
  where
    go : (u : Bool) → cond u (suc (matching rs r)) 0 ≡ 0 → complete (fed_all (cond u (Some rs) None) r) ≡ false
    go true e = absurd (omega arith)
    go false e = fed_never r
fed_part_row (x ∷ rs) (b ∷ t) r e d = go (λ e. fed_part_row rs t r e (λ q. d (ap suc q))) (within x b) e
  where
    go :
        (matching rs (t ++ r) ≡ length t → complete (fed_all (Some rs) (t ++ r)) ≡ false) → (u : Bool) →
        cond u (suc (matching rs (t ++ r))) 0 ≡ suc (length t) → complete (fed_all (cond u (Some rs) None) (t ++ r)) ≡ false
    go later true e = later (omega arith)
    go later false e = absurd (omega arith)

pub fed_subsequences : (ps : List Subsequence) → Consistent ps → complete (fed_all (Some []) (each bytes ps)) ≡ all_well_formed ps
fed_subsequences [] h = refl
fed_subsequences (p ∷ ps) h = go h.0 (fed_subsequences ps h.1)
  where
    go :
        {p : Subsequence} → IsFirst p (each bytes ps) → complete (fed_all (Some []) (each bytes ps)) ≡ all_well_formed ps →
        complete (fed_all (Some []) (bytes p ++ each bytes ps)) ≡ all_well_formed (p ∷ ps)
    go (no_row f) later = ap (λ (o : Option (List Range)). complete (fed_all o (each bytes ps))) f ∙ fed_never (each bytes ps)
    go (part_row {t = t} {rs = rs} f k d) later = ap (λ (o : Option (List Range)). complete (fed_all o (t ++ each bytes ps))) f ∙ fed_part_row rs t (each bytes ps) k d
    go (full_row {t = t} {rs = rs} f k d) later = ap (λ (o : Option (List Range)). complete (fed_all o (t ++ each bytes ps))) f ∙ ap complete (fed_full_row rs t (each bytes ps) k d) ∙ later
