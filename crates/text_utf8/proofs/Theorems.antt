-- What stands of every list of bytes.
--     lossy_well_formed  what replacement gives is well-formed
--     lossy_same         it leaves well-formed bytes as they are
--     fed_well           bytes fed one by one end between two scalar values exactly if they are well-formed
-- Assumes nothing.
use Prim.Native.Nat.{ℕ}
use mathlib.Core.Bool.{true, false}
use mathlib.Core.List.{List, [], ◌∷◌, map}
use mathlib.Core.Path.{◌≡◌, refl, sym, ap, ◌∙◌}
use Rattle.laws.proofs.Cases.{impossible}
use Rattle.laws.specs.Walk.{each}
use Rattle.text_utf8.proofs.FedLaws.{fed_subsequences}
use Rattle.text_utf8.proofs.SubsequenceLaws.{consistent, subsequences_bytes, lossy_subsequences}
use Rattle.text_utf8.specs.Feed.{complete, fed_all}
use Rattle.text_utf8.specs.Utf8.{Subsequence, scalar, ill_formed, subsequences, bytes, replaced, lossy, all_well_formed, well_formed}
use Rattle.std.specs.Prelude.{Some}

all_replaced : (ps : List Subsequence) → all_well_formed (map replaced ps) ≡ true
all_replaced [] = refl
all_replaced (scalar l ∷ ps) = all_replaced ps
all_replaced (ill_formed l ∷ ps) = all_replaced ps

pub lossy_well_formed : (l : List ℕ) → well_formed (lossy l) ≡ true
unfolding well_formed
lossy_well_formed l = rw lossy_subsequences (all_replaced (subsequences l))

replaced_same : (ps : List Subsequence) → all_well_formed ps ≡ true → each (λ p. bytes (replaced p)) ps ≡ each bytes ps
replaced_same [] h = refl
replaced_same (scalar l ∷ ps) h = rw (replaced_same ps h)
replaced_same (ill_formed l ∷ ps) h = let z : false ≡ true = h in impossible cc

pub lossy_same : (l : List ℕ) → well_formed l ≡ true → lossy l ≡ l
unfolding lossy well_formed
lossy_same l h = replaced_same (subsequences l) h ∙ subsequences_bytes l

pub fed_well : (l : List ℕ) → complete (fed_all (Some []) l) ≡ well_formed l
unfolding well_formed
fed_well l = ap (λ (m : List ℕ). complete (fed_all (Some []) m)) (sym (subsequences_bytes l)) ∙ fed_subsequences (subsequences l) (consistent l)
