-- Texts judged as their records come. The text in hand is well-formed exactly if the bytes that are left of it, fed to the state
-- so far, leave it complete; the groups of later texts look ahead for their own bytes. A record moves what it adds from what is
-- left to the state.
-- Assumes nothing.
use Prim.Native.Nat.{ℕ}
use lib.Dec.{eqb}
use lib.ListN.{length, get_or}
use mathlib.Core.Bool.{Bool, true, false, not, ◌&&◌, ◌||◌}
use mathlib.Core.List.{List, [], ◌∷◌}
use mathlib.Core.Path.{◌≡◌, refl, ap}
use native.Mathlib.Omega.{arith}
use Rattle.laws.specs.Walk.{each}
use Rattle.sheet.specs.Judge.{texts_well_formed}
use Rattle.sheet.specs.Read.{leading, groups}
use Rattle.sheet.specs.Record.{RecordItem, entry}
use Rattle.sheet.specs.TextState.{Texts, texts_after, all_well}
use Rattle.text_utf8.proofs.Theorems.{fed_well}
use Rattle.text_utf8.specs.Feed.{complete, fed_all}

-- the bytes of the text in hand that are still to come
abbrev pub text_left : List RecordItem → List ℕ
text_left items = each (λ body. body) (leading 11 items)

-- all texts are well-formed: those before, the one in hand with what is left of it, and those that begin later
abbrev pub texts_left : Texts → List RecordItem → Bool
texts_left t items = not t.ill && complete (fed_all t.lead (text_left items)) && texts_well_formed (groups 10 11 items)

one_byte : (body : List ℕ) → length body ≡ 1 → body ≡ get_or body 0 0 ∷ []
one_byte [] h = absurd (omega arith)
one_byte (v ∷ []) h = refl
one_byte (v ∷ w ∷ body) h = absurd (omega arith)

-- the text in hand ends: what is said of it moves to the texts before
ended : (ill well later rest : Bool) → (not ill && well && (later && rest)) ≡ (not (not well || ill) && later && rest)
ended true true later rest = refl
ended true false later rest = refl
ended false true later rest = refl
ended false false later rest = refl

module _ (t : Texts) (body : List ℕ) (items : List RecordItem) where
  -- a record 11 is one byte more
  pub text_byte : length body ≡ 1 → texts_left t (entry 11 body ∷ items) ≡ texts_left (texts_after t 11 (get_or body 0 0)) items
  unfolding texts_after leading groups
  text_byte h = ap (λ (b : List ℕ). texts_left t (entry 11 b ∷ items)) (one_byte body h)

  -- a record 10 begins the next text
  pub text_begins : texts_left t (entry 10 body ∷ items) ≡ texts_left (texts_after t 10 (get_or body 0 0)) items
  unfolding texts_after leading groups
  text_begins = rw (fed_well (text_left items)) (ended t.ill (complete t.lead) _ _)

  module _ (k : ℕ) (no_byte : eqb k 11 ≡ false) where
    -- before any other record nothing is left of the text in hand
    pub text_ends : texts_left t (entry k body ∷ items) ≡ (all_well t && texts_well_formed (groups 10 11 (entry k body ∷ items)))
    unfolding leading
    text_ends = rw no_byte

    module _ (no_text : eqb k 10 ≡ false) where
      pub no_text_begins : groups 10 11 (entry k body ∷ items) ≡ groups 10 11 items
      unfolding groups
      no_text_begins = rw no_text

      pub texts_same : texts_after t k (get_or body 0 0) ≡ t
      unfolding texts_after
      texts_same = rw (no_byte, no_text)
