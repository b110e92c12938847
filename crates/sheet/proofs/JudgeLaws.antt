-- The verdict from a place on, with the group in hand and the texts so far. From each place it is that of the whole sheet, since
-- the state takes over what a right record adds.
-- Assumes nothing.
use Prim.Native.Nat.{ℕ, ◌<◌, ◌-◌}
use borrow.Author.Tests.{eqb-true, eqb-false, ltb-false, lt-ltb, ne_eqb}
use lib.Dec.{eqb, ltb, ltb→lt}
use lib.ListN.{length, get_or, take, drop, length-take, length-drop}
use mathlib.Core.Bool.{Bool, true, false, cond, ◌&&◌, and-true}
use mathlib.Core.List.{List, [], ◌∷◌}
use mathlib.Core.Path.{◌≡◌, refl, sym, ap}
use native.Mathlib.Omega.{arith}
use Rattle.laws.proofs.Cases.{neither}
use Rattle.laws.proofs.Table.{below}
use Rattle.sheet.proofs.RecordLaws.{Whole}
use Rattle.sheet.proofs.TextLaws.{texts_left, text_byte, text_begins, text_ends, no_text_begins, texts_same}
use Rattle.sheet.specs.Judge.{texts_well_formed, judged_items}
use Rattle.sheet.specs.Order.{earliest, latest, belongs, misplaced, group_after, value_wrong, first_wrong}
use Rattle.sheet.specs.Read.{leading, groups}
use Rattle.sheet.specs.Record.{RecordItem, entry, bad, records, body_length}
use Rattle.sheet.specs.TextState.{Texts, no_texts, texts_after, all_well}
use Rattle.refusal.specs.declared.Refusal.TheVariants.{RecordWrong, TextIllFormed}
use Rattle.refusal.specs.Outcome.{Outcome, accepted, if_accepted}
use Rattle.refusal.specs.declared.Refusal.{Refusal}
use Rattle.std.specs.Prelude.{Err, Ok, ⊤}

-- the refusal of the first bad record, else 17 where not all texts are well-formed
abbrev pub verdict : Outcome ⊤ → Bool → Outcome ⊤
verdict wrong well = if_accepted wrong (cond well accepted (Err TextIllFormed))

-- the verdict of what is left, with this group in hand and the texts so far
unfoldable pub judged_from : ℕ → Texts → List RecordItem → Outcome ⊤
judged_from group t items = verdict (first_wrong group items) (texts_left t items)

-- ---- a record 11 is misplaced where no text is in hand, so nothing is left of one

outside : (g : ℕ) → g < 10 → (t : Texts) (items : List RecordItem) → judged_from g t items ≡ verdict (first_wrong g items) (all_well t && texts_well_formed (groups 10 11 items))
unfolding judged_from first_wrong leading
outside g h t [] = refl
outside g h t (bad refusal ∷ items) = refl
outside g h t (entry k body ∷ items) = go (eqb k 11) refl
  where
    go : (u : Bool) → eqb k 11 ≡ u
        → let all = entry k body ∷ items in verdict (first_wrong g all) (texts_left t all) ≡ verdict (first_wrong g all) (all_well t && texts_well_formed (groups 10 11 all))
    go true e = rw (eqb-true k 11 e, lt-ltb g 10 h)
    go false e = ap (verdict (first_wrong g (entry k body ∷ items))) (text_ends t body items k e)

latest_below : (k : ℕ) → k < 10 → get_or latest k 0 < 10
latest_below k h = ltb→lt _ _ (below (λ j. ltb (get_or latest j 0) 10) 10 tt k h)

-- the group in hand after a kind below 10
group_below : (g k : ℕ) → k < 10 → misplaced g k ≡ false → group_after g k < 10
group_below g k h p = go (belongs k) (omega (arith, latest_below k h, ltb-false (get_or latest k 0) g (neither (ltb g (get_or earliest k 0)) (ltb (get_or latest k 0) g) p).1))
  where
    go : (u : Bool) → g < 10 → cond u g k < 10
    go true d = d
    go false d = h

-- ---- before the first record

pub judged_start : (items : List RecordItem) → judged_from 0 no_texts items ≡ judged_items items
unfolding judged_items
judged_start items = outside 0 (omega arith) no_texts items

-- ---- at the end, with what is left of the sheet

module _ (g : ℕ) (t : Texts) {items : List RecordItem} where
  pub judged_cut : (refusal : Refusal) → items ≡ bad refusal ∷ [] → judged_from g t items ≡ Err refusal
  unfolding judged_from first_wrong
  judged_cut refusal e = rw e

  module _ (e : items ≡ []) where
    pub judged_headless : g ≡ 0 → judged_from g t items ≡ Err RecordWrong
    unfolding judged_from first_wrong
    judged_headless h = rw (e, h)

    pub judged_end : (g ≡ 0 → ⊥) → judged_from g t items ≡ verdict accepted (all_well t)
    unfolding judged_from first_wrong leading groups
    judged_end h = rw (e, ne_eqb g 0 h, and-true (all_well t))

-- ---- a record

-- what it says of the texts
texts_on : (g k : ℕ) (t : Texts) (body : List ℕ) (items : List RecordItem) → misplaced g k ≡ false → k < 12 → length body ≡ body_length k
    → verdict (first_wrong (group_after g k) items) (texts_left t (entry k body ∷ items)) ≡ judged_from (group_after g k) (texts_after t k (get_or body 0 0)) items
unfolding judged_from
texts_on g k t body items p known sized = go (eqb k 11) (eqb k 10) refl refl
  where
    go : (a b : Bool) → eqb k 11 ≡ a → eqb k 10 ≡ b
        → verdict (first_wrong (group_after g k) items) (texts_left t (entry k body ∷ items)) ≡ judged_from (group_after g k) (texts_after t k (get_or body 0 0)) items
    go true b e d = rw (eqb-true k 11 e) (ap (verdict (first_wrong g items)) (text_byte t body items (rw (eqb-true k 11 e) at sized)))
    go false true e d = rw (eqb-true k 10 d) (ap (verdict (first_wrong 10 items)) (text_begins t body items))
    go false false e d =
        let low : k < 10 = omega (arith, eqb-false k 11 e, eqb-false k 10 d) in
        rw (texts_same t body items k e d, text_ends t body items k e, no_text_begins t body items k e d) (sym (outside (group_after g k) (group_below g k low p) t items))

-- the bytes from a place to another, and the first of them
abbrev pub body_in : List ℕ → ℕ → ℕ → List ℕ
body_in s start next = take (next - start) (drop start s)

abbrev pub value_in : List ℕ → ℕ → ℕ → ℕ
value_in s start next = get_or (body_in s start next) 0 0

module _ (g : ℕ) (t : Texts) {s : List ℕ} {at k start next : ℕ} (w : Whole s at k start next) where
  pub judged_misplaced : misplaced g k ≡ true → judged_from g t (records (drop at s)) ≡ Err RecordWrong
  unfolding judged_from first_wrong
  judged_misplaced p = rw (w.items, p)

  module _ (p : misplaced g k ≡ false) where
    pub judged_value : value_wrong k (value_in s start next) ≡ true → judged_from g t (records (drop at s)) ≡ Err RecordWrong
    unfolding judged_from first_wrong
    judged_value v = rw (w.items, p, v)

    -- a record that is right: the state takes over what it adds
    pub judged_on : value_wrong k (value_in s start next) ≡ false
        → judged_from g t (records (drop at s)) ≡ judged_from (group_after g k) (texts_after t k (value_in s start next)) (records (drop next s))
    unfolding judged_from first_wrong
    judged_on v = rw (w.items, p, v) (texts_on g k t (body_in s start next) (records (drop next s)) p w.known (simp (length-take, length-drop) (omega (arith, w.sized))))
