-- Correct records in order are the groups that are read from them, one after another: records that come first belong to the group in
-- hand, and after a record that opens a group none comes that opens an earlier one.
--     regroup_all                    the groups' records are the records
--     groups_listed, header_there    of a kind that may not come again there is one at most, and of headers one at least
-- Assumes nothing.
use Prim.Native.Nat.{ℕ, ◌≤◌, ◌<◌}
use mathlib.Core.Bool.{Bool, true, false, cond, not, ◌||◌, true≢false}
use mathlib.Core.List.{List, [], ◌∷◌, ◌++◌, map, append_assoc}
use mathlib.Core.Path.{◌≡◌, refl, sym, ap, ◌∙◌, subst}
use native.Mathlib.Nat.{le_of_eq}
use native.Mathlib.Omega.{arith}
use borrow.Author.Tests.{ltb-true, ltb-false, eqb-true, eqb-false, ne_eqb}
use lib.Dec.{eqb, ltb}
use lib.ListN.{length}
use Rattle.laws.proofs.Cases.{neither}
use Rattle.sheet.specs.Allowed.{All}
use Rattle.sheet.specs.Record.{unknown_kind, RecordItem, entry, bad}
use Rattle.sheet.specs.Order.{belongs, misplaced, group_after}
use Rattle.sheet.specs.Read.{leading, Group, groups}
use Rattle.sheet_grammar.proofs.ListLaws.{all_imply}
use Rattle.sheet_grammar.proofs.RecordLaws.{OfItem}
use Rattle.sheet_grammar.proofs.OrderLaws.{Correct, Ordered, end, more}
use Rattle.sheet_grammar.proofs.KindLaws.{header_first, Opener, all_open, known_kind, opens_group, is_in, member, openers, latest_of, latest_le, placed_le, opens_or_belongs, belongs_member}
use Rattle.sheet_grammar.proofs.Sections.{group_items, section, sections, OfGroup, Listed}
use Rattle.sheet_grammar.proofs.GroupLaws.{leading_own, leading_other, groups_own, groups_other, Ascending, ascending, not_in}

-- the groups of each kind
abbrev pub groups_in : List RecordItem → ℕ → List Group
groups_in items j = groups j (member j) items

-- ---- nothing earlier comes later

later_still : (n g k : ℕ) → n < g → g ≤ k → n < group_after g k
later_still n g k h l = go (belongs k)
  where
    go : (t : Bool) → n < cond t g k
    go true = h
    go false = omega arith

none_earlier : (j m : ℕ) {g : ℕ} {items : List RecordItem} → Ordered g items → All (OfItem Correct) items → latest_of j < g → groups j m items ≡ []
unfolding groups
none_earlier j m (end p) r h = refl
none_earlier j m {g} (more {k = k} {b = b} {items = items} p o) r h =
    let known = r.0.whole.known in
    let up : g ≤ k = omega (arith, placed_le g k p, latest_le k known) in
    let other : k ≡ j → ⊥ = λ e. let same : latest_of k ≡ latest_of j = ap latest_of e in omega (arith, placed_le g k p) in
    groups_other k b items j m (ne_eqb k j other) ∙ none_earlier j m o r.1 (later_still (latest_of j) g k h up)

-- ---- one record more

-- a kind among ascending ones is above what they are above
above : (k j : ℕ) (ks : List ℕ) → Ascending j ks → is_in k ks ≡ true → j < k
above k j ks a h = go (ltb j k) refl
  where
    go : (t : Bool) → ltb j k ≡ t → j < k
    go true e = ltb-true j k e
    go false e = absurd (true≢false (sym h ∙ not_in k j ks (ltb-false j k e) a))

module _ (k : ℕ) (b : List ℕ) (items : List RecordItem) where
  same_groups : (j : ℕ) → (j ≡ k → ⊥) → groups_in (entry k b ∷ items) j ≡ groups_in items j
  same_groups j h = groups_other k b items j (member j) (ne_eqb k j (λ e. h (sym e)))

  -- one that opens none of these groups
  same_sections : (ks : List ℕ) → is_in k ks ≡ false → sections ks (groups_in (entry k b ∷ items)) ≡ sections ks (groups_in items)
  same_sections [] h = refl
  same_sections (j ∷ ks) h =
      let parts = neither (eqb k j) (is_in k ks) h in
      rw (same_groups j (λ e. eqb-false k j parts.0 (sym e)), same_sections ks parts.1)

  -- one that opens the first of them
  abbrev opened : List RecordItem
  opened = group_items k (record { body = b; members = leading (member k) items })

  first_group : ((j : ℕ) → Opener j → j < k → groups_in items j ≡ []) → (i : ℕ) (ks : List ℕ) → Ascending i ks → All Opener ks → is_in k ks ≡ true
      → sections ks (groups_in (entry k b ∷ items)) ≡ opened ++ sections ks (groups_in items)
  first_group none i [] a o h = absurd (true≢false (sym h))
  first_group none i (j ∷ ks) a o h = go (eqb k j) refl h (first_group none j ks a.1 o.1)
    where
      go : (t : Bool) → eqb k j ≡ t → (t || is_in k ks) ≡ true
          → (is_in k ks ≡ true → sections ks (groups_in (entry k b ∷ items)) ≡ opened ++ sections ks (groups_in items))
          → section j (groups_in (entry k b ∷ items) j) ++ sections ks (groups_in (entry k b ∷ items)) ≡ opened ++ (section j (groups_in items j) ++ sections ks (groups_in items))
      go true e h later =
          let same : j ≡ k = sym (eqb-true k j e) in
          rw (same, groups_own k b items (member k), same_sections ks (not_in k j ks (le_of_eq (sym same)) a.1))
          (append_assoc opened (section k (groups_in items k)) (sections ks (groups_in items)))
      go false e h later =
          let empty = none j o.0 (above k j ks a.1 h) in
          rw (same_groups j (λ f. eqb-false k j e (sym f)), empty) (later h)

-- ---- all records

-- the records of the group in hand, and those of the groups after it
abbrev regrouped : ℕ → List RecordItem → List RecordItem
regrouped g items = map (entry (member g)) (leading (member g) items) ++ sections openers (groups_in items)

module _ (g k : ℕ) (b : List ℕ) (items : List RecordItem) (known : unknown_kind k ≡ false) (p : misplaced g k ≡ false) where
  regroup_next : (t : Bool) → belongs k ≡ t → Ordered (cond t g k) items → All (OfItem Correct) items → regrouped (cond t g k) items ≡ items → regrouped g (entry k b ∷ items) ≡ entry k b ∷ items
  regroup_next true e o r h =
      let own : eqb k (member g) ≡ true = belongs_member g k known p ∙ e in
      rw (leading_own k b items (member g) own, same_sections k b items openers (opens_or_belongs k known ∙ ap not e))
      (ap (λ (l : List RecordItem). entry (member g) b ∷ l) h ∙ ap (λ (j : ℕ). entry j b ∷ items) (sym (eqb-true k (member g) own)))
  regroup_next false e o r h =
      let none : (j : ℕ) → Opener j → j < k → groups_in items j ≡ [] = λ j q l. none_earlier j (member j) o r (omega (arith, latest_le j (known_kind j q))) in
      rw (leading_other k b items (member g) (belongs_member g k known p ∙ e), first_group k b items none 0 openers ascending all_open (opens_or_belongs k known ∙ ap not e))
      (ap (λ (l : List RecordItem). entry k b ∷ l) h)

regroup : {g : ℕ} {items : List RecordItem} → Ordered g items → All (OfItem Correct) items → regrouped g items ≡ items
unfolding leading groups
regroup (end p) r = refl
regroup {g} (more {k = k} {b = b} {items = items} p o) r = regroup_next g k b items r.0.whole.known p (belongs k) refl o r.1 (regroup o r.1)

-- before the first record no group is in hand
none_in_hand : (items : List RecordItem) → All (OfItem Correct) items → leading 0 items ≡ []
unfolding leading
none_in_hand [] r = refl
none_in_hand (bad refusal ∷ items) r = refl
none_in_hand (entry k b ∷ items) r = leading_other k b items 0 (neither (eqb k 0) (ltb 11 k) r.0.whole.known).0

pub regroup_all : (items : List RecordItem) → Ordered 0 items → All (OfItem Correct) items → sections openers (groups_in items) ≡ items
regroup_all items o r = ap (λ (l : List (List ℕ)). map (entry 0) l ++ sections openers (groups_in items)) (sym (none_in_hand items r)) ∙ regroup o r

-- ---- the groups that were read

module _ (P : ℕ → List ℕ → Type 0) where
  leading_all : (m : ℕ) (items : List RecordItem) → All (OfItem P) items → All (P m) (leading m items)
  unfolding leading
  leading_all m [] h = tt
  leading_all m (bad refusal ∷ items) h = tt
  leading_all m (entry k b ∷ items) h = go (eqb k m) refl (leading_all m items h.1)
    where
      go : (t : Bool) → eqb k m ≡ t → All (P m) (leading m items) → All (P m) (cond t (b ∷ leading m items) [])
      go true e l = (subst (λ (j : ℕ). P j b) (eqb-true k m e) h.0, l)
      go false e l = tt

  groups_all : (j : ℕ) (items : List RecordItem) → All (OfItem P) items → All (OfGroup P j) (groups_in items j)
  unfolding groups
  groups_all j [] h = tt
  groups_all j (bad refusal ∷ items) h = tt
  groups_all j (entry k b ∷ items) h = go (eqb k j) refl (groups_all j items h.1)
    where
      go : (t : Bool) → eqb k j ≡ t → All (OfGroup P j) (groups_in items j)
          → All (OfGroup P j) (cond t (record { body = b; members = leading (member j) items } ∷ groups_in items j) (groups_in items j))
      go true e l = (record { body = subst (λ (i : ℕ). P i b) (eqb-true k j e) h.0; members = leading_all (member j) items h.1 }, l)
      go false e l = l

-- of a kind that may not come after itself there is one at most
groups_once : (j : ℕ) → Opener j → latest_of j < j → {g : ℕ} {items : List RecordItem} → Ordered g items → All (OfItem Correct) items → length (groups_in items j) ≤ 1
unfolding groups
groups_once j q l (end p) r = omega arith
groups_once j q l {g} (more {k = k} {b = b} {items = items} p o) r = go (eqb k j) refl (groups_once j q l o r.1)
  where
    go : (t : Bool) → eqb k j ≡ t → length (groups_in items j) ≤ 1
        → length (cond t (record { body = b; members = leading (member j) items } ∷ groups_in items j) (groups_in items j)) ≤ 1
    go true e h =
        let same : k ≡ j = eqb-true k j e in
        let mine : group_after g k ≡ j = rw (same, opens_group j q) in
        let none : groups_in items j ≡ [] = none_earlier j (member j) o r.1 (rw mine l) in
        rw none (omega arith)
    go false e h = h

pub groups_listed : (P : ℕ → List ℕ → Type 0) {g : ℕ} {items : List RecordItem} → Ordered g items → All (OfItem Correct) items → All (OfItem P) items → All (λ j. Listed P j (groups_in items j)) openers
groups_listed P {items = items} o r h =
    let one : (j : ℕ) → Opener j → Listed P j (groups_in items j) = λ j q. record { once = λ l. groups_once j q l o r; each_is = groups_all P j items h } in
    all_imply one openers all_open

pub header_there : {items : List RecordItem} → Ordered 0 items → All (OfItem Correct) items → 0 < length (groups_in items 1)
header_there (end p) r = absurd (omega arith)
header_there (more {k = k} {b = b} {items = items} p o) r =
    let is_header : k ≡ 1 = header_first k r.0.whole.known p in
    rw (is_header, groups_own 1 b items 0) (omega arith)
