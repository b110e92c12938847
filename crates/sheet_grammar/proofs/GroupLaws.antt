-- The groups that are read from groups one after another are those groups: a group's members stand right after it, and the record
-- after them opens another group.
--     groups_sections     the groups of one kind
-- Assumes nothing.
use Prim.Native.Nat.{ℕ, ◌≤◌, ◌<◌}
use mathlib.Core.Bool.{Bool, true, false, cond, ◌||◌, true≢false}
use mathlib.Core.List.{List, [], ◌∷◌, ◌++◌, map, append_assoc, append-nil}
use mathlib.Core.Path.{◌≡◌, refl, sym, ap, ◌∙◌}
use native.Mathlib.Nat.{le_of_eq}
use native.Mathlib.Omega.{arith}
use borrow.Author.Tests.{eqb-true, eqb-false, eq-eqb, ne_eqb}
use lib.Dec.{T, eqb, ltb, ltb→lt}
use Rattle.sheet.specs.Allowed.{All}
use Rattle.sheet.specs.Record.{unknown_kind, RecordItem, entry}
use Rattle.sheet.specs.Order.{belongs}
use Rattle.sheet.specs.Read.{leading, Group, groups}
use Rattle.sheet_grammar.proofs.KindLaws.{Opener, all_open, opens_or_belongs, known_kind, opens_group, is_in, member, openers, member_belongs}
use Rattle.sheet_grammar.proofs.Sections.{section, sections}

-- ---- one record more

module _ (k : ℕ) (b : List ℕ) (items : List RecordItem) where
  pub leading_own : (j : ℕ) → eqb k j ≡ true → leading j (entry k b ∷ items) ≡ b ∷ leading j items
  unfolding leading
  leading_own j e = rw e

  pub leading_other : (j : ℕ) → eqb k j ≡ false → leading j (entry k b ∷ items) ≡ []
  unfolding leading
  leading_other j e = rw e

  pub groups_own : (m : ℕ) → groups k m (entry k b ∷ items) ≡ record { body = b; members = leading m items } ∷ groups k m items
  unfolding groups
  groups_own m = rw (eq-eqb k k refl)

  pub groups_other : (j m : ℕ) → eqb k j ≡ false → groups j m (entry k b ∷ items) ≡ groups j m items
  unfolding groups
  groups_other j m e = rw e

-- no kind that opens groups is that of members
apart : (j k : ℕ) → Opener j → Opener k → member k ≡ j → ⊥
apart j k o p e =
    let known : unknown_kind (member k) ≡ false = rw e (known_kind j o) in
    true≢false (sym (member_belongs k (known_kind k p) known) ∙ ap belongs e ∙ opens_group j o)

-- ---- past a group's members

module _ (rest : List RecordItem) where
  pub leading_members : (m : ℕ) (ms : List (List ℕ)) → leading m (map (entry m) ms ++ rest) ≡ ms ++ leading m rest
  leading_members m [] = refl
  leading_members m (b ∷ ms) = leading_own m b _ m (eq-eqb m m refl) ∙ ap (λ (l : List (List ℕ)). b ∷ l) (leading_members m ms)

  groups_members : (j n m : ℕ) (ms : List (List ℕ)) → eqb m j ≡ false → groups j n (map (entry m) ms ++ rest) ≡ groups j n rest
  groups_members j n m [] e = refl
  groups_members j n m (b ∷ ms) e = groups_other m b _ j n e ∙ groups_members j n m ms e

-- ---- past the groups of one kind

module _ (rest : List RecordItem) where
  pub leading_section : (m k : ℕ) (gs : List Group) → eqb k m ≡ false → leading m rest ≡ [] → leading m (section k gs ++ rest) ≡ []
  leading_section m k [] e h = h
  leading_section m k (g ∷ gs) e h = leading_other k g.body _ m e

  groups_section_other : (j n k : ℕ) (gs : List Group) → eqb k j ≡ false → eqb (member k) j ≡ false → groups j n (section k gs ++ rest) ≡ groups j n rest
  groups_section_other j n k [] e f = refl
  groups_section_other j n k (g ∷ gs) e f =
      rw (append_assoc, groups_other k g.body (map (entry (member k)) g.members ++ (section k gs ++ rest)) j n e, groups_members (section k gs ++ rest) j n (member k) g.members f)
      (groups_section_other j n k gs e f)

  groups_section_own : (k : ℕ) (gs : List Group) → Opener k → leading (member k) rest ≡ [] → groups k (member k) (section k gs ++ rest) ≡ gs ++ groups k (member k) rest
  groups_section_own k [] o h = refl
  groups_section_own k (g ∷ gs) o h =
      let later = section k gs ++ rest in
      let mine : eqb k (member k) ≡ false = ne_eqb k (member k) (λ e. apart k k o o (sym e)) in
      let theirs : eqb (member k) k ≡ false = ne_eqb (member k) k (apart k k o o) in
      let members : leading (member k) (map (entry (member k)) g.members ++ later) ≡ g.members =
      leading_members later (member k) g.members ∙ rw (leading_section (member k) k gs mine h) (append-nil g.members) in
      let own = groups_own k g.body (map (entry (member k)) g.members ++ later) (member k) in
      let past = groups_members later k (member k) (member k) g.members theirs in
      rw (append_assoc, own, members, past, groups_section_own k gs o h)

-- ---- all groups

-- each kind above the one before it
abbrev pub Ascending : ℕ → List ℕ → Type 0
Ascending j [] = Unit
Ascending j (k ∷ ks) = T (ltb j k) × Ascending k ks

pub not_in : (j k : ℕ) (ks : List ℕ) → j ≤ k → Ascending k ks → is_in j ks ≡ false
not_in j k [] h a = refl
not_in j k (x ∷ ks) h a =
    let above : j < x = omega (arith, ltb→lt k x a.0) in
    rw (ne_eqb j x (λ e. omega arith)) (not_in j x ks (omega arith) a.1)

pub ascending : Ascending 0 openers
ascending = (tt, (tt, (tt, (tt, (tt, (tt, (tt, (tt, tt))))))))

module _ (gs : ℕ → List Group) (j : ℕ) (o : Opener j) where
  pub no_members : (ks : List ℕ) → All Opener ks → leading (member j) (sections ks gs) ≡ []
  unfolding leading
  no_members [] p = refl
  no_members (k ∷ ks) p = leading_section (sections ks gs) (member j) k (gs k) (ne_eqb k (member j) (λ e. apart k j p.0 o (sym e))) (no_members ks p.1)

  -- those of a kind that is among them, and no others
  groups_among : (i : ℕ) (ks : List ℕ) → Ascending i ks → All Opener ks → groups j (member j) (sections ks gs) ≡ cond (is_in j ks) (gs j) []
  unfolding groups
  groups_among i [] a p = refl
  groups_among i (k ∷ ks) a p = go (eqb j k) refl (groups_among k ks a.1 p.1)
    where
      go : (t : Bool) → eqb j k ≡ t → groups j (member j) (sections ks gs) ≡ cond (is_in j ks) (gs j) []
          → groups j (member j) (section k (gs k) ++ sections ks gs) ≡ cond (t || is_in j ks) (gs j) []
      go true e h =
          let same : k ≡ j = sym (eqb-true j k e) in
          let later : groups j (member j) (sections ks gs) ≡ [] = h ∙ rw (not_in j k ks (le_of_eq (sym same)) a.1) in
          rw same (groups_section_own (sections ks gs) j (gs j) o (no_members ks p.1) ∙ rw later (append-nil (gs j)))
      go false e h =
          let other : eqb k j ≡ false = ne_eqb k j (λ f. eqb-false j k e (sym f)) in
          groups_section_other (sections ks gs) j (member j) k (gs k) other (ne_eqb (member k) j (apart j k o p.0)) ∙ h

  pub groups_sections : groups j (member j) (sections openers gs) ≡ gs j
  groups_sections = groups_among 0 openers ascending all_open ∙ rw (opens_or_belongs j (known_kind j o), opens_group j o)
