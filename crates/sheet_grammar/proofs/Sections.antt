-- Records as groups: a record that opens a group, with its members, and the groups of each kind one after another.
--     sections_all         what holds of the groups' records, by the groups
--     sections_bytes       their bytes, by the groups
--     sections_ordered     groups in the order of their kinds are in order
-- Assumes nothing.
use Prim.Native.Nat.{ℕ, suc, ◌≤◌, ◌<◌}
use mathlib.Core.Bool.{Bool, true, false}
use mathlib.Core.List.{List, [], ◌∷◌, ◌++◌, map, append_assoc}
use mathlib.Core.Path.{◌≡◌, refl, ◌∙◌}
use native.Mathlib.Nat.{le_trans}
use native.Mathlib.Omega.{arith}
use borrow.Author.Tests.{ltb-true, ltb-false}
use lib.Dec.{T, ltb, leb, leb→le}
use lib.ListN.{length}
use Rattle.laws.specs.Walk.{each}
use Rattle.sheet.specs.Allowed.{All}
use Rattle.sheet.specs.Record.{RecordItem, entry}
use Rattle.sheet.specs.Order.{misplaced}
use Rattle.sheet.specs.Read.{Group}
use Rattle.sheet_grammar.proofs.ListLaws.{all_append, all_map, each_append, each_map}
use Rattle.sheet_grammar.proofs.RecordLaws.{OfItem, bytes_of}
use Rattle.sheet_grammar.proofs.OrderLaws.{Correct, Ordered, end, onward}
use Rattle.sheet_grammar.proofs.KindLaws.{Opener, all_open, known_kind, opens_group, known_from, member, followers, openers}
use Rattle.sheet_grammar.proofs.KindLaws.{latest_of, latest_le, earliest_le, placed, member_belongs, member_placed}

-- the records of a group of kind k
abbrev pub group_items : ℕ → Group → List RecordItem
group_items k g = entry k g.body ∷ map (entry (member k)) g.members

-- of groups of one kind
abbrev pub section : ℕ → List Group → List RecordItem
section k [] = []
section k (g ∷ gs) = group_items k g ++ section k gs

-- of groups of several kinds, kind by kind
abbrev pub sections : List ℕ → (ℕ → List Group) → List RecordItem
sections [] gs = []
sections (k ∷ ks) gs = section k (gs k) ++ sections ks gs

-- ---- what holds of the records

-- of a group's opening record and of its members
pub record OfGroup (P : ℕ → List ℕ → Type 0) (k : ℕ) (g : Group) : Type 0 where
  pub body : P k g.body
  pub members : All (P (member k)) g.members

-- groups of a kind that may come: where the kind may not come again after itself, at most one
pub record Listed (P : ℕ → List ℕ → Type 0) (k : ℕ) (gs : List Group) : Type 0 where
  pub once : latest_of k < k → length gs ≤ 1
  pub each_is : All (OfGroup P k) gs

module _ (P : ℕ → List ℕ → Type 0) where
  section_all : (k : ℕ) (gs : List Group) → All (OfGroup P k) gs → All (OfItem P) (section k gs)
  section_all k [] h = tt
  section_all k (g ∷ gs) h =
      all_append (OfItem P) (group_items k g) (section k gs)
      (h.0.body, all_map (OfItem P) (entry (member k)) (λ b p. p) g.members h.0.members)
      (section_all k gs h.1)

  pub sections_all : (ks : List ℕ) (gs : ℕ → List Group) → All (λ k. Listed P k (gs k)) ks → All (OfItem P) (sections ks gs)
  sections_all [] gs h = tt
  sections_all (k ∷ ks) gs h = all_append (OfItem P) (section k (gs k)) (sections ks gs) (section_all k (gs k) h.0.each_is) (sections_all ks gs h.1)

-- ---- their bytes

abbrev pub group_bytes : ℕ → Group → List ℕ
group_bytes k g = k ∷ (g.body ++ each (λ b. member k ∷ b) g.members)

section_bytes : (k : ℕ) (gs : List Group) → each bytes_of (section k gs) ≡ each (group_bytes k) gs
section_bytes k [] = refl
section_bytes k (g ∷ gs) =
    each_append bytes_of (group_items k g) (section k gs)
    ∙ rw (each_map (entry (member k)) bytes_of (λ b. member k ∷ b) (λ b. refl) g.members, section_bytes k gs)

pub sections_bytes : (ks : List ℕ) (gs : ℕ → List Group) → each bytes_of (sections ks gs) ≡ each (λ k. each (group_bytes k) (gs k)) ks
sections_bytes [] gs = refl
sections_bytes (k ∷ ks) gs = each_append bytes_of (section k (gs k)) (sections ks gs) ∙ rw (section_bytes k (gs k), sections_bytes ks gs)

-- ---- their order

module _ (k : ℕ) (o : Opener k) (rest : List RecordItem) where
  -- members leave their group in hand
  members_ordered : (ms : List (List ℕ)) → All (Correct (member k)) ms → Ordered k rest → Ordered k (map (entry (member k)) ms ++ rest)
  members_ordered [] r h = h
  members_ordered (m ∷ ms) r h =
      let known = r.0.whole.known in
      onward k (member k) m true (member_placed k (known_kind k o) known) (member_belongs k (known_kind k o) known) (members_ordered ms r.1 h)

  group_ordered : (j : ℕ) (g : Group) → OfGroup Correct k g → misplaced j k ≡ false → Ordered k rest → Ordered j (group_items k g ++ rest)
  group_ordered j g r p h = onward j k g.body false p (opens_group k o) (members_ordered g.members r.members h)

-- in order whatever group is in hand, up to u
abbrev Passes : ℕ → List RecordItem → Type 0
Passes u items = (j : ℕ) → 1 ≤ j → j ≤ u → Ordered j items

-- a kind that comes twice may come after itself
twice : (k n : ℕ) → (latest_of k < k → suc (suc n) ≤ 1) → k ≤ latest_of k
twice k n h = go (ltb (latest_of k) k) refl
  where
    go : (t : Bool) → ltb (latest_of k) k ≡ t → k ≤ latest_of k
    go true e = absurd (omega (arith, h (ltb-true (latest_of k) k e)))
    go false e = ltb-false (latest_of k) k e

module _ (k : ℕ) (o : Opener k) (rest : List RecordItem) (h : Passes k rest) where
  then_more : (g : Group) (gs : List Group) → (latest_of k < k → length (g ∷ gs) ≤ 1) → Passes (latest_of k) (section k gs ++ rest) → Ordered k (section k gs ++ rest)
  then_more g [] once p = h k (known_from k (known_kind k o)) (omega arith)
  then_more g (x ∷ gs) once p = p k (known_from k (known_kind k o)) (twice k (length gs) once)

  section_passes : (gs : List Group) → Listed Correct k gs → Passes (latest_of k) (section k gs ++ rest)
  section_passes [] l j f t = h j f (omega (arith, latest_le k (known_kind k o)))
  section_passes (g ∷ gs) l j f t =
      let later : Listed Correct k gs = record { once = λ p. omega (arith, l.once p); each_is = l.each_is.1 } in
      rw append_assoc
      (group_ordered k o (section k gs ++ rest) j g l.each_is.0 (placed j k (omega (arith, earliest_le k (known_kind k o) (opens_group k o))) t)
      (then_more g gs l.once (section_passes gs later)))

-- kinds each of which may come while any from 1 to the one before it is in hand
abbrev Chain : ℕ → List ℕ → Type 0
Chain u [] = Unit
Chain u (k ∷ ks) = T (leb u (latest_of k)) × Chain k ks

sections_pass : (u : ℕ) (ks : List ℕ) (gs : ℕ → List Group) → Chain u ks → All Opener ks → All (λ k. Listed Correct k (gs k)) ks → Passes u (sections ks gs)
sections_pass u [] gs c o l j f t = end f
sections_pass u (k ∷ ks) gs c o l j f t =
    section_passes k o.0 (sections ks gs) (sections_pass k ks gs c.1 o.1 l.1) (gs k) l.0 j f (le_trans t (leb→le u (latest_of k) c.0))

-- the header's group, then the other kinds
pub sections_ordered : (gs : ℕ → List Group) (g : Group) → gs 1 ≡ g ∷ [] → All (λ k. Listed Correct k (gs k)) openers → Ordered 0 (sections openers gs)
sections_ordered gs g e l =
    let later = sections_pass 1 followers gs (tt, (tt, (tt, (tt, (tt, (tt, (tt, tt))))))) all_open.1 l.1 1 (omega arith) (omega arith) in
    let header : All (OfGroup Correct 1) (g ∷ []) = rw e at l.0.each_is in
    rw (e, append_assoc) (group_ordered 1 refl (sections followers gs) 0 g header.0 refl later)
