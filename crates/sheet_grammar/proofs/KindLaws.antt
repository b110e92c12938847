-- What the order's tables say of the kinds. Each rule is a test that antt computes for kinds 0 to 11.
-- Assumes nothing.
use Prim.Native.Nat.{ℕ, ◌≤◌, ◌<◌}
use mathlib.Core.Bool.{Bool, true, false, not, ◌||◌, true≢false}
use mathlib.Core.List.{List, [], ◌∷◌}
use mathlib.Core.Path.{◌≡◌, refl}
use native.Mathlib.Omega.{arith}
use borrow.Author.Tests.{le-ltb, ltb-false, leb-true, eqb-true, eqb-false}
use lib.Dec.{T, eqb, ltb, leb}
use lib.ListN.{get_or}
use Rattle.laws.proofs.Cases.{neither}
use Rattle.laws.proofs.Table.{all_below, below}
use Rattle.sheet.specs.Allowed.{All}
use Rattle.sheet.specs.Record.{unknown_kind}
use Rattle.sheet.specs.Order.{earliest, latest, belongs, misplaced}

-- the kinds that open a group, in the order in which they may stand: the header, and what may follow it
abbrev pub followers : List ℕ
followers = 2 ∷ 3 ∷ 4 ∷ 5 ∷ 7 ∷ 9 ∷ 10 ∷ []

abbrev pub openers : List ℕ
openers = 1 ∷ followers

-- what holds of each of these kinds, by the part of a voice that it is
pub record Parts (P : ℕ → Type 0) : Type 0 where
  pub header : P 1
  pub channel : P 2
  pub pan : P 3
  pub attacks : P 4
  pub releases : P 5
  pub sequence : P 7
  pub fade : P 9
  pub texts : P 10

module _ (P : ℕ → Type 0) where
  pub all_parts : Parts P → All P openers
  all_parts p = (p.header, (p.channel, (p.pan, (p.attacks, (p.releases, (p.sequence, (p.fade, (p.texts, tt))))))))

  pub parts : All P openers → Parts P
  parts a = record {
    header = a.0;
    channel = a.1.0;
    pan = a.1.1.0;
    attacks = a.1.1.1.0;
    releases = a.1.1.1.1.0;
    sequence = a.1.1.1.1.1.0;
    fade = a.1.1.1.1.1.1.0;
    texts = a.1.1.1.1.1.1.1.0;
  }

-- the kind of the members that a group may have, 0 where it may have none
abbrev pub member : ℕ → ℕ
member k = get_or (0 ∷ 0 ∷ 0 ∷ 0 ∷ 6 ∷ 6 ∷ 0 ∷ 8 ∷ 0 ∷ 0 ∷ 11 ∷ []) k 0

-- the groups in hand with which a kind may come are from `earliest_of` to `latest_of`
abbrev pub earliest_of : ℕ → ℕ
earliest_of k = get_or earliest k 0

abbrev pub latest_of : ℕ → ℕ
latest_of k = get_or latest k 0

abbrev pub is_in : ℕ → List ℕ → Bool
is_in k [] = false
is_in k (j ∷ js) = eqb k j || is_in k js

-- ---- tests

abbrev same : Bool → Bool → Bool
same true b = b
same false b = not b

same_eq : (a b : Bool) → T (same a b) → a ≡ b
same_eq true true t = refl
same_eq true false t = absurd t
same_eq false true t = absurd t
same_eq false false t = refl

second : (a b : Bool) → T (a || b) → a ≡ false → T b
second true b t e = absurd (true≢false e)
second false b t e = t

is_true : (b : Bool) → T b → b ≡ true
is_true true t = refl
is_true false t = absurd t

pub known_from : (k : ℕ) → unknown_kind k ≡ false → 0 < k
known_from k u = omega (arith, eqb-false k 0 (neither (eqb k 0) (ltb 11 k) u).0)

known_to : (k : ℕ) → unknown_kind k ≡ false → k < 12
known_to k u = omega (arith, ltb-false 11 k (neither (eqb k 0) (ltb 11 k) u).1)

rule : (f : ℕ → Bool) → T (all_below (λ k. unknown_kind k || f k) 12) → (k : ℕ) → unknown_kind k ≡ false → T (f k)
rule f t k u = second (unknown_kind k) (f k) (below (λ (j : ℕ). unknown_kind j || f j) 12 t k (known_to k u)) u

-- a kind that opens groups
abbrev pub Opener : ℕ → Type 0
Opener k = (unknown_kind k || belongs k) ≡ false

module _ (k : ℕ) (o : Opener k) where
  pub known_kind : unknown_kind k ≡ false
  known_kind = (neither (unknown_kind k) (belongs k) o).0

  pub opens_group : belongs k ≡ false
  opens_group = (neither (unknown_kind k) (belongs k) o).1

pub all_open : All Opener openers
all_open = (refl, (refl, (refl, (refl, (refl, (refl, (refl, (refl, tt))))))))

-- ---- the rules

-- a kind may come while a group up to its own is in hand, and no later one
pub latest_le : (k : ℕ) → unknown_kind k ≡ false → latest_of k ≤ k
latest_le k u = leb-true _ _ (is_true _ (rule (λ (j : ℕ). leb (latest_of j) j) tt k u))

-- one that opens a group may come from the header on
pub earliest_le : (k : ℕ) → unknown_kind k ≡ false → belongs k ≡ false → earliest_of k ≤ 1
earliest_le k u b = leb-true _ _ (is_true _ (second (belongs k) _ (rule (λ (j : ℕ). belongs j || leb (earliest_of j) 1) tt k u) b))

-- a kind opens a group or belongs to one
pub opens_or_belongs : (k : ℕ) → unknown_kind k ≡ false → is_in k openers ≡ not (belongs k)
opens_or_belongs k u = same_eq _ _ (rule (λ (j : ℕ). same (is_in j openers) (not (belongs j))) tt k u)

-- members belong to their group, and may come while it is in hand
pub member_belongs : (k : ℕ) → unknown_kind k ≡ false → unknown_kind (member k) ≡ false → belongs (member k) ≡ true
member_belongs k u v = is_true _ (second (unknown_kind (member k)) _ (rule (λ (j : ℕ). unknown_kind (member j) || belongs (member j)) tt k u) v)

pub member_placed : (k : ℕ) → unknown_kind k ≡ false → unknown_kind (member k) ≡ false → misplaced k (member k) ≡ false
member_placed k u v = same_eq _ _ (second (unknown_kind (member k)) _ (rule (λ (j : ℕ). unknown_kind (member j) || same (misplaced j (member j)) false) tt k u) v)

pub placed : (g k : ℕ) → earliest_of k ≤ g → g ≤ latest_of k → misplaced g k ≡ false
placed g k e l = rw (le-ltb g (earliest_of k) e, le-ltb (latest_of k) g l)

pub placed_le : (g k : ℕ) → misplaced g k ≡ false → g ≤ latest_of k
placed_le g k p = ltb-false _ _ (neither (ltb g (earliest_of k)) (ltb (latest_of k) g) p).1

-- what belongs to a group and may come while g is in hand is a member of g
pub belongs_member : (g k : ℕ) → unknown_kind k ≡ false → misplaced g k ≡ false → eqb k (member g) ≡ belongs k
belongs_member g k u p =
    let f : ℕ → ℕ → Bool = λ j h. misplaced h j || same (eqb j (member h)) (belongs j) in
    let small : g < 12 = omega (arith, placed_le g k p, latest_le k u, known_to k u) in
    same_eq _ _ (second (misplaced g k) _ (below (f k) 12 (rule (λ (j : ℕ). all_below (f j) 12) tt k u) g small) p)

-- the header alone may come first
pub header_first : (k : ℕ) → unknown_kind k ≡ false → misplaced 0 k ≡ false → k ≡ 1
header_first k u p = eqb-true _ _ (is_true _ (second (misplaced 0 k) _ (rule (λ (j : ℕ). misplaced 0 j || eqb j 1) tt k u) p))
