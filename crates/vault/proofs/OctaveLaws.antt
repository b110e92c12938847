-- Laws of differences and of running sums: both may begin from 0, and a turn of the loops that write them.
-- Assumes nothing.
use mathlib.Core.Path.{◌≡◌, refl, sym, ap, ap₂, ◌∙◌}
use mathlib.Core.List.{List, [], ◌∷◌, ◌++◌, append-nil}
use Prim.Native.Nat.{ℕ, zero, suc, ◌+◌, ◌/◌, ◌≤◌, ◌<◌}
use native.Mathlib.Omega.{arith}
use lib.IntN.{ℤ, pos, ◌+ℤ◌, ◌-ℤ◌}
use lib.ListN.{length, get_or, take, drop, set, length-drop, drop_of_length-le}
use lib.Seq.{take_all, drop-drop}
use mir.Syntax.{w8}
use mir.Val.{SFits}
use Rattle.std.specs.Simd.{first_chunks}
use Rattle.laws.specs.Turns.{by_turns, evens, odds}
use Rattle.laws.proofs.Prefix.{next_at, rest_past, prefix_next}
use Rattle.laws.proofs.Signed.{zarith, sum, diff}
use Rattle.laws.proofs.TurnLaws.{turns_length, by_turns_at, pair_stored, evens_length, odds_length, parted_at, parted_last}
use Rattle.field.specs.Wrap.{to_sample}
use Rattle.field.proofs.WrapLaws.{sample_kept}
use Rattle.vault.specs.DifferenceOrder.{less_before, differences, octave_order, added_to, sums, octave_restored}

-- ---- lengths

pub less_length : (before : ℤ) (l : List ℤ) → length (less_before before l) ≡ length l
unfolding less_before
less_length before [] = refl
less_length before (x ∷ l) = ap suc (less_length x l)

pub added_length : (before : ℤ) (l : List ℤ) → length (added_to before l) ≡ length l
unfolding added_to
added_length before [] = refl
added_length before (x ∷ l) = ap suc (added_length (to_sample (before +ℤ x)) l)

-- ---- from 0

-- a sample less 0, or added to 0, is the sample
module _ (x : ℤ) (f : SFits w8 x) where
  less_zero : to_sample (x -ℤ pos 0) ≡ x
  less_zero = let same : x -ℤ pos 0 ≡ x = omega (zarith, diff x (pos 0)) in ap to_sample same ∙ sample_kept x f

  zero_added : to_sample (pos 0 +ℤ x) ≡ x
  zero_added = let same : pos 0 +ℤ x ≡ x = omega (zarith, sum (pos 0) x) in ap to_sample same ∙ sample_kept x f

-- the first of a list, if there is one, is a sample
abbrev pub FirstFits : List ℤ → Type 0
FirstFits l = 0 < length l → SFits w8 (get_or l 0 (pos 0))

pub differences_from : (l : List ℤ) → FirstFits l → differences l ≡ less_before (pos 0) l
unfolding differences less_before
differences_from [] f = refl
differences_from (x ∷ l) f = ap (λ (y : ℤ). y ∷ less_before x l) (sym (less_zero x (f (omega arith))))

pub sums_from : (l : List ℤ) → FirstFits l → sums l ≡ added_to (pos 0) l
unfolding sums added_to
sums_from [] f = refl
sums_from (x ∷ l) f = ap (λ (y : ℤ). y ∷ added_to y l) (sym (zero_added x (f (omega arith))))

-- ---- the next samples

-- what a loop knows of the first element after turn i, in which it read x, the next one: in turn 0 that is the first
pub first_known : (l rest : List ℤ) (i : ℕ) (x : ℤ) → (0 < i → SFits w8 (get_or l 0 (pos 0))) → drop (i + i) l ≡ x ∷ rest → SFits w8 x → SFits w8 (get_or l 0 (pos 0))
first_known l rest zero x before next f = rw (← next_at l rest 0 x (pos 0) next) f
first_known l rest (suc i) x before next f = before (omega arith)

-- a list of which 2 i elements are passed, and the next two: what is left of it past them
pair_past : (all rest : List ℤ) (i : ℕ) (a b : ℤ) → drop (i + i) all ≡ a ∷ b ∷ rest → rest ≡ drop (i + 1 + (i + 1)) all
pair_past all rest i a b e =
    let past : i + 1 + (i + 1) ≡ i + i + 1 + 1 = omega arith in
    rw past (sym (rest_past all rest (i + i + 1) b (rest_past all (b ∷ rest) (i + i) a e)))

chunk_at : (k i : ℕ) (l : List ℤ) → i < k → get_or (first_chunks 2 k l) i [] ≡ take 2 (drop (i + i) l)
chunk_at zero i l h = absurd (omega arith)
chunk_at (suc k) zero l h = refl
chunk_at (suc k) (suc i) l h =
    let twice : 2 + (i + i) ≡ suc i + suc i = omega arith in
    chunk_at k i (drop 2 l) (omega arith) ∙ ap (take 2) (drop-drop (i + i) 2 l ∙ ap (λ (n : ℕ). drop n l) twice)

two_of : (l : List ℤ) → 2 ≤ length l → l ≡ get_or (take 2 l) 0 (pos 0) ∷ get_or (take 2 l) 1 (pos 0) ∷ drop 2 l
two_of [] h = absurd (omega arith)
two_of (x ∷ []) h = absurd (omega arith)
two_of (x ∷ y ∷ l) h = refl

-- pair i of a list in pairs: two elements, and what is past them
pub pair_at : (l : List ℤ) (i : ℕ) (pair : List ℤ) → i < length l / 2 → pair ≡ get_or (first_chunks 2 (length l / 2) l) i []
    → drop (i + i) l ≡ get_or pair 0 (pos 0) ∷ get_or pair 1 (pos 0) ∷ drop (i + 1 + (i + 1)) l
pair_at l i pair h e =
    let two = two_of (drop (i + i) l) (omega (arith, length-drop (i + i) l)) in
    let rest = pair_past l _ i _ _ two in
    rw (e ∙ chunk_at (length l / 2) i l h, ← rest) two

-- a last one without another
pub sole_at : (l : List ℤ) → length l ≡ 1 → l ≡ get_or l 0 (pos 0) ∷ []
sole_at [] e = absurd (omega arith)
sole_at (x ∷ []) e = refl
sole_at (x ∷ y ∷ l) e = absurd (omega arith)

-- a part that is written as far as it goes
all_written : (part held : List ℤ) (n : ℕ) → length part ≡ n → length held ≡ n → take n part ++ drop n held ≡ part
all_written part held n p q = rw (take_all n part (omega arith), drop_of_length-le held {i = n} (omega arith)) (append-nil part)

-- ---- the loop that puts an octave in order

-- Of the differences of `samples` 2 i are passed, and `before` is the sample before the next.
module _ (samples : List ℤ) (i : ℕ) (before : ℤ) (left : less_before before (drop (i + i) samples) ≡ drop (i + i) (less_before (pos 0) samples)) where
  abbrev values : List ℤ
  values = less_before (pos 0) samples

  module _ (x y a b : ℤ) (a_is : a ≡ to_sample (x -ℤ before)) (b_is : b ≡ to_sample (y -ℤ x)) (next : drop (i + i) samples ≡ x ∷ y ∷ drop (i + 1 + (i + 1)) samples) where
    abbrev rest : List ℤ
    rest = less_before y (drop (i + 1 + (i + 1)) samples)

    less_pair : drop (i + i) values ≡ a ∷ b ∷ rest
    unfolding less_before
    less_pair = rw (a_is, b_is) (sym left ∙ ap (less_before before) next)

    pub order_left : rest ≡ drop (i + 1 + (i + 1)) values
    order_left = pair_past values rest i a b less_pair

    -- a turn stores the next value of each part
    pub order_even : (d out : List ℤ) → out ≡ take i (evens values) ++ drop i d → i < length d → set out i a ≡ take (i + 1) (evens values) ++ drop (i + 1) d
    order_even d out so_far room = prefix_next (evens values) (evens rest) d out i a (parted_at values rest i a b less_pair).0 room so_far

    pub order_odd : (d out : List ℤ) → out ≡ take i (odds values) ++ drop i d → i < length d → set out i b ≡ take (i + 1) (odds values) ++ drop (i + 1) d
    order_odd d out so_far room = prefix_next (odds values) (odds rest) d out i b (parted_at values rest i a b less_pair).1 room so_far

  -- the last value of an odd number
  pub order_last : (x a : ℤ) → a ≡ to_sample (x -ℤ before) → drop (i + i) samples ≡ x ∷ [] → (d out : List ℤ) → out ≡ take i (evens values) ++ drop i d → i < length d
      → set out i a ≡ take (i + 1) (evens values) ++ drop (i + 1) d
  unfolding less_before
  order_last x a a_is next d out so_far room =
      let only : drop (i + i) values ≡ a ∷ [] = rw a_is (sym left ∙ ap (less_before before) next) in
      prefix_next (evens values) [] d out i a (parted_last values i a only) room so_far

-- both parts are written, of i values and of j
pub order_ended : (samples d e first second : List ℤ) (i j : ℕ) → FirstFits samples → i ≡ (length samples + 1) / 2 → j ≡ length samples / 2 → length d ≡ i → length e ≡ j
    → first ≡ take i (evens (less_before (pos 0) samples)) ++ drop i d → second ≡ take j (odds (less_before (pos 0) samples)) ++ drop j e
    → first ++ second ≡ octave_order samples
unfolding octave_order
order_ended samples d e first second i j fits i_is j_is p q first_is second_is =
    let values = less_before (pos 0) samples in
    let long = less_length (pos 0) samples in
    let whole_first = first_is ∙ all_written (evens values) d i (omega (arith, evens_length values)) p in
    let whole_second = second_is ∙ all_written (odds values) e j (omega (arith, odds_length values)) q in
    ap₂ (λ (a b : List ℤ). a ++ b) whole_first whole_second ∙ ap (λ (l : List ℤ). evens l ++ odds l) (sym (differences_from samples fits))

-- ---- the loop that restores an octave

-- the i-th of each part, one after the other
pub turn_at : (ls rs : List ℤ) (i : ℕ) → i < length ls → i < length rs → drop (i + i) (by_turns ls rs) ≡ get_or ls i (pos 0) ∷ get_or rs i (pos 0) ∷ drop (i + 1 + (i + 1)) (by_turns ls rs)
turn_at ls rs i h k =
    let pair = by_turns_at ls rs i (pos 0) h k in
    let rest = pair_past (by_turns ls rs) _ i _ _ pair in
    pair ∙ rw rest

-- Of the sums of `values` 2 i are stored, into a buffer that held d, and `before` is the last of them.
module _ (values d out : List ℤ) (i : ℕ) (before : ℤ)
    (so_far : out ≡ take (i + i) (added_to (pos 0) values) ++ drop (i + i) d)
    (left : added_to before (drop (i + i) values) ≡ drop (i + i) (added_to (pos 0) values)) where
  abbrev all : List ℤ
  all = added_to (pos 0) values

  module _ (x y a b : ℤ) (a_is : a ≡ to_sample (before +ℤ x)) (b_is : b ≡ to_sample (a +ℤ y)) (next : drop (i + i) values ≡ x ∷ y ∷ drop (i + 1 + (i + 1)) values) where
    added_pair : drop (i + i) all ≡ a ∷ b ∷ added_to b (drop (i + 1 + (i + 1)) values)
    unfolding added_to
    added_pair = rw (b_is, a_is) (sym left ∙ ap (added_to before) next)

    pub restore_left : added_to b (drop (i + 1 + (i + 1)) values) ≡ drop (i + 1 + (i + 1)) all
    restore_left = pair_past all (added_to b (drop (i + 1 + (i + 1)) values)) i a b added_pair

    pub restore_turn : i + i + 1 < length d → set (set out (i + i) a) (i + i + 1) b ≡ take (i + 1 + (i + 1)) all ++ drop (i + 1 + (i + 1)) d
    restore_turn room = pair_stored all _ d out i a b added_pair room so_far

  -- the last sample of an odd number, stored at n
  pub restore_last : (x a : ℤ) (n : ℕ) → a ≡ to_sample (before +ℤ x) → drop (i + i) values ≡ x ∷ [] → i + i < length d → n ≡ i + i
      → set out n a ≡ take (i + i + 1) all ++ drop (i + i + 1) d
  unfolding added_to
  restore_last x a n a_is next room here =
      let only : drop (i + i) all ≡ a ∷ [] = rw a_is (sym left ∙ ap (added_to before) next) in
      rw here (prefix_next all [] d out (i + i) a only room so_far)

-- all n samples are restored, from two parts of which the first has half of the values
pub restore_ended : (values ls rs d out : List ℤ) (n : ℕ) → ls ≡ take ((length values + 1) / 2) values → rs ≡ drop ((length values + 1) / 2) values → FirstFits (by_turns ls rs)
    → length ls + length rs ≡ n → length d ≡ n → out ≡ take n (added_to (pos 0) (by_turns ls rs)) ++ drop n d → out ≡ octave_restored values
unfolding octave_restored
restore_ended values ls rs d out n first second fits all room so_far =
    let placed = by_turns ls rs in
    let long = added_length (pos 0) placed ∙ turns_length ls rs in
    so_far ∙ all_written (added_to (pos 0) placed) d n (omega (arith, long)) room ∙ sym (sums_from placed fits) ∙ rw (first, second)
