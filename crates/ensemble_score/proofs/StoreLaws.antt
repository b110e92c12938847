-- Entries stored as numbers, five in a row: the one that is stored is there, and the others stay.
--     entry_stored                    one entry
--     four_stored                     four, one after another
--     Below, more_stored              the entries of a score, four more at a time
-- Assumes nothing.
use Prim.Native.Nat.{ℕ, zero, suc, ◌+◌, ◌-◌, ◌*◌, ◌%◌, ◌≤◌, ◌<◌}
use mathlib.Core.List.{List, [], ◌∷◌}
use mathlib.Core.Logic.{◌⊎◌, inl, inr}
use mathlib.Core.Path.{◌≡◌, refl, sym, ap, subst, ◌∙◌}
use native.Mathlib.Nat.{add-zero}
use native.Mathlib.Omega.{arith}
use borrow.Author.Tests.{ltb-true, ltb-false}
use mathlib.Core.Bool.{Bool, true, false}
use lib.Dec.{ltb}
use lib.ListN.{length, set, get_or, length-set}
use lib.Seq.{sets, get_or-set_same, get_or-set_other}
use Rattle.ensemble_score.specs.Score.{blank, entry_in, FourFrom, EntryPut, FourPut}
use Rattle.ensemble_score.specs.declared.Entry.{Entry}
use Rattle.ensemble_score.specs.declared.Four.{Four}

-- ---- numbers stored in a row

sets_before : (vs l : List ℕ) (at k : ℕ) → k < at → get_or (sets l at vs) k 0 ≡ get_or l k 0
sets_before [] l at k h = refl
sets_before (v ∷ vs) l at k h = sets_before vs _ (suc at) k (omega (arith, h)) ∙ get_or-set_other l at k v 0 (λ e. omega (arith, h, e))

sets_after : (vs l : List ℕ) (at k : ℕ) → at + length vs ≤ k → get_or (sets l at vs) k 0 ≡ get_or l k 0
sets_after [] l at k h = refl
sets_after (v ∷ vs) l at k h = sets_after vs _ (suc at) k (omega (arith, h)) ∙ get_or-set_other l at k v 0 (λ e. omega (arith, h, e))

sets_there : (vs l : List ℕ) (at j : ℕ) → j < length vs → at + length vs ≤ length l → get_or (sets l at vs) (at + j) 0 ≡ get_or vs j 0
sets_there [] l at j h room = absurd (omega (arith, h))
sets_there (v ∷ vs) l at zero h room =
    let same : at + 0 ≡ at = omega arith in
    rw same (sets_before vs _ (suc at) at (omega arith) ∙ get_or-set_same l at v 0 (omega (arith, room)))
sets_there (v ∷ vs) l at (suc j) h room =
    let same : at + suc j ≡ suc at + j = omega arith in
    rw same (sets_there vs _ (suc at) j (omega (arith, h)) (rw length-set (omega (arith, room))))

-- ---- an entry

-- its numbers
abbrev five_of : Entry → List ℕ
five_of e = e.start ∷ e.key_up ∷ e.step ∷ e.octave ∷ e.velocity ∷ []

same_entry : (ns ms : List ℕ) (i j : ℕ) → ((k : ℕ) → k < 5 → get_or ns (5 * i + k) 0 ≡ get_or ms (5 * j + k) 0) → entry_in ns i ≡ entry_in ms j
unfolding entry_in
same_entry ns ms i j same =
    let first : get_or ns (5 * i) 0 ≡ get_or ms (5 * j) 0 = simp add-zero at (same 0 (omega arith)) in
    rw (first, same 1 (omega arith), same 2 (omega arith), same 3 (omega arith), same 4 (omega arith))

module _ (ns : List ℕ) (i : ℕ) (e : Entry) (long : length ns ≡ 80) (there : i < 16) (small_octave : e.octave < 256) (small_velocity : e.velocity < 256) where
  abbrev after : List ℕ
  after = sets ns (5 * i) (five_of e)

  here : (k : ℕ) → k < 5 → get_or after (5 * i + k) 0 ≡ get_or (five_of e) k 0
  here k h = sets_there (five_of e) ns (5 * i) k h (omega (arith, long, there))

  is_there_lem : entry_in after i ≡ e
  unfolding entry_in
  is_there_lem =
      let first : get_or after (5 * i) 0 ≡ e.start = simp add-zero at (here 0 (omega arith)) in
      let octave : e.octave % 256 ≡ e.octave = omega (arith, small_octave) in
      let velocity : e.velocity % 256 ≡ e.velocity = omega (arith, small_velocity) in
      rw (first, here 1 (omega arith), here 2 (omega arith), here 3 (omega arith), here 4 (omega arith), octave, velocity)

  stays : (j : ℕ) → (j < i) ⊎ (i < j) → entry_in after j ≡ entry_in ns j
  stays j (inl h) = same_entry after ns j j (λ k small. sets_before (five_of e) ns (5 * i) (5 * j + k) (omega (arith, h, small)))
  stays j (inr h) = same_entry after ns j j (λ k small. sets_after (five_of e) ns (5 * i) (5 * j + k) (omega (arith, h, small)))

  -- as the code stores them
  abbrev pub stored : List ℕ
  stored = set (set (set (set (set ns (5 * i) e.start) (5 * i + 1) e.key_up) (5 * i + 2) e.step) (5 * i + 3) e.octave) (5 * i + 4) e.velocity

  stored_is : stored ≡ after
  stored_is =
      let one : 5 * i + 1 ≡ suc (5 * i) = omega arith in
      let two : 5 * i + 2 ≡ suc (suc (5 * i)) = omega arith in
      let three : 5 * i + 3 ≡ suc (suc (suc (5 * i))) = omega arith in
      let four : 5 * i + 4 ≡ suc (suc (suc (suc (5 * i)))) = omega arith in
      rw (one, two, three, four) refl

  pub entry_stored : EntryPut ns i e stored
  entry_stored = subst (λ (ms : List ℕ). EntryPut ns i e ms) (sym stored_is) (record { there = is_there_lem; others = stays })

-- ---- four

module _ {a b c d : List ℕ} {ns : List ℕ} {i : ℕ} {f : Four} (first : EntryPut ns i f.first a) (second : EntryPut a (i + 1) f.second b) (third : EntryPut b (i + 2) f.third c)
    (fourth : EntryPut c (i + 3) f.fourth d) where
  pub four_stored : FourPut ns i f d
  four_stored = record {
    first_there = fourth.others i (inl (omega arith)) ∙ third.others i (inl (omega arith)) ∙ second.others i (inl (omega arith)) ∙ first.there;
    second_there = fourth.others (i + 1) (inl (omega arith)) ∙ third.others (i + 1) (inl (omega arith)) ∙ second.there;
    third_there = fourth.others (i + 2) (inl (omega arith)) ∙ third.there;
    fourth_there = fourth.there;
    others = λ j out. outside j out;
  }
    where
      outside : (j : ℕ) → (j < i) ⊎ (i + 4 ≤ j) → entry_in d j ≡ entry_in ns j
      outside j (inl h) = fourth.others j (inl (omega (arith, h))) ∙ third.others j (inl (omega (arith, h))) ∙ second.others j (inl (omega (arith, h))) ∙ first.others j (inl h)
      outside j (inr h) = fourth.others j (inr (omega (arith, h))) ∙ third.others j (inr (omega (arith, h))) ∙ second.others j (inr (omega (arith, h))) ∙ first.others j (inr (omega (arith, h)))

-- ---- sixteen

module _ (score : List Entry) where
  -- the entries below a place are the score's
  abbrev pub Below : ℕ → List ℕ → Type 0
  Below n ns = (j : ℕ) → j < n → entry_in ns j ≡ get_or score j blank

  at : (m n : ℕ) → m ≡ n → get_or score m blank ≡ get_or score n blank
  at m n e = ap (λ (k : ℕ). get_or score k blank) e

  -- four more
  pub more_stored : (n : ℕ) (ns ms : List ℕ) (f : Four) → Below n ns → FourFrom score n f → FourPut ns n f ms → Below (n + 4) ms
  more_stored n ns ms f below from put j h = go (ltb j n) refl
    where
      among : (k : ℕ) → j ≡ n + k → k < 4 → entry_in ms j ≡ get_or score j blank
      among zero e small = let same : j ≡ n = omega (arith, e) in rw same (put.first_there ∙ from.first_is)
      among (suc zero) e small = rw e (put.second_there ∙ from.second_is)
      among (suc (suc zero)) e small = rw e (put.third_there ∙ from.third_is)
      among (suc (suc (suc zero))) e small = rw e (put.fourth_there ∙ from.fourth_is)
      among (suc (suc (suc (suc k)))) e small = absurd (omega (arith, small))

      go : (t : Bool) → ltb j n ≡ t → entry_in ms j ≡ get_or score j blank
      go true t = let first = ltb-true j n t in put.others j (inl first) ∙ below j first
      go false t = let past = ltb-false j n t in among (j - n) (omega (arith, past)) (omega (arith, past, h))
