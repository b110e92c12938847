-- From a place of a part on, where the next member begins: the bytes before it open groups and hold no member.
--     no_member                                no member follows
--     member_after, member_same, member_here   where the next member lies; the members from there on are the same; its body
--     member_long, member_whole                it is all there, and those past it are
-- Assumes nothing.
use Prim.Native.Nat.{ℕ, zero, suc, ◌+◌, ◌≤◌, ◌<◌}
use lib.Dec.{eqb, ltb}
use lib.ListN.{length, get_or, take, drop, length-take, length-drop}
use lib.Seq.{drop-cons, drop-drop, drop-length, get_or-drop}
use mathlib.Core.Bool.{Bool, true, false, cond}
use mathlib.Core.List.{List, [], ◌∷◌}
use mathlib.Core.Path.{◌≡◌, refl, sym, ap, subst, ◌∙◌}
use native.Mathlib.Numerals.{add-one}
use native.Mathlib.Omega.{arith}
use borrow.Author.Tests.{eqb-true, eqb-false, ltb-false}
use Rattle.laws.proofs.Cases.{impossible}
use Rattle.sheet.specs.Allowed.{All}
use Rattle.sheet_layout.specs.Members.{members_in, Whole, next_member}
use Rattle.sheet_layout.proofs.MemberLaws.{none_left, opener_passed, member_first}
use Rattle.std.proofs.lemmas.List.Quantifiers.{position-Some}
use Rattle.std.proofs.lemmas.List.Sums.{fails_before_first}
use Rattle.std.specs.List.{position, position_or_len}
use Rattle.std.specs.Prelude.{None, Option, Some, option_map}

-- ---- the bytes before the first member

module _ (member : ℕ) where
  abbrev is_member : ℕ → Bool
  is_member kind = eqb kind member

  -- bytes of other kinds hold no member
  others_passed : (l : List ℕ) (k : ℕ) → k ≤ length l → ((i : ℕ) → i < k → is_member (get_or l i 0) ≡ false) → (n : ℕ) → members_in member n (drop k l) ≡ members_in member n l
  others_passed l zero h others n = refl
  others_passed [] (suc k) h others n = absurd (omega arith)
  others_passed (kind ∷ l) (suc k) h others n =
      others_passed l k (omega arith) (λ i g. others (suc i) (omega arith)) n
      ∙ sym (opener_passed member n kind l (eqb-false kind member (others 0 (omega arith))))

  none_found : (l : List ℕ) → position is_member l ≡ None → (n : ℕ) → members_in member n l ≡ []
  none_found l e n = go (ltb (position_or_len is_member l) (length l)) refl e
    where
      go : (t : Bool) → ltb (position_or_len is_member l) (length l) ≡ t → cond t (Some (position_or_len is_member l)) None ≡ None → members_in member n l ≡ []
      go true t e = impossible cc
      go false t e =
          let past = ltb-false (position_or_len is_member l) (length l) t in
          sym (others_passed l (length l) (omega arith) (λ i h. fails_before_first is_member l i 0 (omega arith)) n)
          ∙ rw drop-length (none_left member n)

-- ---- the next member from a place on

module _ (member : ℕ) (part : List ℕ) (at : ℕ) where
  -- a member begins at k, and none before it
  record Next (k : ℕ) : Type 0 where
    after : at ≤ k
    here : k < length part
    is : get_or part k 0 ≡ member
    same : (n : ℕ) → members_in member n (drop k part) ≡ members_in member n (drop at part)

  next_found : {k : ℕ} → next_member member at part ≡ Some k → Next k
  next_found {k} e = go (position (is_member member) (drop at part)) refl e
    where
      go : (o : Option ℕ) → position (is_member member) (drop at part) ≡ o → option_map (λ i. at + i) o ≡ Some k → Next k
      go None p e = impossible cc
      go (Some i) p e =
          let first = position-Some (is_member member) (drop at part) i 0 p in
          let place : at + i ≡ k = cc in
          subst Next place
          (record {
            after = omega arith;
            here = omega (arith, first.0, length-drop at part);
            is = sym (get_or-drop at part i 0) ∙ eqb-true _ member first.1;
            same = λ n. ap (members_in member n) (sym (drop-drop i at part)) ∙ others_passed member (drop at part) i (omega (arith, first.0)) first.2 n;
          })

  pub no_member : next_member member at part ≡ None → (n : ℕ) → members_in member n (drop at part) ≡ []
  no_member e = go (position (is_member member) (drop at part)) refl e
    where
      go : (o : Option ℕ) → position (is_member member) (drop at part) ≡ o → option_map (λ i. at + i) o ≡ None → (n : ℕ) → members_in member n (drop at part) ≡ []
      go None p e = none_found member (drop at part) p
      go (Some i) p e = impossible cc

-- ---- where the next member stands

module _ (member n : ℕ) (part : List ℕ) (at : ℕ) {k : ℕ} (e : next_member member at part ≡ Some k) where
  pub member_after : at ≤ k
  member_after = (next_found member part at e).after

  pub member_same : members_in member n (drop k part) ≡ members_in member n (drop at part)
  member_same = (next_found member part at e).same n

  pub member_here : members_in member n (drop at part) ≡ take n (drop (k + 1) part) ∷ members_in member n (drop (k + suc n) part)
  member_here =
      let next = next_found member part at e in
      let first : drop k part ≡ member ∷ drop (k + 1) part = rw (add-one k) (drop-cons part k 0 next.here ∙ rw next.is) in
      let past : k + 1 + n ≡ k + suc n = omega arith in
      sym member_same ∙ ap (members_in member n) first ∙ member_first member n (drop (k + 1) part) ∙ rw (drop-drop n (k + 1) part, past)

  both : Whole member n (drop at part) → (length (take n (drop (k + 1) part)) ≡ n) × Whole member n (drop (k + suc n) part)
  both h = subst (All (λ body. length body ≡ n)) member_here h

  pub member_long : Whole member n (drop at part) → k + suc n ≤ length part
  member_long h = omega (arith, (next_found member part at e).here, (both h).0, length-take n (drop (k + 1) part), length-drop (k + 1) part)

  pub member_whole : Whole member n (drop at part) → Whole member n (drop (k + suc n) part)
  member_whole h = (both h).1
