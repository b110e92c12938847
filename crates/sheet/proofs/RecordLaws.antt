-- Records at their places: the answers of `record_at` from its tests, and what an answer says of the records from a place on,
-- which is all that a walk over a sheet uses.
-- Assumes nothing.
use Prim.Native.Nat.{ℕ, suc, ◌+◌, ◌-◌, ◌≤◌, ◌<◌}
use borrow.Author.Tests.{lt-ltb, le-ltb, ltb-false, ne_eqb}
use lib.Dec.{eqb, ltb}
use lib.ListN.{length, get_or, take, drop, length-drop, drop_of_length-le}
use lib.Seq.{drop-drop, drop-cons}
use mathlib.Core.Bool.{Bool, true, false, cond, ◌||◌}
use mathlib.Core.List.{List, [], ◌∷◌}
use mathlib.Core.Logic.{◌⊎◌, inl, inr}
use mathlib.Core.Path.{◌≡◌, refl, ap, ◌∙◌}
use native.Mathlib.Numerals.{add-one}
use native.Mathlib.Omega.{arith}
use Rattle.laws.proofs.Cases.{impossible}
use Rattle.laws.proofs.WalkLaws.{walk_more, walk_last}
use Rattle.laws.specs.Walk.{last, walk}
use Rattle.sheet.specs.declared.record.Record.{Record}
use Rattle.sheet.specs.Record.{body_length, unknown_kind, RecordHead, record_head, first_record, records, record_placed, record_at, whole, refused, none, entry, bad}
use Rattle.refusal.specs.declared.Refusal.TheVariants.{RecordCut, RecordWrong}
use Rattle.std.specs.Prelude.{Err, None, Ok, Some}
use Rattle.refusal.specs.declared.Refusal.{Refusal}

-- ---- the answers, from what the code tests

module _ (s : List ℕ) (at : ℕ) where
  pub at_end : length s ≤ at → record_at s at ≡ Ok None
  unfolding record_at record_head
  at_end h = rw (drop_of_length-le s h)

  module _ (h : at < length s) where
    pub at_zero : get_or s at 0 ≡ 0 → record_at s at ≡ Err RecordWrong
    unfolding record_at record_head
    at_zero e = rw (drop-cons s at 0 h, e)

    module _ (pos : get_or s at 0 ≡ 0 → ⊥) where
      pub at_unknown : 11 < get_or s at 0 → record_at s at ≡ Err RecordWrong
      unfolding record_at record_head
      at_unknown k = rw (drop-cons s at 0 h, ne_eqb (get_or s at 0) 0 pos, lt-ltb 11 (get_or s at 0) k)

      module _ (known : get_or s at 0 ≤ 11) where
        pub at_cut : length s - (at + 1) < body_length (get_or s at 0) → record_at s at ≡ Err RecordCut
        unfolding record_at record_head
        at_cut k = rw (drop-cons s at 0 h, ne_eqb (get_or s at 0) 0 pos, le-ltb 11 (get_or s at 0) known, length-drop, ← add-one at, lt-ltb _ _ k)

        pub at_whole : body_length (get_or s at 0) ≤ length s - (at + 1) → record_at s at ≡ Ok (Some (record { kind = get_or s at 0; start = at + 1; next = at + 1 + body_length (get_or s at 0) }))
        unfolding record_at record_head
        at_whole k = rw (drop-cons s at 0 h, ne_eqb (get_or s at 0) 0 pos, le-ltb 11 (get_or s at 0) known, length-drop, ← add-one at, le-ltb _ _ k)

-- ---- what an answer says of the records

-- a whole record of kind k at a place, with its body from `start` to `next`
pub record Whole (s : List ℕ) (at k start next : ℕ) : Type 0 where
  pub items : records (drop at s) ≡ entry k (take (next - start) (drop start s)) ∷ records (drop next s)
  pub known : k < 12
  pub begins : start ≡ at + 1
  pub sized : next - start ≡ body_length k
  pub ordered : start ≤ next
  pub inside : next ≤ length s
  pub on : at < next
  pub begun : at < length s

nil_front : first_record (record_head []) [] ≡ last []
unfolding record_head
nil_front = refl

head_fits : (l : List ℕ) (k : ℕ) → record_head l ≡ whole k → (suc (body_length k) ≤ length l) × (k < 12)
unfolding record_head
head_fits [] k e = impossible cc
head_fits (x ∷ l) k e = go (eqb x 0) (ltb 11 x) (ltb (length l) (body_length x)) refl refl e
  where
    go : (a b d : Bool) → ltb 11 x ≡ b → ltb (length l) (body_length x) ≡ d → cond (a || b) (refused RecordWrong) (cond d (refused RecordCut) (whole x)) ≡ whole k
        → (suc (body_length k) ≤ suc (length l)) × (k < 12)
    go true b d p q e = impossible cc
    go false true d p q e = impossible cc
    go false false true p q e = impossible cc
    go false false false p q e =
        let m : x ≡ k = cc in
        rw (← m) (omega (arith, ltb-false (length l) (body_length x) q), omega (arith, ltb-false 11 x p))

head_number : (l : List ℕ) (r : Refusal) → record_head l ≡ refused r → (r ≡ RecordCut) ⊎ (r ≡ RecordWrong)
unfolding record_head
head_number [] r e = impossible cc
head_number (x ∷ l) r e = go (unknown_kind x) (ltb (length l) (body_length x)) e
  where
    go : (a d : Bool) → cond a (refused RecordWrong) (cond d (refused RecordCut) (whole x)) ≡ refused r → (r ≡ RecordCut) ⊎ (r ≡ RecordWrong)
    go true d e = inr cc
    go false true e = inl cc
    go false false e = impossible cc

module _ (s : List ℕ) (at : ℕ) where
  pub is_end : record_at s at ≡ Ok None → records (drop at s) ≡ []
  unfolding record_at records
  is_end = go (record_head (drop at s)) refl
    where
      go : (h : RecordHead) → record_head (drop at s) ≡ h → record_placed at h ≡ Ok None → walk (λ l. first_record (record_head l) l) 0 (drop at s) ≡ []
      go (whole k) p e = impossible cc
      go (refused q) p e = impossible cc
      go none p e = walk_last _ nil_front (drop at s) [] (rw p)

  pub is_refused : (r : Refusal) → record_at s at ≡ Err r → records (drop at s) ≡ bad r ∷ []
  unfolding record_at records
  is_refused r = go (record_head (drop at s)) refl
    where
      go : (h : RecordHead) → record_head (drop at s) ≡ h → record_placed at h ≡ Err r → walk (λ l. first_record (record_head l) l) 0 (drop at s) ≡ bad r ∷ []
      go (whole k) p e = impossible cc
      go (refused q) p e = let eq : q ≡ r = cc in rw (← eq) (walk_last _ nil_front (drop at s) (bad q ∷ []) (rw p))
      go none p e = impossible cc

  pub is_number : (r : Refusal) → record_at s at ≡ Err r → (r ≡ RecordCut) ⊎ (r ≡ RecordWrong)
  unfolding record_at
  is_number r = go (record_head (drop at s)) refl
    where
      go : (h : RecordHead) → record_head (drop at s) ≡ h → record_placed at h ≡ Err r → (r ≡ RecordCut) ⊎ (r ≡ RecordWrong)
      go (whole k) p e = impossible cc
      go (refused q) p e = let eq : q ≡ r = cc in head_number (drop at s) r (rw eq at p)
      go none p e = impossible cc

  pub is_record : (r : Record) → record_at s at ≡ Ok (Some r) → Whole s at r.kind r.start r.next
  unfolding record_at records
  is_record r = go (record_head (drop at s)) refl
    where
      go : (h : RecordHead) → record_head (drop at s) ≡ h → record_placed at h ≡ Ok (Some r) → Whole s at r.kind r.start r.next
      go (whole j) p e =
          let same : ◌≡◌ {A = Record} (record { kind = j; start = at + 1; next = at + 1 + body_length j }) r = cc in
          let ek : j ≡ r.kind = ap (λ (x : Record). x.kind) same in
          let es : at + 1 ≡ r.start = ap (λ (x : Record). x.start) same in
          let en : at + 1 + body_length j ≡ r.next = ap (λ (x : Record). x.next) same in
          let fits = head_fits (drop at s) j p in
          let long = rw length-drop at fits.0 in
          let past_it : at + suc (body_length j) ≡ r.next = omega arith in
          let size : body_length j ≡ r.next - r.start = omega arith in
          let body : drop 1 (drop at s) ≡ drop r.start s = drop-drop 1 at s ∙ ap (λ (n : ℕ). drop n s) es in
          let rest : drop (suc (body_length j)) (drop at s) ≡ drop r.next s = drop-drop (suc (body_length j)) at s ∙ ap (λ (n : ℕ). drop n s) past_it in
          let read = walk_more (λ l. first_record (record_head l) l) nil_front (drop at s) (entry j (take (body_length j) (drop 1 (drop at s)))) (body_length j) (rw p) in
          record {
            items = cc (read, body, rest, ek, size);
            known = rw ek at fits.1;
            begins = omega arith;
            sized = cc (ek, size);
            ordered = omega arith;
            inside = omega arith;
            on = omega arith;
            begun = omega arith;
          }
      go (refused q) p e = impossible cc
      go none p e = impossible cc
