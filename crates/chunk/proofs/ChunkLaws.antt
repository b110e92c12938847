-- The laws of the walk: the answers of `chunk_at` from its tests, and what an answer says of the items.
-- Assumes nothing.
use Rattle.laws.proofs.Cases.{impossible}
use Prim.Native.Nat.{ℕ, suc, ◌+◌, ◌-◌, ◌%◌, ◌*◌, ◌≤◌, ◌<◌, min, zero-le}
use borrow.Author.Tests.{lt-ltb, le-ltb, ltb-false}
use lib.Dec.{ltb}
use lib.ListN.{length, take, drop, length-drop, length-take}
use lib.Seq.{drop-drop}
use mathlib.Core.Bool.{Bool, true, false, cond}
use mathlib.Core.List.{List, [], ◌∷◌}
use mathlib.Core.Path.{◌≡◌, refl, ap, ◌∙◌}
use native.Mathlib.Nat.{le_trans, mul-le-mul_left, sub-zero}
use native.Mathlib.Omega.{arith}
use Rattle.field.specs.BigEndian.{big_endian}
use Rattle.chunk.specs.Chunk.{Head, head_of, Item, first_item, items_of, items_from, end_of, whole, refused, none, chunk, bad}
use Rattle.chunk.specs.ForCode.{placed, step_at}
use Rattle.laws.specs.Walk.{more, last, each}
use Rattle.laws.proofs.WalkLaws.{walk_more, walk_last, walk_bound}
use Rattle.refusal.specs.declared.Refusal.TheVariants.{ChunkPastForm}
use Rattle.chunk.specs.declared.Chunk.{Chunk}
use Rattle.std.specs.Prelude.{Err, None, Ok, Some}
use Rattle.refusal.specs.declared.Refusal.{Refusal}

-- ---- the walk's end

pub end_le : (s : List ℕ) → end_of s ≤ length s
unfolding end_of
end_le s = omega arith

pub end_file : (s : List ℕ) → length s ≤ big_endian 4 (drop 4 s) + 8 → end_of s ≡ length s
unfolding end_of
end_file s h = omega arith

pub end_length : (s : List ℕ) → big_endian 4 (drop 4 s) + 8 < length s → end_of s ≡ big_endian 4 (drop 4 s) + 8
unfolding end_of
end_length s h = omega arith

-- ---- the three answers, from what the code tests

module _ (f : List ℕ) (at : ℕ) where
  pub step_end : length f - at < 8 → step_at f at ≡ Ok None
  unfolding step_at head_of
  step_end h = rw (length-drop, lt-ltb (length f - at) 8 h)

  pub step_past : 8 ≤ length f - at → length f - at - 8 < big_endian 4 (drop (at + 4) f) → step_at f at ≡ Err ChunkPastForm
  unfolding step_at head_of
  step_past h k = rw (length-drop, le-ltb (length f - at) 8 h, drop-drop, lt-ltb (length f - at - 8) (big_endian 4 (drop (at + 4) f)) k)

  pub step_whole : 8 ≤ length f - at → big_endian 4 (drop (at + 4) f) ≤ length f - at - 8
      → step_at f at ≡ Ok (Some (record { id = big_endian 4 (drop at f); start = at + 8; size = big_endian 4 (drop (at + 4) f); next = at + 8 + big_endian 4 (drop (at + 4) f) + big_endian 4 (drop (at + 4) f) % 2 }))
  unfolding step_at head_of
  step_whole h k = rw (length-drop, le-ltb (length f - at) 8 h, drop-drop, le-ltb (length f - at - 8) (big_endian 4 (drop (at + 4) f)) k)

-- ---- what an answer says of the items: all that a walk over the form uses

pub record Whole (f : List ℕ) (at id start n next : ℕ) : Type 0 where
  pub items : items_from f at ≡ chunk id (take n (drop start f)) ∷ items_from f next
  pub begins : start ≡ at + 8
  pub past : next ≡ at + 8 + n + n % 2
  pub inside : start + n ≤ length f
  pub on : at < next
  pub begun : at < length f

pub nil_first : first_item (head_of []) [] ≡ last []
unfolding head_of
nil_first = refl

head_fits : (l : List ℕ) (id n : ℕ) → head_of l ≡ whole id n → 8 + n ≤ length l
unfolding head_of
head_fits l id n = go (ltb (length l) 8) (ltb (length l - 8) (big_endian 4 (drop 4 l))) refl refl
  where
    go : (a b : Bool) → ltb (length l) 8 ≡ a → ltb (length l - 8) (big_endian 4 (drop 4 l)) ≡ b
        → cond a none (cond b (refused ChunkPastForm) (whole (big_endian 4 l) (big_endian 4 (drop 4 l)))) ≡ whole id n → 8 + n ≤ length l
    go true b p q e = impossible cc
    go false true p q e = impossible cc
    go false false p q e =
        let m : big_endian 4 (drop 4 l) ≡ n = cc in
        omega (arith, ltb-false (length l) 8 p, ltb-false (length l - 8) (big_endian 4 (drop 4 l)) q)

module _ (f : List ℕ) (at : ℕ) where
  pub at_end : step_at f at ≡ Ok None → items_from f at ≡ []
  unfolding step_at items_from items_of
  at_end = go (head_of (drop at f)) refl
    where
      go : (h : Head) → head_of (drop at f) ≡ h → placed at h ≡ Ok None → items_of (drop at f) ≡ []
      go (whole id n) p e = impossible cc
      go (refused q) p e = impossible cc
      go none p e = walk_last _ nil_first (drop at f) [] (rw p)

  pub at_refused : (r : Refusal) → step_at f at ≡ Err r → items_from f at ≡ bad r ∷ []
  unfolding step_at items_from items_of
  at_refused r = go (head_of (drop at f)) refl
    where
      go : (h : Head) → head_of (drop at f) ≡ h → placed at h ≡ Err r → items_of (drop at f) ≡ bad r ∷ []
      go (whole id n) p e = impossible cc
      go (refused q) p e = let eq : q ≡ r = cc in rw (← eq) (walk_last _ nil_first (drop at f) (bad q ∷ []) (rw p))
      go none p e = impossible cc

  pub at_chunk : (c : Chunk) → step_at f at ≡ Ok (Some c) → Whole f at c.id c.start c.size c.next
  unfolding step_at items_from items_of
  at_chunk c = go (head_of (drop at f)) refl
    where
      go : (h : Head) → head_of (drop at f) ≡ h → placed at h ≡ Ok (Some c) → Whole f at c.id c.start c.size c.next
      go (whole i m) p e =
          let same : ◌≡◌ {A = Chunk} (record { id = i; start = at + 8; size = m; next = at + 8 + m + m % 2 }) c = cc in
          let ei : i ≡ c.id = ap (λ (x : Chunk). x.id) same in
          let es : at + 8 ≡ c.start = ap (λ (x : Chunk). x.start) same in
          let em : m ≡ c.size = ap (λ (x : Chunk). x.size) same in
          let en : at + 8 + m + m % 2 ≡ c.next = ap (λ (x : Chunk). x.next) same in
          let fits = rw length-drop at (head_fits (drop at f) i m p) in
          let body : drop 8 (drop at f) ≡ drop c.start f = drop-drop 8 at f ∙ ap (λ (k : ℕ). drop k f) es in
          let past_it : at + suc (7 + m + m % 2) ≡ c.next = omega arith in
          let rest : drop (suc (7 + m + m % 2)) (drop at f) ≡ drop c.next f =
          drop-drop (suc (7 + m + m % 2)) at f ∙ ap (λ (k : ℕ). drop k f) past_it in
          let read = walk_more (λ l. first_item (head_of l) l) nil_first (drop at f) (chunk i (take m (drop 8 (drop at f)))) (7 + m + m % 2) (rw p) in
          record { items = cc (read, body, rest, ei, em); begins = omega arith; past = omega arith; inside = omega arith; on = omega arith; begun = omega arith }
      go (refused q) p e = impossible cc
      go none p e = impossible cc

-- where no chunk becomes more than c times its bytes, the form becomes no more than c times its bytes
pub items_bound : (g : Item → List ℕ) (c : ℕ) → ((id : ℕ) (b : List ℕ) → length (g (chunk id b)) ≤ c * (8 + length b)) → ((r : Refusal) → g (bad r) ≡ [])
    → (f : List ℕ) (at : ℕ) → length (each g (items_from f at)) ≤ c * length f
unfolding items_from items_of
items_bound g c one bads f at =
    le_trans (walk_bound (λ l. first_item (head_of l) l) g c some_item end_item 0 (drop at f)) (mul-le-mul_left c (rw (sub-zero, length-drop) (omega arith)))
  where
    some_item : (l : List ℕ) (a : Item) (n : ℕ) → first_item (head_of l) l ≡ more a n → length (g a) ≤ c * min (suc n) (length l)
    some_item l a n = go (head_of l) refl
      where
        go : (h : Head) → head_of l ≡ h → first_item h l ≡ more a n → length (g a) ≤ c * min (suc n) (length l)
        go (whole i m) p e =
            let ea : chunk i (take m (drop 8 l)) ≡ a = cc in
            let en : 7 + m + m % 2 ≡ n = cc in
            let short : length (take m (drop 8 l)) ≤ m = rw length-take (omega arith) in
            let fits = head_fits l i m p in
            rw (← ea) (le_trans (one i (take m (drop 8 l))) (mul-le-mul_left c (omega arith)))
        go (refused q) p e = impossible cc
        go none p e = impossible cc

    end_item : (l : List ℕ) (xs : List Item) → first_item (head_of l) l ≡ last xs → length (each g xs) ≤ c * length l
    end_item l xs = go (head_of l)
      where
        go : (h : Head) → first_item h l ≡ last xs → length (each g xs) ≤ c * length l
        go (whole i m) e = impossible cc
        go (refused q) e = let ex : bad q ∷ [] ≡ xs = cc in rw (← ex, bads q) zero-le
        go none e = let ex : [] ≡ xs = cc in rw (← ex) zero-le
