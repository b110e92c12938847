-- Chunks put together: a run of complete, padded chunks before other bytes is its items before theirs.
-- Assumes nothing.
use Rattle.laws.proofs.Cases.{impossible}
use Prim.Native.Nat.{ℕ, suc, ◌+◌, ◌-◌, ◌%◌, ◌≤◌}
use mathlib.Core.Path.{◌≡◌, refl, ap, ◌∙◌}
use mathlib.Core.Bool.{Bool, true, false, cond}
use mathlib.Core.List.{List, [], ◌∷◌, ◌++◌, append_assoc}
use lib.ListN.{length, take, drop, length-append, length-drop}
use lib.Seq.{drop-append-le, take-append-le, drop_at}
use lib.Dec.{ltb}
use borrow.Author.Tests.{le-ltb, ltb-false}
use native.Mathlib.Omega.{arith}
use Rattle.field.proofs.BigEndianLaws.{number_append}
use Rattle.field.specs.BigEndian.{big_endian}
use Rattle.chunk.proofs.ChunkLaws.{nil_first}
use Rattle.chunk.specs.Chunk.{whole, refused, none, head_of, Item, chunk, first_item, items_of}
use Rattle.laws.specs.Walk.{walk}
use Rattle.laws.proofs.WalkLaws.{walk_more}
use Rattle.refusal.specs.declared.Refusal.TheVariants.{ChunkPastForm}

-- c is a complete chunk with its pad
pub record Padded (c : List ℕ) (id : ℕ) (b : List ℕ) : Type 0 where
  pub head : head_of c ≡ whole id (length b)
  pub body : take (length b) (drop 8 c) ≡ b
  pub long : length c ≡ 8 + length b + length b % 2

pub data Run : List ℕ → List Item → Type 0 where
  empty : Run [] []
  then : {c l b : List ℕ} {id : ℕ} {xs : List Item} → Padded c id b → Run l xs → Run (c ++ l) (chunk id b ∷ xs)

-- what a whole head says
record Says (c : List ℕ) (id n : ℕ) : Type 0 where
  name : big_endian 4 c ≡ id
  size : big_endian 4 (drop 4 c) ≡ n
  fits : 8 + n ≤ length c

says : (c : List ℕ) (id n : ℕ) → head_of c ≡ whole id n → Says c id n
unfolding head_of
says c id n = go (ltb (length c) 8) (ltb (length c - 8) (big_endian 4 (drop 4 c))) refl refl
  where
    go : (a b : Bool) → ltb (length c) 8 ≡ a → ltb (length c - 8) (big_endian 4 (drop 4 c)) ≡ b
        → cond a none (cond b (refused ChunkPastForm) (whole (big_endian 4 c) (big_endian 4 (drop 4 c)))) ≡ whole id n → Says c id n
    go true b p q e = impossible cc
    go false true p q e = impossible cc
    go false false p q e =
        let m : big_endian 4 (drop 4 c) ≡ n = cc in
        record { name = cc; size = m; fits = omega (arith, ltb-false (length c) 8 p, ltb-false (length c - 8) (big_endian 4 (drop 4 c)) q) }

head_append : (c l : List ℕ) (id n : ℕ) → head_of c ≡ whole id n → head_of (c ++ l) ≡ whole id n
unfolding head_of
head_append c l id n e =
    let s = says c id n e in
    let k₄ : 4 ≤ length c = omega (arith, s.fits) in
    let k₄' : 4 ≤ length (drop 4 c) = rw length-drop (omega (arith, s.fits)) in
    let size : big_endian 4 (drop 4 (c ++ l)) ≡ n = rw (drop-append-le 4 c l k₄, number_append 4 (drop 4 c) l k₄') s.size in
    let name : big_endian 4 (c ++ l) ≡ id = rw (number_append 4 c l k₄) s.name in
    let long : 8 + n ≤ length (c ++ l) = rw length-append (omega (arith, s.fits)) in
    rw (size, name, le-ltb (length (c ++ l)) 8 (omega arith), le-ltb (length (c ++ l) - 8) n (omega arith))

pub padded_first : (c l : List ℕ) (id : ℕ) (b : List ℕ) → Padded c id b → items_of (c ++ l) ≡ chunk id b ∷ items_of l
unfolding items_of
padded_first c l id b p =
    let n = length b in
    let k : 8 ≤ length c = omega (arith, p.long) in
    let k' : n ≤ length (drop 8 c) = rw length-drop (omega (arith, p.long)) in
    let body : take n (drop 8 (c ++ l)) ≡ b = rw (drop-append-le 8 c l k, take-append-le n (drop 8 c) l k') p.body in
    let size : length c ≡ suc (7 + n + n % 2) = omega (arith, p.long) in
    walk_more (λ l. first_item (head_of l) l) nil_first (c ++ l) (chunk id b) (7 + n + n % 2) (rw (head_append c l id n p.head, body))
    ∙ ap (λ (r : List ℕ). chunk id b ∷ walk (λ l. first_item (head_of l) l) 0 r) (drop_at c l (suc (7 + n + n % 2)) size)

pub run_items : {a : List ℕ} {xs : List Item} → Run a xs → (l : List ℕ) → items_of (a ++ l) ≡ xs ++ items_of l
run_items empty l = refl
run_items (then {c} {l = a} {b} {id} {xs} p r) l = rw append_assoc (padded_first c (a ++ l) id b p ∙ ap (λ (ys : List Item). chunk id b ∷ ys) (run_items r l))
