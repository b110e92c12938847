-- The laws of the kinds, of the first bad chunk and of the chunks of a name.
--     kind_name, kind_none                            a name's kind
--     size_least                                      what a right payload has
--     all_hit, all_miss, bad_here, bad_later          what one answer of the walk does to each
--     sound_step, first_sound                         chunks without a bad one
-- Assumes nothing.
use Prim.Native.Nat.{ℕ, zero, suc, ◌+◌, ◌-◌, ◌%◌, ◌≤◌, ◌<◌}
use borrow.Author.Tests.{eq-eqb, ne_eqb, eqb-true, ltb-true, ltb-false}
use lib.Dec.{eqb, ltb, ltb→lt, eqb→eq}
use lib.ListN.{length, get_or, take, drop, set}
use mathlib.Core.Bool.{Bool, true, false, cond, not}
use mathlib.Core.List.{List, [], ◌∷◌}
use mathlib.Core.Path.{◌≡◌, refl}
use native.Mathlib.Omega.{arith}
use Rattle.laws.proofs.Cases.{impossible, neither}
use Rattle.laws.proofs.Table.{below}
use Rattle.field.specs.BigEndian.{big_endian}
use Rattle.chunk.specs.Chunk.{Item, chunk, bad, items_from}
use Rattle.chunk.specs.ForCode.{step_at}
use Rattle.chunk.proofs.ChunkLaws.{Whole, step_end, step_past, step_whole}
use Rattle.form.specs.Kind.{names, place_in, kind_of, least, unit, single, length_wrong}
use Rattle.form.specs.FirstBad.{channel_wrong, chunk_wrong, bad_from, none_came, first_bad}
use Rattle.form.specs.Find.{all_of, first_of}
use Rattle.refusal.specs.declared.Refusal.TheVariants.{ChunkPastForm, ChunkTwice, ChunkLength, ChannelValue}
use Rattle.std.specs.Prelude.{Err, Some, Ok, ⊤}
use Rattle.refusal.specs.Outcome.{Outcome, if_accepted}
use Rattle.refusal.specs.declared.Refusal.{Refusal}

-- ---- the kinds

pub unit_above : (kind : ℕ) → kind < 9 → 0 < get_or unit kind 0
unit_above kind h = ltb→lt 0 (get_or unit kind 0) (below (λ (k : ℕ). ltb 0 (get_or unit k 0)) 9 tt kind h)

-- the names are the kinds from 1 on
pub kind_name : (k : ℕ) → k < 8 → kind_of (get_or names k 0) ≡ suc k
unfolding kind_of
kind_name k h = eqb→eq (kind_of (get_or names k 0)) (suc k) (below (λ (j : ℕ). eqb (kind_of (get_or names j 0)) (suc j)) 8 tt k h)

-- none of the names
abbrev pub NoneOf : ℕ → List ℕ → Type 0
NoneOf id [] = Unit
NoneOf id (n ∷ ns) = (id ≡ n → ⊥) × NoneOf id ns

place_none : (k id : ℕ) (ns : List ℕ) → NoneOf id ns → place_in k id ns ≡ 0
place_none k id [] h = refl
place_none k id (n ∷ ns) h = rw (ne_eqb id n h.0) (place_none (suc k) id ns h.1)

pub kind_none : (id : ℕ) → NoneOf id names → kind_of id ≡ 0
unfolding kind_of
kind_none id h = place_none 1 id names h

-- ---- a right length

module _ (kind n : ℕ) where
  pub size_least : length_wrong kind n ≡ false → get_or least kind 0 ≤ n
  unfolding length_wrong
  size_least e = ltb-false n (get_or least kind 0) (neither (ltb n (get_or least kind 0)) (not (eqb (n % get_or unit kind 0) 0)) e).0

-- ---- a right chunk

-- a payload that the rules of its name accept: its length, and the value of a CHAN
abbrev pub Right : ℕ → List ℕ → Type 0
Right id b = (length_wrong (kind_of id) (length b) ≡ false) × (channel_wrong (kind_of id) b ≡ false)

both_accepted : (p q : Outcome ⊤) → if_accepted p q ≡ Ok tt → (p ≡ Ok tt) × (q ≡ Ok tt)
both_accepted (Ok u) q e = (refl, e)
both_accepted (Err r) q e = impossible cc

pub wrong_none : (came : Bool) (id : ℕ) (b : List ℕ) → chunk_wrong came (kind_of id) b ≡ Ok tt → (came ≡ false) × Right id b
unfolding chunk_wrong
wrong_none came id b = go came (length_wrong (kind_of id) (length b)) (channel_wrong (kind_of id) b) refl refl refl
  where
    go : (u v w : Bool) → came ≡ u → length_wrong (kind_of id) (length b) ≡ v → channel_wrong (kind_of id) b ≡ w
        → ◌≡◌ {A = Outcome ⊤} (cond u (Err ChunkTwice) (cond v (Err ChunkLength) (cond w (Err ChannelValue) (Ok tt)))) (Ok tt) → (came ≡ false) × Right id b
    go true v w p q r e = impossible cc
    go false true w p q r e = impossible cc
    go false false true p q r e = impossible cc
    go false false false p q r e = (p, (q, r))

-- ---- one answer of the walk

module _ (id : ℕ) {f : List ℕ} {at i start n next : ℕ} (w : Whole f at i start n next) where
  pub all_hit : i ≡ id → all_of id (items_from f at) ≡ take n (drop start f) ∷ all_of id (items_from f next)
  unfolding all_of
  all_hit e = rw (w.items, eq-eqb i id e)

  pub all_miss : (i ≡ id → ⊥) → all_of id (items_from f at) ≡ all_of id (items_from f next)
  unfolding all_of
  all_miss h = rw (w.items, ne_eqb i id h)

-- the walk has one refusal
pub refused_number : (f : List ℕ) (at : ℕ) (r : Refusal) → step_at f at ≡ Err r → r ≡ ChunkPastForm
refused_number f at r s = go (ltb (length f - at) 8) (ltb (length f - at - 8) (big_endian 4 (drop (at + 4) f))) refl refl
  where
    go : (u v : Bool) → ltb (length f - at) 8 ≡ u → ltb (length f - at - 8) (big_endian 4 (drop (at + 4) f)) ≡ v → r ≡ ChunkPastForm
    go true v p q = impossible (cc (step_end f at (ltb-true (length f - at) 8 p)))
    go false true p q =
        let z = step_past f at (ltb-false (length f - at) 8 p) (ltb-true (length f - at - 8) (big_endian 4 (drop (at + 4) f)) q) in
        cc z
    go false false p q =
        impossible (cc (step_whole f at (ltb-false (length f - at) 8 p) (ltb-false (length f - at - 8) (big_endian 4 (drop (at + 4) f)) q)))

-- what came, after a chunk of this name
abbrev pub came_then : List Bool → ℕ → List Bool
came_then came id = set came (kind_of id) (get_or single (kind_of id) false)

module _ (came : List Bool) {f : List ℕ} {at i start n next : ℕ} (w : Whole f at i start n next) where
  abbrev pub wrong_here : Outcome ⊤
  wrong_here = chunk_wrong (get_or came (kind_of i) false) (kind_of i) (take n (drop start f))

  pub bad_here : (refusal : Refusal) → wrong_here ≡ Err refusal → bad_from came (items_from f at) ≡ Err refusal
  unfolding bad_from
  bad_here refusal e = rw (w.items, e)

  pub bad_later : wrong_here ≡ Ok tt → bad_from came (items_from f at) ≡ bad_from (came_then came i) (items_from f next)
  unfolding bad_from
  bad_later e = rw (w.items, e)

-- ---- chunks without a bad one

module _ (came : List Bool) where
  -- nothing is wrong with the first, and after it there is no bad one
  pub sound_step : (id : ℕ) (b : List ℕ) (items : List Item) → bad_from came (chunk id b ∷ items) ≡ Ok tt
      → (chunk_wrong (get_or came (kind_of id) false) (kind_of id) b ≡ Ok tt) × (bad_from (came_then came id) items ≡ Ok tt)
  unfolding bad_from
  sound_step id b items e = both_accepted (chunk_wrong (get_or came (kind_of id) false) (kind_of id) b) (bad_from (came_then came id) items) e

  -- so the first is right
  pub right_first : (id : ℕ) (b : List ℕ) (items : List Item) → bad_from came (chunk id b ∷ items) ≡ Ok tt → Right id b
  right_first id b items e = (wrong_none (get_or came (kind_of id) false) id b (sound_step id b items e).0).1

-- the first of a name is right, whatever came before
pub first_from : (came : List Bool) (id : ℕ) (items : List Item) → bad_from came items ≡ Ok tt → (b : List ℕ) → first_of id items ≡ Some b → Right id b
unfolding first_of
first_from came id [] e b h = impossible cc
first_from came id (bad refusal ∷ items) e b h = impossible cc
first_from came id (chunk i d ∷ items) e b h =
    go (eqb i id) refl (right_first came i d items e) h (first_from (came_then came i) id items (sound_step came i d items e).1 b)
  where
    go : (t : Bool) → eqb i id ≡ t → Right i d → cond t (Some d) (first_of id items) ≡ Some b → (first_of id items ≡ Some b → Right id b) → Right id b
    go true p r k later =
        let same : d ≡ b = cc in
        rw (← same, ← eqb-true i id p) r
    go false p r k later = later k

-- the same of a whole FORM
module _ (id : ℕ) (items : List Item) (e : first_bad items ≡ Ok tt) where
  pub first_sound : (b : List ℕ) → first_of id items ≡ Some b → Right id b
  first_sound = first_from none_came id items e
