-- A chunk of a name without rules changes nothing of the first bad chunk, wherever it stands.
-- Assumes nothing.
use Prim.Native.Nat.{ℕ, zero, suc, zero-le}
use borrow.Author.Tests.{le-ltb}
use lib.ListN.{length, get_or, set}
use lib.Seq.{set-get_or}
use mathlib.Core.Bool.{Bool, false}
use mathlib.Core.List.{List, [], ◌∷◌, ◌++◌}
use mathlib.Core.Path.{◌≡◌, refl, ap, sym, ◌∙◌}
use native.Mathlib.Nat.{mod-one}
use Rattle.chunk.specs.Chunk.{Item, chunk, bad}
use Rattle.form.proofs.FormLaws.{came_then}
use Rattle.form.specs.Kind.{kind_of, single, length_wrong}
use Rattle.form.specs.FirstBad.{channel_wrong, chunk_wrong, bad_from}
use Rattle.std.specs.Prelude.{Ok}
use Rattle.refusal.specs.Outcome.{if_accepted}

unknown_right : (b : List ℕ) → chunk_wrong false 0 b ≡ Ok tt
unfolding chunk_wrong length_wrong channel_wrong
unknown_right b = rw (le-ltb (length b) 0 zero-le, mod-one)

-- no chunk marks kind 0
unmarked : (came : List Bool) (k : ℕ) → get_or came 0 false ≡ false → get_or (set came k (get_or single k false)) 0 false ≡ false
unmarked [] k h = refl
unmarked (x ∷ came) zero h = refl
unmarked (x ∷ came) (suc k) h = h

pub bad_same : (came : List Bool) (i : ℕ) (b : List ℕ) (xs ys : List Item) → kind_of i ≡ 0 → get_or came 0 false ≡ false
    → bad_from came (xs ++ chunk i b ∷ ys) ≡ bad_from came (xs ++ ys)
unfolding bad_from
bad_same came i b [] ys k h = rw (k, h, unknown_right b) (ap (λ (s : List Bool). bad_from s ys) (ap (set came 0) (sym h) ∙ set-get_or came 0 false))
bad_same came i b (bad refusal ∷ xs) ys k h = refl
bad_same came i b (chunk j d ∷ xs) ys k h =
    ap (if_accepted (chunk_wrong (get_or came (kind_of j) false) (kind_of j) d)) (bad_same (came_then came j) i b xs ys k (unmarked came (kind_of j) h))
