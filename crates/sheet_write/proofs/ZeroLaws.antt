-- A chunk whose payload ends in zero bytes: they and the pad are stored together.
-- Assumes nothing.
use Prim.Native.Nat.{ℕ, ◌+◌, ◌%◌}
use lib.Dec.{eqb}
use lib.ListN.{length, replicate, length-append, length-replicate, replicate-append-replicate}
use lib.Seq.{sets}
use mathlib.Core.Bool.{Bool, true, false}
use mathlib.Core.List.{List, ◌++◌}
use mathlib.Core.Path.{◌≡◌, refl, sym, ◌∙◌}
use native.Mathlib.Omega.{arith}
use borrow.Author.Tests.{eqb-true, eqb-false}
use Rattle.chunk.proofs.WriteLaws.{pad_even, pad_odd, chunk_put}
use Rattle.chunk.specs.ChunkBytes.{pad, head_bytes, chunk_bytes}
use Rattle.laws.proofs.PutLaws.{put_then}
use Rattle.laws.specs.Put.{Put}

pad_zeros : (n : ℕ) → pad n ≡ replicate (n % 2) 0
pad_zeros n = go (eqb (n % 2) 0) refl
  where
    go : (b : Bool) → eqb (n % 2) 0 ≡ b → pad n ≡ replicate (n % 2) 0
    go true e = let h = eqb-true (n % 2) 0 e in rw (pad_even n h, h)
    go false e = let h = eqb-false (n % 2) 0 e in let one : n % 2 ≡ 1 = omega (arith, h) in rw (pad_odd n h, one)

-- a run of stores in two parts
stored : (d : List ℕ) (at : ℕ) (xs : List ℕ) → Put d at xs (sets d at xs) (at + length xs)
stored d at xs = record { is = refl; end = refl }

split_off : {d d' : List ℕ} {at r : ℕ} (xs ys : List ℕ) → Put d at (xs ++ ys) d' r → Put (sets d at xs) (at + length xs) ys d' r
split_off {d} {at = at} xs ys p =
    let both = put_then (stored d at xs) (stored (sets d at xs) (at + length xs) ys) in
    record { is = p.is ∙ sym both.is; end = p.end ∙ sym both.end }

pub chunk_zeros : {d d₁ d₂ d₃ : List ℕ} {at o p r : ℕ} (id n zeros : ℕ) (b : List ℕ) → n ≡ length b + zeros
    → Put d at (head_bytes id n) d₁ o → Put d₁ o b d₂ p → Put d₂ p (replicate (zeros + n % 2) 0) d₃ r → Put d at (chunk_bytes id (b ++ replicate zeros 0)) d₃ r
chunk_zeros {d₂ = d₂} {d₃} {p = p} {r} id n zeros b e head body end =
    let size : n ≡ length (b ++ replicate zeros 0) = rw (length-append, length-replicate) e in
    let both : Put d₂ p (replicate zeros 0 ++ pad n) d₃ r = rw (pad_zeros n, replicate-append-replicate) end in
    chunk_put id n (b ++ replicate zeros 0) size head (put_then body (stored d₂ p (replicate zeros 0))) (split_off (replicate zeros 0) (pad n) both)
