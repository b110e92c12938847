-- A chunk written: its length, and that it is a complete, padded chunk, so the walk reads it back.
-- Assumes nothing.
use Prim.Native.Nat.{ℕ, ◌+◌, ◌-◌, ◌%◌, ◌^◌, ◌<◌}
use borrow.Author.Tests.{ne_eqb, eqb-true, eqb-false, le-ltb}
use lib.Dec.{eqb}
use lib.ListN.{length, take, drop, length-append}
use lib.Seq.{take_at, drop_at}
use mathlib.Core.Bool.{Bool, true, false}
use mathlib.Core.List.{List, [], ◌∷◌, ◌++◌, append_assoc}
use mathlib.Core.Path.{◌≡◌, refl, sym, ◌∙◌}
use native.Mathlib.Omega.{arith}
use Rattle.chunk.proofs.RunLaws.{Padded}
use Rattle.chunk.specs.Chunk.{head_of, whole}
use Rattle.chunk.specs.ChunkBytes.{pad, head_bytes, chunk_bytes}
use Rattle.field.proofs.BigEndianLaws.{bytes_length, number_back}
use Rattle.field.specs.BigEndian.{big_endian, big_endian_bytes}
use Rattle.laws.proofs.PutLaws.{put_then}
use Rattle.laws.specs.Put.{Put}

pub pad_even : (n : ℕ) → n % 2 ≡ 0 → pad n ≡ []
unfolding pad
pad_even n e = rw e

pub pad_odd : (n : ℕ) → (n % 2 ≡ 0 → ⊥) → pad n ≡ 0 ∷ []
unfolding pad
pad_odd n h = rw (ne_eqb (n % 2) 0 h)

pub pad_length : (n : ℕ) → length (pad n) ≡ n % 2
pad_length n = go (eqb (n % 2) 0) refl
  where
    go : (b : Bool) → eqb (n % 2) 0 ≡ b → length (pad n) ≡ n % 2
    go true e = let h = eqb-true (n % 2) 0 e in rw (pad_even n h) (sym h)
    go false e = let h = eqb-false (n % 2) 0 e in rw (pad_odd n h) (omega (arith, h))

pub head_length : (id n : ℕ) → length (head_bytes id n) ≡ 8
head_length id n = omega (arith, length-append (big_endian_bytes 4 id) (big_endian_bytes 4 n), bytes_length 4 id, bytes_length 4 n)

-- where a head that was stored ends
pub head_end : {d d' : List ℕ} {at r : ℕ} (id n : ℕ) → Put d at (head_bytes id n) d' r → r ≡ at + 8
head_end id n p = rw (← head_length id n) p.end

-- head, payload and pad, stored one after another
pub chunk_put : {d d₁ d₂ d₃ : List ℕ} {at o p r : ℕ} (id n : ℕ) (b : List ℕ) → n ≡ length b
    → Put d at (head_bytes id n) d₁ o → Put d₁ o b d₂ p → Put d₂ p (pad n) d₃ r → Put d at (chunk_bytes id b) d₃ r
unfolding chunk_bytes
chunk_put id n b e head body end = rw (← e) (put_then (put_then head body) end)

-- by its parts
chunk_parts : (id : ℕ) (b : List ℕ) → chunk_bytes id b ≡ big_endian_bytes 4 id ++ (big_endian_bytes 4 (length b) ++ (b ++ pad (length b)))
unfolding chunk_bytes
chunk_parts id b = let n = length b in append_assoc (head_bytes id n) b (pad n) ∙ append_assoc (big_endian_bytes 4 id) (big_endian_bytes 4 n) (b ++ pad n)

pub chunk_length_lem : (id : ℕ) (b : List ℕ) → length (chunk_bytes id b) ≡ 8 + length b + length b % 2
unfolding chunk_bytes
chunk_length_lem id b =
    let n = length b in
    omega (arith, length-append (head_bytes id n ++ b) (pad n), length-append (head_bytes id n) b, head_length id n, pad_length n)

chunk_head : (id : ℕ) (b : List ℕ) → id < 2 ^ 32 → length b < 2 ^ 32 → head_of (chunk_bytes id b) ≡ whole id (length b)
unfolding head_of
chunk_head id b hi hb =
    let n = length b in
    let long = chunk_length_lem id b in
    let named : big_endian 4 (chunk_bytes id b) ≡ id = rw (chunk_parts id b) (number_back 4 id (big_endian_bytes 4 n ++ (b ++ pad n)) hi) in
    let behind : drop 4 (chunk_bytes id b) ≡ big_endian_bytes 4 n ++ (b ++ pad n) = rw (chunk_parts id b) (drop_at (big_endian_bytes 4 id) (big_endian_bytes 4 n ++ (b ++ pad n)) 4 (bytes_length 4 id)) in
    let sized : big_endian 4 (drop 4 (chunk_bytes id b)) ≡ n = rw behind (number_back 4 n (b ++ pad n) hb) in
    rw (named, sized, le-ltb (length (chunk_bytes id b)) 8 (omega arith), le-ltb (length (chunk_bytes id b) - 8) n (omega arith))

chunk_body : (id : ℕ) (b : List ℕ) → take (length b) (drop 8 (chunk_bytes id b)) ≡ b
unfolding chunk_bytes
chunk_body id b =
    let n = length b in
    rw (append_assoc (head_bytes id n) b (pad n), drop_at (head_bytes id n) (b ++ pad n) 8 (head_length id n)) (take_at b (pad n) n refl)

pub chunk_padded : (id : ℕ) (b : List ℕ) → id < 2 ^ 32 → length b < 2 ^ 32 → Padded (chunk_bytes id b) id b
chunk_padded id b hi hb = record { head = chunk_head id b hi hb; body = chunk_body id b; long = chunk_length_lem id b }
