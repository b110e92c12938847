-- The four records and their bytes: how many they are, that what was written reads back whatever follows it, and that what was read writes back.
--     point_length, segment_length_lem, pan_length, fade_length  6, 8, 4 and 4
--     point_back, segment_back, pan_back, fade_back             of a record whose fields fit, the bytes read as that record
--     point_take, segment_take                                  a point or a segment is read off its own bytes alone
--     point_again, segment_again, pan_again, fade_again         of bytes, the record writes as those bytes
-- Each follows from the laws of one number (`number_back`, `number_bytes`), of one signed number (`signed_back`, `signed_again`) and of two numbers in a row.
-- Assumes nothing.
use mathlib.Core.Path.{◌≡◌, ap, ◌∙◌}
use mathlib.Core.List.{List, ◌++◌, append_assoc}
use Prim.Native.Nat.{ℕ, ◌+◌, ◌-◌, ◌^◌, ◌≤◌, ◌<◌}
use native.Mathlib.Omega.{arith}
use lib.IntN.{ℤ}
use lib.ListN.{length, take, drop, length-append, length-drop}
use lib.Seq.{take-add, drop_at}
use mir.Syntax.{w32}
use mir.Val.{SFits}
use mir.Facts.{Fits-of_z}
use Rattle.laws.proofs.Prefix.{drop_take}
use Rattle.field.specs.BigEndian.{big_endian, big_endian_bytes, Bytes}
use Rattle.field.specs.Signed.{signed32, bits32}
use Rattle.field.proofs.BigEndianLaws.{bytes_length, bytes_drop, number_back, number_bytes, number_fits, number_take}
use Rattle.field.proofs.SignedLaws.{bits_are, signed_bits, bits_signed}
use Rattle.small_chunks.specs.Envelope.{point_of, point_bytes}
use Rattle.small_chunks.specs.Pan.{pan_of, pan_bytes}
use Rattle.small_chunks.specs.Sequence.{segment_of, segment_bytes, fade_of, fade_bytes}
use Rattle.small_chunks.specs.declared.points.EgPoint.{EgPoint}
use Rattle.small_chunks.specs.declared.pan.Pan.{Pan}
use Rattle.small_chunks.specs.declared.sequence.Fade.{Fade}
use Rattle.small_chunks.specs.declared.sequence.SeqnSegment.{SeqnSegment}

-- ---- one signed number

pub bits_fit : (z : ℤ) → SFits w32 z → bits32 z < 256 ^ 4
bits_fit z f = rw (← bits_are w32 z) (Fits-of_z f).fits

pub signed_back : (z : ℤ) (rest : List ℕ) → SFits w32 z → signed32 (big_endian 4 (big_endian_bytes 4 (bits32 z) ++ rest)) ≡ z
signed_back z rest f = ap signed32 (number_back 4 (bits32 z) rest (bits_fit z f)) ∙ signed_bits w32 z f

-- the bits of a signed number that was read are those in the bytes
pub signed_again : (l : List ℕ) → Bytes l → bits32 (signed32 (big_endian 4 l)) ≡ big_endian 4 l
signed_again l h = bits_signed w32 (big_endian 4 l) (record { fits = number_fits 4 l h })

-- ---- two numbers in a row

pub two_length : (n k v u : ℕ) → length (big_endian_bytes n v ++ big_endian_bytes k u) ≡ n + k
two_length n k v u = rw (length-append, bytes_length n v, bytes_length k u)

-- the second starts where the first ends
pub two_drop : (n v : ℕ) (l rest : List ℕ) → drop n ((big_endian_bytes n v ++ l) ++ rest) ≡ l ++ rest
two_drop n v l rest = rw append_assoc (drop_at (big_endian_bytes n v) (l ++ rest) n (bytes_length n v))

pub two_first : (n v : ℕ) (l rest : List ℕ) → v < 256 ^ n → big_endian n ((big_endian_bytes n v ++ l) ++ rest) ≡ v
two_first n v l rest h = rw append_assoc (number_back n v (l ++ rest) h)

pub two_again : (n k : ℕ) (l : List ℕ) → Bytes l → n + k ≤ length l → big_endian_bytes n (big_endian n l) ++ big_endian_bytes k (big_endian k (drop n l)) ≡ take (n + k) l
two_again n k l h long =
    let first : n ≤ length l = omega arith in
    let second : k ≤ length (drop n l) = rw length-drop (omega arith) in
    rw (number_bytes n l h first, number_bytes k (drop n l) (bytes_drop n l h) second, take-add)

-- what lies past the two is not read
two_take : (n k : ℕ) (l : List ℕ) → (big_endian n (take (n + k) l) ≡ big_endian n l) × (big_endian k (drop n (take (n + k) l)) ≡ big_endian k (drop n l))
two_take n k l =
    let second : k ≤ n + k - n = omega arith in
    (number_take n (n + k) l (omega arith), rw (drop_take n (n + k) l) (number_take k (n + k - n) (drop n l) second))

-- ---- lengths

pub point_length : (p : EgPoint) → length (point_bytes p) ≡ 6
unfolding point_bytes
point_length p = two_length 2 4 p.duration_ms (bits32 p.dest)

pub segment_length_lem : (s : SeqnSegment) → length (segment_bytes s) ≡ 8
unfolding segment_bytes
segment_length_lem s = two_length 4 4 s.start s.end

pub pan_length : (p : Pan) → length (pan_bytes p) ≡ 4
unfolding pan_bytes
pan_length p = bytes_length 4 (bits32 p.position)

pub fade_length : (f : Fade) → length (fade_bytes f) ≡ 4
unfolding fade_bytes
fade_length f = bytes_length 4 f.segment

-- ---- what was written reads back

pub point_back : (p : EgPoint) (rest : List ℕ) → p.duration_ms < 2 ^ 16 → SFits w32 p.dest → point_of (point_bytes p ++ rest) ≡ p
unfolding point_of point_bytes
point_back p rest h f =
    let level = big_endian_bytes 4 (bits32 p.dest) in
    rw (two_first 2 p.duration_ms level rest h, two_drop 2 p.duration_ms level rest, signed_back p.dest rest f)

pub segment_back : (s : SeqnSegment) (rest : List ℕ) → s.start < 2 ^ 32 → s.end < 2 ^ 32 → segment_of (segment_bytes s ++ rest) ≡ s
unfolding segment_of segment_bytes
segment_back s rest h k =
    let end = big_endian_bytes 4 s.end in
    rw (two_first 4 s.start end rest h, two_drop 4 s.start end rest, number_back 4 s.end rest k)

pub pan_back : (p : Pan) (rest : List ℕ) → SFits w32 p.position → pan_of (pan_bytes p ++ rest) ≡ p
unfolding pan_of pan_bytes
pan_back p rest f = rw (signed_back p.position rest f)

pub fade_back : (f : Fade) (rest : List ℕ) → f.segment < 2 ^ 32 → fade_of (fade_bytes f ++ rest) ≡ f
unfolding fade_of fade_bytes
fade_back f rest h = rw (number_back 4 f.segment rest h)

-- ---- what lies past a field is not read

pub point_take : (l : List ℕ) → point_of (take 6 l) ≡ point_of l
unfolding point_of
point_take l = let t = two_take 2 4 l in rw (t.0, t.1)

pub segment_take : (l : List ℕ) → segment_of (take 8 l) ≡ segment_of l
unfolding segment_of
segment_take l = let t = two_take 4 4 l in rw (t.0, t.1)

-- ---- what was read writes back

pub point_again : (l : List ℕ) → Bytes l → 6 ≤ length l → point_bytes (point_of l) ≡ take 6 l
unfolding point_of point_bytes
point_again l h long = rw (signed_again (drop 2 l) (bytes_drop 2 l h)) (two_again 2 4 l h long)

pub segment_again : (l : List ℕ) → Bytes l → 8 ≤ length l → segment_bytes (segment_of l) ≡ take 8 l
unfolding segment_of segment_bytes
segment_again l h long = two_again 4 4 l h long

pub pan_again : (l : List ℕ) → Bytes l → 4 ≤ length l → pan_bytes (pan_of l) ≡ take 4 l
unfolding pan_of pan_bytes
pan_again l h long = rw (signed_again l h) (number_bytes 4 l h long)

pub fade_again : (l : List ℕ) → Bytes l → 4 ≤ length l → fade_bytes (fade_of l) ≡ take 4 l
unfolding fade_of fade_bytes
fade_again l h long = number_bytes 4 l h long
