-- What was decoded survives being written and decoded, and a whole stream is written as it was: for the sample that a nibble leads to that
-- nibble is picked. What the writer wrote is decoded as the samples that it reckoned with. A step and a choice are known by their laws alone.
-- Assumes nothing.
use mathlib.Core.Path.{◌≡◌, refl, sym, ap, ◌∙◌}
use mathlib.Core.Bool.{Bool, true, false}
use mathlib.Core.List.{List, [], ◌∷◌}
use Prim.Native.Nat.{ℕ, zero, suc, ◌+◌, ◌*◌, ◌/◌, ◌%◌, ◌≤◌, ◌<◌}
use native.Mathlib.Omega.{arith}
use borrow.Author.Tests.{ltb-true, ltb-false}
use lib.Dec.{ltb}
use lib.IntN.{ℤ}
use lib.ListN.{length, get_or, take, drop}
use lib.Seq.{take_all}
use mir.Syntax.{w8}
use mir.Val.{SFits}
use Rattle.field.specs.BigEndian.{Bytes}
use Rattle.field.specs.Signed.{sample_of}
use Rattle.field.proofs.SignedLaws.{sample_byte, byte_sample, sample_fits}
use Rattle.fibonacci.specs.Step.{fib_step}
use Rattle.fibonacci.specs.Pick.{fib_pick}
use Rattle.fibonacci.specs.Decode.{nibbles, running, fib_samples}
use Rattle.fibonacci.specs.Encode.{picks, packed, fib_bytes}
use Rattle.fibonacci.proofs.StepLaws.{step_past}
use Rattle.fibonacci.proofs.PickLaws.{pick_back, pick_below}
use Rattle.fibonacci.proofs.DecodeLaws.{nibbles_length, running_length, samples_length, running_first}
use Rattle.fibonacci.proofs.EncodeLaws.{bytes_length}

-- ---- what the writer wrote, decoded

high_nibble : (a b : ℕ) → b < 16 → (a * 16 + b) / 16 ≡ a
high_nibble a b h = omega arith

low_nibble : (a b : ℕ) → b < 16 → (a * 16 + b) % 16 ≡ b
low_nibble a b h = omega arith

-- the nibbles of the bytes are those that were picked; beside an odd last one stands one more
packed_nibbles : (s : ℤ) (xs : List ℤ) → take (length xs) (nibbles (packed (picks s xs))) ≡ picks s xs
unfolding picks packed nibbles
packed_nibbles s [] = refl
packed_nibbles s (a ∷ []) = rw (high_nibble (fib_pick s a) 8 (omega arith))
packed_nibbles s (a ∷ (b ∷ xs)) =
    let s' = fib_step s (fib_pick s a) in
    rw (high_nibble (fib_pick s a) (fib_pick s' b) (pick_below s' b), low_nibble (fib_pick s a) (fib_pick s' b) (pick_below s' b), packed_nibbles (fib_step s' (fib_pick s' b)) xs)

take_running : (n : ℕ) (s : ℤ) (ks : List ℕ) → take (suc n) (running s ks) ≡ running s (take n ks)
unfolding running
take_running zero s [] = refl
take_running (suc n) s [] = refl
take_running zero s (k ∷ ks) = refl
take_running (suc n) s (k ∷ ks) = ap (λ (l : List ℤ). s ∷ l) (take_running n (fib_step s k) ks)

-- as many samples as were written, each as the writer reckoned that the decoder would have it
pub written_first : (x : ℤ) (xs : List ℤ) → SFits w8 x → take (suc (length xs)) (fib_samples (fib_bytes (x ∷ xs))) ≡ running x (picks x xs)
unfolding fib_samples fib_bytes
written_first x xs f = rw (sample_byte x f) (take_running (length xs) x (nibbles (packed (picks x xs))) ∙ ap (running x) (packed_nibbles x xs))

-- ---- what was decoded, written

step_reached : (s : ℤ) (k : ℕ) → fib_step s (fib_pick s (fib_step s k)) ≡ fib_step s k
step_reached s k = go (ltb k 16) refl
  where
    go : (t : Bool) → ltb k 16 ≡ t → fib_step s (fib_pick s (fib_step s k)) ≡ fib_step s k
    go true e = ap (fib_step s) (pick_back s k (ltb-true k 16 e))
    go false e = rw (step_past s k (ltb-false k 16 e)) (ap (fib_step s) (pick_back s 8 (omega arith)))

running_reached : (s : ℤ) (ks : List ℕ) → running s (picks s (drop 1 (running s ks))) ≡ running s ks
unfolding running picks
running_reached s [] = refl
running_reached s (k ∷ ks) =
    let y = fib_step s k in
    ap (λ (l : List ℤ). running s (picks s l)) (running_first y ks) ∙ rw (step_reached s k) (ap (λ (l : List ℤ). s ∷ l) (running_reached y ks))

-- samples that come of whole bytes, so that there is an odd number of them
whole_survives : (s : ℤ) (bs : List ℕ) → SFits w8 s → fib_samples (fib_bytes (running s (nibbles bs))) ≡ running s (nibbles bs)
whole_survives s bs f =
    let ks = nibbles bs in
    let xs = drop 1 (running s ks) in
    let first = running_first s ks in
    let bytes = fib_bytes (s ∷ xs) in
    let no_more : length (fib_samples bytes) ≤ suc (length xs) =
    omega (arith, samples_length bytes, bytes_length (s ∷ xs), ap length first, running_length s ks, nibbles_length bs) in
    ap (λ (l : List ℤ). fib_samples (fib_bytes l)) first ∙ sym (take_all (suc (length xs)) _ no_more) ∙ written_first s xs f ∙ running_reached s ks

pub survives : (body : List ℕ) → fib_samples (fib_bytes (fib_samples body)) ≡ fib_samples body
unfolding fib_samples
survives body = whole_survives (sample_of (get_or body 1 0)) (drop 2 body) (sample_fits (get_or body 1 0))

-- ---- a whole stream that was read is written as it was

nibbles_below : (bs : List ℕ) → Bytes bs → (i : ℕ) → get_or (nibbles bs) i 0 < 16
unfolding nibbles
nibbles_below [] h i = omega arith
nibbles_below (b ∷ bs) h zero = omega (arith, h 0)
nibbles_below (b ∷ bs) h (suc zero) = omega arith
nibbles_below (b ∷ bs) h (suc (suc i)) = nibbles_below bs (λ j. h (suc j)) i

picks_back : (s : ℤ) (ks : List ℕ) → ((i : ℕ) → get_or ks i 0 < 16) → picks s (drop 1 (running s ks)) ≡ ks
unfolding running picks
picks_back s [] h = refl
picks_back s (k ∷ ks) h =
    let y = fib_step s k in
    ap (picks s) (running_first y ks) ∙ rw (pick_back s k (h 0)) (ap (λ (l : List ℕ). k ∷ l) (picks_back y ks (λ i. h (suc i))))

packed_back : (bs : List ℕ) → packed (nibbles bs) ≡ bs
unfolding nibbles packed
packed_back [] = refl
packed_back (b ∷ bs) =
    let whole : b / 16 * 16 + b % 16 ≡ b = omega arith in
    rw (whole, packed_back bs)

pub stream_back : (body : List ℕ) → Bytes body → 2 ≤ length body → fib_bytes (fib_samples body) ≡ 0 ∷ drop 1 body
unfolding fib_samples fib_bytes
stream_back [] h l = absurd (omega arith)
stream_back (a ∷ []) h l = absurd (omega arith)
stream_back (a ∷ (b ∷ bs)) h l =
    let s = sample_of b in
    ap fib_bytes (running_first s (nibbles bs)) ∙ rw (byte_sample b (h 1), picks_back s (nibbles bs) (nibbles_below bs (λ i. h (suc (suc i)))), packed_back bs)
