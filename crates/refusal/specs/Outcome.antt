-- What an entry's input means, and what that makes of the answer and of the one lent buffer.
use Rattle.std.specs.Prelude.{ℕ, cond, List, leb, length, Result, Ok, Err, ⊤}
use Rattle.laws.specs.Buffer.{written}
use Rattle.refusal.specs.declared.Refusal.{Refusal}
use Rattle.refusal.specs.declared.Refusal.TheVariants.{BufferShort}

-- the input gives a value, or it is refused
abbrev pub Outcome : Type 0 → Type 0
Outcome A = Result A Refusal

-- nothing turns it back, and there is nothing more to say
abbrev pub accepted : Outcome ⊤
accepted = Ok tt

-- what follows where nothing turns it back; a refusal stands
abbrev pub if_accepted : {A : Type 0} → Outcome ⊤ → Outcome A → Outcome A
if_accepted (Ok u) next = next
if_accepted (Err refusal) next = Err refusal

-- a further step on what was given; a refusal stands
abbrev pub and_then : {A B : Type 0} → Outcome A → (A → Outcome B) → Outcome B
and_then (Ok a) next = next a
and_then (Err refusal) next = Err refusal

-- the answer where the output is to go into a buffer of n places: its length, or the refusal, or 20 where it doesn't fit
abbrev pub answer : {A : Type 0} → Outcome (List A) → ℕ → Outcome ℕ
answer (Ok xs) n = cond (leb (length xs) n) (Ok (length xs)) (Err BufferShort)
answer (Err refusal) n = Err refusal

-- the length of the output, for a caller that asks before lending a buffer; never refused by 20
abbrev pub length_of : {A : Type 0} → Outcome (List A) → Outcome ℕ
length_of (Ok xs) = Ok (length xs)
length_of (Err refusal) = Err refusal

-- the buffer after the call: the output and past it what was there, or, where refused, all of what was there
abbrev pub buffer_after : {A : Type 0} → Outcome (List A) → List A → List A
buffer_after (Ok xs) buffer = cond (leb (length xs) (length buffer)) (written xs buffer) buffer
buffer_after (Err refusal) buffer = buffer
