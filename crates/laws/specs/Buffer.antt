-- What a lent buffer holds after an output was written to its front.
use Rattle.std.specs.Prelude.{length, drop, List, ◌++◌}

-- the output, and past it what the buffer held
abbrev pub written : {A : Type 0} → List A → List A → List A
written xs buffer = xs ++ drop (length xs) buffer
