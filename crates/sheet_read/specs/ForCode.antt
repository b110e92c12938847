-- What the code's helpers ask and give; no reader of the meanings needs it.
use Rattle.std.specs.Prelude.{ℕ, ◌^◌, ◌<◌, length, true, List, ◌≡◌, Ok}
use Rattle.std.specs.Option.{is_some}
use Rattle.chunk.specs.Chunk.{items_from}
use Rattle.form.specs.Names.{vhdr}
use Rattle.form.specs.FirstBad.{first_bad}
use Rattle.form.specs.Find.{first_of}

-- a FORM that has no bad chunk and has a VHDR
pub record Readable (f : List ℕ) : Type 0 where
  pub sound : first_bad (items_from f 12) ≡ Ok tt
  pub header : is_some (first_of vhdr (items_from f 12)) ≡ true
  pub short : length f < 2 ^ 33
