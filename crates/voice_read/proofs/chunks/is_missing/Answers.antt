-- `voice_read::chunks::is_missing` meets its contract: the place says whether there is a chunk.
use borrow.Author.Tests.{not-true, not-false}
use mathlib.Core.Bool.{Bool, not}
use mathlib.Core.List.{List}
use mathlib.Core.Path.{◌≡◌, sym}
use Prim.Native.Nat.{ℕ}
use Rattle.std.specs.Option.{is_some}
use Rattle.std.specs.Prelude.{None, Option, Some}
use Rattle.form.specs.declared.place.Place.{Place}
use Rattle.form.proofs.FindLaws.{payload_at, found}
use Rattle.voice_read.proofs.chunks.is_missing.Goals as goal

-- a place that is missing has no bytes
missing : (f : List ℕ) (p : Option Place) (none : Bool) → is_some p ≡ not none → none ≡ not (is_some (payload_at f p))
missing f (Some p) none e = not-true none (sym e)
missing f None none e = not-false none (sym e)

pub returns : goal.returns
returns c =
    let a = c.args in
    rw (← (found a.form.now a.id _ c.find.ensures).is) (missing a.form.now _ c.is_none.result c.is_none.ensures)
