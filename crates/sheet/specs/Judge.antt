-- Judging a sheet: the first bad record, then the texts.
use Rattle.std.specs.Prelude.{ℕ, Bool, true, cond, ◌&&◌, List, [], ◌∷◌, Err, Ok, ⊤}
use Rattle.text_utf8.specs.Utf8.{well_formed}
use Rattle.sheet.specs.Record.{RecordItem, records}
use Rattle.sheet.specs.Order.{first_wrong}
use Rattle.sheet.specs.Read.{Group, groups, text_in}
use Rattle.refusal.specs.declared.Refusal.{Refusal}
use Rattle.refusal.specs.declared.Refusal.TheVariants.{TextIllFormed}
use Rattle.refusal.specs.Outcome.{Outcome, accepted, if_accepted}

-- each text by itself is UTF-8
abbrev pub texts_well_formed : List Group → Bool
texts_well_formed [] = true
texts_well_formed (g ∷ gs) = well_formed (text_in g).bytes && texts_well_formed gs

-- 15 or 16 for the first bad record, 16 where there is no header, then 17 for a text that is not UTF-8
unfoldable pub judged_items : List RecordItem → Outcome ⊤
judged_items items =
    if_accepted (first_wrong 0 items) (cond (texts_well_formed (groups 10 11 items)) accepted (Err TextIllFormed))

-- the verdict on a sheet
abbrev pub judged : List ℕ → Outcome ⊤
judged sheet = judged_items (records sheet)

-- what follows for a sheet that is accepted; for another, what its refusal, 15 to 17, gives
abbrev pub if_sound : {A : Type 0} → Outcome ⊤ → (Refusal → A) → A → A
if_sound (Ok u) refused next = next
if_sound (Err refusal) refused next = refused refusal
