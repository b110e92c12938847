-- What the code's helpers ask and give; no reader of the meanings needs it.
-- Texts judged record by record: how far they are judged, and what a record changes of that.
use Rattle.std.specs.Prelude.{ℕ, eqb, Bool, false, cond, not, ◌&&◌, ◌||◌, List, [], Option, Some}
use Rattle.text_utf8.specs.Table.{Range}
use Rattle.text_utf8.specs.Feed.{fed, complete}
use Rattle.text_utf8.specs.Lead.{led}
use Rattle.sheet.specs.declared.judge.TextState.{TextState}

-- what has to follow in the text in hand (none where it is ill-formed whatever follows), and that an earlier text is ill-formed
pub record Texts : Type 0 where
  pub lead : Option (List Range)
  pub ill : Bool

-- what the code's state says
abbrev pub text_state_of : TextState → Texts
text_state_of s = record { lead = led s.lead; ill = s.ill }

-- before the first record
abbrev pub no_texts : Texts
no_texts = record { lead = Some []; ill = false }

-- after a record: 11 is one byte more of the text in hand, and 10 ends it and begins another
unfoldable pub texts_after : Texts → ℕ → ℕ → Texts
texts_after t kind value =
    cond (eqb kind 11)
    (record { lead = fed t.lead value; ill = t.ill })
    (cond (eqb kind 10) (record { lead = Some []; ill = not (complete t.lead) || t.ill }) t)

-- the text in hand, as it stands, and all before it are well-formed
abbrev pub all_well : Texts → Bool
all_well t = not t.ill && complete t.lead
