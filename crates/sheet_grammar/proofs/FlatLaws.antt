-- A voice in flat form: its records are those of its groups, kind by kind. They are correct and in order, and say that voice.
-- Assumes nothing.
use Prim.Native.Nat.{ℕ}
use mathlib.Core.List.{List}
use mathlib.Core.Path.{◌≡◌, refl, sym, ap, ◌∙◌}
use Rattle.sheet.specs.Voice.{Voice}
use Rattle.sheet.specs.Flat.{flat}
use Rattle.sheet.specs.Allowed.{All, Allowed}
use Rattle.sheet.specs.Record.{RecordItem, entry, bad, records}
use Rattle.sheet.specs.Read.{voice_of}
use Rattle.sheet.specs.Judge.{judged_items}
use Rattle.sheet_grammar.proofs.ListLaws.{all_imply}
use Rattle.sheet_grammar.proofs.RecordLaws.{Whole, OfItem, records_back}
use Rattle.sheet_grammar.proofs.OrderLaws.{Correct, none_wrong}
use Rattle.sheet_grammar.proofs.KindLaws.{Opener, openers, all_parts}
use Rattle.sheet_grammar.proofs.Sections.{sections, sections_all, sections_ordered, Listed}
use Rattle.sheet_grammar.proofs.GroupLaws.{groups_sections}
use Rattle.sheet_grammar.proofs.Regroup.{groups_in}
use Rattle.sheet_grammar.proofs.VoiceLaws.{groups_of, flat_bytes, groups_written, texts_well_formed_lem, voice_back}
use Rattle.std.specs.Prelude.{Ok}

-- a voice's records, kind by kind
abbrev pub items_of : Voice → List RecordItem
items_of v = sections openers (groups_of v)

correct_whole : (i : RecordItem) → OfItem Correct i → OfItem Whole i
correct_whole (entry k b) h = h.whole
correct_whole (bad refusal) h = h

module _ (v : Voice) (a : Allowed v) where
  groups_listed : All (λ k. Listed Correct k (groups_of v k)) openers
  groups_listed = all_parts (λ k. Listed Correct k (groups_of v k)) (groups_written v a)

  items_correct : All (OfItem Correct) (items_of v)
  items_correct = sections_all Correct openers (groups_of v) groups_listed

  pub flat_records : records (flat v) ≡ items_of v
  flat_records = ap records (sym (flat_bytes v)) ∙ records_back (items_of v) (all_imply correct_whole (items_of v) items_correct)

  items_groups : (k : ℕ) → Opener k → groups_in (items_of v) k ≡ groups_of v k
  items_groups = groups_sections (groups_of v)

  pub flat_judged : judged_items (items_of v) ≡ Ok tt
  unfolding judged_items
  flat_judged =
      let order = sections_ordered (groups_of v) _ refl groups_listed in
      rw (none_wrong order items_correct, items_groups 10 refl, texts_well_formed_lem v a)

  pub flat_voice : voice_of (items_of v) ≡ v
  unfolding voice_of
  flat_voice =
      rw (
        items_groups 1 refl,
        items_groups 2 refl,
        items_groups 3 refl,
        items_groups 4 refl,
        items_groups 5 refl,
        items_groups 7 refl,
        items_groups 9 refl,
        items_groups 10 refl,
      )
      (voice_back v a)
