-- A sheet that is accepted: its records are those of the groups that are read from them, and so it is the flat form of the voice that they say.
-- Assumes nothing.
use Prim.Native.Nat.{ℕ, ◌<◌}
use mathlib.Core.Bool.{Bool, true, false, cond}
use mathlib.Core.List.{List, [], ◌∷◌}
use mathlib.Core.Path.{◌≡◌, refl, sym, ap, ◌∙◌}
use lib.ListN.{length}
use Rattle.field.specs.BigEndian.{Bytes}
use Rattle.laws.specs.Walk.{each}
use Rattle.sheet.specs.Flat.{flat}
use Rattle.sheet.specs.Allowed.{All, Allowed}
use Rattle.sheet.specs.Record.{RecordItem, entry, bad, records}
use Rattle.sheet.specs.Order.{first_wrong}
use Rattle.sheet.specs.Read.{Group, voice_of, read_sheet}
use Rattle.sheet.specs.Judge.{texts_well_formed, judged_items, judged}
use Rattle.sheet_grammar.proofs.ListLaws.{all_imply}
use Rattle.sheet_grammar.proofs.RecordLaws.{OfItem, bytes_of}
use Rattle.sheet_grammar.proofs.OrderLaws.{Correct, Given, Accepted, sheet_accepted}
use Rattle.sheet_grammar.proofs.KindLaws.{openers, Parts, parts, all_parts}
use Rattle.sheet_grammar.proofs.Sections.{sections, Listed}
use Rattle.sheet_grammar.proofs.Regroup.{groups_in, regroup_all, groups_listed, header_there}
use Rattle.sheet_grammar.proofs.VoiceLaws.{groups_of, flat_bytes, voice_in, groups_again, voice_allowed}
use Rattle.refusal.specs.declared.Refusal.TheVariants.{TextIllFormed}
use Rattle.refusal.specs.Outcome.{Outcome, accepted, if_accepted}
use Rattle.std.specs.Prelude.{Err, Ok, ⊤}
use Rattle.laws.proofs.Cases.{impossible}

-- what the judge looked at
sound_items : (items : List RecordItem) → judged_items items ≡ Ok tt → (first_wrong 0 items ≡ Ok tt) × (texts_well_formed (groups_in items 10) ≡ true)
unfolding judged_items
sound_items items = go (first_wrong 0 items) (texts_well_formed (groups_in items 10)) refl refl
  where
    go : (j : Outcome ⊤) (t : Bool) → first_wrong 0 items ≡ j → texts_well_formed (groups_in items 10) ≡ t
        → if_accepted j (cond t accepted (Err TextIllFormed)) ≡ Ok tt → (first_wrong 0 items ≡ Ok tt) × (texts_well_formed (groups_in items 10) ≡ true)
    go (Ok u) true p q e = (p, q)
    go (Ok u) false p q e = impossible cc
    go (Err refusal) t p q e = impossible cc

item_correct : (i : RecordItem) → OfItem Given i → OfItem Correct i
item_correct (entry k b) h = h.correct
item_correct (bad refusal) h = h

sections_same : (ks : List ℕ) (gs hs : ℕ → List Group) → All (λ k. gs k ≡ hs k) ks → sections ks gs ≡ sections ks hs
sections_same [] gs hs e = refl
sections_same (k ∷ ks) gs hs e = rw (e.0, sections_same ks gs hs e.1)

module _ (s : List ℕ) (b : Bytes s) (j : judged s ≡ Ok tt) where
  abbrev found : ℕ → List Group
  found = groups_in (records s)

  cut_accepted : Accepted 0 s (records s)
  cut_accepted = sheet_accepted s b (sound_items (records s) j).0

  found_correct : All (OfItem Correct) (records s)
  found_correct = all_imply item_correct (records s) cut_accepted.given

  found_given : Parts (λ k. Listed Given k (found k))
  found_given = parts (λ k. Listed Given k (found k)) (groups_listed Given cut_accepted.ordered found_correct cut_accepted.given)

  found_header : 0 < length (found 1)
  found_header = header_there cut_accepted.ordered found_correct

  pub flat_found : flat (voice_in found) ≡ s
  flat_found =
      let written = groups_of (voice_in found) in
      let again = all_parts (λ k. written k ≡ found k) (groups_again found found_header found_given) in
      sym (flat_bytes (voice_in found))
      ∙ ap (each bytes_of) (sections_same openers written found again ∙ regroup_all (records s) cut_accepted.ordered found_correct)
      ∙ cut_accepted.back

  pub found_allowed : Allowed (voice_in found)
  found_allowed = voice_allowed found found_header found_given (sound_items (records s) j).1

-- the voice of the sheet is that of its groups
pub voice_found : (s : List ℕ) → read_sheet s ≡ voice_in (groups_in (records s))
unfolding voice_of
voice_found s = refl
