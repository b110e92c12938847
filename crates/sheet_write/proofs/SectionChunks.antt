-- The chunks of groups one after another: each group is one chunk, since its members, which stand right after the record that
-- opens it, open none.
-- Assumes nothing.
use Prim.Native.Nat.{ℕ}
use mathlib.Core.List.{List, [], ◌∷◌, ◌++◌, map, append_assoc, append-nil}
use mathlib.Core.Path.{◌≡◌, refl, sym, ap, ◌∙◌}
use Rattle.sheet_grammar.proofs.GroupLaws.{leading_members, leading_section, no_members}
use Rattle.sheet_grammar.proofs.KindLaws.{Opener, all_open, member, openers}
use Rattle.sheet_grammar.proofs.Sections.{section, sections}
use Rattle.laws.specs.Walk.{each}
use Rattle.sheet.specs.Allowed.{All}
use Rattle.sheet.specs.Read.{leading, Group}
use Rattle.sheet.specs.Record.{RecordItem, entry}
use Rattle.sheet_write.proofs.MemberLaws.{none_stopped}
use Rattle.sheet_write.proofs.RecordChunkLaws.{Opens, all_opens, chunks_entry, chunks_stopped}
use Rattle.sheet_write.proofs.StopLaws.{ended}
use Rattle.sheet_write.specs.RecordChunks.{record_chunk, record_chunks}

-- the chunk that a group is
abbrev pub group_chunk : ℕ → Group → List ℕ
group_chunk k g = record_chunk k g.body (map (entry (member k)) g.members)

-- members alone
pub leading_all : (m : ℕ) (ms : List (List ℕ)) → leading m (map (entry m) ms) ≡ ms
leading_all m ms = ap (leading m) (sym (append-nil (map (entry m) ms))) ∙ leading_members [] m ms ∙ rw (none_stopped m ended) (append-nil ms)

module _ (k : ℕ) (o : Opens k) (rest : List RecordItem) where
  members_chunks : (ms : List (List ℕ)) → record_chunks (map (entry (member k)) ms ++ rest) ≡ record_chunks rest
  members_chunks [] = refl
  members_chunks (m ∷ ms) = chunks_entry (member k) m (map (entry (member k)) ms ++ rest) ∙ rw (o.silent m (map (entry (member k)) ms ++ rest)) (members_chunks ms)

  group_chunk_lem : (g : Group) → leading (member k) rest ≡ [] → record_chunk k g.body (map (entry (member k)) g.members ++ rest) ≡ group_chunk k g
  group_chunk_lem g h =
      o.by_members g.body (map (entry (member k)) g.members ++ rest) (map (entry (member k)) g.members)
      (leading_members rest (member k) g.members ∙ rw (h, append-nil g.members) (sym (leading_all (member k) g.members)))

section_chunks : (k : ℕ) → Opens k → (rest : List RecordItem) → leading (member k) rest ≡ [] → (gs : List Group) → record_chunks (section k gs ++ rest) ≡ each (group_chunk k) gs ++ record_chunks rest
section_chunks k o rest h [] = refl
section_chunks k o rest h (g ∷ gs) =
    let later = section k gs ++ rest in
    let members = map (entry (member k)) g.members in
    ap (λ (l : List RecordItem). record_chunks (entry k g.body ∷ l)) (append_assoc members (section k gs) rest)
    ∙ chunks_entry k g.body (members ++ later)
    ∙ rw (group_chunk_lem k o later g (leading_section rest (member k) k gs o.apart h), members_chunks k o later g.members, section_chunks k o rest h gs)
    (sym (append_assoc (group_chunk k g) (each (group_chunk k) gs) (record_chunks rest)))

sections_among : (gs : ℕ → List Group) (ks : List ℕ) → All Opener ks → All Opens ks → record_chunks (sections ks gs) ≡ each (λ k. each (group_chunk k) (gs k)) ks
sections_among gs [] p o = chunks_stopped ended
sections_among gs (k ∷ ks) p o = section_chunks k o.0 (sections ks gs) (no_members gs k p.0 ks p.1) (gs k) ∙ rw (sections_among gs ks p.1 o.1)

pub sections_chunks : (gs : ℕ → List Group) → record_chunks (sections openers gs) ≡ each (λ k. each (group_chunk k) (gs k)) openers
sections_chunks gs = sections_among gs openers all_open all_opens
