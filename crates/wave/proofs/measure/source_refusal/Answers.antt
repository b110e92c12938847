-- `wave::measure::source_refusal` meets its contract: each rule that the code has passed doesn't hold.
use mathlib.Core.Bool.{true, not}
use mathlib.Core.List.{◌++◌}
use mathlib.Core.Path.{◌≡◌, sym, ap, ◌∙◌}
use Prim.Native.Nat.{ℕ}
use borrow.Author.Tests.{eq-eqb, ne_eqb}
use lib.Dec.{eqb}
use Rattle.std.proofs.lemmas.Result.{err_from_is_err_and}
use Rattle.std.specs.Prelude.{Ok}
use Rattle.refusal.proofs.RuleLaws.{Passed, first_here, first_later, first_none, first_stands, first_join}
use Rattle.refusal.specs.Rules.{first_holding}
use Rattle.header.specs.Octaves.{octave_there}
use Rattle.sheet.specs.Read.{read_sheet}
use Rattle.sheet.specs.Voice.{Voice}
use Rattle.voice_rules.specs.Rules.{voice_rules}
use Rattle.wave.specs.Wave.{source_rules}
use Rattle.wave.proofs.measure.source_refusal.Goals as goal

-- none of the voice's rules holds
module _ (v : Voice) (left right k : ℕ) (none : first_holding (voice_rules v left right) ≡ Ok tt) where
  to_source : first_holding (voice_rules v left right ++ source_rules v.header k) ≡ first_holding (source_rules v.header k)
  to_source = first_join (voice_rules v left right) (source_rules v.header k) none

  octave_passed : octave_there v.header k ≡ true → Passed 4 (voice_rules v left right ++ source_rules v.header k)
  octave_passed there = to_source ∙ first_later _ _ (ap not there)

pub returns-in_err-voice_refusal : goal.returns-in_err-voice_refusal
returns-in_err-voice_refusal c =
    let v = read_sheet c.args.sheet.now in
    let p = err_from_is_err_and c.from_residual.result c.from_residual.ensures.1 in
    let stopped = sym c.voice_refusal.ensures ∙ c.in_err-voice_refusal.was in
    rw (p.1, p.2) (sym (first_stands (voice_rules v c.args.left c.args.right) (source_rules v.header c.args.k) _ stopped))

-- whether the octave is there, and whether there is a rate, by the header that was read
pub returns-then-not-has_octave : goal.returns-then-not-has_octave
returns-then-not-has_octave c =
    let a = c.args in
    let none = sym c.voice_refusal.ensures ∙ c.in_ok-voice_refusal.was in
    let told = ap (λ h. octave_there h a.k) (sym c.sheet_header-h.ensures) ∙ sym c.has_octave.ensures in
    sym (to_source (read_sheet a.sheet.now) a.left a.right a.k none ∙ first_here _ _ (ap not (told ∙ c.if-not-has_octave.true)))

pub returns-then-h-eq0 : goal.returns-then-h-eq0
returns-then-h-eq0 c =
    let a = c.args in
    let none = sym c.voice_refusal.ensures ∙ c.in_ok-voice_refusal.was in
    let told = ap (λ h. octave_there h a.k) (sym c.sheet_header-h.ensures) ∙ sym c.has_octave.ensures in
    let rate = ap (λ h. eqb h.samples_per_sec 0) (sym c.sheet_header-h.ensures) in
    sym (octave_passed (read_sheet a.sheet.now) a.left a.right a.k none (told ∙ c.if-not-has_octave.false) ∙ first_here _ _ (rate ∙ eq-eqb _ 0 c.if-h-eq0.true))

pub returns : goal.returns
returns c =
    let a = c.args in
    let none = sym c.voice_refusal.ensures ∙ c.in_ok-voice_refusal.was in
    let told = ap (λ h. octave_there h a.k) (sym c.sheet_header-h.ensures) ∙ sym c.has_octave.ensures in
    let rate = ap (λ h. eqb h.samples_per_sec 0) (sym c.sheet_header-h.ensures) in
    sym (octave_passed (read_sheet a.sheet.now) a.left a.right a.k none (told ∙ c.if-not-has_octave.false) ∙ first_later _ _ (rate ∙ ne_eqb _ 0 c.if-h-eq0.false) ∙ first_none)
