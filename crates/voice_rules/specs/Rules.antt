-- The voice's own rules, in the order in which they are judged: what turns back every call that takes a voice. 15 to 17, the sheet's own,
-- come before them.
use Rattle.std.specs.Prelude.{ℕ, ◌^◌, not, List, [], ◌∷◌, leb, ltb}
use Rattle.refusal.specs.Rules.{Rule, rule}
use Rattle.header.specs.Octaves.{total_samples}
use Rattle.sheet.specs.Voice.{Voice, is_stereo}
use Rattle.body_read.specs.Sides.{lengths_suit}
use Rattle.refusal.specs.declared.Refusal.TheVariants.{UnknownCompression, OctaveTotal, SampleLengths}

-- 10, 13 and 18, of a voice and its sides' lengths
abbrev pub voice_rules : Voice → ℕ → ℕ → List Rule
voice_rules v left right =
    rule UnknownCompression (ltb 1 v.header.compression_byte)
    ∷ rule OctaveTotal (leb (2 ^ 64) (total_samples v.header))
    ∷ rule SampleLengths (not (lengths_suit v.header (is_stereo v.channel) left right))
    ∷ []
