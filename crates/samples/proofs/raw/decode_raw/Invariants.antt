use Rattle.field.specs.Signed.{sample_of}
use Rattle.samples.proofs.raw.decode_raw.Given as goal

abbrev pub ghost-convert_into : goal.ghost-convert_into
ghost-convert_into a = sample_of
