use Rattle.field.specs.Signed.{byte_of}
use Rattle.samples.proofs.raw.encode_raw.Given as goal

abbrev pub ghost-convert_into : goal.ghost-convert_into
ghost-convert_into a = byte_of
