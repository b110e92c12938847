-- `sheet_read::text_chunk::put_text` meets its contract: nothing where there is no key or cleaning leaves nothing, else the text's records.
use lib.ListN.{length, drop_of_length-le}
use mathlib.Core.List.{[]}
use mathlib.Core.Path.{◌≡◌, ap}
use native.Mathlib.Omega.{arith}
use Rattle.laws.proofs.PutLaws.{put_none}
use Rattle.text.specs.Text.{clean}
use Rattle.text.proofs.RecordLaws.{records_length}
use Rattle.text.proofs.Theorems.{clean_bound, clean_len_exact}
use Rattle.sheet_read.proofs.TextLaws.{no_key, no_text, text_written}
use Rattle.sheet_read.proofs.text_chunk.put_text.Goals as goal

pub returns-then-key-eq0 : goal.returns-then-key-eq0
returns-then-key-eq0 c = rw (no_key _ _ c.if-key-eq0.true) (put_none _ _)

-- `measured`: what is measured is the text's length
pub returns-then-clean_len-eq0 : goal.returns-then-clean_len-eq0
returns-then-clean_len-eq0 c =
    let payload = c.args.payload.now in
    let text = clean payload in
    let measured : c.clean_len.result ≡ length text = omega (arith, c.clean_len.ensures, clean_len_exact payload (omega (arith, c.requires.0))) in
    let none : text ≡ [] = drop_of_length-le text {i = 0} (omega (arith, measured, c.if-clean_len-eq0.true)) in
    rw (no_text _ _ none) (put_none _ _)

pub put_text-requires : goal.put_text-requires
put_text-requires c =
    let payload = c.args.payload.now in
    omega (arith, records_length (clean payload), clean_bound payload, c.requires.0, c.requires.1)

-- `something`: cleaning leaves something
pub returns : goal.returns
returns c =
    let payload = c.args.payload.now in
    let measured : c.clean_len.result ≡ length (clean payload) = omega (arith, c.clean_len.ensures, clean_len_exact payload (omega (arith, c.requires.0))) in
    let something : clean payload ≡ [] → ⊥ = λ none. c.if-clean_len-eq0.false (omega (arith, measured, ap length none)) in
    rw (text_written _ _ c.if-key-eq0.false something) c.put_text.ensures
