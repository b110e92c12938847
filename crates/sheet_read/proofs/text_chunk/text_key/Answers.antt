-- `sheet_read::text_chunk::text_key` meets its contract: an arm's name is at its place in the list, and the last arm has none of them.
use borrow.Author.Rules.{rules}
use mathlib.Core.Path.{sym}
use Rattle.sheet_read.specs.FormVoice.{text_key}
use Rattle.sheet_read.proofs.TextLaws.{key_none}
use Rattle.sheet_read.proofs.text_chunk.text_key.Goals as goal

pub returns-in-1312902469 : goal.returns-in-1312902469
unfolding text_key
returns-in-1312902469 c = rw c.in-1312902469.is

pub returns-in-1096111176 : goal.returns-in-1096111176
unfolding text_key
returns-in-1096111176 c = rw c.in-1096111176.is

pub returns-in-1095650895 : goal.returns-in-1095650895
unfolding text_key
returns-in-1095650895 c = rw c.in-1095650895.is

pub returns-in-677587232 : goal.returns-in-677587232
unfolding text_key
returns-in-677587232 c = rw c.in-677587232.is

pub returns-in-1128813139 : goal.returns-in-1128813139
unfolding text_key
returns-in-1128813139 c = rw c.in-1128813139.is

pub returns-in_default : goal.returns-in_default
returns-in_default c = sym (key_none _ (search rules))
