-- The laws of `code_point` by the number of bytes.
use native.Mathlib.Omega.{arith}
use Rattle.text.proofs.WhiteSpaceLaws.{code_point_of, code_point_none}
use Rattle.text.specs.WhiteSpace.{code_point}
use Rattle.text.proofs.white_space.code_point.Goals as goal

pub returns-in-len1 : goal.returns-in-len1
unfolding code_point
returns-in-len1 c = code_point_of 1 c.args.s.now (omega arith)

pub returns-in-len2 : goal.returns-in-len2
unfolding code_point
returns-in-len2 c = code_point_of 2 c.args.s.now (omega arith)

pub returns-in-len3 : goal.returns-in-len3
unfolding code_point
returns-in-len3 c = code_point_of 3 c.args.s.now (omega arith)

pub returns-in-len4 : goal.returns-in-len4
unfolding code_point
returns-in-len4 c = code_point_of 4 c.args.s.now (omega arith)

pub returns-in_default : goal.returns-in_default
returns-in_default c = code_point_none _ (omega arith) (omega arith) (omega arith) (omega arith)

pub returns-in_default-2 : goal.returns-in_default-2
returns-in_default-2 c = code_point_none _ (omega arith) (omega arith) (omega arith) (omega arith)
