-- `ensemble_score::score_by` meets its contract: four entries more with each call, all of the score in the end.
use native.Mathlib.Omega.{arith}
use Rattle.ensemble_score.proofs.StoreLaws.{more_stored}
use Rattle.ensemble_score.proofs.score_by.Goals as goal

pub returns : goal.returns
returns c score count_is in_a in_b in_c in_d =
    let four = more_stored score 0 _ _ _ (λ j none. absurd (omega (arith, none))) in_a c.put_four.ensures in
    let eight = more_stored score 4 _ _ _ four in_b c.put_four-2.ensures in
    let twelve = more_stored score 8 _ _ _ eight in_c c.put_four-3.ensures in
    let all = more_stored score 12 _ _ _ twelve in_d c.put_four-4.ensures in
    record { count_is = count_is; entries_are = λ i small there. all i small }
