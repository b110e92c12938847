-- Which record may follow which, and the first that is wrong.
use Rattle.std.specs.Prelude.{ℕ, eqb, ltb, get_or, Bool, cond, not, ◌&&◌, ◌||◌, List, [], ◌∷◌, Err, ⊤}
use Rattle.small_chunks.specs.Channel.{is_channel}
use Rattle.sheet.specs.Record.{RecordItem, entry, bad}
use Rattle.refusal.specs.Outcome.{Outcome, accepted}
use Rattle.refusal.specs.declared.Refusal.TheVariants.{RecordWrong}

-- The group in hand is named by the kind that opened it: 1 header, 2 channel, 3 pan, 4 attack, 5 release, 7 sequence, 9 fade,
-- 10 text, and 0 before the header. Kinds 6, 8 and 11 belong to the group in hand. A kind may come where the group in hand is
-- from `earliest` to `latest`: so the header is first and alone; a channel, a pan, a sequence and a fade come once at most;
-- attacks, releases and texts may come again.
abbrev pub earliest : List ℕ
earliest = 0 ∷ 0 ∷ 1 ∷ 1 ∷ 1 ∷ 1 ∷ 4 ∷ 1 ∷ 7 ∷ 1 ∷ 1 ∷ 10 ∷ []

-- the last group in hand, by the same order
abbrev pub latest : List ℕ
latest = 0 ∷ 0 ∷ 1 ∷ 2 ∷ 4 ∷ 5 ∷ 5 ∷ 5 ∷ 7 ∷ 7 ∷ 10 ∷ 10 ∷ []

-- kinds that belong to the group in hand
abbrev pub belongs : ℕ → Bool
belongs kind = eqb kind 6 || eqb kind 8 || eqb kind 11

-- a kind that may not come where this group is in hand
abbrev pub misplaced : ℕ → ℕ → Bool
misplaced group kind = ltb group (get_or earliest kind 0) || ltb (get_or latest kind 0) group

-- the group in hand after a record of a kind
abbrev pub group_after : ℕ → ℕ → ℕ
group_after group kind = cond (belongs kind) group kind

-- the texts are 1 to 5
abbrev pub text_known : ℕ → Bool
text_known v = ltb 0 v && ltb v 6

-- a channel or a text's key that is none of them
unfoldable pub value_wrong : ℕ → ℕ → Bool
value_wrong kind v = (eqb kind 2 && not (is_channel v)) || (eqb kind 10 && not (text_known v))

-- the refusal of the first record that is cut or of unknown kind, or misplaced or of a wrong value (16); 16 where there is no header
unfoldable pub first_wrong : ℕ → List RecordItem → Outcome ⊤
first_wrong group [] = cond (eqb group 0) (Err RecordWrong) accepted
first_wrong group (bad refusal ∷ items) = Err refusal
first_wrong group (entry kind body ∷ items) =
    cond (misplaced group kind || value_wrong kind (get_or body 0 0)) (Err RecordWrong) (first_wrong (group_after group kind) items)
