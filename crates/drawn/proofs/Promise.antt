-- What is promised of a drawn voice holds.
-- Assumes nothing.
use Prim.Native.Nat.{ℕ, ◌+◌, ◌*◌}
use mathlib.Core.Bool.{Bool, true, false, cond, not}
use mathlib.Core.List.{[], ◌++◌, append-nil}
use mathlib.Core.Path.{◌≡◌, refl, sym}
use native.Mathlib.Nat.{one-mul}
use native.Mathlib.Omega.{arith}
use borrow.Author.Tests.{le-leb}
use lib.Dec.{eqb}
use lib.ListN.{length}
use Rattle.refusal.specs.Outcome.{accepted}
use Rattle.refusal.specs.Rules.{first_holding, unless_refused}
use Rattle.field.specs.BigEndian.{big_endian_bytes}
use Rattle.field.specs.Signed.{twos_complement}
use Rattle.header.specs.Header.{header_bytes}
use Rattle.header.specs.Octaves.{total_samples}
use Rattle.sheet.specs.Flat.{flat}
use Rattle.voice_read.specs.Parsed.{Lent, lengths_of, fits, reading_leaves}
use Rattle.drawn.specs.Draw.{xor_left, xor_right, next_draw, nth_draw, draws}
use Rattle.drawn.specs.DrawnVoice.{two_channels, drawn_header, drawn_samples, drawn_sides, drawn_reading, drawn, after_drawing}
use Rattle.drawn.specs.Promise.{drawn_rules, samples_drawn, Promise}
use Rattle.drawn.proofs.DrawLaws.{nth_after, draws_at, samples_after}
use Rattle.drawn.proofs.VoiceLaws.{sheet_most, left_most, right_most}
use Rattle.refusal.specs.declared.Refusal.TheVariants.{ZeroNumber, BufferShort}
use Rattle.std.specs.Prelude.{Err, Ok}

answered : (number : ℕ) (b : Lent) → (after_drawing number b).parsed ≡ unless_refused (first_holding (drawn_rules number b)) (lengths_of (drawn_reading number))
unfolding drawn first_holding
answered number b = go (eqb number 0) (fits (drawn_reading number) (length b.sheet) (length b.left) (length b.right)) refl
  where
    go : (t u : Bool) → fits (drawn_reading number) (length b.sheet) (length b.left) (length b.right) ≡ u
        → (reading_leaves (cond t (Err ZeroNumber) (Ok (drawn_reading number))) b).parsed ≡ unless_refused (cond t (Err ZeroNumber) (cond (not u) (Err BufferShort) accepted)) (lengths_of (drawn_reading number))
    go true u e = refl
    go false true e = rw e
    go false false e = rw e

room : (number : ℕ) → fits (drawn_reading number) 23 1890 1890 ≡ true
room number =
    rw (
      le-leb (length (flat (drawn_reading number).voice)) 23 (sheet_most number),
      le-leb (length (drawn_sides number).left) 1890 (left_most number),
      le-leb (length (drawn_sides number).right) 1890 (right_most number),
    )

one_list : (number : ℕ) → (drawn_sides number).left ++ (drawn_sides number).right ≡ drawn_samples (samples_drawn number) (nth_draw 5 number)
one_list number = go (two_channels number)
  where
    total : ℕ
    total = total_samples (drawn_header number)

    fifth : ℕ
    fifth = nth_draw 5 number

    go : (t : Bool) → drawn_samples total fifth ++ cond t (drawn_samples total (nth_draw (5 + total) number)) [] ≡ drawn_samples (cond t 2 1 * total) fifth
    go true =
        let twice : 2 * total ≡ total + total = omega arith in
        rw (twice, nth_after 5 total number) (sym (samples_after total total fifth))
    go false = rw (one-mul total) (append-nil (drawn_samples total fifth))

pub promise : Promise
unfolding nth_draw draws next_draw xor_left xor_right drawn drawn_header drawn_samples total_samples flat header_bytes big_endian_bytes twos_complement
promise = record {
  in_place = draws_at;
  one_list = one_list;
  order = λ number b. refl;
  answered = answered;
  room = room;
  first_draws = refl;
  zero = refl;
  two_sheet = refl;
  two_left = refl;
  two_right = refl;
  one_sheet = refl;
  one_left = refl;
  one_right = refl;
}
