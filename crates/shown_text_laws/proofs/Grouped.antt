-- Commas only group.
use Rattle.std.proofs.Common.{◌≡◌, ◌∙◌, ◌++◌, ◌&&◌, ◌-◌, ℕ, ℤ, Bool, true, false, cond, List, []}
use Rattle.std.proofs.Common.{◌∷◌, codes, length, take, ap, sym}
use Rattle.std.specs.Prelude.{nat_abs, nat_le}
use Rattle.std.specs.Fmt.{sign_text}
use Rattle.std.specs.Int.{is_negative}
use Rattle.std.specs.List.{All}
use Rattle.std.proofs.lemmas.List.Elements.{All-take}
use Rattle.cell_data.specs.Words.{number}
use Rattle.format_codes.specs.declared.piece.CodePiece.TheVariants as piece
use Rattle.format_codes.specs.declared.piece.Filler.TheVariants.{Zero, Nothing}
use Rattle.shown_text.specs.Words.{laid_out, nearest_digits, with_digits, behind_text, general_text}
use Rattle.shown_text.specs.Words.{shown_digits, number_power, shown_text, most_power}
use Rattle.shown_text.specs.NumberTexts.{size_shown}
use Rattle.shown_text_laws.specs.NumberCodes.{without_commas}
use Rattle.shown_text_laws.proofs.AllDigits.{IsFigure, plain_general, plain_sign, nearest_figures}
use Rattle.shown_text_laws.proofs.AllDigits.{without_none, plain_figures}
use Rattle.shown_text_laws.proofs.Literals.{two_places, two_places_grouped, under_grouped}
use Rattle.shown_text_laws.proofs.Literals.{under_two_places}
use Rattle.shown_text_laws.proofs.Places.{whole_kept, behind_figures, without_both}

laid_grouped : (ds : List ℕ) → All IsFigure ds
    → without_commas (laid_out false ds two_places_grouped) ≡ laid_out false ds two_places
laid_grouped ds all =
    let behind = behind_text true ds (piece.Digit Zero ∷ piece.Digit Zero ∷ []) in
    let front = take (length ds - 2) ds in
    without_both (with_digits true false [] front (piece.Digit Nothing ∷ piece.Comma
    ∷ piece.Digit Nothing ∷ piece.Digit Nothing ∷ piece.Digit Zero ∷ [])) (46 ∷ behind)
    (with_digits false false [] front (piece.Digit Zero ∷ [])) (46 ∷ behind)
    (whole_kept front (All-take IsFigure (length ds - 2) ds all))
    (ap (λ rest. 46 ∷ rest) (without_none behind (plain_figures behind (behind_figures ds all))))

number_grouped : (n : ℕ) (power : ℤ)
    → without_commas (size_shown two_places_grouped n power) ≡ size_shown two_places n power
unfolding size_shown
number_grouped n power =
    laid_grouped (nearest_digits n (number_power two_places power))
    (nearest_figures n (number_power two_places power))

by_size : (test : Bool) (xs ys zs : List ℕ) → without_commas xs ≡ ys → without_commas zs ≡ zs
    → without_commas (cond (test && true) xs zs) ≡ cond (test && true) ys zs
by_size true xs ys zs first second = first
by_size false xs ys zs first second = second

pub grouped : (is_1904 : Bool) (exact : ℤ × ℤ)
    → without_commas (shown_text is_1904 (codes "#,##0.00") (number exact))
    ≡ shown_text is_1904 (codes "0.00") (number exact)
grouped is_1904 exact =
    let n = nat_abs (shown_digits exact).0 in
    let power = (shown_digits exact).1 in
    let sign = sign_text (is_negative exact.0 && true) in
    ap without_commas (under_grouped is_1904 exact)
    ∙ by_size (nat_le (nat_abs power) most_power) (sign ++ size_shown two_places_grouped n power)
    (sign ++ size_shown two_places n power) (general_text exact)
    (without_both sign (size_shown two_places_grouped n power) sign
    (size_shown two_places n power)
    (without_none sign (plain_sign (is_negative exact.0 && true))) (number_grouped n power))
    (without_none (general_text exact) (plain_general exact))
    ∙ sym (under_two_places is_1904 exact)
