-- How the formats of an element are kept one by one.
use Rattle.std.proofs.Common.{◌≡◌, ℕ, List, [], ◌∷◌, ◌++◌, Option, Some, None, Result, Ok, Err}
use Rattle.std.proofs.Common.{refl, sym, ◌∙◌, ap, subst, append_assoc, append-nil, length, arith}
use Rattle.std.specs.Prelude.{IsOkAnd}
use Rattle.part_events.specs.Words.{Reading, ahead, PlacedTag, content, starts_by, inside}
use Rattle.part_events.specs.Words.{section_ahead}
use Rattle.xlsx_error.specs.declared.error.XlsxError.{XlsxError}
use Rattle.xlsx_sections.specs.Words.{some_answers, and_others_if, prepended, Refusal, ElementFails}
use Rattle.xlsx_sections.proofs.Refused.{refused_at_weaker}
use Rattle.xlsx_sections.proofs.Kept.{some_and_more, some_refused}
use Rattle.xlsx_formats.specs.FormatCodes.{WrittenFormat, with_code, written_format, with_written}
use Rattle.xlsx_formats.specs.FormatCodes.{is_number_format, AreCodes, KeepsFront}
use Rattle.xlsx_formats.specs.declared.format_codes.FormatCodes.{FormatCodes}

-- The starts of an element were read but for those that are left: the codes of their formats are
-- kept.
pub record KeepsCodes (all left : List PlacedTag) (old now : FormatCodes) : Type 0 where
  pub front : List PlacedTag
  pub passed : List WrittenFormat
  pub starts : front ++ left ≡ all
  pub written : some_answers written_format front ≡ Ok passed
  pub kept : (earlier : List WrittenFormat) → AreCodes earlier old
      → AreCodes (earlier ++ passed) now

pub keeps_no_code : (left : List PlacedTag) (old : FormatCodes) → KeepsCodes left left old old
keeps_no_code left old = record {
  front = [];
  passed = [];
  starts = refl;
  written = refl;
  kept = λ earlier are. subst (λ (formats : List WrittenFormat). AreCodes formats old)
      (sym (append-nil earlier)) are;
}

one_less : {x : PlacedTag} {all left rest : List PlacedTag} (front : List PlacedTag)
    → left ≡ x ∷ rest → front ++ left ≡ all → (front ++ x ∷ []) ++ rest ≡ all
one_less {x = x} {rest = rest} front same starts =
    append_assoc front (x ∷ []) rest
    ∙ (ap (λ (more : List PlacedTag). front ++ more) (sym same) ∙ starts)

put_one : (passed : List WrittenFormat) (found : Option WrittenFormat)
    → prepended passed (and_others_if (Ok found) (Ok [])) ≡ Ok (with_written passed found)
put_one passed None =
    ap (λ (formats : List WrittenFormat). let answer : Result (List WrittenFormat) Refusal =
    Ok formats in answer) (append-nil passed)
put_one passed (Some format) = refl

behind_passed : (earlier passed : List WrittenFormat) (found : Option WrittenFormat)
    → with_written (earlier ++ passed) found ≡ earlier ++ with_written passed found
behind_passed earlier passed None = refl
behind_passed earlier passed (Some format) = append_assoc earlier passed (format ∷ [])

-- what a start writes was kept
code_taken : {x : PlacedTag} {all left rest : List PlacedTag} {old mid now : FormatCodes}
    (found : Option WrittenFormat) → KeepsCodes all left old mid → left ≡ x ∷ rest
    → written_format x ≡ Ok found → ((earlier : List WrittenFormat) → AreCodes earlier mid
    → AreCodes (with_written earlier found) now) → KeepsCodes all rest old now
code_taken {x = x} {now = now} found keeps same is codes = record {
  front = keeps.front ++ x ∷ [];
  passed = with_written keeps.passed found;
  starts = one_less keeps.front same keeps.starts;
  written = some_and_more written_format keeps.front (x ∷ []) keeps.passed keeps.written
      ∙ ap (λ (own : Result (Option WrittenFormat) Refusal).
      prepended keeps.passed (and_others_if own (Ok []))) is
      ∙ put_one keeps.passed found;
  kept = λ earlier are. subst (λ (formats : List WrittenFormat). AreCodes formats now)
      (behind_passed earlier keeps.passed found)
      (codes (earlier ++ keeps.passed) (keeps.kept earlier are));
}

-- the value of an answer, and what holds of it
pub ok_found : {A B : Type 0} (P : B → Type 0) (answer : Result B A) → IsOkAnd answer P
    → (found : B) × (answer ≡ Ok found) × P found
ok_found P (Ok found) is = (found, refl, is)
ok_found P (Err error) is = absurd is

pub codes_further : {x : PlacedTag} {all left rest : List PlacedTag} {old mid now : FormatCodes}
    → KeepsCodes all left old mid
    → left ≡ x ∷ rest → IsOkAnd (written_format x) (λ found.
    (earlier : List WrittenFormat) → AreCodes earlier mid
    → AreCodes (with_written earlier found) now) → KeepsCodes all rest old now
codes_further {x = x} {mid = mid} {now = now} keeps same is =
    let own = ok_found (λ (found : Option WrittenFormat). (earlier : List WrittenFormat)
    → AreCodes earlier mid → AreCodes (with_written earlier found) now) (written_format x) is in
    code_taken own.0 keeps same own.1 own.2

-- what all of them write, by what was kept and by those that are left
formats_of_all : {all left : List PlacedTag} {old now : FormatCodes}
    (keeps : KeepsCodes all left old now)
    → prepended keeps.passed (some_answers written_format left) ≡ some_answers written_format all
formats_of_all {left = left} keeps =
    sym (some_and_more written_format keeps.front left keeps.passed keeps.written)
    ∙ ap (some_answers written_format) keeps.starts

-- one of those that are left is refused
pub codes_refused : {x : PlacedTag} {all left rest : List PlacedTag} {old now : FormatCodes}
    {refusal : Refusal} → KeepsCodes all left old now → left ≡ x ∷ rest
    → written_format x ≡ Err refusal → some_answers written_format all ≡ Err refusal
codes_refused keeps same refuses =
    some_refused written_format keeps.passed same refuses (formats_of_all keeps)

-- what is kept where reading stops before one of those that are left
codes_front : {all left : List PlacedTag} {old now : FormatCodes} → KeepsCodes all left old now
    → KeepsFront all old now
codes_front {left = left} {old = old} {now = now} keeps = record {
  front = keeps.front;
  left = left;
  all = keeps.starts;
  kept = subst (λ (answer : Result (List WrittenFormat) Refusal). IsOkAnd answer (λ formats.
      (earlier : List WrittenFormat) → AreCodes earlier old → AreCodes (earlier ++ formats) now))
      (sym keeps.written) keeps.kept;
}

-- the codes of an element, whose starts were read up to those that are left, where nothing more was
-- kept
pub codes_left : {base : ℕ} {left : List PlacedTag} {old mid now : FormatCodes} (first : Reading)
    → base ≡ length first.names
    → KeepsCodes (starts_by is_number_format (section_ahead base first)) left old mid
    → ((earlier : List WrittenFormat) → AreCodes earlier mid → AreCodes earlier now)
    → KeepsFront (starts_by is_number_format (content 0 (ahead first))) old now
codes_left {base = base} {left = left} {old = old} {now = now} first own keeps unchanged =
    let none : inside base first ≡ 0 = omega (arith, own) in
    subst (λ (n : ℕ). KeepsFront (starts_by is_number_format (content n (ahead first))) old now)
    none (codes_front (record {
      front = keeps.front;
      passed = keeps.passed;
      starts = keeps.starts;
      written = keeps.written;
      kept = λ earlier are. unchanged (earlier ++ keeps.passed) (keeps.kept earlier are);
    }))

-- a code that doesn't decode refuses its format
pub code_fails : (id : List ℕ) (at behind : ℕ) (decoded : Result (List ℕ) Refusal)
    (error : XlsxError) → ElementFails decoded at behind error
    → ElementFails (with_code id decoded) at behind error
code_fails id at behind decoded error fails =
    refused_at_weaker at behind (λ (refusal : Refusal). with_code id decoded ≡ Err refusal)
    (λ (refusal : Refusal). decoded ≡ Err refusal) error (λ refusal is. ap (with_code id) is) fails
