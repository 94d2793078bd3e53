-- The worksheets of an open workbook, as they are listed.
use Rattle.std.proofs.Common.{◌≡◌, ◌≤◌, ◌<◌, ℕ, List, [], ◌∷◌, ◌++◌, drop, length, refl, sym, ◌∙◌}
use Rattle.std.proofs.Common.{ap, subst, inl, inr, Option, Some, None, String, Global, Bool, true}
use Rattle.std.proofs.Common.{false, arith, append_assoc, ◌+◌}
use Rattle.std.specs.Prelude.{string_bytes, if◌then◌else◌, nat_lt, MatchOption}
use Rattle.std.specs.Str.{bytes_eq}
use Rattle.std.specs.Cmp.Lexicographic.{nat_list_eq_equiv}
use Rattle.std.proofs.lemmas.Bool.Decides.{nat_tests}
use Rattle.std.proofs.Math.ListN.{get_or}
use Rattle.std.proofs.lemmas.List.{drop_all, drop_more}
use Rattle.part_events.specs.Words.{Part}
use Rattle.cell_data.specs.declared.range.Range.{Range}
use Rattle.cell_data.specs.declared.value.Data.{Data}
use Rattle.cell_data.specs.declared.value.HeaderRow.{HeaderRow}
use Rattle.xlsx_values.specs.Words.{ValueContext}
use Rattle.xlsx_workbook.specs.Words.{path_kept}
use Rattle.xlsx_workbook.specs.declared.paths.PartPath.{PartPath}
use Rattle.xlsx_workbook.specs.declared.sheet.Sheet.{Sheet}
use Rattle.xlsx_core.specs.Listing.{IsListedAs, IsLeftOut, AreListed, IsPutBehind}
use Rattle.xlsx_core.specs.Opened.{path_listed}
use Rattle.xlsx_core.specs.Worksheets.{ReadsValues}
use Rattle.xlsx_core.proofs.RangesRead.{values_never}

-- ---- the first sheet of a name

no_paths : (name : List ℕ) (sheets : List Sheet) → path_listed name sheets [] ≡ None
no_paths name [] = refl
no_paths name (sheet ∷ sheets) = refl

-- none stands behind the shorter one of both lists
pub none_behind : (name : List ℕ) (place : ℕ) (sheets : List Sheet)
    (paths : List PartPath) → (place < length sheets → length paths ≤ place)
    → path_listed name (drop place sheets) (drop place paths) ≡ None
none_behind name place sheets paths few =
    by_test (nat_lt place (length sheets)) refl
  where
    by_test : (test : Bool) → nat_lt place (length sheets) ≡ test
        → path_listed name (drop place sheets) (drop place paths) ≡ None
    by_test true is =
        ap (path_listed name (drop place sheets))
        (drop_all place paths (few (grind (arith, nat_tests, is))))
        ∙ no_paths name (drop place sheets)
    by_test false is =
        ap (λ (own : List Sheet). path_listed name own (drop place paths))
        (drop_all place sheets (grind (arith, nat_tests, is)))

pub drop_from : {X : Type 0} (xs : List X) (place next : ℕ) (own : X)
    → own ≡ get_or xs place own → place < length xs → place + 1 ≡ next
    → drop place xs ≡ own ∷ drop next xs
drop_from {X} xs place next own is below same =
    drop_more xs place own below ∙ ap (λ (first : X). first ∷ drop (place + 1) xs) (sym is)
    ∙ ap (λ (n : ℕ). own ∷ drop n xs) same

-- one sheet before those behind
pub first_further : (name : List ℕ) (sheet : Sheet) (sheets : List Sheet) (path : PartPath)
    (paths : List PartPath) (kept found : Option (List ℕ)) (own there : List ℕ)
    → kept ≡ path_listed name sheets paths → own ≡ string_bytes sheet.name
    → there ≡ path_kept path
    → found ≡ (if bytes_eq name own then Some there else kept)
    → found ≡ path_listed name (sheet ∷ sheets) (path ∷ paths)
first_further name sheet sheets path paths kept found own there is named placed put =
    put
    ∙ ap (λ (rest : Option (List ℕ)). if bytes_eq name own then Some there else rest) is
    ∙ ap (λ (test : Bool). if test then Some there else path_listed name sheets paths)
    (nat_list_eq_equiv.symm name own ∙ ap (λ (text : List ℕ). bytes_eq text name) named)
    ∙ ap (λ (text : List ℕ). if bytes_eq (string_bytes sheet.name) name then Some text else
    path_listed name sheets paths) placed

-- ---- why a range isn't read

-- ---- one sheet more

-- what is listed of all, where it is so of those behind
pub listed_further : (context : ValueContext) (header : HeaderRow)
    (place : List ℕ → Option (List ℕ)) (parts : List Part) (sheet : Sheet) (sheets : List Sheet)
    (range : Option (Range Data)) (old new : List (String Global × Range Data))
    (fact : List (String Global × Range Data) → Type 0)
    → MatchOption range (IsLeftOut context place parts sheet)
    (ReadsValues context header (place (string_bytes sheet.name)) parts)
    → MatchOption range (new ≡ old) (IsPutBehind (string_bytes sheet.name) old new)
    → ((others : List (String Global × Range Data))
    → AreListed context header place parts (sheet ∷ sheets) others → fact (old ++ others))
    → (others : List (String Global × Range Data))
    → AreListed context header place parts sheets others → fact (new ++ others)
listed_further context header place parts sheet sheets None old new fact left same all others is =
    subst (λ (own : List (String Global × Range Data)). fact (own ++ others)) (sym same)
    (all others (inl (left, is)))
listed_further context header place parts sheet sheets (Some range) old new fact reads put all
    others is =
    let (own, named, same) = put in
    let first : String Global × Range Data = (own, range) in
    subst fact
    (sym (ap (λ (kept : List (String Global × Range Data)). kept ++ others) same
    ∙ append_assoc old (first ∷ []) others))
    (all (first ∷ others)
    (inr (first, others, refl, record { name = named; reads = reads }, is)))

-- ---- none is both

pub listed_or_left_out : (context : ValueContext) (header : HeaderRow)
    (place : List ℕ → Option (List ℕ)) (parts : List Part) (sheet : Sheet)
    (own : String Global × Range Data) → IsListedAs context header place parts sheet own
    → IsLeftOut context place parts sheet → ⊥
listed_or_left_out context header place parts sheet own is (error, cause) =
    let name = string_bytes sheet.name in
    values_never context header name (place name) parts own.1 error is.reads cause
