-- The part of a sheet is read up to the end of the sheet's data.
use Rattle.std.proofs.Common.{◌≡◌, ◌+◌, ℕ, suc, List, length, Option, Some, None, Result, Ok, Err}
use Rattle.std.proofs.Common.{true, String, Global, ◌∙◌, ap, arith, codes, string_bytes}
use Rattle.std.specs.Prelude.{IsSomeAnd, OnOk, MatchOption, IfSome}
use Rattle.std.specs.Option.{option_map_or}
use Rattle.std.proofs.lemmas.List.Sums.{sum_by_push}
use Rattle.cell_data.specs.declared.range.Range.{Range}
use Rattle.cell_data.specs.declared.value.Data.{Data}
use Rattle.cell_refs.specs.declared.dimensions.Dimensions.{Dimensions}
use Rattle.part_events.specs.Words.{Event, Part, PackageState, NeverFalls, CountsUp, Reading}
use Rattle.part_events.specs.Words.{ReadsPart, events_of, section_end}
use Rattle.xlsx_error.specs.declared.error.XlsxError.{XlsxError}
use Rattle.xlsx_error.specs.declared.error.XlsxError.TheVariants.{Io}
use Rattle.xlsx_sections.specs.Words.{ReachesEnd, PartSection, last_of, section_events}
use Rattle.xlsx_cells.specs.Words.{EntersData, Stream}
use Rattle.xlsx_core.specs.Listing.{IsPutBehind, CountsAtLeast, listed_data}
use Rattle.xlsx_core.specs.SheetReading.{TakesExactly, data_events}

-- a part whose data were entered has so many events up to their end
data_size : (path : List ℕ) (area : Dimensions) (old : PackageState) (mid : Stream)
    → EntersData path area old mid → old.is_visible ≡ true
    → data_events (Some path) old.parts ≡ suc (section_end mid.base mid.reading)
data_size path area old mid enters told =
    ap (λ (part : Option (List Event)). option_map_or (section_events (codes "sheetData")) part 0)
    (enters.part told)
    ∙ ap (λ (found : Option PartSection). option_map_or (λ (s : PartSection). suc (last_of s)) found
    (length (events_of mid.reading))) (enters.section told)

-- entering the data and reading them to their end takes these
path_taken : {A : Type 0} (result : Result A XlsxError) (path : List ℕ) (area : Dimensions)
    (old : PackageState) (mid : Stream) (new : Reading) → EntersData path area old mid
    → ReadsPart Io result mid.reading new
    → (mid.reading.source.is_visible ≡ true → OnOk result (ReachesEnd mid.base mid.reading new))
    → TakesExactly (data_events (Some path) old.parts) result old new.source
path_taken (Ok value) path area old mid new enters reads ends = λ told.
    let reaches = ends (enters.parts.is_visible ∙ told) in
    omega (
      arith,
      data_size path area old mid enters told,
      enters.begins,
      reads.moves.forward,
      reads.moves.taken,
      reaches.ends,
    )
path_taken (Err error) path area old mid new enters reads ends = λ told. tt

-- the same at a path that there may be
pub data_taken : {A : Type 0} (result : Result A XlsxError) (path : Option (List ℕ))
    (area : Dimensions) (old : PackageState) (mid : Stream) (new : Reading)
    → IsSomeAnd path (λ there. EntersData there area old mid)
    → ReadsPart Io result mid.reading new
    → (mid.reading.source.is_visible ≡ true → OnOk result (ReachesEnd mid.base mid.reading new))
    → TakesExactly (data_events path old.parts) result old new.source
data_taken result None area old mid new is reads ends = absurd is
data_taken result (Some path) area old mid new enters reads ends =
    path_taken result path area old mid new enters reads ends

-- ---- all sheets

-- one sheet more
pub listed_more : (place : List ℕ → Option (List ℕ)) (parts : List Part) (name : List ℕ)
    (range : Option (Range Data)) (old mid new : ℕ) (listed now : List (String Global × Range Data))
    → CountsAtLeast (listed_data place parts listed) old mid
    → NeverFalls mid new
    → IfSome range (λ own. CountsUp (data_events (place name) parts) mid new)
    → MatchOption range (now ≡ listed) (IsPutBehind name listed now)
    → CountsAtLeast (listed_data place parts now) old new
listed_more place parts name None old mid new listed now least falls counts same =
    let all = ap (listed_data place parts) same in
    omega (arith, least, falls, all)
listed_more place parts name (Some range) old mid new listed now least falls counts put =
    let (own, named, is) = put in
    let count : String Global × Range Data → ℕ =
    λ other. data_events (place (string_bytes other.0)) parts in
    let all : listed_data place parts now ≡ listed_data place parts listed
    + data_events (place name) parts =
    ap (listed_data place parts) is ∙ (sum_by_push count listed (own, range)
    ∙ ap (λ (text : List ℕ). listed_data place parts listed + data_events (place text) parts) named)
    in
    omega (arith, least, counts, all)
