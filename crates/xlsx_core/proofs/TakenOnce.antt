-- The part of a sheet is read once.
use Rattle.std.proofs.Common.{◌≡◌, ◌+◌, ◌≤◌, ℕ, List, ◌∷◌, true, Option, Some, None, Result, Ok}
use Rattle.std.proofs.Common.{Err, ◌∙◌, ap, subst, inr, arith, string_bytes}
use Rattle.std.specs.Prelude.{IsSomeAnd, OnOk}
use Rattle.std.specs.List.{sum_by}
use Rattle.std.proofs.lemmas.List.Sums.{sum_by-cons}
use Rattle.cell_refs.specs.declared.dimensions.Dimensions.{Dimensions}
use Rattle.cell_styles.specs.declared.style.Style.{Style}
use Rattle.part_events.specs.Words.{Part, PackageState, SameParts, NeverFalls, UsesPackage}
use Rattle.part_events.specs.Words.{LeavesPackage, Uses, event_count, CountsUp, Reading, ReadsPart}
use Rattle.part_events.proofs.Uses.{same_further}
use Rattle.xlsx_error.specs.declared.error.XlsxError.{XlsxError}
use Rattle.xlsx_error.specs.declared.error.XlsxError.TheVariants.{Io}
use Rattle.xlsx_values.specs.Words.{ValueContext}
use Rattle.xlsx_cells.specs.Words.{EntersData, Stream}
use Rattle.xlsx_workbook.specs.declared.sheet.Sheet.{Sheet}
use Rattle.xlsx_open.specs.Words.{TakesOpening, TakesSections}
use Rattle.xlsx_core.specs.Listing.{listed_events}
use Rattle.xlsx_core.specs.SheetReading.{placed_events, TakesSheet, data_events, ReadsToData}
use Rattle.xlsx_core.proofs.SheetsRead.{OpensPlaced}

-- whatever a call answers
pub uses_taken : {A E : Type 0} (most : ℕ) (fault : E) (result : Result A E)
    (old new : PackageState) → Uses most fault result old new → old.is_visible ≡ true
    → new.taken ≤ old.taken + most
uses_taken most fault (Ok value) old new uses = uses.taken
uses_taken most fault (Err error) old new uses = uses.taken

-- a refusal that isn't the package's, behind a call that wasn't refused
pub leaves_behind : (most : ℕ) (old new : PackageState) (error : XlsxError)
    → UsesPackage most old new → LeavesPackage most Io old new error
leaves_behind most old new error uses = record {
  parts = uses.parts;
  faults = λ other. uses.faults;
  forward = uses.forward;
  taken = uses.taken;
}

-- entering the data of a sheet and reading them takes no more than its part has
path_read : {A : Type 0} (result : Result A XlsxError) (path : List ℕ) (area : Dimensions)
    (old : PackageState) (mid : Stream) (new : Reading) → EntersData path area old mid
    → ReadsPart Io result mid.reading new
    → Uses (event_count old.parts path) Io result old new.source
path_read (Ok value) path area old mid new enters reads = record {
  parts = same_further enters.parts reads.moves.parts;
  faults = reads.stays.faults ∙ enters.faults;
  forward = omega (arith, enters.begins, reads.moves.taken);
  taken = λ told.
      omega (arith, enters.taken told, reads.moves.within (enters.parts.is_visible ∙ told));
}
path_read (Err error) path area old mid new enters reads = record {
  parts = same_further enters.parts reads.moves.parts;
  faults = λ other. reads.faults other ∙ enters.faults;
  forward = omega (arith, enters.begins, reads.moves.taken);
  taken = λ told.
      omega (arith, enters.taken told, reads.moves.within (enters.parts.is_visible ∙ told));
}

-- the same at a path that there may be
pub data_read : {A : Type 0} (result : Result A XlsxError) (path : Option (List ℕ))
    (area : Dimensions) (old : PackageState) (mid : Stream) (new : Reading)
    → IsSomeAnd path (λ there. EntersData there area old mid)
    → ReadsPart Io result mid.reading new
    → Uses (placed_events path old.parts) Io result old new.source
data_read result None area old mid new is reads = absurd is
data_read result (Some path) area old mid new enters reads =
    path_read result path area old mid new enters reads

-- what the sheets behind the first one may take, once its part was read at the path that was kept
-- for its name
pub part_listed : (place : List ℕ → Option (List ℕ)) (old mid new : PackageState)
    (kept : Option (List ℕ)) (name : List ℕ) (sheet : Sheet) (left sheets : List Sheet) (most : ℕ)
    → kept ≡ place name → name ≡ string_bytes sheet.name → left ≡ sheet ∷ sheets
    → mid.parts ≡ old.parts → mid.taken + listed_events place old.parts left ≤ most
    → new.taken ≤ mid.taken + placed_events kept mid.parts
    → new.taken + listed_events place old.parts sheets ≤ most
part_listed place old mid new kept name sheet left sheets most path named front same all first =
    let count : Sheet → ℕ = λ own. placed_events (place (string_bytes own.name)) old.parts in
    let here : placed_events kept mid.parts
    ≡ placed_events (place (string_bytes sheet.name)) old.parts =
    ap (placed_events kept) same
    ∙ ap (λ (there : Option (List ℕ)). placed_events there old.parts) (path ∙ ap place named) in
    let own : listed_events place old.parts left
    ≡ placed_events (place (string_bytes sheet.name)) old.parts
    + listed_events place old.parts sheets =
    ap (sum_by count) front ∙ sum_by-cons count sheet sheets in
    omega (arith, all, first, here, own)

-- and what was taken of all of them, where none behind it is read
pub leaves_listed : (place : List ℕ → Option (List ℕ)) (old mid new : PackageState)
    (kept : Option (List ℕ)) (name : List ℕ) (sheet : Sheet) (left sheets : List Sheet) (most : ℕ)
    (error : XlsxError) → kept ≡ place name → name ≡ string_bytes sheet.name
    → left ≡ sheet ∷ sheets → SameParts old mid → mid.faults ≡ old.faults
    → NeverFalls old.taken mid.taken
    → (old.is_visible ≡ true → mid.taken + listed_events place old.parts left ≤ old.taken + most)
    → LeavesPackage (placed_events kept mid.parts) Io mid new error
    → LeavesPackage most Io old new error
leaves_listed place old mid new kept name sheet left sheets most error path named front same
    faults forward all leaves = record {
      parts = same_further same leaves.parts;
      faults = λ other. leaves.faults other ∙ faults;
      forward = omega (arith, forward, leaves.forward);
      taken = λ told.
          omega (
            arith,
            part_listed place old mid new kept name sheet left sheets (old.taken + most) path
                named front same.parts (all told) (leaves.taken (same.is_visible ∙ told)),
          );
    }

-- what opening took, and then the part of the sheet
pub sheet_taken : (name : List ℕ) (path : Option (List ℕ)) (context : ValueContext)
    (palette : List Style) (old mid new : PackageState) → SameParts old mid
    → OpensPlaced name path context palette old.parts
    → TakesOpening old.parts old.taken mid.taken
    → new.taken ≤ mid.taken + placed_events path mid.parts
    → TakesSheet old.parts name old.taken new.taken
sheet_taken name path context palette old mid new same opens takes once =
    inr (record {
      opening = opens.opening;
      behind = mid.taken;
      opens = opens.opens;
      takes = takes;
      once =
          subst (λ (own : Option (List ℕ)). new.taken ≤ mid.taken + placed_events own old.parts)
          opens.listed
          (subst (λ (parts : List Part). new.taken ≤ mid.taken + placed_events path parts)
          same.parts once);
    })

-- where its sheet is read to the end of its data
pub sheet_to_data : {A : Type 0} (result : Result A XlsxError) (name : List ℕ)
    (path : Option (List ℕ)) (context : ValueContext) (palette : List Style)
    (old mid new : PackageState) → SameParts old mid
    → OpensPlaced name path context palette old.parts
    → TakesSections old.parts old.taken mid.taken
    → OnOk result (CountsUp (data_events path mid.parts) mid.taken new.taken)
    → OnOk result (ReadsToData old.parts name old.taken new.taken)
sheet_to_data (Err error) name path context palette old mid new same opens takes exact = tt
sheet_to_data (Ok value) name path context palette old mid new same opens takes exact = record {
  opening = opens.opening;
  behind = mid.taken;
  opens = opens.opens;
  takes = takes;
  to_end =
      subst (λ (own : Option (List ℕ)). CountsUp (data_events own old.parts) mid.taken new.taken)
      opens.listed
      (subst (λ (parts : List Part). CountsUp (data_events path parts) mid.taken new.taken)
      same.parts exact);
}
