-- The parts of sheets in packages that have the same parts which tell where these are.
use Rattle.std.proofs.Common.{◌≡◌, ℕ, List, Option, Some, None, sym, ◌∙◌, ap, subst, inl, inr, Ok}
use Rattle.std.proofs.Common.{codes}
use Rattle.std.specs.Prelude.{◌⊎◌, IsSomeAnd}
use Rattle.part_events.specs.Words.{Event, Part, part_of}
use Rattle.xlsx_error.specs.declared.error.XlsxError.{XlsxError}
use Rattle.xlsx_error.specs.declared.error.XlsxError.TheVariants.{WorksheetNotFound}
use Rattle.xlsx_sections.specs.Words.{closed_section_of}
use Rattle.xlsx_relationships.specs.Words.{folder_of, path_in, related_in}
use Rattle.xlsx_workbook.specs.Words.{workbook_part, relationships_part}
use Rattle.xlsx_open.specs.Words.{Opening, OpensAs, OpensSoundly, OpeningCause, HasNothing}
use Rattle.xlsx_open.specs.Words.{IsOpening, HasShared}
use Rattle.xlsx_core.specs.Words.{path_named}
use Rattle.xlsx_core.proofs.Agreeing.{section_over, optional_over, path_over}
use Rattle.xlsx_core.proofs.SheetLaws.{are_alike}
use Rattle.xlsx_commands.specs.Words.{part, OutputCause, PartPathCause, OpensAt, HasNamedCause}
use Rattle.xlsx_commands.specs.Words.{NamedCause}
use Rattle.xlsx_commands.specs.Outputs.{IsOutput, RefusedWorkbookCause, IsTooLarge, HasLargeGraph}
use Rattle.xlsx_commands.specs.Outputs.{IsUnwritable, HasNoKeys, HasTwoColumns}
use Rattle.xlsx_commands.specs.declared.error.ToolError.{ToolError}
use Rattle.xlsx_commands.specs.declared.error.ToolError.TheVariants.{Workbook, BoxTooLarge}
use Rattle.xlsx_commands.specs.declared.error.ToolError.TheVariants.{Unwritable, NoHeader}
use Rattle.xlsx_commands.specs.declared.error.ToolError.TheVariants.{TwoColumns, GraphTooLarge}
use Rattle.xlsx_commands.proofs.NamedSheets.{OpeningsNever}
use Rattle.xlsx_footprints.specs.Footprints.{HaveSamePlaceParts}
use Rattle.xlsx_footprints.proofs.OpeningsAlike.{sharing, with_shared}

one_path : (section : Option (List Event)) (first second : List ℕ)
    → IsSomeAnd section (λ inside. path_in inside ≡ Ok (Some first))
    → IsSomeAnd section (λ inside. path_in inside ≡ Ok (Some second)) → first ≡ second
one_path None first second one two = absurd one
one_path (Some inside) first second one two =
    let both : Ok (Some first) ≡ Ok (Some second) = sym one ∙ two in cc

-- the workbook of the one opens in the other, with what the other's sheets share
opens_sharing : (one two : List Part) (first second : Opening) → HaveSamePlaceParts one two
    → OpensAs one first → OpensAs two second → OpensAs two (sharing first second.shared)
opens_sharing one two first second same opens others =
    let found = path_over one two opens.path same.root opens.found in
    record {
      path = opens.path;
      related = opens.related;
      found = found;
      relationships = section_over (codes "Relationships") (relationships_part opens.path) one two
          (λ inside. (id : List ℕ) → related_in inside id ≡ Ok (opens.related id))
          (same.relationships opens.path opens.found) opens.relationships;
      shared = subst (λ (path : List ℕ). HasShared two path second.shared)
          (one_path (closed_section_of (codes "Relationships") (codes "_rels/.rels") two)
          others.path opens.path others.found found) others.shared;
      workbook = with_shared (part_of two (workbook_part opens.path))
          (closed_section_of (codes "workbook") (workbook_part opens.path) two)
          (folder_of opens.path) opens.related first second.shared
          (optional_over (codes "workbook") (workbook_part opens.path) one two (HasNothing first)
          (λ inside. IsOpening (folder_of opens.path) opens.related inside first)
          (same.workbook opens.path opens.found) opens.workbook);
    }

at_over : (one two : List Part) (name : List ℕ) (path : Option (List ℕ))
    → HaveSamePlaceParts one two
    → OpensSoundly two → OpensAt one name path → OpensAt two name path
at_over one two name path same (second, others) at =
    let both = are_alike two (sharing at.opening second.shared) second
    (opens_sharing one two at.opening second same at.opens others) others in
    record {
      opening = second;
      opens = others;
      named = sym (ap (path_named name) both.sheets) ∙ at.named;
    }

pub part_over : (one two : List Part) (name output : List ℕ) → HaveSamePlaceParts one two
    → OpensSoundly two → IsOutput (part name) one output → IsOutput (part name) two output
unfolding IsOutput
part_over one two name output same opens prints = record {
  path = prints.path;
  opens = at_over one two name (Some prints.path) same opens prints.opens;
  printed = prints.printed;
}

-- a sheet that the one lacks
lacked_over : (one two : List Part) (name : List ℕ) (error : XlsxError) → HaveSamePlaceParts one two
    → OpensSoundly two → HasNamedCause (PartPathCause name) one name error
    → HasNamedCause (PartPathCause name) two name error
lacked_over one two name (WorksheetNotFound asked) same opens (path, at, cause) =
    (path, at_over one two name path same opens at, cause)
lacked_over one two name error same opens (path, at, cause) = absurd cause

either_over : (one two : List Part) (name : List ℕ) (error : XlsxError) → OpeningsNever
    → HaveSamePlaceParts one two → OpensSoundly one → OpensSoundly two
    → OpeningCause one error ⊎ HasNamedCause (PartPathCause name) one name error
    → OpeningCause two error ⊎ HasNamedCause (PartPathCause name) two name error
either_over one two name error never same (first, opens) others (inl cause) =
    absurd (never one first error opens cause)
either_over one two name error never same opens others (inr has) =
    inr (lacked_over one two name error same others has)

named_over : (one two : List Part) (name : List ℕ) (error : XlsxError) → OpeningsNever
    → HaveSamePlaceParts one two → OpensSoundly one → OpensSoundly two
    → NamedCause (PartPathCause name) one name error
    → NamedCause (PartPathCause name) two name error
named_over one two name (WorksheetNotFound asked) never same opens others has =
    lacked_over one two name (WorksheetNotFound asked) same others has
named_over one two name error never same opens others has =
    either_over one two name error never same opens others has

pub part_cause_over : OpeningsNever → (one two : List Part) (name : List ℕ) (error : ToolError)
    → HaveSamePlaceParts one two → OpensSoundly one → OpensSoundly two
    → OutputCause (part name) one error → OutputCause (part name) two error
unfolding RefusedWorkbookCause IsTooLarge HasLargeGraph IsUnwritable HasNoKeys HasTwoColumns
part_cause_over never one two name (Workbook error) same opens others cause =
    named_over one two name error never same opens others cause
part_cause_over never one two name BoxTooLarge same opens others large = absurd large
part_cause_over never one two name GraphTooLarge same opens others large = absurd large
part_cause_over never one two name Unwritable same opens others none = absurd none
part_cause_over never one two name NoHeader same opens others none = absurd none
part_cause_over never one two name (TwoColumns key) same opens others twice = absurd twice
part_cause_over never one two name error same opens others cause = cause
