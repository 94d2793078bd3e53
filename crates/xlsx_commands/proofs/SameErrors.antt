-- `==` of errors of the program holds exactly where they are seen as the same.
use Rattle.std.proofs.Common.{◌≡◌, ℕ, true, false, nat_eq, refl, sym, ◌∙◌, ap, subst}
use Rattle.std.specs.Prelude.{string_bytes}
use Rattle.equalities.specs.Equality.{IsEquality, IsEqualityBy}
use Rattle.equalities.proofs.Equality.{of_number, of_pairs, of_text, unequal}
use Rattle.xlsx_error.proofs.SameRefusals.{refusal_law}
use Rattle.xlsx_commands.specs.Status.{SeenError, error_seen, of_book, usage, read_fault}
use Rattle.xlsx_commands.specs.Status.{input_too_large, not_a_package, write_fault, out_of_memory}
use Rattle.xlsx_commands.specs.Status.{file_too_large, not_a_workbook_file, box_too_large}
use Rattle.xlsx_commands.specs.Status.{unwritable, not_chosen, no_header, two_columns}
use Rattle.xlsx_commands.specs.Status.{graph_too_large}
use Rattle.xlsx_commands.specs.contracts.error.ToolErrorPartialEq.TheImpl as error
use Rattle.xlsx_commands.specs.contracts.sheet_choice.SheetFaultPartialEq.TheImpl as choice
use Rattle.xlsx_commands.specs.declared.error.ToolError.{ToolError}
use Rattle.xlsx_commands.specs.declared.error.ToolError.TheVariants as is
use Rattle.xlsx_commands.specs.declared.sheet_choice.SheetFault.{SheetFault}
use Rattle.xlsx_commands.specs.declared.sheet_choice.SheetFault.TheVariants.{NoSheet, NamedBefore}
use Rattle.xlsx_commands.specs.declared.sheet_choice.SheetFault.TheVariants.{NoWorksheet}
use Rattle.zip_archive.specs.contracts.fault.ArchiveFaultPartialEq.TheImpl as fault
use Rattle.zip_archive.specs.declared.fault.ArchiveFault.{ArchiveFault}
use Rattle.zip_archive.specs.declared.fault.ArchiveFault.TheVariants.{Compound, Damaged, NoArchive}

same_fault : (a b : ArchiveFault) → fault.ghosts.eq a b ≡ true → a ≡ b
same_fault NoArchive NoArchive same = refl
same_fault Compound Compound same = refl
same_fault (Damaged at) (Damaged other) same = ap Damaged ((of_number at other).0 same)
same_fault _ _ same = absurd (unequal same)

fault_itself : (a : ArchiveFault) → fault.ghosts.eq a a ≡ true
fault_itself NoArchive = refl
fault_itself Compound = refl
fault_itself (Damaged at) = (of_number at at).1 refl

same_choice : (a b : SheetFault) → choice.ghosts.eq a b ≡ true → a ≡ b
same_choice (NoSheet number count) (NoSheet other further) same =
    ap (λ (told : ℕ × ℕ). NoSheet told.0 told.1)
    ((of_pairs of_number of_number (number, count) (other, further)).0 same)
same_choice (NamedBefore number) (NamedBefore other) same =
    ap NamedBefore ((of_number number other).0 same)
same_choice NoWorksheet NoWorksheet same = refl
same_choice _ _ same = absurd (unequal same)

choice_itself : (a : SheetFault) → choice.ghosts.eq a a ≡ true
choice_itself (NoSheet number count) =
    (of_pairs of_number of_number (number, count) (number, count)).1 refl
choice_itself (NamedBefore number) = (of_number number number).1 refl
choice_itself NoWorksheet = refl

same_from : (a b : ToolError) → error.ghosts.eq a b ≡ true → error_seen a ≡ error_seen b
same_from is.Usage is.Usage same = refl
same_from is.ReadFault is.ReadFault same = refl
same_from is.InputTooLarge is.InputTooLarge same = refl
same_from is.FileTooLarge is.FileTooLarge same = refl
same_from is.NotAPackage is.NotAPackage same = refl
same_from (is.NotAWorkbookFile a) (is.NotAWorkbookFile b) same =
    ap not_a_workbook_file (same_fault a b same)
same_from is.WriteFault is.WriteFault same = refl
same_from is.OutOfMemory is.OutOfMemory same = refl
same_from is.BoxTooLarge is.BoxTooLarge same = refl
same_from is.Unwritable is.Unwritable same = refl
same_from (is.NotChosen a) (is.NotChosen b) same = ap not_chosen (same_choice a b same)
same_from is.NoHeader is.NoHeader same = refl
same_from is.GraphTooLarge is.GraphTooLarge same = refl
same_from (is.TwoColumns a) (is.TwoColumns b) same =
    ap two_columns ((of_text (string_bytes a) (string_bytes b)).0 same)
same_from (is.Workbook e) (is.Workbook f) same = ap of_book ((refusal_law e f).0 same)
same_from _ _ same = absurd (unequal same)

-- which kind of error is seen
abbrev kind_of : SeenError → ℕ
kind_of usage = 0
kind_of read_fault = 1
kind_of input_too_large = 2
kind_of not_a_package = 3
kind_of (of_book refusal) = 4
kind_of write_fault = 5
kind_of out_of_memory = 6
kind_of box_too_large = 7
kind_of file_too_large = 8
kind_of (not_a_workbook_file fault) = 9
kind_of unwritable = 10
kind_of (not_chosen fault) = 11
kind_of no_header = 12
kind_of (two_columns key) = 13
kind_of graph_too_large = 14

-- errors of two kinds differ
kinds_differ : (v w : SeenError) → nat_eq (kind_of v) (kind_of w) ≡ false → v ≡ w → ⊥
kinds_differ v w differ same =
    unequal (sym differ ∙ (of_number (kind_of v) (kind_of w)).1 (ap kind_of same))

same_to : (a b : ToolError) → error_seen a ≡ error_seen b → error.ghosts.eq a b ≡ true
same_to is.Usage is.Usage same = refl
same_to is.ReadFault is.ReadFault same = refl
same_to is.InputTooLarge is.InputTooLarge same = refl
same_to is.FileTooLarge is.FileTooLarge same = refl
same_to is.NotAPackage is.NotAPackage same = refl
same_to (is.NotAWorkbookFile a) (is.NotAWorkbookFile b) same =
    let one : a ≡ b = cc in
    subst (λ (c : ArchiveFault). fault.ghosts.eq a c ≡ true) one (fault_itself a)
same_to is.WriteFault is.WriteFault same = refl
same_to is.OutOfMemory is.OutOfMemory same = refl
same_to is.BoxTooLarge is.BoxTooLarge same = refl
same_to is.Unwritable is.Unwritable same = refl
same_to (is.NotChosen a) (is.NotChosen b) same =
    let one : a ≡ b = cc in
    subst (λ (c : SheetFault). choice.ghosts.eq a c ≡ true) one (choice_itself a)
same_to is.NoHeader is.NoHeader same = refl
same_to is.GraphTooLarge is.GraphTooLarge same = refl
same_to (is.TwoColumns a) (is.TwoColumns b) same =
    (of_text (string_bytes a) (string_bytes b)).1 (cc)
same_to (is.Workbook e) (is.Workbook f) same = (refusal_law e f).1 (cc)
same_to a b same = absurd (kinds_differ (error_seen a) (error_seen b) refl same)

pub error_law : IsEqualityBy error_seen error.ghosts.eq
error_law a b = (same_from a b, same_to a b)

pub fault_law : IsEquality choice.ghosts.eq
fault_law a b = (
  same_choice a b,
  λ same. subst (λ (c : SheetFault). choice.ghosts.eq a c ≡ true) same (choice_itself a),
)
