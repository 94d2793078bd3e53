-- The first table of a name with its data, and why these aren't had.
use Rattle.std.proofs.Common.{◌≡◌, ◌∙◌, ◌⊎◌, inl, inr, ap, sym, subst, refl, ℕ, List, Option, Some}
use Rattle.std.proofs.Common.{None, Bool, true, false}
use Rattle.std.specs.Prelude.{IsSome, IsSomeAnd}
use Rattle.cell_data.specs.Words.{table_data}
use Rattle.cell_data.specs.declared.range.Range.{Range}
use Rattle.cell_data.specs.declared.table.Table.{Table}
use Rattle.cell_data.specs.declared.value.Data.{Data}
use Rattle.cell_data.specs.declared.value.HeaderRow.{HeaderRow}
use Rattle.cell_data.specs.declared.value.HeaderRow.TheVariants.{FirstNonEmptyRow}
use Rattle.cell_refs.specs.declared.dimensions.Dimensions.{Dimensions}
use Rattle.input_package.specs.Told.{Told}
use Rattle.part_events.specs.Words.{Part, PackageState}
use Rattle.xlsx_error.specs.declared.error.XlsxError.{XlsxError}
use Rattle.xlsx_error.specs.declared.error.XlsxError.TheVariants as workbook
use Rattle.xlsx_cells.specs.Words.{values_alone, values_and_styles}
use Rattle.xlsx_values.specs.Words.{ValueContext}
use Rattle.xlsx_tables.specs.Tables.{SheetTable, tables_of, TablesCause}
use Rattle.xlsx_workbook.specs.Words.{PlacedSheet}
use Rattle.xlsx_open.specs.Words.{Opening, SharedSaid, shared_said}
use Rattle.xlsx_core.specs.Words.{opened_context, path_named, ShowsValuesIn, first_table}
use Rattle.xlsx_core.specs.Words.{table_of_book, AreaFails, TableDataFails, IsOfTable}
use Rattle.xlsx_core.specs.Words.{ReadsValuesIn, loaded_tables, RangeCause, path_of}
use Rattle.xlsx_core.specs.Words.{context_of_book}
use Rattle.xlsx_core.specs.declared.xlsx.Xlsx.{Xlsx}
use Rattle.xlsx_core.proofs.SheetLaws.{are_alike, same_context}
use Rattle.xlsx_core.proofs.SheetsRead.{opens_placed}
use Rattle.xlsx_commands.specs.Outputs.{CallFails}
use Rattle.xlsx_commands.specs.Status.{of_workbook}
use Rattle.xlsx_commands.specs.TableLists.{HasTables, ListedTablesCause, HasNamedTable}
use Rattle.xlsx_commands.specs.TableLists.{NamesNoTable, HasTableCause, NamedTableCause, HasDataIn}
use Rattle.xlsx_commands.specs.TableLists.{HasTable, table_wants}
use Rattle.xlsx_commands.specs.SheetsRefused.{ListingFails}
use Rattle.xlsx_commands.specs.TablesOpened.{OpensWithTables}
use Rattle.xlsx_commands.specs.declared.error.ToolError.{ToolError}
use Rattle.xlsx_commands.specs.declared.error.ToolError.TheVariants.{Workbook}
use Rattle.xlsx_commands.proofs.MemoryCalls.{memory_fails, IsInMemory}
use Rattle.xlsx_commands.proofs.NamedSheets.{OpeningsNever}
use Rattle.xlsx_commands.proofs.SheetsOpened.{same_sheets}
use Rattle.xlsx_commands.proofs.TablesListed.{tables_never}

-- a workbook that doesn't open with its tables has no table of a name
pub loading_is_named : (shown : Bool) (parts : List Part) (name : List ℕ) (error : ToolError)
    → ListingFails TablesCause parts error → CallFails (NamedTableCause shown parts name) error
loading_is_named shown parts name (Workbook (workbook.TableNotFound asked)) fails = absurd fails
loading_is_named shown parts name (Workbook (workbook.PivotTableNotFound asked)) fails =
    absurd fails
loading_is_named shown parts name (Workbook error) fails = inl fails
loading_is_named shown parts name error fails = fails

-- what is said twice of what is there
both_of : {A : Type 0} (o : Option A) (one two : A → Type 0) → IsSomeAnd o one → IsSomeAnd o two
    → (x : A) × (o ≡ Some x) × one x × two x
both_of None one two first second = absurd first
both_of (Some x) one two first second = (x, refl, first, second)

-- a refusal that isn't for want of the table
abbrev IsOther : XlsxError → Type 0
IsOther (workbook.TableNotFound asked) = ⊥
IsOther error = Unit {0}

cause_is_named : (shown : Bool) (parts : List Part) (name : List ℕ) (error : XlsxError)
    → IsOther error → HasTableCause shown parts name error
    → NamedTableCause shown parts name error
cause_is_named shown parts name (workbook.TableNotFound asked) other has = absurd other
cause_is_named shown parts name error other has = inr has

-- what is shown by the same is shown alike
shows_alike : (rests context : ValueContext) (shares shared : SharedSaid) (counts is_1904 : Bool)
    (over header : HeaderRow) (area : Option Dimensions) (at path : Option (List ℕ))
    (held parts : List Part) (range : Range Data) → rests ≡ context → shares ≡ shared
    → counts ≡ is_1904 → over ≡ header → at ≡ path → held ≡ parts
    → ShowsValuesIn rests shares counts over area at held range
    → ShowsValuesIn context shared is_1904 header area path parts range
shows_alike rests context shares shared counts is_1904 over header area at path held parts range
    resting sharing counting heading standing holding shows =
    subst (λ (own : ValueContext). ShowsValuesIn own shared is_1904 header area path parts range)
    resting
    (subst (λ (own : SharedSaid). ShowsValuesIn rests own is_1904 header area path parts range)
    sharing
    (subst (λ (own : Bool). ShowsValuesIn rests shares own header area path parts range) counting
    (subst (λ (own : HeaderRow). ShowsValuesIn rests shares counts own area path parts range)
    heading
    (subst (λ (own : Option (List ℕ)). ShowsValuesIn rests shares counts over area own parts range)
    standing
    (subst (λ (own : List Part). ShowsValuesIn rests shares counts over area at own range) holding
    shows)))))

module _ (parts : List Part) (name : List ℕ) (xlsx : Xlsx Told)
    (opened : OpensWithTables parts xlsx) where
  abbrev has_tables : HasTables parts (loaded_tables xlsx)
  has_tables = record {
    opening = opened.opening;
    opens = opened.opens;
    taken = opened.taken;
  }

  book_path : (sheet : List ℕ) → path_of xlsx sheet ≡ path_named sheet opened.opening.sheets
  book_path sheet =
      let placed = opens_placed sheet opened.opening opened.holds opened.opens in
      placed.listed
      ∙ ap (path_named sheet)
      (are_alike parts placed.opening opened.opening placed.opens opened.opens).sheets

  book_context : context_of_book xlsx ≡ opened_context opened.opening
  book_context =
      let placed = opens_placed name opened.opening opened.holds opened.opens in
      placed.rests ∙ same_context parts placed.opening opened.opening placed.opens opened.opens

  own_cause : (shown : Bool) (own : SheetTable) (error : XlsxError)
      → table_of_book xlsx name ≡ Some own → IsSome own.table.area
      → RangeCause own.sheet (table_wants shown) (context_of_book xlsx) (path_of xlsx own.sheet)
      xlsx.xml.source.parts error → HasTableCause shown parts name error
  own_cause shown own error is area cause = record {
    own = own;
    has = record { tables = loaded_tables xlsx; has = has_tables; named = is };
    area = area;
    cause = subst (λ (context : ValueContext). RangeCause own.sheet (table_wants shown) context
        (path_named own.sheet opened.opening.sheets) parts error) book_context
        (subst (λ (path : Option (List ℕ)). RangeCause own.sheet (table_wants shown)
        (context_of_book xlsx) path parts error) (book_path own.sheet)
        (subst (λ (held : List Part). RangeCause own.sheet (table_wants shown)
        (context_of_book xlsx) (path_of xlsx own.sheet) held error) opened.same cause));
  }

  area_fails : (shown : Bool) (own : SheetTable) (new : PackageState) (error : XlsxError)
      → IsInMemory new → table_of_book xlsx name ≡ Some own → IsOther error
      → AreaFails (table_wants shown) xlsx own.sheet own.table.area xlsx.xml.source new error
      → CallFails (NamedTableCause shown parts name) (of_workbook error)
  area_fails shown own new workbook.OutOfMemory memory is other fails = tt
  area_fails shown own new (workbook.NotAWorksheet kind) memory is other fails = absurd fails.1
  area_fails shown own new error memory is other fails =
      memory_fails (NamedTableCause shown parts name)
      (RangeCause own.sheet (table_wants shown) (context_of_book xlsx) (path_of xlsx own.sheet)
      xlsx.xml.source.parts) xlsx.xml.source new error memory opened.told
      (λ cause. cause_is_named shown parts name error other
      (own_cause shown own error is fails.0 cause)) fails.1

  pub data_fails : (shown : Bool) (new : PackageState) (error : XlsxError) → IsInMemory new
      → TableDataFails (table_wants shown) xlsx name xlsx.xml.source new error
      → CallFails (NamedTableCause shown parts name) (of_workbook error)
  data_fails shown new workbook.OutOfMemory memory fails = tt
  data_fails shown new (workbook.TableNotFound asked) memory fails = (
    fails.0,
    record { tables = loaded_tables xlsx; has = has_tables; none = fails.1 },
  )
  data_fails shown new error memory fails =
      let (own, is, area, again) = both_of (table_of_book xlsx name)
      (λ own. AreaFails (table_wants shown) xlsx own.sheet own.table.area xlsx.xml.source new error)
      (λ own. AreaFails (table_wants shown) xlsx own.sheet own.table.area xlsx.xml.source new error)
      fails fails in
      area_fails shown own new error memory is tt area

  pub has_table : (table : Table Data)
      → IsSomeAnd (table_of_book xlsx name) (λ own. IsOfTable own table)
      → IsSomeAnd (table_of_book xlsx name) (λ own. ReadsValuesIn (context_of_book xlsx)
      xlsx.workbook.header_row own.table.area (path_of xlsx own.sheet) xlsx.xml.source.parts
      (table_data table)) → HasTable false parts name table
  has_table table named reads =
      let (own, is, of_own, from) = both_of (table_of_book xlsx name)
      (λ own. IsOfTable own table)
      (λ own. ReadsValuesIn (context_of_book xlsx) xlsx.workbook.header_row own.table.area
      (path_of xlsx own.sheet) xlsx.xml.source.parts (table_data table)) named reads in
      let area = own.table.area in
      let there = path_named own.sheet opened.opening.sheets in
      record {
        own = own;
        has = record { tables = loaded_tables xlsx; has = has_tables; named = is };
        is = of_own;
        reads = subst (λ (context : ValueContext). ReadsValuesIn context FirstNonEmptyRow area there
            parts (table_data table)) book_context
            (subst (λ (header : HeaderRow). ReadsValuesIn (context_of_book xlsx) header area there
            parts (table_data table)) opened.header_row
            (subst (λ (path : Option (List ℕ)). ReadsValuesIn (context_of_book xlsx)
            xlsx.workbook.header_row area path parts (table_data table)) (book_path own.sheet)
            (subst (λ (held : List Part). ReadsValuesIn (context_of_book xlsx)
            xlsx.workbook.header_row area
            (path_of xlsx own.sheet) held (table_data table)) opened.same from)));
      }

  pub has_shown_table : (table : Table Data)
      → IsSomeAnd (table_of_book xlsx name) (λ own. IsOfTable own table)
      → IsSomeAnd (table_of_book xlsx name) (λ own. ShowsValuesIn (context_of_book xlsx)
      (shared_said xlsx.workbook.shared) xlsx.workbook.is_1904 xlsx.workbook.header_row
      own.table.area
      (path_of xlsx own.sheet) xlsx.xml.source.parts (table_data table))
      → HasTable true parts name table
  has_shown_table table named shows =
      let opening = opened.opening in
      let (own, is, of_own, from) = both_of (table_of_book xlsx name)
      (λ own. IsOfTable own table)
      (λ own. ShowsValuesIn (context_of_book xlsx) (shared_said xlsx.workbook.shared)
      xlsx.workbook.is_1904 xlsx.workbook.header_row own.table.area (path_of xlsx own.sheet)
      xlsx.xml.source.parts
      (table_data table)) named shows in
      record {
        own = own;
        has = record { tables = loaded_tables xlsx; has = has_tables; named = is };
        is = of_own;
        reads = shows_alike (context_of_book xlsx) (opened_context opening)
            (shared_said xlsx.workbook.shared) opening.shared xlsx.workbook.is_1904 opening.is_1904
            xlsx.workbook.header_row FirstNonEmptyRow own.table.area (path_of xlsx own.sheet)
            (path_named own.sheet opening.sheets) xlsx.xml.source.parts parts (table_data table)
            book_context opened.holds.shared opened.holds.epoch opened.header_row
            (book_path own.sheet) opened.same from;
      }

-- ---- what is had isn't refused

-- what is read in an area isn't refused, as each is, and so isn't what is shown
pub record AreasNever : Type 0 where
  pub values :
      (context : ValueContext) (header : HeaderRow) (name : List ℕ) (area : Dimensions)
      (path : Option (List ℕ)) (parts : List Part) (range : Range Data) (error : XlsxError) →
      ReadsValuesIn context header (Some area) path parts range →
      RangeCause name values_alone context path parts error → ⊥
  pub shown :
      (context : ValueContext) (shared : SharedSaid) (is_1904 : Bool) (header : HeaderRow)
      (name : List ℕ) (area : Dimensions) (path : Option (List ℕ)) (parts : List Part)
      (range : Range Data) (error : XlsxError) →
      ShowsValuesIn context shared is_1904 header (Some area) path parts range →
      RangeCause name values_and_styles context path parts error → ⊥

area_never : AreasNever → (shown : Bool) (opening : Opening) (name : List ℕ)
    (area : Option Dimensions) (path : Option (List ℕ)) (parts : List Part) (range : Range Data)
    (error : XlsxError) → IsSome area → HasDataIn shown opening area path parts range
    → RangeCause name (table_wants shown) (opened_context opening) path parts error → ⊥
area_never areas shown opening name None path parts range error there reads cause = absurd (cc)
area_never areas false opening name (Some area) path parts range error there reads cause =
    areas.values (opened_context opening) FirstNonEmptyRow name area path parts range error reads
    cause
area_never areas true opening name (Some area) path parts range error there shows cause =
    areas.shown (opened_context opening) opening.shared opening.is_1904 FirstNonEmptyRow name area
    path parts range error shows cause

-- the tables of a workbook are had once
pub same_tables : (parts : List Part) (one two : List SheetTable) → HasTables parts one
    → HasTables parts two → one ≡ two
same_tables parts one two first second =
    let sheets = same_sheets parts first.opening second.opening first.opens second.opens in
    let both : Some one ≡ Some two = sym first.taken ∙ ap (tables_of parts) sheets ∙ second.taken in
    cc

pub same_table : (parts : List Part) (name : List ℕ) (one two : SheetTable)
    → HasNamedTable parts name one → HasNamedTable parts name two → one ≡ two
same_table parts name one two first second =
    let both : Some one ≡ Some two = sym first.named
    ∙ ap (first_table name) (same_tables parts first.tables second.tables first.has second.has)
    ∙ second.named in
    cc

lacks_never : (parts : List Part) (name : List ℕ) (own : SheetTable)
    → HasNamedTable parts name own → NamesNoTable parts name → ⊥
lacks_never parts name own has lacks =
    let both : Some own ≡ None = sym has.named
    ∙ ap (first_table name) (same_tables parts has.tables lacks.tables has.has lacks.has)
    ∙ lacks.none in
    absurd (cc)

cause_never : (shown : Bool) (parts : List Part) (name : List ℕ) (table : Table Data)
    (error : XlsxError) → AreasNever → HasTable shown parts name table
    → HasTableCause shown parts name error → ⊥
cause_never shown parts name table error areas has cause =
    let here = has.has.has in
    let there = cause.has.has in
    let wants = table_wants shown in
    let sheets = (are_alike parts there.opening here.opening there.opens here.opens).sheets in
    let context = same_context parts there.opening here.opening there.opens here.opens in
    let own = same_table parts name cause.own has.own cause.has has.has in
    let sheet = has.own.sheet in
    area_never areas shown here.opening sheet has.own.table.area
    (path_named sheet here.opening.sheets) parts (table_data table) error
    (subst (λ (one : SheetTable). IsSome one.table.area) own cause.area) has.reads
    (subst (λ (rests : ValueContext). RangeCause sheet wants rests
    (path_named sheet here.opening.sheets) parts error) context
    (subst (λ (placed : List PlacedSheet). RangeCause sheet wants (opened_context there.opening)
    (path_named sheet placed) parts error) sheets
    (subst (λ (one : SheetTable). RangeCause one.sheet wants (opened_context there.opening)
    (path_named one.sheet there.opening.sheets) parts error) own cause.cause)))

either_never : (shown : Bool) (parts : List Part) (name : List ℕ) (table : Table Data)
    (error : XlsxError) → OpeningsNever → AreasNever
    → HasTable shown parts name table
    → ListedTablesCause parts error ⊎ HasTableCause shown parts name error → ⊥
either_never shown parts name table error opened areas has (inl cause) =
    tables_never parts has.has.tables error opened has.has.has cause
either_never shown parts name table error opened areas has (inr cause) =
    cause_never shown parts name table error areas has cause

pub table_never : (shown : Bool) (parts : List Part) (name : List ℕ) (table : Table Data)
    (error : XlsxError) → OpeningsNever → AreasNever
    → HasTable shown parts name table → NamedTableCause shown parts name error → ⊥
table_never shown parts name table (workbook.TableNotFound asked) opened areas has cause =
    lacks_never parts name has.own has.has cause.1
table_never shown parts name table error opened areas has cause =
    either_never shown parts name table error opened areas has cause
