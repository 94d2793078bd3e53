-- A command has one output on a package: what it prints is a function of what is read, and that is
-- read in one way.
use Rattle.std.proofs.Common.{◌≡◌, ◌∙◌, refl, ap, sym, subst, ℕ, List, Option, Some, None, map}
use Rattle.std.proofs.Common.{Bool, true, false}
use Rattle.std.specs.Prelude.{T, ◌&&◌, if◌then◌else◌, ◌++◌, ◌∷◌, [], filter}
use Rattle.std.proofs.lemmas.Cmp.{nat_list_cmp_total}
use Rattle.std.proofs.lemmas.Map.Lookups.{exact_bytes}
use Rattle.std.specs.BTreeMap.{is_at}
use Rattle.std.specs.Cmp.Lexicographic.{slice_cmp}
use Rattle.std.specs.FinMap.Entries.{below_all, find, is_sorted, same_entries}
use Rattle.std.specs.List.{AllByRecursion}
use Rattle.std.specs.List.Sorted.{IsStrictlySortedBy}
use Rattle.std.specs.Map.{keys_of}
use Rattle.std.specs.Ordering.{is_lt, nat_cmp}
use Rattle.std.specs.declared.cmp.Ordering.{Ordering}
use Rattle.std.specs.declared.cmp.Ordering.TheVariants.{Less}
use Rattle.book_names.specs.Book.{Book}
use Rattle.cell_data.specs.Words.{nothing, value_of_data, value_pairs, formula_pairs, with_meaning}
use Rattle.cell_data.specs.Words.{table_data}
use Rattle.cell_data.specs.declared.range.Range.{Range}
use Rattle.cell_data.specs.declared.table.Table.{Table}
use Rattle.cell_data.specs.declared.value.Data.{Data}
use Rattle.cell_data.specs.declared.value.HeaderRow.TheVariants.{FirstNonEmptyRow}
use Rattle.cell_refs.specs.Words.{is_in_area, last_of_each}
use Rattle.cell_refs.specs.declared.dimensions.Dimensions.{Dimensions}
use Rattle.cell_styles.specs.Words.{StyleMap}
use Rattle.package_text.specs.WrittenPackage.{written_package}
use Rattle.part_events.specs.Words.{Part}
use Rattle.sheet_listing.specs.SampleLines.{sample_lines}
use Rattle.xlsx_cells.specs.Words.{with_texts}
use Rattle.xlsx_check.specs.Lines.{check_lines}
use Rattle.looks.specs.Words.{look_said}
use Rattle.xlsx_core.specs.Words.{merges_placed, placed_links_look, SayTheSame, events_at}
use Rattle.xlsx_core.specs.Words.{opened_context, path_named, ShowsValuesIn, ReadsValuesIn}
use Rattle.xlsx_core.specs.Words.{IsRangeIn, AnswersValues, below_header}
use Rattle.xlsx_core.proofs.RangesRead.{same_values}
use Rattle.xlsx_core.proofs.ShownLaws.{one_shown, one_shown_in}
use Rattle.list_lines.specs.declared.content.LineForm.{LineForm}
use Rattle.xlsx_core.proofs.SheetLaws.{are_alike, same_context, same_shared}
use Rattle.xlsx_graph.specs.Words.{GraphFormula, all_dependents_lines}
use Rattle.xlsx_open.specs.Words.{Opening, OpensAs, without_path}
use Rattle.xlsx_open.proofs.Sound.{both_at}
use Rattle.xlsx_writer.specs.Words.{PlacedFormulas, PlacedValues, written_parts}
use Rattle.xlsx_writer.specs.declared.form.WrittenForm.TheVariants.{PackageText}
use Rattle.xlsx_pivot_cache.specs.Words.{cache_rows}
use Rattle.xlsx_pivots.specs.Words.{pairs_of, PivotSaid}
use Rattle.xlsx_precedents.specs.Lines.{precedents_lines}
use Rattle.xlsx_precedents.specs.Lines as of_sheet
use Rattle.xlsx_properties.specs.Parts.{PropertiesSaid, properties_with}
use Rattle.xlsx_properties.specs.declared.property.Property.{Property}
use Rattle.xlsx_tables.specs.Tables.{SheetTable}
use Rattle.xlsx_values.specs.Words.{ValueContext}
use Rattle.xlsx_workbook.specs.Words.{PlacedSheet}
use Rattle.csv_rows.specs.declared.options.CsvOptions.{CsvOptions}
use Rattle.xlsx_commands.specs.BookLists.{AreSheetLines, AreNameLines, sheet_lines, name_lines}
use Rattle.xlsx_commands.specs.CacheRows.{ArePivotRows, row_lines}
use Rattle.xlsx_commands.specs.Command.{Command, cells, sheets, names, merges, links, props, csv}
use Rattle.xlsx_commands.specs.Command.{csv_table, tables, table, pivots, pivot, precedents}
use Rattle.xlsx_commands.specs.Command.{dependents, check, part, upgrade, resave, sample, comments}
use Rattle.xlsx_commands.specs.Command.{resave_file, json_rows, table_objects, all_dependents}
use Rattle.xlsx_commands.specs.Command.{workbook_graph, widths}
use Rattle.xlsx_commands.specs.FormulaLists.{ArePrecedentLines, AreDependentLines, AreCheckLines}
use Rattle.xlsx_commands.specs.GraphLists.{AreAllDependents, AreGraphLines, cell_on}
use Rattle.xlsx_commands.specs.GraphLists.{graph_list_lines}
use Rattle.xlsx_commands.specs.Outputs.{IsOutput, IsResaved}
use Rattle.xlsx_commands.specs.PartNames.{IsPartLine}
use Rattle.xlsx_commands.specs.PivotLists.{ArePivotLines, pivot_lines}
use Rattle.xlsx_commands.specs.PropertyLists.{ArePropertyLines, property_lines, custom_lines}
use Rattle.xlsx_commands.specs.PropertyLists.{text_of_name, AreByName}
use Rattle.xlsx_commands.specs.ResavedFile.{IsResavedFile, sheet_file}
use Rattle.xlsx_commands.specs.SampleLines.{AreSampleLines, sample_name}
use Rattle.xlsx_commands.specs.SheetLists.{HasNamed, AreMergeLines, AreLookLines, merge_lines}
use Rattle.xlsx_commands.specs.SheetLists.{link_lines, comment_lines, NamedLook, named_comments}
use Rattle.xlsx_commands.specs.SheetLists.{named_widths, width_lines}
use Rattle.xlsx_commands.specs.TableLists.{AreTableLines, AreTableValueLines, table_lines}
use Rattle.xlsx_commands.specs.TableLists.{HasDataIn, HasTable}
use Rattle.xlsx_commands.specs.RowObjects.{objects_placed}
use Rattle.xlsx_commands.specs.TableObjects.{column_keys, AreTableObjects}
use Rattle.xlsx_commands.specs.TableRows.{AreTableRows, table_records}
use Rattle.xlsx_commands.specs.declared.asked_rows.AskedTable.{AskedTable}
use Rattle.xlsx_commands.specs.declared.command.GraphList.{GraphList}
use Rattle.xlsx_commands.proofs.CachesRead.{same_cache, same_pivots}
use Rattle.xlsx_commands.proofs.GraphsListed.{same_graph, same_sheet}
use Rattle.xlsx_commands.proofs.NamedSheets.{same_path}
use Rattle.xlsx_commands.proofs.OneListing.{AreReadAlike, one_form}
use Rattle.xlsx_commands.proofs.ObjectsPlaced.{same_json_rows}
use Rattle.xlsx_commands.proofs.RowsPlaced.{HaveSameRowValues, same_rows, row_values_alike}
use Rattle.xlsx_commands.proofs.TablesNamed.{same_tables, same_table}
use Rattle.list_lines.specs.Lines.{lone_text_line}
use Rattle.sheet_listing.specs.SheetListing.{value_lines}

-- ---- what is read of a sheet

-- what two readings of values and formulas make
by_both : (print : PlacedValues → PlacedFormulas → List ℕ) (values more : PlacedValues)
    (formulas further : PlacedFormulas) → values ≡ more → formulas ≡ further
    → print values formulas ≡ print more further
by_both print values more formulas further same alike =
    ap (λ (own : PlacedValues). print own formulas) same ∙ ap (print more) alike

one_precedents : (parts : List Part) (name one other : List ℕ) → AreReadAlike parts parts name
    → ArePrecedentLines parts name one → ArePrecedentLines parts name other → one ≡ other
one_precedents parts name one other law first second =
    let same = law first.values second.values first.formulas second.formulas first.styles
    second.styles first.reads second.reads in
    first.listed ∙ ap precedents_lines same.1 ∙ sym second.listed

one_dependents : (parts : List Part) (name : List ℕ) (position : ℕ × ℕ) (one other : List ℕ)
    → AreReadAlike parts parts name → AreDependentLines parts name position one
    → AreDependentLines parts name position other → one ≡ other
one_dependents parts name position one other law first second =
    let same = law first.values second.values first.formulas second.formulas first.styles
    second.styles first.reads second.reads in
    first.listed
    ∙ ap (λ (own : PlacedFormulas). of_sheet.dependents_lines own position) same.1
    ∙ sym second.listed

one_check : (parts : List Part) (name one other : List ℕ) → AreReadAlike parts parts name
    → AreCheckLines parts name one → AreCheckLines parts name other → one ≡ other
one_check parts name one other law first second =
    let same = law first.values second.values first.formulas second.formulas first.styles
    second.styles first.reads second.reads in
    first.listed
    ∙ by_both (λ values formulas. check_lines values formulas) first.values second.values
    first.formulas second.formulas same.0 same.1
    ∙ sym second.listed

one_resaved : (parts : List Part) (name one other : List ℕ) → AreReadAlike parts parts name
    → IsResaved parts name one → IsResaved parts name other → one ≡ other
one_resaved parts name one other law first second =
    let same = law first.values second.values first.formulas second.formulas first.styles
    second.styles first.reads second.reads in
    first.saved
    ∙ by_both
    (λ values formulas. written_package (written_parts PackageText name values formulas) ++ 10 ∷ [])
    first.values second.values first.formulas second.formulas same.0 same.1
    ∙ sym second.saved

one_file : (parts : List Part) (name one other : List ℕ) → AreReadAlike parts parts name
    → IsResavedFile parts name one → IsResavedFile parts name other → one ≡ other
one_file parts name one other law first second =
    let same = law (value_pairs first.values) (value_pairs second.values)
    (formula_pairs first.formulas) (formula_pairs second.formulas) first.styles second.styles
    first.reads second.reads in
    first.saved
    ∙ by_both (sheet_file name) (value_pairs first.values) (value_pairs second.values)
    (formula_pairs first.formulas) (formula_pairs second.formulas) same.0 same.1
    ∙ sym second.saved

-- how much of a sheet has a style goes by the ids of its positions
sample_alike : (rows : ℕ) (values : PlacedValues) (formulas : PlacedFormulas) (one two : StyleMap)
    → SayTheSame one two → sample_lines rows values formulas one
    ≡ sample_lines rows values formulas two
sample_alike rows values formulas one two same = rw (same.bounds, same.ids) refl

one_sample : (rows : ℕ) (parts : List Part) (one other : List ℕ)
    → AreReadAlike parts parts sample_name → AreSampleLines rows parts one
    → AreSampleLines rows parts other → one ≡ other
one_sample rows parts one other law first second =
    let same = law first.values second.values first.formulas second.formulas first.styles
    second.styles first.reads second.reads in
    first.listed
    ∙ by_both (λ values formulas. sample_lines rows values formulas first.styles) first.values
    second.values first.formulas second.formulas same.0 same.1
    ∙ sample_alike rows second.values second.formulas first.styles second.styles same.2
    ∙ sym second.listed

-- the values of rows, as they are or as they are shown, are one
one_row_values : (parts : List Part) (name : List ℕ) → AreReadAlike parts parts name
    → HaveSameRowValues parts parts name
one_row_values parts name law = row_values_alike parts parts name law (one_shown parts name)

-- ---- what an opening says

one_sheets : (form : LineForm) (parts : List Part) (one other : List ℕ)
    → AreSheetLines form parts one
    → AreSheetLines form parts other → one ≡ other
one_sheets form parts one other first second =
    first.listed
    ∙ ap (λ (own : List PlacedSheet). sheet_lines form (map without_path own))
    (are_alike parts first.opening second.opening first.opens second.opens).sheets
    ∙ sym second.listed

one_names : (form : LineForm) (parts : List Part) (one other : List ℕ) → AreNameLines form parts one
    → AreNameLines form parts other → one ≡ other
one_names form parts one other first second =
    first.listed
    ∙ ap (name_lines form) (are_alike parts first.opening second.opening first.opens
    second.opens).names
    ∙ sym second.listed

-- what is said of the part of the first sheet of a name is said once
one_named : {A : Type 0} (say : Option (List ℕ) → List Part → Option A) (parts : List Part)
    (name : List ℕ) (one two : A) → HasNamed (λ path own. say path own ≡ Some one) parts name
    → HasNamed (λ path own. say path own ≡ Some two) parts name → one ≡ two
one_named say parts name one two (path, opens, says) (other, there, again) =
    let at = same_path parts name path other opens there in
    let both : Some one ≡ Some two =
    sym says ∙ ap (λ (own : Option (List ℕ)). say own parts) at ∙ again in
    cc

one_merges : (form : LineForm) (parts : List Part) (name one other : List ℕ)
    → AreMergeLines form parts name one
    → AreMergeLines form parts name other → one ≡ other
one_merges form parts name one other first second =
    first.listed
    ∙ ap (merge_lines form) (one_named merges_placed parts name first.areas second.areas first.has
    second.has)
    ∙ sym second.listed

-- what is printed of what a look at a sheet says
one_look : {A : Type 0} (look : NamedLook A) (printed : A → List ℕ) (parts : List Part)
    (name one other : List ℕ) → AreLookLines look printed parts name one
    → AreLookLines look printed parts name other → one ≡ other
one_look look printed parts name one other first second =
    first.listed
    ∙ ap printed (one_named (λ path own. look_said (look name path) own) parts name first.said
    second.said first.has second.has)
    ∙ sym second.listed

one_part : (parts : List Part) (name one other : List ℕ) → IsPartLine parts name one
    → IsPartLine parts name other → one ≡ other
one_part parts name one other first second =
    let both : Some first.path ≡ Some second.path =
    same_path parts name (Some first.path) (Some second.path) first.opens second.opens in
    let path : first.path ≡ second.path = cc in
    first.printed ∙ ap lone_text_line path ∙ sym second.printed

-- ---- properties

-- names are compared by their bytes
abbrev name_cmp : List ℕ → List ℕ → Ordering
name_cmp = slice_cmp nat_cmp

both_true : (one two : Bool) → T one → T two → T (one && two)
both_true true two first second = second
both_true false two first second = absurd first

below_rest : (name : List ℕ) (customs : List (List ℕ × List ℕ))
    → AllByRecursion (λ other. name_cmp name other ≡ Less) (keys_of customs)
    → T (below_all name_cmp name customs)
below_rest name [] below = tt
below_rest name (own ∷ customs) below =
    both_true (is_lt (name_cmp name own.0)) (below_all name_cmp name customs)
    (subst (λ (order : Ordering). T (is_lt order)) (sym below.0) tt)
    (below_rest name customs below.1)

sorted_names : (customs : List (List ℕ × List ℕ)) → AreByName customs
    → T (is_sorted name_cmp customs)
unfolding IsStrictlySortedBy
sorted_names [] named = tt
sorted_names (own ∷ customs) named =
    both_true (below_all name_cmp own.0 customs) (is_sorted name_cmp customs)
    (below_rest own.0 customs named.0) (sorted_names customs named.1)

found_name : (name : List ℕ) (customs : List (List ℕ × List ℕ))
    → find name_cmp name customs ≡ text_of_name customs name
found_name name [] = refl
found_name name (own ∷ customs) =
    elim (is_at (name_cmp name) own.0) as (λ b.
    (if b then Some own.1 else find name_cmp name customs)
    ≡ (if b then Some own.1 else text_of_name customs name)) [
      | true ↦ refl
      | false ↦ found_name name customs
    ]

-- two lists by name that have the same texts are one
one_by_name : (one two : List (List ℕ × List ℕ)) → AreByName one → AreByName two
    → ((name : List ℕ) → text_of_name one name ≡ text_of_name two name) → one ≡ two
one_by_name one two first second same =
    same_entries name_cmp nat_list_cmp_total exact_bytes one two (sorted_names one first)
    (sorted_names two second)
    (λ name. found_name name one ∙ same name ∙ sym (found_name name two))

one_properties : (form : LineForm) (parts : List Part) (one other : List ℕ)
    → ArePropertyLines form parts one
    → ArePropertyLines form parts other → one ≡ other
one_properties form parts one other first second =
    let both : Some (properties_with first.texts (text_of_name first.customs))
    ≡ Some (properties_with second.texts (text_of_name second.customs)) =
    sym first.say ∙ second.say in
    let said : properties_with first.texts (text_of_name first.customs)
    ≡ properties_with second.texts (text_of_name second.customs) = cc in
    let texts : first.texts ≡ second.texts = ap (λ (own : PropertiesSaid). own.texts) said in
    let customs = one_by_name first.customs second.customs first.by_name second.by_name
    (λ name. ap (λ (own : PropertiesSaid). own.customs name) said) in
    first.listed
    ∙ ap (λ (own : Property → Option (List ℕ)). property_lines form own
    ++ custom_lines form first.customs)
    texts
    ∙ ap (λ (own : List (List ℕ × List ℕ)). property_lines form second.texts
    ++ custom_lines form own) customs
    ∙ sym second.listed

-- ---- tables

one_tables : (form : LineForm) (parts : List Part) (one other : List ℕ)
    → AreTableLines form parts one
    → AreTableLines form parts other → one ≡ other
one_tables form parts one other first second =
    first.listed
    ∙ ap (table_lines form) (same_tables parts first.tables second.tables first.has second.has)
    ∙ sym second.listed

-- the values in an area of a sheet are read once
one_in_area : (context : ValueContext) (area : Option Dimensions) (path : Option (List ℕ))
    (parts : List Part) (one two : Range Data)
    → ReadsValuesIn context FirstNonEmptyRow area path parts one
    → ReadsValuesIn context FirstNonEmptyRow area path parts two
    → value_pairs one ≡ value_pairs two
one_in_area context None path parts one two first second =
    ap (map (with_meaning value_of_data)) (first.cells ∙ sym second.cells)
one_in_area context (Some area) path parts one two first second =
    let both = both_at (events_at path parts)
    (λ events. (values : PlacedValues) × AnswersValues context events values
    × IsRangeIn value_of_data FirstNonEmptyRow area (with_texts context.strings values) nothing one)
    (λ events. (values : PlacedValues) × AnswersValues context events values
    × IsRangeIn value_of_data FirstNonEmptyRow area (with_texts context.strings values) nothing two)
    first second in
    let (events, (values, answers, is), (others, again, also)) = both in
    is.cells
    ∙ ap (λ (own : PlacedValues). filter (λ cell. is_in_area area cell.0)
    (last_of_each (below_header FirstNonEmptyRow (with_texts context.strings own))))
    (same_values context events values others answers again)
    ∙ sym also.cells

-- and so is what is shown there, of openings that are alike
one_data_in : (shown : Bool) (parts : List Part) (here there : Opening)
    (area : Option Dimensions) (path : Option (List ℕ)) (one two : Range Data)
    → OpensAs parts here → OpensAs parts there → HasDataIn shown here area path parts one
    → HasDataIn shown there area path parts two → value_pairs one ≡ value_pairs two
one_data_in false parts here there area path one two opens again first second =
    one_in_area (opened_context there) area path parts one two
    (subst (λ (own : ValueContext). ReadsValuesIn own FirstNonEmptyRow area path parts one)
    (same_context parts here there opens again) first) second
one_data_in true parts here there area path one two opens again first second =
    one_shown_in (opened_context there) here.shared there.shared here.is_1904 there.is_1904 area
    path parts one two (same_shared parts here there opens again)
    (are_alike parts here there opens again).epoch
    (subst (λ (own : ValueContext). ShowsValuesIn own here.shared here.is_1904 FirstNonEmptyRow
    area path
    parts one) (same_context parts here there opens again) first) second

-- the data of the first table of a name are had once
one_table : (shown : Bool) (parts : List Part) (name : List ℕ) (one two : Table Data)
    (first : HasTable shown parts name one) (second : HasTable shown parts name two)
    → (first.own ≡ second.own) × (value_pairs (table_data one) ≡ value_pairs (table_data two))
one_table shown parts name one two first second =
    let here = first.has.has in
    let there = second.has.has in
    let own = same_table parts name first.own second.own first.has second.has in
    let placed = (are_alike parts here.opening there.opening here.opens there.opens).sheets in (
      own,
      one_data_in shown parts here.opening there.opening second.own.table.area
          (path_named second.own.sheet there.opening.sheets) (table_data one) (table_data two)
          here.opens there.opens
          (subst (λ (all : List PlacedSheet). HasDataIn shown here.opening second.own.table.area
          (path_named second.own.sheet all) parts (table_data one)) placed
          (subst (λ (said : SheetTable). HasDataIn shown here.opening said.table.area
          (path_named said.sheet here.opening.sheets) parts (table_data one)) own first.reads))
          second.reads,
    )

one_values : (parts : List Part) (name one other : List ℕ) → AreTableValueLines parts name one
    → AreTableValueLines parts name other → one ≡ other
one_values parts name one other first second =
    first.listed
    ∙ ap value_lines (one_table false parts name first.table second.table first.has second.has).1
    ∙ sym second.listed

one_records : (parts : List Part) (name : List ℕ) (asked : AskedTable) (one other : List ℕ)
    → AreTableRows parts name asked one → AreTableRows parts name asked other → one ≡ other
one_records parts name asked one other first second =
    let same = one_table asked.shown parts name first.table second.table first.has second.has in
    first.listed
    ∙ ap (λ (own : SheetTable). table_records asked.options own.table.area own.table.columns
    (value_pairs (table_data first.table))) same.0
    ∙ ap (table_records asked.options second.has.own.table.area second.has.own.table.columns) same.1
    ∙ sym second.listed

one_objects : (parts : List Part) (name : List ℕ) (options : CsvOptions) (one other : List ℕ)
    → AreTableObjects parts name options one → AreTableObjects parts name options other
    → one ≡ other
one_objects parts name options one other first second =
    let same = one_table false parts name first.table second.table first.has second.has in
    let own = second.has.own in
    first.listed
    ∙ ap (λ (own : SheetTable). objects_placed options (column_keys own)
    (value_pairs (table_data first.table)) own.table.area 0) same.0
    ∙ ap (λ (values : PlacedValues). objects_placed options (column_keys own) values
    own.table.area 0)
    same.1
    ∙ sym second.listed

-- ---- pivot tables

one_pivots : (form : LineForm) (parts : List Part) (one other : List ℕ)
    → ArePivotLines form parts one
    → ArePivotLines form parts other → one ≡ other
one_pivots form parts one other first second =
    first.listed
    ∙ ap (λ (own : List PivotSaid). pivot_lines form (pairs_of own))
    (same_pivots parts first.pivots second.pivots first.has second.has)
    ∙ sym second.listed

one_cache : (parts : List Part) (sheet name one other : List ℕ)
    → ArePivotRows parts sheet name one → ArePivotRows parts sheet name other → one ≡ other
one_cache parts sheet name one other first second =
    let same = same_cache parts sheet name first.definitions first.records second.definitions
    second.records first.has second.has in
    let both : Some first.rows ≡ Some second.rows = sym first.read
    ∙ ap (λ (own : List ℕ). cache_rows parts own first.records) same.0
    ∙ ap (cache_rows parts second.definitions) same.1 ∙ second.read in
    let rows : first.rows ≡ second.rows = cc in
    first.listed ∙ ap row_lines rows ∙ sym second.listed

-- ---- what formulas name in all of a workbook

one_graph : (list : GraphList) (parts : List Part) (one other : List ℕ)
    → AreGraphLines list parts one → AreGraphLines list parts other → one ≡ other
one_graph list parts one other first second =
    let same = same_graph parts first.book second.book first.formulas second.formulas first.has
    second.has in
    first.listed
    ∙ ap (λ (book : Book). graph_list_lines list book first.formulas) same.0
    ∙ ap (graph_list_lines list second.book) same.1
    ∙ sym second.listed

one_all : (parts : List Part) (name : List ℕ) (position : ℕ × ℕ) (one other : List ℕ)
    → AreAllDependents parts name position one → AreAllDependents parts name position other
    → one ≡ other
one_all parts name position one other first second =
    let same = same_graph parts first.book second.book first.formulas second.formulas first.has
    second.has in
    let sheet = same_sheet parts name first.has.opening second.has.opening first.sheet second.sheet
    first.has.opens second.has.opens first.called second.called in
    first.listed
    ∙ ap (λ (book : Book). all_dependents_lines book first.formulas (cell_on first.sheet position))
    same.0
    ∙ ap (λ (all : List GraphFormula). all_dependents_lines second.book all
    (cell_on first.sheet position)) same.1
    ∙ ap (λ (own : ℕ). all_dependents_lines second.book second.formulas
    (cell_on own position)) sheet
    ∙ sym second.listed

-- ---- a row for each command

pub one_output : ((parts : List Part) (name : List ℕ) → AreReadAlike parts parts name)
    → (command : Command) (parts : List Part) (one other : List ℕ) → IsOutput command parts one
    → IsOutput command parts other → one ≡ other
unfolding IsOutput
one_output alike (cells form name) parts one other first second =
    one_form form parts parts name one other (alike parts name) first second
one_output alike (sheets form) parts one other first second =
    one_sheets form parts one other first second
one_output alike (names form) parts one other first second =
    one_names form parts one other first second
one_output alike (merges form name) parts one other first second =
    one_merges form parts name one other first second
one_output alike (links form name) parts one other first second =
    one_look placed_links_look (link_lines form) parts name one other first second
one_output alike (comments form name) parts one other first second =
    one_look named_comments (comment_lines form) parts name one other first second
one_output alike (widths form name) parts one other first second =
    one_look named_widths (width_lines form) parts name one other first second
one_output alike (props form) parts one other first second =
    one_properties form parts one other first second
one_output alike (csv name asked) parts one other first second =
    same_rows parts parts name asked one other (one_row_values parts name (alike parts name)) first
    second
one_output alike (json_rows name asked) parts one other first second =
    same_json_rows asked.header parts parts name asked one other
    (one_row_values parts name (alike parts name)) first second
one_output alike (table_objects name options) parts one other first second =
    one_objects parts name options one other first second
one_output alike (csv_table name asked) parts one other first second =
    one_records parts name asked one other first second
one_output alike (tables form) parts one other first second =
    one_tables form parts one other first second
one_output alike (table name) parts one other first second =
    one_values parts name one other first second
one_output alike (pivots form) parts one other first second =
    one_pivots form parts one other first second
one_output alike (pivot sheet name) parts one other first second =
    one_cache parts sheet name one other first second
one_output alike (precedents name) parts one other first second =
    one_precedents parts name one other (alike parts name) first second
one_output alike (dependents name position) parts one other first second =
    one_dependents parts name position one other (alike parts name) first second
one_output alike (all_dependents name position) parts one other first second =
    one_all parts name position one other first second
one_output alike (workbook_graph list) parts one other first second =
    one_graph list parts one other first second
one_output alike (check name) parts one other first second =
    one_check parts name one other (alike parts name) first second
one_output alike (part name) parts one other first second =
    one_part parts name one other first second
one_output alike upgrade parts one other first second = first ∙ sym second
one_output alike (resave name) parts one other first second =
    one_resaved parts name one other (alike parts name) first second
one_output alike (resave_file name) parts one other first second =
    one_file parts name one other (alike parts name) first second
one_output alike (sample rows) parts one other first second =
    one_sample rows parts one other (alike parts sample_name) first second
