-- What is read of a sheet's data: of each cell what it gives by itself, wherever it stands.
use Rattle.std.proofs.Common.{◌≡◌, ℕ, zero, suc, Bool, true, false, cond, ◌&&◌, List, [], ◌∷◌, ◌++◌}
use Rattle.std.proofs.Common.{map, length, Some, Option, refl, sym, ap, ap₂, ◌∙◌, append_assoc}
use Rattle.std.specs.Prelude.{◌==◌, Result, Ok, codes}
use Rattle.std.specs.List.{flat_map, list_all}
use Rattle.std.proofs.lemmas.List.{map-append}
use Rattle.cell_refs.proofs.PositionOrder.{and_both, and_from}
use Rattle.part_events.specs.Words.{Tag, Event, start, end, leaf, Element, content, behind}
use Rattle.xlsx_writer.specs.Words.{SheetRow, in_rows, with_position}
use Rattle.xlsx_cells.specs.Words.{Mark, row_start, row_end, cell, marks_from, row_named}
use Rattle.xlsx_cells.specs.Words.{behind_row, answers_from}
use Rattle.xlsx_sections.specs.Words.{and_others, Refusal}
use Rattle.written_markup.specs.Words.{element}

-- what stands in an element: an end behind it is the element's
pub record IsPassed (inside : List Event) : Type 0 where
  pub content : (name : List ℕ) (rest : List Event) → content 0 (inside ++ end name ∷ rest) ≡ inside
  pub behind : (name : List ℕ) (rest : List Event) → behind 0 (inside ++ end name ∷ rest) ≡ rest

-- inside a cell nothing counts up to its end
marks_inside : (inside : ℕ) (events : List Event) →
    marks_from (suc inside) events ≡ marks_from 0 (behind inside events)
marks_inside inside [] = refl
marks_inside inside (start tag ∷ events) = marks_inside (suc inside) events
marks_inside zero (end name ∷ events) = refl
marks_inside (suc inside) (end name ∷ events) = marks_inside inside events
marks_inside inside (leaf kind ∷ events) = marks_inside inside events

-- the tag of a cell
abbrev pub cell_tag : List ℕ → Tag
cell_tag attributes = record { name = codes "c"; attributes = attributes }

-- the tag of a row
abbrev pub row_tag : List ℕ → Tag
row_tag attributes = record { name = codes "row"; attributes = attributes }

-- what stands in an element, and what follows
element_then : (name attributes : List ℕ) (inside rest : List Event) →
    element name attributes inside ++ rest
    ≡ start (record { name = name; attributes = attributes }) ∷ (inside ++ end name ∷ rest)
element_then name attributes inside rest =
    ap (λ (es : List Event). start (record { name = name; attributes = attributes }) ∷ es)
    (append_assoc inside (end name ∷ []) rest)

-- ---- positions that are cut into rows

-- the positions of rows
abbrev positions_in : List SheetRow → List (ℕ × ℕ)
positions_in rows = flat_map (λ found. found.positions) rows

rows_with : (p : ℕ × ℕ) (rows : List SheetRow) →
    positions_in (with_position p rows) ≡ p ∷ positions_in rows
rows_with p [] = refl
rows_with p (first ∷ rows) = by (p.0 == first.row) where
  by : (t : Bool) → positions_in (cond t
      (record { row = first.row; positions = p ∷ first.positions } ∷ rows)
      (record { row = p.0; positions = p ∷ [] } ∷ first ∷ rows))
      ≡ p ∷ positions_in (first ∷ rows)
  by true = refl
  by false = refl

rows_have : (positions : List (ℕ × ℕ)) → positions_in (in_rows positions) ≡ positions
rows_have [] = refl
rows_have (p ∷ ps) =
    rows_with p (in_rows ps) ∙ ap (λ (qs : List (ℕ × ℕ)). p ∷ qs) (rows_have ps)

module _ (fits : ℕ × ℕ → Bool) (fits_row : ℕ → Bool)
    (rows_fit : (p : ℕ × ℕ) → fits p ≡ true → fits_row p.0 ≡ true) where
  -- a row passes, and its positions
  abbrev row_fits : SheetRow → Bool
  row_fits found = fits_row found.row && list_all fits found.positions

  fits_with : (p : ℕ × ℕ) (rows : List SheetRow) → fits p ≡ true →
      list_all row_fits rows ≡ true → list_all row_fits (with_position p rows) ≡ true
  fits_with p [] here others =
      and_from (row_fits (record { row = p.0; positions = p ∷ [] })) true
      (and_from _ _ (rows_fit p here) (and_from _ _ here refl)) refl
  fits_with p (first ∷ rows) here others = by (p.0 == first.row) where
    by : (t : Bool) → list_all row_fits (cond t
        (record { row = first.row; positions = p ∷ first.positions } ∷ rows)
        (record { row = p.0; positions = p ∷ [] } ∷ first ∷ rows)) ≡ true
    by true =
        let (one, more) = and_both (row_fits first) (list_all row_fits rows) others in
        let (row, cells) = and_both (fits_row first.row) (list_all fits first.positions) one in
        and_from _ _ (and_from _ _ row (and_from _ _ here cells)) more
    by false =
        and_from _ _ (and_from _ _ (rows_fit p here) (and_from _ _ here refl)) others

  rows_are : (positions : List (ℕ × ℕ)) → list_all fits positions ≡ true →
      list_all row_fits (in_rows positions) ≡ true
  rows_are [] fit = refl
  rows_are (p ∷ ps) fit =
      let (first, further) = and_both (fits p) (list_all fits ps) fit in
      fits_with p (in_rows ps) first (rows_are ps further)

module _ {A : Type 0} (answer : List Mark → Element → Result A Refusal) where
  -- such events give these answers, whatever stands before them
  abbrev pub Gives : List Event → List A → Type 0
  Gives events all =
      (before : List Mark) → answers_from answer before (marks_from 0 events) ≡ Ok all

  -- such a cell gives this answer, wherever it stands
  abbrev pub CellGives : List ℕ → List Event → A → Type 0
  CellGives attributes inside a = (before : List Mark) (behind : ℕ) →
      answer before (record { tag = cell_tag attributes; inside = inside; behind = behind })
      ≡ Ok a

  gives_cell : (attributes : List ℕ) (inside rest : List Event) (a : A) (all : List A) →
      IsPassed inside → CellGives attributes inside a → Gives rest all →
      Gives (element (codes "c") attributes inside ++ rest) (a ∷ all)
  gives_cell attributes inside rest a all passed one others before =
      let events : List Event = inside ++ end (codes "c") ∷ rest in
      let here : Element = record {
        tag = cell_tag attributes;
        inside = content 0 events;
        behind = length events;
      } in
      ap (λ (es : List Event). answers_from answer before (marks_from 0 es))
      (element_then (codes "c") attributes inside rest)
      ∙ ap₂ and_others
      (ap (λ (es : List Event). answer before (record {
        tag = cell_tag attributes;
        inside = es;
        behind = length events;
      }))
      (passed.content (codes "c") rest) ∙ one before (length events))
      (ap (λ (ms : List Mark). answers_from answer (cell here ∷ before) ms)
      (marks_inside 0 events ∙ ap (marks_from 0) (passed.behind (codes "c") rest))
      ∙ others (cell here ∷ before))

  gives_row : (attributes : List ℕ) (row : Option ℕ) (inside rest : List Event) (all : List A) →
      row_named (row_tag attributes) ≡ Ok row →
      Gives (inside ++ end (codes "row") ∷ rest) all →
      Gives (element (codes "row") attributes inside ++ rest) all
  gives_row attributes row inside rest all named others before =
      ap (λ (es : List Event). answers_from answer before (marks_from 0 es))
      (element_then (codes "row") attributes inside rest)
      ∙ ap₂ behind_row named (others (row_start (row_tag attributes) ∷ before))

  gives_end : (rest : List Event) (all : List A) → Gives rest all →
      Gives (end (codes "row") ∷ rest) all
  gives_end rest all others before = others (row_end ∷ before)

  -- a cell of each of these positions gives its own answer
  module _
      (fits : ℕ × ℕ → Bool) (attributes : ℕ × ℕ → List ℕ) (inside : ℕ × ℕ → List Event)
      (tell : ℕ × ℕ → A) (passed : (p : ℕ × ℕ) → IsPassed (inside p))
      (one : (p : ℕ × ℕ) → fits p ≡ true → CellGives (attributes p) (inside p) (tell p)) where
    gives_cells : (positions : List (ℕ × ℕ)) (rest : List Event) (all : List A) →
        list_all fits positions ≡ true → Gives rest all →
        Gives (flat_map (λ p. element (codes "c") (attributes p) (inside p)) positions ++ rest)
        (map tell positions ++ all)
    gives_cells [] rest all fit others before = others before
    gives_cells (p ∷ ps) rest all fit others before =
        let (first, further) = and_both (fits p) (list_all fits ps) fit in
        ap (λ (es : List Event). answers_from answer before (marks_from 0 es))
        (append_assoc (element (codes "c") (attributes p) (inside p))
        (flat_map (λ q. element (codes "c") (attributes q) (inside q)) ps) rest)
        ∙ gives_cell (attributes p) (inside p)
        (flat_map (λ q. element (codes "c") (attributes q) (inside q)) ps ++ rest)
        (tell p) (map tell ps ++ all) (passed p) (one p first)
        (gives_cells ps rest all further others) before

    abbrev cells_events : List (ℕ × ℕ) → List Event
    cells_events positions =
        flat_map (λ p. element (codes "c") (attributes p) (inside p)) positions

    module _ (fits_row : ℕ → Bool) (row_attributes : ℕ → List ℕ)
        (named : (row : ℕ) → fits_row row ≡ true →
        row_named (row_tag (row_attributes row)) ≡ Ok (Some row))
        (rows_fit : (p : ℕ × ℕ) → fits p ≡ true → fits_row p.0 ≡ true) where
      abbrev rows_events : List SheetRow → List Event
      rows_events rows =
          flat_map (λ found. element (codes "row") (row_attributes found.row)
          (cells_events found.positions)) rows

      gives_rows : (rows : List SheetRow) → list_all (row_fits fits fits_row rows_fit) rows ≡ true →
          Gives (rows_events rows) (map tell (positions_in rows))
      gives_rows [] fit before = refl
      gives_rows (found ∷ rows) fit before =
          let (first, further) = and_both (row_fits fits fits_row rows_fit found)
          (list_all (row_fits fits fits_row rows_fit) rows) fit in
          let (in_row, cells) =
          and_both (fits_row found.row) (list_all fits found.positions) first in
          let rest : List Event = rows_events rows in
          gives_row (row_attributes found.row) (Some found.row) (cells_events found.positions) rest
          (map tell found.positions ++ map tell (positions_in rows))
          (named found.row in_row)
          (gives_cells found.positions (end (codes "row") ∷ rest)
          (map tell (positions_in rows)) cells
          (gives_end rest (map tell (positions_in rows)) (gives_rows rows further)))
          before
          ∙ ap Ok (sym (map-append tell found.positions (positions_in rows)))

      -- what is cut into rows
      pub gives_data : (positions : List (ℕ × ℕ)) → list_all fits positions ≡ true →
          Gives (rows_events (in_rows positions)) (map tell positions)
      gives_data positions fit before =
          gives_rows (in_rows positions) (rows_are fits fits_row rows_fit positions fit) before
          ∙ ap (λ (ps : List (ℕ × ℕ)). Ok (map tell ps)) (rows_have positions)
