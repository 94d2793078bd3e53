-- How a stream of cells goes on, and how the data that it reads are entered.
use Rattle.std.proofs.Common.{◌≡◌, ◌∙◌, ℕ, List, [], length, true, false, Some, None, refl, sym, ap}
use Rattle.std.proofs.Common.{subst, codes, arith, string_bytes}
use Rattle.std.specs.Prelude.{String, Option, option_map, Bool}
use Rattle.std.specs.List.{last_or}
use Rattle.std.specs.declared.alloc.Global.{Global}
use Rattle.cell_refs.specs.declared.dimensions.Dimensions.{Dimensions}
use Rattle.part_events.specs.Words.{Event, Reading, IsReading, ReadsOn, ahead, events_of}
use Rattle.part_events.specs.Words.{behind_start}
use Rattle.cell_data.specs.declared.cell.Cell.{Cell}
use Rattle.cell_data.specs.declared.value.DataRef.{DataRef}
use Rattle.xlsx_sections.specs.Words.{section_left, section_in}
use Rattle.xlsx_sections.proofs.SectionsRead.{ahead_at_first, first_section_left, nothing_past}
use Rattle.xlsx_values.specs.Words.{ValueContext}
use Rattle.xlsx_formulas.specs.Words.{description_seen, described, FormulaText, behind_formulas}
use Rattle.xlsx_formulas.specs.Words.{formula_of_last, cell_formula, covers_in, covered, AreMasters}
use Rattle.xlsx_formulas.specs.Words.{last_seen, covers_seen}
use Rattle.xlsx_formulas.specs.declared.metadata.XlsxFormulaMetadata.{XlsxFormulaMetadata}
use Rattle.xlsx_formulas.specs.declared.shared_formulas.SharedFormulas.{SharedFormulas}
use Rattle.xlsx_formulas.proofs.Cells.{last_formula}
use Rattle.xlsx_formulas.proofs.Groups.{formulas_kept}
use Rattle.xlsx_cells.specs.CellsReader.{EntersCells, IsValued, IsFormula, values_alone}
use Rattle.xlsx_cells.specs.CellsReader.{formulas_alone, values_and_styles, values_and_formulas}
use Rattle.xlsx_cells.specs.CellsReader.{IsValuedStyle, IsValuedFormula, IsValuedMetadata}
use Rattle.xlsx_cells.specs.CellsReader.{written_text}
use Rattle.xlsx_cells.specs.Counting.{AreKept}
use Rattle.xlsx_cells.specs.Head.{is_sheet_data, AreDimensions}
use Rattle.xlsx_cells.specs.Marks.{Mark}
use Rattle.xlsx_cells.specs.Position.{NoCell}
use Rattle.xlsx_cells.specs.Stream.{Stream, IsStreaming, IsGoing, TakesCell, IsRead, WrittenCell}
use Rattle.xlsx_cells.specs.Stream.{seen_with_text, IsWritten, LacksUnwanted, LacksUnwantedText}
use Rattle.xlsx_cells.specs.declared.cell_read.CellRead.{CellRead}
use Rattle.xlsx_cells.specs.declared.cell_read.CellText.{CellText}
use Rattle.xlsx_cells.specs.declared.children.Wants.{Wants}

pub is_going : (s : Stream) → IsStreaming s → s.is_failed ≡ false → s.is_done ≡ false → IsGoing s
is_going s streams failed done = record {
  reading = streams.reading failed;
  within = streams.within failed done;
  done = done;
  failed = failed;
}

-- the text of the formula that was read last, by the masters behind the cell
pub text_taken : {before : List Mark} {earlier : List FormulaText} {old new : Stream}
    {wants : Wants} {context : ValueContext} (read : CellRead) (own : WrittenCell)
    → own.pos ≡ read.pos
    → own.value ≡ read.value → own.style_id ≡ read.style_id
    → ((behind : List FormulaText) → AreMasters behind new.masters
    → own.text ≡ formula_of_last behind read.pos (last_seen read.formula))
    → own.covers ≡ covered read.pos (covers_seen read.formula)
    → TakesCell NoCell before earlier old new (IsRead wants true context read)
    → TakesCell NoCell before earlier old (record {
      reading = new.reading;
      base = new.base;
      counters = new.counters;
      masters = new.masters;
      is_done = new.is_done;
      is_failed = false;
    }) (IsWritten wants context earlier own)
text_taken {earlier = earlier} read own placed valued styled text covers takes =
    let is = takes.holds in
    let kept = takes.kept in
    record {
      element = takes.element;
      kept = kept;
      takes = takes.takes;
      closed = takes.closed;
      holds = record {
        placed = rw placed is.placed;
        valued = λ wanted. rw valued (is.valued wanted);
        styled = λ wanted. rw styled (is.styled wanted);
        listed = λ wanted. rw is.is_kept (is.listed wanted);
        found = λ wanted. text (behind_formulas kept earlier) takes.stands.masters
            ∙ ap (formula_of_last (behind_formulas kept earlier) read.pos) (is.last wanted)
            ∙ ap (λ (all : List FormulaText). formula_of_last (behind_formulas kept earlier)
            read.pos (last_or None all)) (sym is.is_kept)
            ∙ sym (last_formula earlier read.pos kept)
            ∙ ap (λ (pos : ℕ × ℕ). cell_formula earlier pos kept) (sym placed);
        covers = λ wanted. covers ∙ ap (covered read.pos) (is.covers wanted)
            ∙ ap (λ (pos : ℕ × ℕ). covered pos (covers_in takes.element.inside)) (sym placed);
        none = λ unwanted. is.is_kept ∙ is.none unwanted;
      };
      stands = record {
        counters = takes.stands.counters;
        masters = takes.stands.masters;
      };
    }

-- the same text, written out
pub text_written : {before : List Mark} {earlier : List FormulaText} {old new : Stream}
    {wants : Wants} {context : ValueContext} (one two : WrittenCell) → one ≡ two
    → TakesCell NoCell before earlier old new (IsWritten wants context earlier one)
    → TakesCell NoCell before earlier old (record {
      reading = new.reading;
      base = new.base;
      counters = new.counters;
      masters = new.masters;
      is_done = new.is_done;
      is_failed = false;
    }) (IsWritten wants context earlier two)
text_written {wants = wants} {context = context} one two same takes = record {
  element = takes.element;
  kept = takes.kept;
  takes = takes.takes;
  closed = takes.closed;
  holds = rw same at takes.holds;
  stands = record {
    counters = takes.stands.counters;
    masters = takes.stands.masters;
  };
}

pub text_unwanted : {wants : Wants} (masters : SharedFormulas) (read : CellRead) (own : WrittenCell)
    → own.pos ≡ read.pos → own.value ≡ read.value → own.style_id ≡ read.style_id
    → ((behind : List FormulaText) → AreMasters behind masters
    → own.text ≡ formula_of_last behind read.pos (last_seen read.formula))
    → own.covers ≡ covered read.pos (covers_seen read.formula)
    → LacksUnwanted wants read → LacksUnwantedText wants own
text_unwanted masters read own placed valued styled text covers lacks = record {
  value = λ unwanted. valued ∙ lacks.value unwanted;
  text = λ unwanted.
      let some = formulas_kept masters in
      text some.0 some.1 ∙ rw (lacks.formula unwanted) refl;
  covers = λ unwanted. covers ∙ rw (lacks.formula unwanted, placed) refl;
  style = λ unwanted. styled ∙ lacks.style unwanted;
}

-- what was asked for is the same
pub read_as : {before : List Mark} {earlier : List FormulaText} {old new : Stream}
    {wants own : Wants} {keeps still : Bool} {context same : ValueContext} {read : CellRead}
    → wants ≡ own → keeps ≡ still → context ≡ same
    → TakesCell NoCell before earlier old new (IsRead wants keeps context read)
    → TakesCell NoCell before earlier old new (IsRead own still same read)
read_as wanted kept rests takes = rw (wanted, kept, rests) at takes

pub written_as : {before : List Mark} {earlier : List FormulaText} {old new : Stream}
    {wants own : Wants} {context same : ValueContext} {read : WrittenCell} → wants ≡ own
    → context ≡ same
    → TakesCell NoCell before earlier old new (IsWritten wants context earlier read)
    → TakesCell NoCell before earlier old new (IsWritten own same earlier read)
written_as wanted rests takes = rw (wanted, rests) at takes

pub value_taken : {before : List Mark} {earlier : List FormulaText} {old new : Stream}
    {context : ValueContext} (read : CellRead) (own : Cell DataRef)
    → own ≡ record { pos = read.pos; val = read.value }
    → TakesCell NoCell before earlier old new (IsRead values_alone false context read)
    → TakesCell NoCell before earlier old new (IsValued context own)
value_taken read own is takes = record {
  element = takes.element;
  kept = takes.kept;
  takes = takes.takes;
  closed = takes.closed;
  holds = record {
    placed = rw is takes.holds.placed;
    valued = rw is (takes.holds.valued refl);
    none = takes.holds.is_kept;
  };
  stands = takes.stands;
}

pub formula_taken : {before : List Mark} {earlier : List FormulaText} {old new : Stream}
    {context : ValueContext} (read : CellText) (own : Cell (String Global))
    → own ≡ record { pos = read.pos; val = read.text }
    → TakesCell NoCell before earlier old new
    (IsWritten formulas_alone context earlier (seen_with_text read))
    → TakesCell NoCell before earlier old new (IsFormula earlier own)
formula_taken read own is takes = record {
  element = takes.element;
  kept = takes.kept;
  takes = takes.takes;
  closed = takes.closed;
  holds = record {
    placed = rw is takes.holds.placed;
    listed = takes.holds.listed refl;
    found = rw is (takes.holds.found refl);
  };
  stands = takes.stands;
}

pub styled_value_taken : {before : List Mark} {earlier : List FormulaText} {old new : Stream}
    {context : ValueContext} (read : CellRead) (own : Cell DataRef)
    → own ≡ record { pos = read.pos; val = read.value }
    → TakesCell NoCell before earlier old new (IsRead values_and_styles false context read)
    → TakesCell NoCell before earlier old new (IsValuedStyle context (own, read.style_id))
styled_value_taken read own is takes = record {
  element = takes.element;
  kept = takes.kept;
  takes = takes.takes;
  closed = takes.closed;
  holds = record {
    valued = record {
      placed = rw is takes.holds.placed;
      valued = rw is (takes.holds.valued refl);
      none = takes.holds.is_kept;
    };
    styled = takes.holds.styled refl;
  };
  stands = takes.stands;
}

pub written_value_taken : {before : List Mark} {earlier : List FormulaText} {old new : Stream}
    {context : ValueContext} (read : CellText) (formula : Option (String Global))
    → option_map string_bytes formula ≡ written_text (string_bytes read.text)
    → TakesCell NoCell before earlier old new
    (IsWritten values_and_formulas context earlier (seen_with_text read))
    → TakesCell NoCell before earlier old new (IsValuedFormula context earlier
    (record { pos = read.pos; value = read.value; formula = formula }))
written_value_taken read formula is takes = record {
  element = takes.element;
  kept = takes.kept;
  takes = takes.takes;
  closed = takes.closed;
  holds = record {
    placed = takes.holds.placed;
    valued = takes.holds.valued refl;
    listed = takes.holds.listed refl;
    found = is ∙ ap written_text (takes.holds.found refl);
  };
  stands = takes.stands;
}

pub described_value_taken : {before : List Mark} {earlier : List FormulaText} {old new : Stream}
    {context : ValueContext} (read : CellRead) (formula : Option XlsxFormulaMetadata)
    → option_map description_seen formula ≡ described (last_seen read.formula)
    → TakesCell NoCell before earlier old new (IsRead values_and_formulas false context read)
    → TakesCell NoCell before earlier old new (IsValuedMetadata context
    (record { pos = read.pos; value = read.value; formula = formula }))
described_value_taken read formula is takes = record {
  element = takes.element;
  kept = takes.kept;
  takes = takes.takes;
  closed = takes.closed;
  holds = record {
    placed = takes.holds.placed;
    valued = takes.holds.valued refl;
    written = takes.holds.written;
    listed = takes.holds.listed refl;
    told = is ∙ ap described (takes.holds.last refl);
    none = takes.holds.is_kept;
  };
  stands = takes.stands;
}

pub cells_entered : {area : Dimensions} (old : Reading) (new : Stream) → IsReading old → old.at ≡ 0
    → new.is_failed ≡ false → new.is_done ≡ false → ReadsOn old new.reading
    → new.base ≡ length new.reading.names → AreKept [] new.counters → AreMasters [] new.masters
    → (old.source.is_visible ≡ true
    → behind_start is_sheet_data (ahead old) ≡ Some (ahead new.reading))
    → (old.source.is_visible ≡ true → AreDimensions (ahead old) area) → EntersCells area old new
cells_entered {area = area} old new is first failed done reads base kept groups found dimensions =
    let here = new.reading in
    record {
      going = record {
        reading = reads.stays.reading;
        within = omega (arith, base);
        done = done;
        failed = failed;
      };
      fresh = record { counters = kept; masters = groups };
      reads = reads;
      section = λ told.
          let same : events_of here ≡ events_of old = reads.stays.part told in
          subst (λ (n : ℕ). section_in (codes "sheetData") (events_of old)
          ≡ Some (section_left n here)) (sym base)
          (subst (λ (events : List Event). section_in (codes "sheetData") events
          ≡ Some (section_left (length here.names) here)) same
          (first_section_left (codes "sheetData") old here (nothing_past old is first told)
          (reads.stays.reading.tracked (reads.moves.parts.is_visible ∙ told)) same (found told)));
      dimensions = λ told. subst (λ (events : List Event). AreDimensions events area)
          (ahead_at_first old (nothing_past old is first told)) (dimensions told);
    }
