use Rattle.std.proofs.Common.{◌≡◌, ◌∙◌, List, Some, length, refl, sym, ap, subst, rules}
use Rattle.part_events.specs.Words.{Event, events_of}
use Rattle.xlsx_sections.specs.Words.{section_in, section_left}
use Rattle.xlsx_sections.proofs.Failing.{given_back}
use Rattle.xlsx_pivot_cache.specs.CacheFields.{fields_kept}
use Rattle.xlsx_pivot_cache.specs.CacheRecords.{records_name, names_row, row_kept}
use Rattle.xlsx_pivot_cache.specs.declared.field.CacheField.{CacheField}
use Rattle.xlsx_pivot_cache.proofs.RowsLeft.{names_taken, in_records, find_fails, start_fails}
use Rattle.xlsx_pivot_cache.proofs.RowsLeft.{records_found, lacks_records}
use Rattle.xlsx_pivot_cache.proofs.pivot_cursor.PivotCursor.take_names.Goals as goal

pub returns-in_err-_at-clause-gives : goal.returns-in_err-_at-clause-gives
returns-in_err-_at-clause-gives g c =
    let fields = fields_kept c.args.self.now.fields.items in
    let old = c.args.xml.now in
    let new = c.find_element.new.xml in
    let fails = find_fails fields old new c.in_err-_at.field-0.0 c.in_err-_at.ensures.err in
    record {
      fields = search rules;
      reads = search rules;
      row = search rules;
      given = search rules;
      step = search rules;
      none = search rules;
      none_left = search rules;
      ended = search rules;
      done = search rules;
      rests = search rules;
      err =
          given_back _ c.from_residual-in_err-_at.result c.from_residual-in_err-_at.ensures.1
          (start_fails fields old new c.in_err-_at.field-0.0 fails);
      refused =
          rw c.requires.place
          (given_back _ c.from_residual-in_err-_at.result c.from_residual-in_err-_at.ensures.1
          fails);
      kind = search rules;
    }

pub returns-in_default-clause-gives : goal.returns-in_default-clause-gives
returns-in_default-clause-gives g c =
    let old = c.args.xml.now in
    record {
      fields = search rules;
      reads = search rules;
      row = search rules;
      given = search rules;
      step = search rules;
      none = search rules;
      none_left = search rules;
      ended = search rules;
      done = search rules;
      rests = search rules;
      err = λ told.
          let ends = rw c.in_default.is at (c.in_ok-_at.ensures.found told) in
          rw (lacks_records (events_of old) ends.0) (refl, ends.1.0);
      refused = λ told.
          let ends = rw c.in_default.is at (c.in_ok-_at.ensures.found told) in
          rw c.requires.place (lacks_records (events_of old) ends.0, (refl, ends.1.0));
      kind = search rules;
    }

pub returns-clause-at : goal.returns-clause-at
returns-clause-at g c =
    let old = c.args.xml.now in
    let new = c.find_element.new.xml in
    let reads = c.in_ok-_at.ensures.reads in
    rw c.depth.ensures
    (in_records (fields_kept c.args.self.now.fields.items) new reads.stays.reading
    (λ told_new.
    let told = sym reads.moves.parts.is_visible ∙ told_new in
    subst (λ (events : List Event). section_in records_name events
    ≡ Some (section_left (length new.names) new)) (sym (reads.stays.part told))
    (records_found old new (rw c.in-Some.is at (c.in_ok-_at.ensures.found told)))))

pub returns-clause-gives : goal.returns-clause-gives
returns-clause-gives g c =
    let old = c.args.xml.now in
    let new = c.find_element.new.xml in
    let fields = fields_kept c.args.self.now.fields.items in
    let same : row_kept c.in_ok-names.names.items ≡ names_row fields =
    c.in_ok-names.ensures
    ∙ ap (λ (own : List CacheField). names_row (fields_kept own)) c.deref.ensures.value in
    record {
      fields = search rules;
      reads = search rules;
      row = λ told.
          rw (c.requires.place, same, c.depth.ensures)
          (names_taken fields old new
          (records_found old new (rw c.in-Some.is at (c.in_ok-_at.ensures.found told))));
      given =
          rw c.requires.place (
            same,
            record {
              depth = c.depth.ensures;
              there = λ told.
                  rw c.depth.ensures
                  (records_found old new (rw c.in-Some.is at (c.in_ok-_at.ensures.found told)));
            },
          );
      step = search rules;
      none = search rules;
      none_left = search rules;
      ended = search rules;
      done = search rules;
      rests = search rules;
      err = search rules;
      refused = search rules;
      kind = search rules;
    }
