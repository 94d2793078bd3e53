use Rattle.std.proofs.Common.{◌≡◌, ◌∷◌, ◌+◌, ℕ, List, [], drop, refl, ◌∙◌, subst, append-nil}
use Rattle.std.proofs.Common.{string_bytes, arith, Option}
use Rattle.std.specs.Prelude.{MatchOption, IfSome}
use Rattle.std.proofs.lemmas.List.{drop_all}
use Rattle.std.proofs.lemmas.Result.{err_from_is_err_and}
use Rattle.part_events.specs.Words.{Part, CountsUp}
use Rattle.part_events.proofs.Uses.{same_further}
use Rattle.xlsx_error.specs.declared.error.XlsxError.{XlsxError}
use Rattle.xlsx_values.specs.Words.{context_of}
use Rattle.xlsx_cells.specs.Words.{values_alone}
use Rattle.xlsx_core.specs.Listing.{AreListed, IsPutBehind, listed_events}
use Rattle.xlsx_core.specs.Opened.{path_listed, path_lent}
use Rattle.xlsx_core.specs.SheetReading.{placed_events, data_events}
use Rattle.xlsx_core.specs.Worksheets.{ReadsValues, RangeCause}
use Rattle.xlsx_core.proofs.DataTaken.{listed_more}
use Rattle.xlsx_core.proofs.SheetsListed.{listed_further, drop_from}
use Rattle.xlsx_core.proofs.TakenOnce.{part_listed, leaves_listed, leaves_behind}
use Rattle.xlsx_core.proofs.worksheet_list.ranges_listed.Goals as goal

pub sheets-preserved : goal.sheets-preserved
sheets-preserved g c =
    let old = c.args.xml.now.source in
    let mid = c.sheets.xml.source in
    let new = c.range_or_none.new.xml.source in
    let now = c.sheets.invariant in
    let own = c.in_ok-range.ensures in
    let sheet = c.sheet-item.result in
    let name = c.as_str-name.result.now in
    let sheets = c.args.sheets.now in
    let place = λ (text : List ℕ). path_listed text sheets c.args.paths.now in
    let context = context_of c.args.asked.book in
    let header = c.args.header_row in
    let range = c.in_ok-range.range in
    let reads_at = λ (text : List ℕ) (path : Option (List ℕ)) (parts : List Part).
    MatchOption range ((error : XlsxError) × RangeCause text values_alone context path parts error)
    (ReadsValues context header path parts) in
    let named : name ≡ string_bytes sheet.name = c.as_str-name.ensures.value in
    let path : path_lent c.kept_path-path.result ≡ place name =
    c.kept_path-path.ensures ∙ c.in_ok-firsts.ensures name in
    let front : drop c.sheets.sheet-index sheets
    ≡ sheet ∷ drop (c.sheets.sheet-index + 1) sheets =
    drop_from sheets c.sheets.sheet-index (c.sheets.sheet-index + 1) sheet c.sheet-item.is
    c.sheets-test.true refl in
    record {
      keeps = same_further now.keeps own.uses.parts;
      faults = own.uses.faults ∙ now.faults;
      forward = omega (arith, now.forward, own.uses.forward);
      taken = λ told.
          part_listed place old mid new (path_lent c.kept_path-path.result) name sheet
          (drop c.sheets.sheet-index sheets) (drop (c.sheets.sheet-index + 1) sheets)
          (old.taken + listed_events place old.parts sheets) path named front now.keeps.parts
          (now.taken told) (own.uses.taken (now.keeps.is_visible ∙ told));
      ends = λ told.
          let counts_at = λ (path : Option (List ℕ)) (parts : List Part).
          IfSome range (λ own. CountsUp (data_events path parts) mid.taken new.taken) in
          listed_more place old.parts name range old.taken mid.taken new.taken
          c.sheets.listed.items c.put_behind.new.listed.items (now.ends told) own.uses.forward
          (subst (counts_at (place name)) now.keeps.parts
          (subst (λ (there : Option (List ℕ)). counts_at there mid.parts) path
          (own.to_end (now.keeps.is_visible ∙ told))))
          c.in_ok-put_behind.ensures;
      listed = λ told.
          let read : reads_at name (place name) old.parts =
          subst (reads_at name (place name)) now.keeps.parts
          (subst (λ (there : Option (List ℕ)). reads_at name there mid.parts) path
          (own.reads (now.keeps.is_visible ∙ told))) in
          let reads : reads_at (string_bytes sheet.name) (place (string_bytes sheet.name))
          old.parts =
          subst (λ (text : List ℕ). reads_at text (place text) old.parts) named read in
          let put : MatchOption range (c.put_behind.new.listed.items ≡ c.sheets.listed.items)
          (IsPutBehind (string_bytes sheet.name) c.sheets.listed.items
          c.put_behind.new.listed.items) =
          subst (λ (text : List ℕ). MatchOption range
          (c.put_behind.new.listed.items ≡ c.sheets.listed.items)
          (IsPutBehind text c.sheets.listed.items c.put_behind.new.listed.items)) named
          c.in_ok-put_behind.ensures in
          listed_further context header place old.parts sheet
          (drop (c.sheets.sheet-index + 1) sheets) range c.sheets.listed.items
          c.put_behind.new.listed.items (AreListed context header place old.parts sheets) reads
          put (λ others is. now.listed told others (rw front is));
    }

pub returns-clause-lists : goal.returns-clause-lists
returns-clause-lists g c = λ told.
    let old = c.args.xml.now.source in
    let place = λ (name : List ℕ). path_listed name c.args.sheets.now c.args.paths.now in
    let behind : drop c.sheets.sheet-index c.args.sheets.now ≡ [] =
    drop_all c.sheets.sheet-index c.args.sheets.now c.sheets-test.false in
    subst (AreListed (context_of c.args.asked.book) c.args.header_row place old.parts
    c.args.sheets.now) (append-nil c.sheets.listed.items)
    (c.sheets.invariant.listed told []
    (rw behind refl))

pub returns-in_err-range-clause-uses : goal.returns-in_err-range-clause-uses
returns-in_err-range-clause-uses g c =
    let old = c.args.xml.now.source in
    let mid = c.sheets.xml.source in
    let new = c.range_or_none.new.xml.source in
    let now = c.sheets.invariant in
    let sheet = c.sheet-item.result in
    let name = c.as_str-name.result.now in
    let sheets = c.args.sheets.now in
    let place = λ (text : List ℕ). path_listed text sheets c.args.paths.now in
    let front = drop_from sheets c.sheets.sheet-index (c.sheets.sheet-index + 1) sheet
    c.sheet-item.is c.sheets-test.true refl in
    let error = c.in_err-range.field-0.0 in
    let handed = err_from_is_err_and c.from_residual-in_err-range.result
    c.from_residual-in_err-range.ensures.1 in
    rw (handed.1, handed.2)
    (leaves_listed place old mid new (path_lent c.kept_path-path.result) name sheet
    (drop c.sheets.sheet-index sheets) (drop (c.sheets.sheet-index + 1) sheets)
    (listed_events place old.parts sheets) error
    (c.kept_path-path.ensures ∙ c.in_ok-firsts.ensures name) c.as_str-name.ensures.value front
    now.keeps now.faults now.forward now.taken c.in_err-range.ensures.uses)

pub returns-in_err-put_behind-clause-uses : goal.returns-in_err-put_behind-clause-uses
returns-in_err-put_behind-clause-uses g c =
    let old = c.args.xml.now.source in
    let mid = c.sheets.xml.source in
    let new = c.range_or_none.new.xml.source in
    let now = c.sheets.invariant in
    let sheet = c.sheet-item.result in
    let name = c.as_str-name.result.now in
    let sheets = c.args.sheets.now in
    let place = λ (text : List ℕ). path_listed text sheets c.args.paths.now in
    let front = drop_from sheets c.sheets.sheet-index (c.sheets.sheet-index + 1) sheet
    c.sheet-item.is c.sheets-test.true refl in
    let kept = path_lent c.kept_path-path.result in
    let handed = err_from_is_err_and c.from_residual-in_err-put_behind.result
    c.from_residual-in_err-put_behind.ensures.1 in
    let error = handed.0 in
    rw handed.1
    (leaves_listed place old mid new kept name sheet (drop c.sheets.sheet-index sheets)
    (drop (c.sheets.sheet-index + 1) sheets) (listed_events place old.parts sheets) error
    (c.kept_path-path.ensures ∙ c.in_ok-firsts.ensures name) c.as_str-name.ensures.value front
    now.keeps now.faults now.forward now.taken
    (leaves_behind (placed_events kept mid.parts) mid new error c.in_ok-range.ensures.uses))
