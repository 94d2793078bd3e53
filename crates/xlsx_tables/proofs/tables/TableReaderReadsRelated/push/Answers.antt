use Rattle.std.proofs.Common.{map, option_map, option_to_list, ap}
use Rattle.xlsx_tables.specs.TableParts.{table_kept}
use Rattle.xlsx_tables.specs.Tables.{table_on_sheet}
use Rattle.xlsx_tables.proofs.tables.TableReaderReadsRelated.push.Goals as goal

pub returns-clause-answers : goal.returns-clause-answers
returns-clause-answers g c =
    let numbers = map (table_on_sheet c.args.self.now.sheet) in
    let part = c.in_ok-part.part in
    let read = c.in_ok-part.ensures.answers in
    record {
      uses = read.uses;
      to_end = λ told. read.to_end told;
      said = λ told. (
        numbers (option_to_list (option_map table_kept part)),
        ap (option_map numbers) (read.said told),
        c.in_ok-push_part.ensures.ok,
      );
      err = tt;
      kind = tt;
    }
