use Rattle.std.proofs.lemmas.Result.{MatchResult-weaker}
use Rattle.xlsx_formats.specs.FormatCodes.{formats_kept}
use Rattle.xlsx_formats.specs.Formattings.{named_kept}
use Rattle.xlsx_formats.proofs.CodesWritten.{codes_written}
use Rattle.xlsx_stylesheet.proofs.lists.FormatReaderReadsEach.read.Goals as goal

pub returns-clause-said : goal.returns-clause-said
returns-clause-said g c = λ told.
    let codes = c.args.self.now.lists.now.codes.now in
    MatchResult-weaker c.read_format.result (c.read_format.ensures.formatting told)
    (λ own is tag current. is tag (formats_kept codes) current (codes_written codes)) (λ _ _. tt)

pub returns-clause-err : goal.returns-clause-err
returns-clause-err g c =
    MatchResult-weaker c.read_format.result c.read_format.ensures.err (λ _ _. tt)
    (λ error fails tag current. fails tag (named_kept c.args.self.now.lists.now) current)
