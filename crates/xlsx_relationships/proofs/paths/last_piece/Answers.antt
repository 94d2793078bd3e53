use Rattle.std.proofs.Common.{Some, None, ◌∙◌, arith}
use Rattle.std.proofs.lemmas.Str.Pattern.{rfind_char}
use Rattle.xlsx_relationships.proofs.Pieces.{last_piece-none, last_piece-last}
use Rattle.xlsx_relationships.proofs.paths.last_piece.Goals as goal

pub returns-in-Some : goal.returns-in-Some
returns-in-Some c =
    let path = c.args.path.now in
    let found = rfind_char 47 path (Some c.in-Some.slash) c.in-Some.ensures.cases (omega arith) in
    c.range_from.ensures.value ∙ last_piece-last path c.in-Some.slash found.0 found.1 found.2

pub returns-in-None : goal.returns-in-None
returns-in-None c =
    last_piece-none c.args.path.now
    (rfind_char 47 c.args.path.now None c.in-None.ensures.cases (omega arith))
