use Rattle.std.proofs.Common.{◌≡◌, take, Some, None, ◌∙◌, arith}
use Rattle.std.specs.List.{slice_range}
use Rattle.std.proofs.lemmas.Str.Pattern.{rfind_char}
use Rattle.xlsx_relationships.proofs.Pieces.{last_piece-none, last_piece-last}
use Rattle.xlsx_relationships.proofs.RelatedRead.{before_slash-none, before_slash-last}
use Rattle.xlsx_relationships.proofs.targets.before_slash.Goals as goal

pub returns-in-Some : goal.returns-in-Some
returns-in-Some c =
    let path = c.args.path.now in
    let found = rfind_char 47 path (Some c.in-Some.slash) c.in-Some.ensures.cases (omega arith) in
    let same : slice_range path 0 c.in-Some.slash ≡ take c.in-Some.slash path = grind arith in
    c.range.ensures.value ∙ same
    ∙ before_slash-last path c.in-Some.slash found.0
    (last_piece-last path c.in-Some.slash found.0 found.1 found.2)

pub returns-in-None : goal.returns-in-None
returns-in-None c =
    before_slash-none c.args.path.now
    (last_piece-none c.args.path.now
    (rfind_char 47 c.args.path.now None c.in-None.ensures.cases (omega arith)))
