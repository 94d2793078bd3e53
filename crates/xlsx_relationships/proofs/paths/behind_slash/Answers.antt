use Rattle.std.proofs.Common.{arith}
use Rattle.std.proofs.lemmas.Str.Pattern.{strip_prefix_char}
use Rattle.xlsx_relationships.proofs.Pieces.{behind_slash_is}
use Rattle.xlsx_relationships.proofs.paths.behind_slash.Goals as goal

pub returns : goal.returns
returns c = behind_slash_is c.args.path.now c.strip_prefix.result
    (strip_prefix_char 47 c.args.path.now c.strip_prefix.result c.strip_prefix.ensures.cases
    (omega arith))
