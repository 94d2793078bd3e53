use Rattle.std.proofs.Common.{◌<◌, length, arith}
use Rattle.std.proofs.lemmas.Bool.Decides.{nat_tests}
use Rattle.std.proofs.lemmas.Str.{IsCharBoundary-after_ascii}
use Rattle.escaped_text.proofs.EscapedLemmas.{first_special}
use Rattle.escaped_text.proofs.escaping.push_pieces.Goals as goal

pub range_from-rest-requires : goal.range_from-rest-requires
range_from-rest-requires c =
    λ _.
    let behind = c.split_unescaped.result.1.now in
    let some : 0 < length behind = grind (arith, nat_tests, c.if-is_empty.ensures) in
    let special = first_special behind c.split_unescaped.ensures.behind some in
    IsCharBoundary-after_ascii behind 0 c.split_unescaped.ensures.text some special
