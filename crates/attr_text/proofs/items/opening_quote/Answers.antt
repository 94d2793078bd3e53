use Rattle.std.proofs.Common.{◌≡◌, get_or, arith, rules}
use Rattle.std.proofs.lemmas.Str.{IsCharBoundary-after_ascii}
use Rattle.attr_text.proofs.items.opening_quote.Goals as goal

pub range_from-requires : goal.range_from-requires
range_from-requires c =
    let read : get_or c.args.text.now 0 0 ≡ 34 = search rules in
    λ _. IsCharBoundary-after_ascii c.args.text.now 0 c.utf8.text (omega arith) (omega arith)

pub range_from-requires-in-39 : goal.range_from-requires-in-39
range_from-requires-in-39 c =
    let read : get_or c.args.text.now 0 0 ≡ 39 = grind arith in
    λ _. IsCharBoundary-after_ascii c.args.text.now 0 c.utf8.text (omega arith) (omega arith)
