use Rattle.std.proofs.Common.{◌≡◌, ◌+◌, subst, arith, rules}
use Rattle.std.specs.Str.{IsCharBoundary}
use Rattle.std.proofs.lemmas.Str.{IsCharBoundary-after_ascii}
use Rattle.attr_text.specs.Escapes.{HasEscapeAt}
use Rattle.attr_text.proofs.escapes.unescape_hex.Goals as goal

-- the escape ends in `_`, so that the text may be cut behind it
pub range_from-rest-requires : goal.range_from-rest-requires
range_from-rest-requires c =
    let rest = c.loop-at.rest.now in
    let found : HasEscapeAt rest c.in-Some.at c.in-Some.c = search rules in
    let behind : c.in-Some.at + 6 + 1 ≡ c.in-Some.at + 7 = omega arith in
    λ _. subst (IsCharBoundary rest) behind
    (IsCharBoundary-after_ascii rest (c.in-Some.at + 6) c.loop-at.invariant.utf8
    (omega (arith, found.within)) (omega (arith, found.ends)))
