use Rattle.std.proofs.Common.{List, ℕ, subst}
use Rattle.std.proofs.lemmas.Str.{IsCharBoundary-after_ascii}
use Rattle.xlsx_writer.specs.Escaping.{IsLeastCut}
use Rattle.xlsx_writer.proofs.least_escapes.push_least_escaped.Goals as goal

-- the byte at the place is ASCII, so that the text may be cut behind it
pub range_from-rest-requires : goal.range_from-rest-requires
range_from-rest-requires c =
    let place = c.in-Some.place in
    let found : IsLeastCut c.runs.rest.now place =
    subst (λ (own : List ℕ). IsLeastCut own place) c.as_bytes.ensures.value c.in-Some.ensures in
    λ _. IsCharBoundary-after_ascii c.runs.rest.now place c.runs.invariant.0 found.within
    found.ascii
