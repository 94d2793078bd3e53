use Rattle.std.proofs.Common.{◌∷◌, [], drop, sym, ap, ◌∙◌}
use Rattle.std.proofs.lemmas.List.{take_rest}
use Rattle.markup.specs.Marks.{begins_with}
use Rattle.markup.proofs.Spans.{comment_stands, data_stands}
use Rattle.markup.proofs.found.declared_found.Goals as goal

pub returns-in-Some-clause-stands : goal.returns-in-Some-clause-stands
returns-in-Some-clause-stands c =
    let bytes = c.args.bytes.now in
    comment_stands bytes c.in-Some.place
    (ap (λ rest. begins_with (45 ∷ 45 ∷ 62 ∷ []) (drop c.in-Some.place rest))
    (sym (take_rest bytes 2))
    ∙ c.in-Some.ensures.stands)

pub returns-in-Some-place_of-clause-stands : goal.returns-in-Some-place_of-clause-stands
returns-in-Some-place_of-clause-stands c =
    let bytes = c.args.bytes.now in
    let n = c.in-Some-place_of.content in
    data_stands bytes n (sym c.starts_with-2.ensures.value ∙ c.if-starts_with-2.true)
    (ap (λ rest. begins_with (93 ∷ 93 ∷ 62 ∷ []) (drop n rest)) (sym (take_rest bytes 7))
    ∙ c.in-Some-place_of.ensures.stands)
