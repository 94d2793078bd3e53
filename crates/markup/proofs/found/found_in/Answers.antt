use Rattle.std.proofs.Common.{◌≡◌, ◌∷◌, subst, arith}
use Rattle.std.proofs.lemmas.List.{take_rest}
use Rattle.markup.specs.Found.{seen}
use Rattle.markup.specs.Front.{markup_front, reference_front}
use Rattle.markup.proofs.FirstBytes.{front_markup, front_reference}
use Rattle.markup.proofs.found.found_in.Goals as goal

pub returns-in-60-clause-front : goal.returns-in-60-clause-front
returns-in-60-clause-front c =
    let text = c.args.text.now in
    front_markup text c.markup_found.result (omega arith) (omega arith)
    (subst (λ rest. seen (60 ∷ rest) c.markup_found.result ≡ markup_front rest) (take_rest text 1)
    c.markup_found.ensures.front)

pub returns-in-38-clause-front : goal.returns-in-38-clause-front
returns-in-38-clause-front c =
    let text = c.args.text.now in
    front_reference text c.reference_found.result (omega arith) (omega arith)
    (subst (λ rest. seen (38 ∷ rest) c.reference_found.result ≡ reference_front rest)
    (take_rest text 1) c.reference_found.ensures.front)
