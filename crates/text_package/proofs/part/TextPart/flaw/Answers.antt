use Rattle.std.proofs.Common.{◌-◌, ◌+◌, Some, length, sym, ap, ◌∙◌, arith}
use Rattle.std.specs.Option.{option_map}
use Rattle.text_package.specs.TextParts.{flaw_in}
use Rattle.text_package.proofs.Texts.{text_within}
use Rattle.text_package.proofs.part.TextPart.flaw.Goals as goal

pub returns-in_default : goal.returns-in_default
returns-in_default c = ap (flaw_in c.args.self.now.1) c.in_default.ensures

pub overflow_sub-result : goal.overflow_sub-result
overflow_sub-result c =
    let within = text_within c.args.self.now.1 c.in-Some.text.now (sym c.in-Some.ensures) in
    omega (arith, c.size.ensures)

pub overflow_add-result : goal.overflow_add-result
overflow_add-result c =
    let within = text_within c.args.self.now.1 c.in-Some.text.now (sym c.in-Some.ensures) in
    omega (arith, c.size.ensures, c.in-Some-flaw_place.ensures.within)

pub returns-in-Some-flaw_place : goal.returns-in-Some-flaw_place
returns-in-Some-flaw_place c =
    let bytes = c.args.self.now.1 in
    let text = c.in-Some.text.now in
    ap (λ size. Some (size - length text + c.in-Some-flaw_place.place)) c.size.ensures
    ∙ ap (λ found. option_map (λ place. (length bytes - length text) + place) found)
    c.in-Some-flaw_place.ensures.value
    ∙ ap (flaw_in bytes) c.in-Some.ensures

pub returns-in-None : goal.returns-in-None
returns-in-None c =
    let bytes = c.args.self.now.1 in
    let text = c.in-Some.text.now in
    ap (λ found. option_map (λ place. (length bytes - length text) + place) found)
    c.in-None.ensures.value
    ∙ ap (flaw_in bytes) c.in-Some.ensures
