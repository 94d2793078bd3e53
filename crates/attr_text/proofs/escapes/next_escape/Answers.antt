use Rattle.std.proofs.Common.{sym, ap, ◌∙◌}
use Rattle.std.proofs.lemmas.List.{take_rest}
use Rattle.attr_text.specs.Text.{escaped_character}
use Rattle.attr_text.proofs.EscapesLemmas.{unescaped-more, unescaped-end, HasEscapeAt-found}
use Rattle.attr_text.proofs.escapes.next_escape.Goals as goal

pub returns-in-Some : goal.returns-in-Some
returns-in-Some c =
    let bytes = c.args.bytes.now in
    let i = c.loop-i.i in
    HasEscapeAt-found bytes i c.in-Some.c c.loop-i-test.true c.loop-i.invariant
    (ap escaped_character (sym (take_rest bytes i)) ∙ sym c.in-Some.ensures)

pub loop-i-preserved : goal.loop-i-preserved
loop-i-preserved c =
    let bytes = c.args.bytes.now in
    let i = c.loop-i.i in
    unescaped-more bytes i c.loop-i-test.true c.loop-i.invariant
    (ap escaped_character (sym (take_rest bytes i)) ∙ sym c.in_default.ensures)

pub returns : goal.returns
returns c = unescaped-end c.args.bytes.now c.loop-i.i c.loop-i-test.false c.loop-i.invariant
