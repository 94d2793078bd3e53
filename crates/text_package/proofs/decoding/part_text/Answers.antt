use Rattle.std.proofs.Common.{sym, ◌∙◌}
use Rattle.text_package.proofs.Texts.{no_text, is_text}
use Rattle.text_package.proofs.decoding.part_text.Goals as goal

pub returns-in_default : goal.returns-in_default
returns-in_default c = no_text c.args.bytes.now c.in_default.ensures.cases.0

pub returns : goal.returns
returns c =
    is_text c.args.bytes.now c.in-Ok.text.now c.without_mark-text.result.now c.memchr.result
    c.in-Ok.ensures.cases c.memchr.ensures (sym c.is_some.ensures ∙ c.if-is_some.false)
    c.without_mark-text.ensures (sym c.declares_other.ensures ∙ c.if-declares_other.false)
