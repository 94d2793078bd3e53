use Rattle.std.proofs.Common.{sym, ◌∙◌, ap, length, map}
use Rattle.std.specs.Prelude.{is_some}
use Rattle.format_codes.specs.Choosing.{text_section}
use Rattle.format_codes.proofs.TextsTaken.{known_of_none, texts_taken}
use Rattle.format_codes.proofs.shown_format.take_texts.Goals as goal

pub returns-then-has_texts-clause-texts : goal.returns-then-has_texts-clause-texts
returns-then-has_texts-clause-texts c =
    texts_taken c.args.sections.now.items c.pop.new.self.items c.pop.result c.pop.ensures.items
    (λ none. ap length (sym c.deref.ensures.value)
    ∙ (c.deref.ensures.len ∙ (known_of_none _ _ _ c.pop.ensures.cases none).0))
    (ap (λ xs. is_some (text_section (map (λ s. s.items) xs))) (sym c.deref.ensures.value)
    ∙ (sym c.has_texts.ensures ∙ c.if-has_texts.true))
