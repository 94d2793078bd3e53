use Rattle.std.proofs.Common.{◌≡◌, ℕ, false, sym, ◌∙◌, ap, string_bytes}
use Rattle.std.specs.Prelude.{◌==◌}
use Rattle.std.specs.List.{list_any}
use Rattle.attr_text.proofs.EscapesLemmas.{unescaped_plain}
use Rattle.attr_text.proofs.escapes.unescaped.Goals as goal

pub returns-else-has_underscore : goal.returns-else-has_underscore
returns-else-has_underscore c =
    let text = string_bytes c.args.text in
    let none : list_any (λ (b : ℕ). b == 95) text ≡ false =
    ap (list_any (λ (b : ℕ). b == 95)) (sym c.as_bytes.ensures.value)
    ∙ sym c.has_underscore.ensures ∙ c.if-has_underscore.false in
    sym (unescaped_plain text none)
