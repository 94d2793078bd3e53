use Rattle.std.proofs.Common.{◌≡◌, ◌++◌, List, ℕ, false, sym, ◌∙◌, ap, string_bytes}
use Rattle.std.specs.Prelude.{◌==◌}
use Rattle.std.specs.List.{list_any}
use Rattle.attr_text.proofs.EscapesLemmas.{unescaped_plain}
use Rattle.attr_text.proofs.escapes.push_unescaped.Goals as goal

pub returns-in_ok-push_str-2-clause-ok : goal.returns-in_ok-push_str-2-clause-ok
returns-in_ok-push_str-2-clause-ok c =
    let text = c.args.text.now in
    let none : list_any (λ (b : ℕ). b == 95) text ≡ false =
    ap (list_any (λ (b : ℕ). b == 95)) (sym c.as_bytes.ensures.value)
    ∙ sym c.has_underscore.ensures ∙ c.if-has_underscore.false in
    c.in_ok-push_str-2.ensures.bytes
    ∙ ap (λ (own : List ℕ). string_bytes c.args.out.now ++ own) (sym (unescaped_plain text none))
