use Rattle.std.proofs.Common.{rules, refl, ◌≡◌, ◌∙◌, ap, ◌++◌, [], ◌∷◌, subst, sym}
use Rattle.std.specs.Str.{IsUtf8}
use Rattle.std.proofs.lemmas.Str.{IsUtf8-append}
use Rattle.json.specs.Print.{print}
use Rattle.json.proofs.Printed.Utf8.{IsUtf8-are_ascii}
use Rattle.json_lines.proofs.line.end_line.Goals as goal

pub returns-clause-utf8 : goal.returns-clause-utf8
returns-clause-utf8 c = λ before.
    let text = print c.args.writer.tokens in
    let end : IsUtf8 (10 ∷ []) = IsUtf8-are_ascii (10 ∷ []) refl in
    let pushed : c.push.new.self.items ≡ c.into_inner-out.result.items ++ 10 ∷ [] =
    search rules in
    let is : c.push.new.self.items ≡ (c.args.writer.before ++ text) ++ 10 ∷ [] =
    pushed ∙ ap (λ own. own ++ 10 ∷ []) c.into_inner-out.ensures.items in
    let whole = IsUtf8-append (c.args.writer.before ++ text) (10 ∷ [])
    (IsUtf8-append c.args.writer.before text before c.into_inner-out.ensures.utf8) end in
    subst IsUtf8 (sym is) whole
