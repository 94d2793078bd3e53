use Rattle.std.proofs.Common.{◌≡◌, ◌∙◌, ◌++◌, ◌∷◌, [], ap, append_assoc, rules, sym, string_bytes}
use Rattle.std.proofs.lemmas.Result.{on_ok_weaker}
use Rattle.escaped_text.proofs.Extending.{Extends-push, Extends-trans}
use Rattle.escaped_text.specs.Escaped.{escaped}
use Rattle.xlsx_graph.specs.GraphLines.{doubled}
use Rattle.xlsx_graph.proofs.LineTexts.{doubled_around, doubled_whole}
use Rattle.xlsx_graph.proofs.graph_lines.push_doubled.Goals as goal

pub parts-preserved : goal.parts-preserved
parts-preserved c =
    let was = string_bytes c.parts.out in
    let before = c.in-Some.before.now in
    let rest = escaped (doubled c.in-Some.behind.now) in
    let second : string_bytes c.push_str.new.self
    ≡ string_bytes c.push_escaped.new.out ++ 39 ∷ 39 ∷ [] =
    search rules in
    let now : string_bytes c.push_str.new.self ≡ was ++ (escaped before ++ 39 ∷ 39 ∷ []) =
    second ∙ ap (λ bs. bs ++ 39 ∷ 39 ∷ []) c.in_ok-push_escaped.ensures.ok
    ∙ append_assoc was (escaped before) (39 ∷ 39 ∷ []) in
    record {
      extends = Extends-trans (string_bytes c.args.out.now) was (string_bytes c.push_str.new.self)
          c.parts.invariant.extends
          (Extends-push was (string_bytes c.push_str.new.self)
          (escaped before ++ 39 ∷ 39 ∷ []) now);
      lines = ap (λ bs. bs ++ rest) now
          ∙ append_assoc was (escaped before ++ 39 ∷ 39 ∷ []) rest
          ∙ ap (λ bs. was ++ bs) (append_assoc (escaped before) (39 ∷ 39 ∷ []) rest)
          ∙ ap (λ bs. was ++ bs)
          (sym (doubled_around c.parts.rest.now before c.in-Some.behind.now c.in-Some.ensures.0
          c.in-Some.ensures.1 c.in-Some.ensures.2))
          ∙ c.parts.invariant.lines;
      utf8 = search rules;
    }

pub returns-clause-ok : goal.returns-clause-ok
returns-clause-ok c =
    let last = doubled_whole c.parts.rest.now c.in_default.ensures in
    on_ok_weaker c.push_escaped-2.result
    (λ pushed. pushed ∙ ap (λ bs. string_bytes c.parts.out ++ escaped bs) (sym last)
    ∙ c.parts.invariant.lines)
    c.push_escaped-2.ensures.ok
