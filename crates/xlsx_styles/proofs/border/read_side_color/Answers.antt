use Rattle.std.proofs.Common.{◌≡◌, ℕ, Option, Result, Ok, sym, ◌∙◌, ap, codes, arith, rules}
use Rattle.std.proofs.lemmas.Result.{MatchResult-weaker}
use Rattle.part_events.specs.Words.{ahead, content, inside}
use Rattle.cell_styles.specs.declared.color.Color.{Color}
use Rattle.xlsx_sections.specs.Words.{IsInsideRefused, always, Refusal}
use Rattle.xlsx_sections.proofs.StartsKept.{own_item}
use Rattle.xlsx_sections.proofs.StartsSaid.{own_refused}
use Rattle.xlsx_styles.specs.Borders.{color_in}
use Rattle.xlsx_styles.proofs.border.read_side_color.Goals as goal

pub returns : goal.returns
returns g c =
    let old = c.args.xml.now in
    let meaning = color_in c.args.theme_colors.now in
    let none : inside c.depth-base.result old ≡ 0 = omega (arith, c.depth-base.ensures) in
    record {
      reads = search rules;
      says = λ told. MatchResult-weaker c.keep_last.result (c.keep_last.ensures.kept told)
          (λ item is. sym (ap (λ (n : ℕ). meaning (content n (ahead old))) none) ∙ is
          ∙ ap (λ (own : Option Color).
          let answer : Result (Option Color) Refusal = Ok own in answer) (own_item item))
          (λ _ _. tt);
      err = MatchResult-weaker c.keep_last.result c.keep_last.ensures.err (λ _ _. tt)
          (λ error fails. own_refused old (always (codes "border side")) (IsInsideRefused meaning)
          c.keep_last.new.xml.source error c.depth-base.ensures fails);
      kind = c.keep_last.ensures.kind;
    }
