use Rattle.std.proofs.lemmas.Result.{on_ok_weaker}
use Rattle.std.specs.Prelude.{codes}
use Rattle.std.proofs.Common.{◌≡◌, ◌∙◌, ℕ, List, ◌++◌, ap, sym, append_assoc}
use Rattle.std.specs.Fmt.{decimal}
use Rattle.written_markup.specs.Words.{element, words, with_events}
use Rattle.xlsx_sample.specs.Sample.{sample_master_attributes}
use Rattle.xlsx_sample.proofs.rows.push_master.Goals as goal

pub returns : goal.returns
returns c =
    let rows = decimal c.args.rows in
    let front : List ℕ = codes " t=\"shared\" ref=\"B1:B" in
    let same : c.as_str.result.now ≡ sample_master_attributes c.args.rows =
    c.as_str.ensures.value ∙ c.in_ok-attributes.ensures.ok
    ∙ ap (λ (own : List ℕ). front ++ own)
    (sym (append_assoc rows (codes "\"") (codes " si=\"0\""))) in
    on_ok_weaker c.push_text.result
    (λ own. own ∙ ap (λ (attributes : List ℕ). with_events c.args.builder.now
    (element (codes "f") attributes (words (codes "A1*2")))) same)
    c.push_text.ensures
