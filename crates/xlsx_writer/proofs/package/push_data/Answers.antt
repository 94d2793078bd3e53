use Rattle.std.proofs.Common.{◌≡◌, ◌∙◌, ap, refl, sym, subst, string_bytes}
use Rattle.std.proofs.lemmas.Result.{on_ok_weaker}
use Rattle.std.specs.Prelude.{codes, [], None}
use Rattle.cell_data.specs.Words.{value_of_data, value_pairs, formula_pairs, cells_of, AreInOrder}
use Rattle.cell_data.proofs.Stepping.{meant}
use Rattle.written_markup.specs.Words.{with_events}
use Rattle.written_markup.proofs.Drafted.{element_written}
use Rattle.xlsx_writer.specs.WrittenSheet.{data_markup}
use Rattle.xlsx_writer.specs.Writing.{PlacedForms, data_left, placed_forms, form_entries}
use Rattle.xlsx_writer.specs.Writing.{forms_left}
use Rattle.xlsx_writer.proofs.Heads.{meant_in_order}
use Rattle.xlsx_writer.proofs.WholeData.{data_same, forms_in_order}
use Rattle.xlsx_writer.proofs.package.push_data.Goals as goal

pub push_rows-requires-clause-formulas : goal.push_rows-requires-clause-formulas
push_rows-requires-clause-formulas c =
    let formulas = formula_pairs c.args.formulas.now in
    let all : forms_left c.new.result ≡ placed_forms c.args.form formulas =
    c.new.ensures.forms ∙ ap form_entries c.deref.ensures.value ∙ c.in_ok-forms.ensures.forms
    ∙ ap (λ cells. placed_forms c.args.form (meant string_bytes cells)) c.used.ensures.cells in
    subst (λ (forms : PlacedForms). AreInOrder forms) (sym all)
    (forms_in_order c.args.form formulas (meant_in_order string_bytes (cells_of c.args.formulas.now)
    (record { rising = c.used.ensures.rising; sheet = c.used.ensures.sheet })))

pub returns : goal.returns
returns c =
    let values = value_pairs c.args.values.now in
    let formulas = formula_pairs c.args.formulas.now in
    let all : forms_left c.new.result ≡ placed_forms c.args.form formulas =
    c.new.ensures.forms ∙ ap form_entries c.deref.ensures.value ∙ c.in_ok-forms.ensures.forms
    ∙ ap (λ cells. placed_forms c.args.form (meant string_bytes cells)) c.used.ensures.cells in
    let cells = c.used-2.ensures.cells in
    on_ok_weaker c.close.result
    (element_written c.args.builder.now c.open.new.self c.push_rows.new.builder c.close.new.self
    (codes "sheetData") [] [] (data_markup c.args.form values formulas) c.in_ok-open.ensures refl
    (c.in_ok-push_rows.ensures
    ∙ ap (with_events c.open.new.self)
    ((λ i. data_left c.args.form None (meant value_of_data (cells i)) (all i))
    ∙ data_same c.args.form values formulas)))
    c.close.ensures
