use Rattle.std.proofs.Common.{◌+◌, length, drop, arith, inl, inr, length-drop, get_or}
use Rattle.std.proofs.lemmas.Bool.{cases_lt}
use Rattle.std.proofs.lemmas.List.{drop_more}
use Rattle.std.proofs.lemmas.List.Elements.{All-rest}
use Rattle.xlsx_writer.specs.Writing.{IsFormInSheet}
use Rattle.xlsx_writer.proofs.sheet.FormsLeft.next_at.Goals as goal

pub returns-clause-left_fits : goal.returns-clause-left_fits
returns-clause-left_fits c =
    let all = c.args.self.now.all.now in
    let next = c.args.self.now.next in
    let blank = c.in_ok-formula.field-0.now in
    λ fit. elim (cases_lt next (length all)) [
      | inl inside ↦
          All-rest IsFormInSheet (get_or all next blank) (drop (next + 1) all) (drop next all)
          (drop_more all next blank inside) fit
      | inr behind ↦ λ k d within.
          let none = length-drop (next + 1) all in
          absurd (omega (arith, none, within))
    ]
