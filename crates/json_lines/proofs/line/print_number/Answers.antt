use Rattle.std.proofs.Common.{rules, ◌≡◌, subst, sym}
use Rattle.decimals.specs.Words.{number_of, printed}
use Rattle.json.specs.Print.{IsNumber}
use Rattle.json_lines.specs.JsonLines.{IsOfDecimal}
use Rattle.json_lines.proofs.NumberTexts.{printed_number}
use Rattle.json_lines.proofs.line.print_number.Goals as goal

pub returns : goal.returns
returns c =
    let own = c.args.decimal.now in
    let is : IsOfDecimal (number_of own) =
    record { whole = search rules; power = search rules; zero = own.zero } in
    let text : c.as_str.result.now ≡ printed (number_of own) = search rules in
    record { text = text; number = subst IsNumber (sym text) (printed_number (number_of own) is) }
