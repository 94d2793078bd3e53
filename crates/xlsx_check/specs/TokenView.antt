-- The tokens of the code, and what its iterator over them gives.
use Rattle.std.specs.Prelude.{List, ◌++◌}
use Rattle.decimals.specs.Words.{number_of}
use Rattle.formula_shift.specs.Words.{pieces_left}
use Rattle.xlsx_check.specs.declared.token.Token.{Token as CodeToken}
use Rattle.xlsx_check.specs.declared.token.Token.TheVariants as code
use Rattle.xlsx_check.specs.declared.tokens.Tokens.{Tokens}
use Rattle.xlsx_check.specs.Tokens.{Token, constant, refers, sum, plus, minus, sign, times, opens}
use Rattle.xlsx_check.specs.Tokens.{closes, comma, compares, stray, symbol_tokens, tokens_of}
use Rattle.xlsx_check.specs.Tokens.{with_signs}

-- a token of a formula as it is kept in code
abbrev pub token_of : CodeToken → Token
token_of (code.Constant number) = constant (number_of number)
token_of (code.Refers reference) = refers reference
token_of code.Sum = sum
token_of code.Plus = plus
token_of code.Minus = minus
token_of code.Sign = sign
token_of code.Times = times
token_of code.Opens = opens
token_of code.Closes = closes
token_of code.Comma = comma
token_of (code.Compares comparison) = compares comparison
token_of code.Stray = stray

-- the tokens that are left to give, before a `-` is told from a sign
abbrev pub unsigned_left : Tokens → List Token
unsigned_left it = symbol_tokens it.symbols.now ++ tokens_of (pieces_left it.pieces)

-- the tokens that are left to give
abbrev pub tokens_to_give : Tokens → List Token
tokens_to_give it = with_signs it.behind_operand (unsigned_left it)
