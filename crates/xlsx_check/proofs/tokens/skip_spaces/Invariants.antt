use Rattle.std.proofs.Common.{◌≡◌, length}
use Rattle.xlsx_check.specs.Tokens.{symbol_tokens}
use Rattle.xlsx_check.proofs.tokens.skip_spaces.Given as goal

abbrev pub invariant-spaces : goal.invariant-spaces
invariant-spaces l = symbol_tokens l.rest ≡ symbol_tokens l.text

abbrev pub decreases-spaces : goal.decreases-spaces
decreases-spaces l = length l.rest
