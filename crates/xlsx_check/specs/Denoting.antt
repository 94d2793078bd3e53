-- What the code computes with, and what it reads.
use Rattle.std.specs.Prelude.{ℕ, ◌++◌, Bool, true, false, List, [], ◌∷◌, map, Option, Some, None}
use Rattle.std.specs.Prelude.{option_to_list}
use Rattle.std.specs.Option.{option_map}
use Rattle.cell_data.specs.Words.{CellValue, value_of_data, cells_of}
use Rattle.cell_data.specs.declared.range.Range.{Range}
use Rattle.cell_data.specs.declared.value.Data.{Data}
use Rattle.decimals.specs.Words.{number_of}
use Rattle.xlsx_check.specs.declared.ahead.Ahead.{Ahead}
use Rattle.xlsx_check.specs.declared.denotation.Denotation.{Denotation}
use Rattle.xlsx_check.specs.declared.denotation.Denotation.TheVariants as code
use Rattle.xlsx_check.specs.declared.token.Kind.{Kind}
use Rattle.xlsx_check.specs.declared.token.Kind.TheVariants as kind
use Rattle.xlsx_check.specs.declared.token.Separator.{Separator}
use Rattle.xlsx_check.specs.declared.token.Separator.TheVariants as separator
use Rattle.xlsx_check.specs.Evaluation.{Denoted, a_number, a_truth, number_past, truth_past}
use Rattle.xlsx_check.specs.Evaluation.{unsupported, of_two, sum_of, difference_of, product_of}
use Rattle.xlsx_check.specs.Evaluation.{holds, gap, result_of, total_of}
use Rattle.xlsx_check.specs.Reading.{TreeRead, ReferencesRead, product_read, sum_read}
use Rattle.xlsx_check.specs.Reading.{comparison_read, factor_read, group_read, references_read}
use Rattle.xlsx_check.specs.TokenView.{token_of, tokens_to_give}
use Rattle.xlsx_check.specs.Tokens.{Token, plus, minus, times, compares, comma, closes, opens}
use Rattle.xlsx_check.specs.Trees.{is_comparison, is_addition, is_multiplication}

-- what a value of the code stands for
abbrev pub denoted_by : Denotation → Denoted
denoted_by (code.Number number) = a_number (number_of number)
denoted_by (code.Truth truth) = a_truth truth
denoted_by code.NumberPast = number_past
denoted_by code.TruthPast = truth_past
denoted_by code.Unsupported = unsupported

-- a result is that something in a formula isn't computed
abbrev pub is_unsupported : Denoted → Bool
is_unsupported unsupported = true
is_unsupported _ = false

-- what two results come to that a token joins: an operator between two operands
abbrev pub joined_result : Token → Denoted → Denoted → Denoted
joined_result plus a b = of_two sum_of number_past a b
joined_result minus a b = of_two difference_of number_past a b
joined_result times a b = of_two product_of number_past a b
joined_result (compares c) a b = of_two (λ a b. a_truth (holds c (gap a b))) truth_past a b
joined_result _ a b = unsupported

-- the tokens of a kind of operators
abbrev pub wanted_by : Kind → Token → Bool
wanted_by kind.Comparison token = is_comparison token
wanted_by kind.Addition token = is_addition token
wanted_by kind.Multiplication token = is_multiplication token

-- the token of a comma or of a closing parenthesis
abbrev pub separator_token : Separator → Token
separator_token separator.Comma = comma
separator_token separator.Closing = closes

-- what stands in front of tokens, behind a reference in a total
abbrev pub separator_first : List Token → Option Separator
separator_first (comma ∷ tokens) = Some separator.Comma
separator_first (closes ∷ tokens) = Some separator.Closing
separator_first _ = None

-- the used cells of a range with their values
abbrev pub values_of : Range Data → List ((ℕ × ℕ) × CellValue)
values_of range = map (λ cell. (cell.0, value_of_data cell.1)) (cells_of range)

-- the tokens that are still to be read
abbrev pub tokens_ahead : Ahead → List Token
tokens_ahead it = option_to_list (option_map token_of it.next) ++ tokens_to_give it.rest

-- what a tree that was read comes to, if there is one, over the values of cells
abbrev pub value_read : List ((ℕ × ℕ) × CellValue) → Option TreeRead → Denoted
value_read values None = unsupported
value_read values (Some r) = result_of values r.tree

-- the tokens behind what was read of a tree
abbrev pub rest_read : Option TreeRead → List Token
rest_read None = []
rest_read (Some r) = r.rest

-- the sum over references that were read between parentheses, or nothing where they couldn't be
abbrev pub total_of_references : List ((ℕ × ℕ) × CellValue) → Option ReferencesRead → Denoted
total_of_references values None = unsupported
total_of_references values (Some r) = total_of values r.references

-- the tokens behind the references that were read
abbrev pub references_rest : Option ReferencesRead → List Token
references_rest None = []
references_rest (Some r) = r.rest

-- the tree of a factor in front of tokens, where fewer parentheses and signs than these levels are
-- round each token, and the tokens behind it
unfoldable pub factor_from : ℕ → List Token → Option TreeRead
factor_from levels tokens = factor_read levels tokens

-- the tree of a product in front of tokens, factors with `*` between them, and the tokens behind it
unfoldable pub product_from : ℕ → List Token → Option TreeRead
product_from levels tokens = product_read (factor_read levels) tokens

-- the tree of a sum in front of tokens, products with `+` or `-` between them, and the tokens
-- behind it
unfoldable pub sum_from : ℕ → List Token → Option TreeRead
sum_from levels tokens = sum_read (factor_read levels) tokens

-- the tree of one sum in front of tokens, or of a comparison of two, and the tokens behind it
unfoldable pub comparison_from : ℕ → List Token → Option TreeRead
comparison_from levels tokens = comparison_read (factor_read levels) tokens

-- the tree of a comparison in front of tokens whose closing parenthesis stands behind it, and the
-- tokens behind that
unfoldable pub group_from : ℕ → List Token → Option TreeRead
group_from levels tokens = group_read (factor_read levels) tokens

-- what is read of references with commas between them, up to a closing parenthesis
unfoldable pub references_from : List Token → Option ReferencesRead
references_from tokens = references_read tokens

-- the references behind an opening parenthesis, with commas between them, up to the closing one
abbrev pub opened_references : List Token → Option ReferencesRead
opened_references (opens ∷ tokens) = references_from tokens
opened_references _ = None
