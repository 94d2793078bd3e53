-- A tree read from the left, by recursive descent: the steps that the code takes, on lists of
-- tokens.
use Rattle.std.specs.Prelude.{ℕ, zero, suc, Bool, true, false, not, if◌then◌else◌, List, [], ◌∷◌}
use Rattle.std.specs.Prelude.{length, Option, Some, None, option_map, option_and_then}
use Rattle.formula_shift.specs.declared.reference.Reference.{Reference}
use Rattle.xlsx_check.specs.Tokens.{Token, constant, refers, sum, sign, opens, closes, comma}
use Rattle.xlsx_check.specs.Trees.{Tree, literal, total, negated, grouped, joined_by, is_comparison}
use Rattle.xlsx_check.specs.Trees.{is_addition, is_multiplication, cell_alone, is_closing}

-- a tree, and the tokens behind it
pub record TreeRead : Type 0 where
  pub tree : Tree
  pub rest : List Token

-- a tree that was read, and the tokens behind it
abbrev pub read : Tree → List Token → TreeRead
read tree rest = record { tree = tree; rest = rest }

-- what was read, changed, and the tokens behind it
abbrev pub read_as : (Tree → Tree) → TreeRead → TreeRead
read_as f r = read (f r.tree) r.rest

-- A tree goes on by each operator of a kind behind it, with the tree that `inner` reads behind
-- that. `turns` is at least the number of tokens.
abbrev pub chain_on : (Token → Bool) → (List Token → Option TreeRead) → ℕ → Tree → List Token
    → Option TreeRead
chain_on wanted inner zero left tokens = Some (read left tokens)
chain_on wanted inner (suc turns) left [] = Some (read left [])
chain_on wanted inner (suc turns) left (token ∷ tokens) =
    if wanted token then option_and_then (λ r. option_and_then
    (λ tree. chain_on wanted inner turns tree r.rest) (joined_by token left r.tree)) (inner tokens)
    else Some (read left (token ∷ tokens))

-- operands with operators of a kind between them, each taking what stands to its left
abbrev pub chain_read : (Token → Bool) → (List Token → Option TreeRead) → List Token
    → Option TreeRead
chain_read wanted inner tokens =
    option_and_then (λ r. chain_on wanted inner (length r.rest) r.tree r.rest) (inner tokens)

-- factors with `*` between them
abbrev pub product_read : (List Token → Option TreeRead) → List Token → Option TreeRead
product_read factor tokens = chain_read is_multiplication factor tokens

-- products with `+` or `-` between them
abbrev pub sum_read : (List Token → Option TreeRead) → List Token → Option TreeRead
sum_read factor tokens = chain_read is_addition (product_read factor) tokens

-- a sum goes on by one comparison behind it
abbrev pub compared_on : (List Token → Option TreeRead) → Tree → List Token → Option TreeRead
compared_on factor left [] = Some (read left [])
compared_on factor left (token ∷ tokens) =
    if is_comparison token then option_and_then (λ r. option_map
    (λ tree. read tree r.rest) (joined_by token left r.tree)) (sum_read factor tokens)
    else Some (read left (token ∷ tokens))

-- sums, with at most one comparison between two
abbrev pub comparison_read : (List Token → Option TreeRead) → List Token → Option TreeRead
comparison_read factor tokens =
    option_and_then (λ r. compared_on factor r.tree r.rest) (sum_read factor tokens)

-- the tree of a cell, if it is one, and the tokens behind it
abbrev pub cell_read : List Token → Option Tree → Option TreeRead
cell_read rest tree = option_map (λ t. read t rest) tree

-- a closing parenthesis stands in front
abbrev pub closes_first : List Token → Bool
closes_first [] = false
closes_first (token ∷ tokens) = is_closing token

-- a tree whose parenthesis is closed, and the tokens behind that
abbrev pub closed_by : Tree → List Token → Option TreeRead
closed_by tree [] = None
closed_by tree (token ∷ rest) =
    if is_closing token then Some (read (grouped tree) rest) else None

-- a comparison in parentheses, of which the first was read
abbrev pub group_read : (List Token → Option TreeRead) → List Token → Option TreeRead
group_read factor tokens =
    option_and_then (λ r. closed_by r.tree r.rest) (comparison_read factor tokens)

-- the reference that stands in front, if one does
abbrev pub first_reference : List Token → Option Reference
first_reference (refers r ∷ tokens) = Some r
first_reference _ = None

-- references, and the tokens behind the parenthesis that closes them
pub record ReferencesRead : Type 0 where
  pub references : List Reference
  pub rest : List Token

-- a reference in front of others
abbrev pub with_first_reference : Reference → ReferencesRead → ReferencesRead
with_first_reference r others = record { references = r ∷ others.references; rest = others.rest }

-- references between commas, up to a closing parenthesis
abbrev pub references_read : List Token → Option ReferencesRead
references_read (refers r ∷ closes ∷ rest) = Some (record { references = r ∷ []; rest = rest })
references_read (refers r ∷ comma ∷ tokens) = option_map (with_first_reference r)
    (references_read tokens)
references_read _ = None

-- a factor, inside fewer than so many parentheses and signs
abbrev pub factor_read : ℕ → List Token → Option TreeRead
factor_read zero tokens = None
factor_read (suc levels) (constant number ∷ rest) = Some (read (literal number) rest)
factor_read (suc levels) (refers r ∷ rest) = cell_read rest (cell_alone r r.second)
factor_read (suc levels) (sign ∷ tokens) = option_map (read_as negated) (factor_read levels tokens)
factor_read (suc levels) (opens ∷ tokens) = group_read (factor_read levels) tokens
factor_read (suc levels) (sum ∷ opens ∷ tokens) =
    option_map (λ r. read (total r.references) r.rest) (references_read tokens)
factor_read (suc levels) _ = None

-- a tree, where no token is left behind it
abbrev pub if_all : Tree → List Token → Option Tree
if_all tree [] = Some tree
if_all tree (token ∷ rest) = None

-- the tree that a descent reads of all tokens of a formula
unfoldable pub tree_read : List Token → Option Tree
tree_read tokens =
    option_and_then (λ r. if_all r.tree r.rest) (comparison_read (factor_read 65) tokens)

-- no token of a kind stands in front
abbrev pub stops : (Token → Bool) → List Token → Bool
stops wanted [] = true
stops wanted (token ∷ tokens) = not (wanted token)
