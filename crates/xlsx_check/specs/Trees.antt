-- The tree of a formula: it is split at its comparison, else at the last + or -, else at the last
-- *.
use Rattle.std.specs.Prelude.{◌≡◌, ⊤, ℕ, zero, suc, ◌-◌, ◌<◌, ◌≤◌, ◌==◌, ◌&&◌, is_none, max, Bool}
use Rattle.std.specs.Prelude.{true, false, if◌then◌else◌, List, [], ◌∷◌, ◌++◌, length, ℤ, Option}
use Rattle.std.specs.Prelude.{Some, None, option_map, option_and_then}
use Rattle.formula_shift.specs.declared.corner.Corner.{Corner}
use Rattle.formula_shift.specs.declared.reference.Reference.{Reference}
use Rattle.xlsx_check.specs.declared.token.Comparison.{Comparison}
use Rattle.xlsx_check.specs.Tokens.{Token, constant, refers, sum, plus, minus, sign, times, opens}
use Rattle.xlsx_check.specs.Tokens.{closes, comma, compares}

-- what a formula computes: constants, cells, sums of areas, and operators on trees
pub data Tree : Type 0 where
  literal : ℤ × ℤ → Tree
  cell : Reference → Tree
  total : List Reference → Tree
  negated : Tree → Tree
  grouped : Tree → Tree
  added : Tree → Tree → Tree
  less : Tree → Tree → Tree
  product : Tree → Tree → Tree
  compared : Comparison → Tree → Tree → Tree

-- how many parentheses are opened behind a token
abbrev pub open_behind : ℕ → Token → ℕ
open_behind opened opens = suc opened
open_behind opened closes = opened - 1
open_behind opened _ = opened

-- tokens cut at one of them
pub record Cut : Type 0 where
  pub front : List Token
  pub token : Token
  pub behind : List Token

-- a token in front of those before a cut
abbrev pub onto_front : Token → Cut → Cut
onto_front token cut = record { front = token ∷ cut.front; token = cut.token; behind = cut.behind }

-- a later cut, or one at this token, if it may be cut here
abbrev pub or_cut_here : Option Cut → Bool → Token → List Token → Option Cut
or_cut_here (Some later) here token behind = Some (onto_front token later)
or_cut_here None here token behind =
    if here then Some (record { front = []; token = token; behind = behind }) else None

-- tokens cut at the last one outside parentheses that passes a test
abbrev pub last_cut : (Token → Bool) → ℕ → List Token → Option Cut
last_cut wanted opened [] = None
last_cut wanted opened (token ∷ tokens) =
    or_cut_here (last_cut wanted (open_behind opened token) tokens)
    (opened == 0 && wanted token) token tokens

-- a token is a sign of comparison
abbrev pub is_comparison : Token → Bool
is_comparison (compares c) = true
is_comparison _ = false

-- a token is `+` or `-` between operands
abbrev pub is_addition : Token → Bool
is_addition plus = true
is_addition minus = true
is_addition _ = false

-- a token is `*`
abbrev pub is_multiplication : Token → Bool
is_multiplication times = true
is_multiplication _ = false

-- two trees, joined by the token between them
abbrev pub joined_by : Token → Tree → Tree → Option Tree
joined_by plus left right = Some (added left right)
joined_by minus left right = Some (less left right)
joined_by times left right = Some (product left right)
joined_by (compares c) left right = Some (compared c left right)
joined_by _ left right = None

-- two trees joined by the token between them, where both are there
abbrev pub both_trees : Token → Option Tree → Option Tree → Option Tree
both_trees token (Some left) (Some right) = joined_by token left right
both_trees token (Some left) None = None
both_trees token None right = None

-- the tree on both sides of a cut, where `before` gives that of what stands in front
abbrev pub cut_by : (List Token → Option Tree) → (List Token → Option Tree) → List Token
    → Option Cut → Option Tree
cut_by inner before tokens None = inner tokens
cut_by inner before tokens (Some cut) =
    both_trees cut.token (before cut.front) (inner cut.behind)

-- The tree of tokens that are cut at their last token of a kind, and so again in front of it;
-- without one they have the tree that `inner` gives. `turns` is at least the number of tokens.
abbrev pub chained : (Token → Bool) → (List Token → Option Tree) → ℕ → List Token → Option Tree
chained wanted inner zero tokens = None
chained wanted inner (suc turns) tokens =
    cut_by inner (chained wanted inner turns) tokens (last_cut wanted 0 tokens)

-- the tree of tokens that are cut at tokens of a kind
abbrev pub chain_of : (Token → Bool) → (List Token → Option Tree) → List Token → Option Tree
chain_of wanted inner tokens = chained wanted inner (suc (length tokens)) tokens

-- the tree of tokens that are cut at their one comparison
abbrev pub compared_at : (List Token → Option Tree) → List Token → Option Cut → Option Tree
compared_at inner tokens None = inner tokens
compared_at inner tokens (Some cut) =
    if is_none (last_cut is_comparison 0 cut.front)
    then both_trees cut.token (inner cut.front) (inner cut.behind) else None

-- tokens outside whose parentheses at most one comparison stands
abbrev pub comparison_of : (List Token → Option Tree) → List Token → Option Tree
comparison_of inner tokens = compared_at inner tokens (last_cut is_comparison 0 tokens)

-- the tree of a reference to one cell, where it has no second corner
abbrev pub cell_alone : Reference → Option Corner → Option Tree
cell_alone r None = Some (cell r)
cell_alone r (Some second) = None

-- a token closes a parenthesis
abbrev pub is_closing : Token → Bool
is_closing closes = true
is_closing _ = false

-- what stands before a closing parenthesis that ends tokens
abbrev pub before_closing : List Token → Option (List Token)
before_closing [] = None
before_closing (token ∷ []) = if is_closing token then Some [] else None
before_closing (token ∷ next ∷ tokens) =
    option_map (λ front. token ∷ front) (before_closing (next ∷ tokens))

-- the references that tokens are, with commas between them
abbrev pub references_between : List Token → Option (List Reference)
references_between (refers r ∷ []) = Some (r ∷ [])
references_between (refers r ∷ comma ∷ tokens) =
    option_map (λ others. r ∷ others) (references_between tokens)
references_between _ = None

-- the tree of tokens that are no sum, no product and no comparison
abbrev pub factor_of : (List Token → Option Tree) → List Token → Option Tree
factor_of inner (constant number ∷ []) = Some (literal number)
factor_of inner (refers r ∷ []) = cell_alone r r.second
factor_of inner (sign ∷ tokens) = option_map negated (inner tokens)
factor_of inner (opens ∷ tokens) =
    option_map grouped (option_and_then inner (before_closing tokens))
factor_of inner (sum ∷ opens ∷ tokens) =
    option_map total (option_and_then references_between (before_closing tokens))
factor_of inner _ = None

-- the tree of tokens, where fewer than `levels` parentheses and signs are round any of them
abbrev pub tree_within : ℕ → List Token → Option Tree
tree_within zero tokens = None
tree_within (suc levels) tokens =
    comparison_of (chain_of is_addition (chain_of is_multiplication (factor_of
    (tree_within levels)))) tokens

-- the tree of a formula's tokens: no token stands inside more than 64 parentheses and signs
unfoldable pub formula_tree : List Token → Option Tree
formula_tree tokens = tree_within 65 tokens

-- ---- what trees are spelled as

-- the tokens of references with commas between them
abbrev pub references_spelled : List Reference → List Token
references_spelled [] = []
references_spelled (r ∷ []) = refers r ∷ []
references_spelled (r ∷ next ∷ others) = refers r ∷ comma ∷ references_spelled (next ∷ others)

-- the tokens by which a tree is written, each parenthesis among them
abbrev pub tree_tokens : Tree → List Token
tree_tokens (literal number) = constant number ∷ []
tree_tokens (cell r) = refers r ∷ []
tree_tokens (total rs) = sum ∷ opens ∷ (references_spelled rs ++ closes ∷ [])
tree_tokens (negated t) = sign ∷ tree_tokens t
tree_tokens (grouped t) = opens ∷ (tree_tokens t ++ closes ∷ [])
tree_tokens (added l r) = tree_tokens l ++ plus ∷ tree_tokens r
tree_tokens (less l r) = tree_tokens l ++ minus ∷ tree_tokens r
tree_tokens (product l r) = tree_tokens l ++ times ∷ tree_tokens r
tree_tokens (compared c l r) = tree_tokens l ++ compares c ∷ tree_tokens r

-- how loosely a tree is joined: a factor, a product, a sum, a comparison
abbrev pub looseness : Tree → ℕ
looseness (product l r) = 1
looseness (added l r) = 2
looseness (less l r) = 2
looseness (compared c l r) = 3
looseness _ = 0

-- each operator takes what stands to the left of it, and the next tighter one to the right
abbrev pub IsLeftmost : Tree → Type 0
IsLeftmost (literal number) = ⊤
IsLeftmost (cell r) = r.second ≡ None
IsLeftmost (total rs) = 0 < length rs
IsLeftmost (negated t) = (looseness t ≤ 0) × IsLeftmost t
IsLeftmost (grouped t) = IsLeftmost t
IsLeftmost (added l r) =
    (looseness l ≤ 2) × (looseness r ≤ 1) × IsLeftmost l × IsLeftmost r
IsLeftmost (less l r) =
    (looseness l ≤ 2) × (looseness r ≤ 1) × IsLeftmost l × IsLeftmost r
IsLeftmost (product l r) =
    (looseness l ≤ 1) × (looseness r ≤ 0) × IsLeftmost l × IsLeftmost r
IsLeftmost (compared c l r) =
    (looseness l ≤ 2) × (looseness r ≤ 2) × IsLeftmost l × IsLeftmost r

-- how many parentheses and signs are round the innermost token of a tree
abbrev pub enclosures : Tree → ℕ
enclosures (literal number) = 0
enclosures (cell r) = 0
enclosures (total rs) = 0
enclosures (negated t) = suc (enclosures t)
enclosures (grouped t) = suc (enclosures t)
enclosures (added l r) = max (enclosures l) (enclosures r)
enclosures (less l r) = max (enclosures l) (enclosures r)
enclosures (product l r) = max (enclosures l) (enclosures r)
enclosures (compared c l r) = max (enclosures l) (enclosures r)
