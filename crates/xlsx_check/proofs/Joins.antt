-- What two trees that a token joins are, and what a joined tree is made of.
use Rattle.std.proofs.Common.{◌≡◌, ℕ, suc, ◌≤◌, Bool, true, ◌∷◌, ◌++◌, Some, max, refl, arith}
use Rattle.xlsx_check.specs.Tokens.{Token, plus, minus, times, compares}
use Rattle.xlsx_check.specs.Trees.{Tree, added, less, product, compared, open_behind, is_comparison}
use Rattle.xlsx_check.specs.Trees.{is_addition, is_multiplication, joined_by, tree_tokens}
use Rattle.xlsx_check.specs.Trees.{looseness, IsLeftmost, enclosures}

-- two trees joined by a token: at most so loose ones to the left and to the right make a leftmost
-- tree, which is looser than the right one
pub record Joins (most least : ℕ) (token : Token) (left right : Tree) : Type 0 where
  pub tree : Tree
  pub is : joined_by token left right ≡ Some tree
  pub spelled_is : tree_tokens tree ≡ tree_tokens left ++ token ∷ tree_tokens right
  pub loose : looseness tree ≡ suc least
  pub leftmost :
      looseness left ≤ most → looseness right ≤ least → IsLeftmost left → IsLeftmost right →
      IsLeftmost tree
  pub within : enclosures tree ≡ max (enclosures left) (enclosures right)

-- a tree that is joined by a token of a kind
pub record Splits (wanted : Token → Bool) (most least : ℕ) (tree : Tree) : Type 0 where
  pub left : Tree
  pub right : Tree
  pub token : Token
  pub wants : wanted token ≡ true
  pub is : joined_by token left right ≡ Some tree
  pub spelled_is : tree_tokens tree ≡ tree_tokens left ++ token ∷ tree_tokens right
  pub loose_left : looseness left ≤ most
  pub loose_right : looseness right ≤ least
  pub left_is : IsLeftmost left
  pub right_is : IsLeftmost right
  pub within : enclosures tree ≡ max (enclosures left) (enclosures right)

-- a kind of operators
pub record IsKind (wanted : Token → Bool) (most least : ℕ) : Type 0 where
  pub joins : (token : Token) → wanted token ≡ true → (left right : Tree) →
      Joins most least token left right
  pub splits : (tree : Tree) → IsLeftmost tree → looseness tree ≡ suc least →
      Splits wanted most least tree
  pub flat : (token : Token) → wanted token ≡ true → (opened : ℕ) →
      open_behind opened token ≡ opened

joins_product : (token : Token) → is_multiplication token ≡ true → (left right : Tree) →
    Joins 1 0 token left right
joins_product times wants left right = record {
  tree = product left right;
  is = refl;
  spelled_is = refl;
  loose = refl;
  leftmost = λ a b c d. (a, b, c, d);
  within = refl;
}
joins_product _ wants left right = absurd (cc)

splits_product : (tree : Tree) → IsLeftmost tree → looseness tree ≡ 1 →
    Splits is_multiplication 1 0 tree
splits_product (product l r) leftmost loose = record {
  left = l;
  right = r;
  token = times;
  wants = refl;
  is = refl;
  spelled_is = refl;
  loose_left = leftmost.0;
  loose_right = leftmost.1;
  left_is = leftmost.2;
  right_is = leftmost.3;
  within = refl;
}
splits_product _ leftmost loose = absurd (omega arith)

flat_product : (token : Token) → is_multiplication token ≡ true → (opened : ℕ) →
    open_behind opened token ≡ opened
flat_product times wants opened = refl
flat_product _ wants opened = absurd (cc)

pub products : IsKind is_multiplication 1 0
products = record { joins = joins_product; splits = splits_product; flat = flat_product }

joins_sum : (token : Token) → is_addition token ≡ true → (left right : Tree) →
    Joins 2 1 token left right
joins_sum plus wants left right = record {
  tree = added left right;
  is = refl;
  spelled_is = refl;
  loose = refl;
  leftmost = λ a b c d. (a, b, c, d);
  within = refl;
}
joins_sum minus wants left right = record {
  tree = less left right;
  is = refl;
  spelled_is = refl;
  loose = refl;
  leftmost = λ a b c d. (a, b, c, d);
  within = refl;
}
joins_sum _ wants left right = absurd (cc)

splits_sum : (tree : Tree) → IsLeftmost tree → looseness tree ≡ 2 → Splits is_addition 2 1 tree
splits_sum (added l r) leftmost loose = record {
  left = l;
  right = r;
  token = plus;
  wants = refl;
  is = refl;
  spelled_is = refl;
  loose_left = leftmost.0;
  loose_right = leftmost.1;
  left_is = leftmost.2;
  right_is = leftmost.3;
  within = refl;
}
splits_sum (less l r) leftmost loose = record {
  left = l;
  right = r;
  token = minus;
  wants = refl;
  is = refl;
  spelled_is = refl;
  loose_left = leftmost.0;
  loose_right = leftmost.1;
  left_is = leftmost.2;
  right_is = leftmost.3;
  within = refl;
}
splits_sum _ leftmost loose = absurd (omega arith)

flat_sum : (token : Token) → is_addition token ≡ true → (opened : ℕ) →
    open_behind opened token ≡ opened
flat_sum plus wants opened = refl
flat_sum minus wants opened = refl
flat_sum _ wants opened = absurd (cc)

pub sums : IsKind is_addition 2 1
sums = record { joins = joins_sum; splits = splits_sum; flat = flat_sum }

joins_compared : (token : Token) → is_comparison token ≡ true → (left right : Tree) →
    Joins 2 2 token left right
joins_compared (compares c) wants left right = record {
  tree = compared c left right;
  is = refl;
  spelled_is = refl;
  loose = refl;
  leftmost = λ a b c d. (a, b, c, d);
  within = refl;
}
joins_compared _ wants left right = absurd (cc)

splits_compared : (tree : Tree) → IsLeftmost tree → looseness tree ≡ 3 →
    Splits is_comparison 2 2 tree
splits_compared (compared c l r) leftmost loose = record {
  left = l;
  right = r;
  token = compares c;
  wants = refl;
  is = refl;
  spelled_is = refl;
  loose_left = leftmost.0;
  loose_right = leftmost.1;
  left_is = leftmost.2;
  right_is = leftmost.3;
  within = refl;
}
splits_compared _ leftmost loose = absurd (omega arith)

flat_compared : (token : Token) → is_comparison token ≡ true → (opened : ℕ) →
    open_behind opened token ≡ opened
flat_compared (compares c) wants opened = refl
flat_compared _ wants opened = absurd (cc)

pub comparisons : IsKind is_comparison 2 2
comparisons = record { joins = joins_compared; splits = splits_compared; flat = flat_compared }

-- no tree is looser than a comparison
pub loosest : (tree : Tree) → looseness tree ≤ 3
loosest (product l r) = omega arith
loosest (added l r) = omega arith
loosest (less l r) = omega arith
loosest (compared c l r) = omega arith
loosest _ = omega arith
