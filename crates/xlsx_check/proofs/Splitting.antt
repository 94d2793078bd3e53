-- What tokens have as their tree: they are what it is spelled as, and it is leftmost; and of what a
-- leftmost tree is spelled as, that tree.
use Rattle.std.proofs.Common.{◌≡◌, ℕ, zero, suc, ◌+◌, ◌<◌, ◌≤◌, Bool, cond, List, [], ◌∷◌, ◌++◌}
use Rattle.std.proofs.Common.{length, Some, None, Option, refl, sym, ap, ◌∙◌, subst, arith, inl}
use Rattle.std.proofs.Common.{inr, ◌⊎◌}
use Rattle.std.specs.Prelude.{is_none, option_map, option_and_then}
use Rattle.std.proofs.lemmas.List.{length-append}
use Rattle.formula_shift.specs.declared.corner.Corner.{Corner}
use Rattle.formula_shift.specs.declared.reference.Reference.{Reference}
use Rattle.xlsx_check.specs.Tokens.{Token, constant, refers, sum, sign, opens, closes, comma}
use Rattle.xlsx_check.specs.Trees.{Tree, literal, cell, total, negated, grouped, added, less}
use Rattle.xlsx_check.specs.Trees.{product, compared, Cut, open_behind, last_cut, is_comparison}
use Rattle.xlsx_check.specs.Trees.{is_addition, is_multiplication, joined_by, both_trees, cut_by}
use Rattle.xlsx_check.specs.Trees.{chained, chain_of, compared_at, comparison_of, cell_alone}
use Rattle.xlsx_check.specs.Trees.{is_closing, before_closing, references_between, factor_of}
use Rattle.xlsx_check.specs.Trees.{tree_within, references_spelled, tree_tokens, looseness}
use Rattle.xlsx_check.specs.Trees.{IsLeftmost, enclosures}
use Rattle.xlsx_check.proofs.Cuts.{cut_is, cut_at, none_first, none_parts, depth_spelled}
use Rattle.xlsx_check.proofs.Cuts.{none_spelled, IsLooser, looser_products, looser_sums}
use Rattle.xlsx_check.proofs.Cuts.{looser_comparisons, is_factor}
use Rattle.xlsx_check.proofs.Joins.{IsKind, Splits, products, sums, comparisons, loosest}
use Rattle.xlsx_check.proofs.Options.{mapped_from, taken_from}

pub order : (a b : ℕ) → (a ≡ b) ⊎ (a ≡ b → ⊥)
order zero zero = inl refl
order zero (suc b) = inr (λ same. omega (arith, same))
order (suc a) zero = inr (λ same. omega (arith, same))
order (suc a) (suc b) = elim (order a b) [
  | inl same ↦ inl (ap suc same)
  | inr other ↦ inr (λ same. other (omega (arith, same)))
]

-- a leftmost tree, at most so loose, with at most so many parentheses and signs round a token
pub record IsFine (most levels : ℕ) (tree : Tree) : Type 0 where
  pub loose : looseness tree ≤ most
  pub leftmost : IsLeftmost tree
  pub within : enclosures tree ≤ levels

-- and spelled as these tokens
pub record Spells (most levels : ℕ) (tree : Tree) (tokens : List Token) : Type 0 where
  pub is : tree_tokens tree ≡ tokens
  pub fine : IsFine most levels tree

looser_spells : (most more levels : ℕ) (tree : Tree) (tokens : List Token) → most ≤ more →
    Spells most levels tree tokens → Spells more levels tree tokens
looser_spells most more levels tree tokens less_than spells = record {
  is = spells.is;
  fine = record {
    loose = omega (arith, spells.fine.loose);
    leftmost = spells.fine.leftmost;
    within = spells.fine.within;
  };
}

-- two trees that a token joins
record AreJoined (token : Token) (o p : Option Tree) (tree : Tree) : Type 0 where
  left : Tree
  right : Tree
  left_was : o ≡ Some left
  right_was : p ≡ Some right
  is : joined_by token left right ≡ Some tree

joined_from : (token : Token) (o p : Option Tree) (tree : Tree) →
    both_trees token o p ≡ Some tree → AreJoined token o p tree
joined_from token (Some left) (Some right) tree is =
    record { left = left; right = right; left_was = refl; right_was = refl; is = is }
joined_from token (Some left) None tree is = absurd (cc)
joined_from token None p tree is = absurd (cc)

-- what is cut is shorter
cut_parts : (wanted other : Token → Bool) (most least : ℕ) → IsKind other most least →
    (tokens : List Token) (cut : Cut) → last_cut wanted 0 tokens ≡ None →
    last_cut other 0 tokens ≡ Some cut →
    (last_cut wanted 0 cut.front ≡ None) × (last_cut wanted 0 cut.behind ≡ None)
cut_parts wanted other most least kind tokens cut none is =
    let known = cut_is other 0 tokens cut is in
    let parts =
    none_parts wanted 0 cut.front (cut.token ∷ cut.behind)
    (subst (λ (ts : List Token). last_cut wanted 0 ts ≡ None) known.whole none) in
    let here : last_cut wanted 0 (cut.token ∷ cut.behind) ≡ None =
    subst (λ (n : ℕ). last_cut wanted n (cut.token ∷ cut.behind) ≡ None) known.depth parts.1 in
    let rest = none_first wanted 0 cut.token cut.behind here in (
      parts.0,
      subst (λ (n : ℕ). last_cut wanted n cut.behind ≡ None)
          (kind.flat cut.token known.wants 0) rest.1,
    )

cut_last : (wanted : Token → Bool) (most least : ℕ) → IsKind wanted most least →
    (tokens : List Token) (cut : Cut) → last_cut wanted 0 tokens ≡ Some cut →
    last_cut wanted 0 cut.behind ≡ None
cut_last wanted most least kind tokens cut is =
    let known = cut_is wanted 0 tokens cut is in
    subst (λ (n : ℕ). last_cut wanted n cut.behind ≡ None)
    (kind.flat cut.token known.wants 0) known.later

-- two trees on both sides of a token, and what the tokens are that they are spelled as
spells_joined : (wanted : Token → Bool) (most least levels : ℕ) → IsKind wanted most least →
    (tokens : List Token) (cut : Cut) (left right tree : Tree) →
    last_cut wanted 0 tokens ≡ Some cut → joined_by cut.token left right ≡ Some tree →
    Spells most levels left cut.front → Spells least levels right cut.behind →
    Spells (suc least) levels tree tokens
spells_joined wanted most least levels kind tokens cut left right tree is joined before behind =
    let known = cut_is wanted 0 tokens cut is in
    let joins = kind.joins cut.token known.wants left right in
    let same : joins.tree ≡ tree = (let a = joins.is in cc) in
    let spells : Spells (suc least) levels joins.tree tokens = record {
      is = joins.spelled_is
          ∙ (ap (λ (ts : List Token). ts ++ cut.token ∷ tree_tokens right) before.is
          ∙ (ap (λ (ts : List Token). cut.front ++ cut.token ∷ ts) behind.is ∙ sym known.whole));
      fine = record {
        loose = omega (arith, joins.loose);
        leftmost = joins.leftmost before.fine.loose behind.fine.loose before.fine.leftmost
            behind.fine.leftmost;
        within = omega (arith, joins.within, before.fine.within, behind.fine.within);
      };
    } in
    subst (λ (t : Tree). Spells (suc least) levels t tokens) same spells

module _ (wanted : Token → Bool) (least levels : ℕ) (kind : IsKind wanted (suc least) least)
    (inner : List Token → Option Tree) where
  -- a chain's tree is spelled as its tokens
  chained_spells : (IsClear : List Token → Type 0) →
      ((tokens : List Token) (cut : Cut) → IsClear tokens → last_cut wanted 0 tokens ≡ Some cut →
      IsClear cut.front × IsClear cut.behind) →
      ((tokens : List Token) (tree : Tree) → IsClear tokens → last_cut wanted 0 tokens ≡ None →
      inner tokens ≡ Some tree → Spells least levels tree tokens) →
      (turns : ℕ) (tokens : List Token) (tree : Tree) → IsClear tokens →
      chained wanted inner turns tokens ≡ Some tree → Spells (suc least) levels tree tokens
  chained_spells IsClear parts spells zero tokens tree clear is = absurd (cc)
  chained_spells IsClear parts spells (suc turns) tokens tree clear is =
      by (last_cut wanted 0 tokens) refl is (chained_spells IsClear parts spells turns)
    where
      by : (o : Option Cut) → last_cut wanted 0 tokens ≡ o →
          cut_by inner (chained wanted inner turns) tokens o ≡ Some tree →
          ((ts : List Token) (t : Tree) → IsClear ts → chained wanted inner turns ts ≡ Some t →
          Spells (suc least) levels t ts) → Spells (suc least) levels tree tokens
      by None none found rest =
          looser_spells least (suc least) levels tree tokens (omega arith)
          (spells tokens tree clear none found)
      by (Some cut) at found rest =
          let both =
          joined_from cut.token (chained wanted inner turns cut.front) (inner cut.behind) tree
          found in
          let clear_parts = parts tokens cut clear at in
          spells_joined wanted (suc least) least levels kind tokens cut both.left both.right tree at
          both.is (rest cut.front both.left clear_parts.0 both.left_was)
          (spells cut.behind both.right clear_parts.1
          (cut_last wanted (suc least) least kind tokens cut at) both.right_was)

  -- and the tokens that it is spelled as have that tree
  chained_spelled :
      ((tree : Tree) → IsFine least levels tree → inner (tree_tokens tree) ≡ Some tree) →
      IsLooser wanted least → (turns : ℕ) (tree : Tree) → length (tree_tokens tree) < turns →
      IsFine (suc least) levels tree → chained wanted inner turns (tree_tokens tree) ≡ Some tree
  chained_spelled known looser zero tree short fine = absurd (omega arith)
  chained_spelled known looser (suc turns) tree short fine =
      by (looseness tree) refl (chained_spelled known looser turns)
    where
      tight : looseness tree ≤ least →
          cut_by inner (chained wanted inner turns) (tree_tokens tree)
          (last_cut wanted 0 (tree_tokens tree)) ≡ Some tree
      tight loose =
          ap (cut_by inner (chained wanted inner turns) (tree_tokens tree))
          (none_spelled wanted least looser tree fine.leftmost loose)
          ∙ known tree
          (record { loose = loose; leftmost = fine.leftmost; within = fine.within })

      split : Splits wanted (suc least) least tree →
          ((t : Tree) → length (tree_tokens t) < turns → IsFine (suc least) levels t →
          chained wanted inner turns (tree_tokens t) ≡ Some t) →
          cut_by inner (chained wanted inner turns) (tree_tokens tree)
          (last_cut wanted 0 (tree_tokens tree)) ≡ Some tree
      split parts rest =
          let none : last_cut wanted (open_behind 0 parts.token) (tree_tokens parts.right) ≡ None =
          subst (λ (n : ℕ). last_cut wanted n (tree_tokens parts.right) ≡ None)
          (sym (kind.flat parts.token parts.wants 0))
          (none_spelled wanted least looser parts.right parts.right_is parts.loose_right) in
          let cut : last_cut wanted 0 (tree_tokens tree)
          ≡ Some (record {
            front = tree_tokens parts.left;
            token = parts.token;
            behind = tree_tokens parts.right;
          }) =
          ap (last_cut wanted 0) parts.spelled_is
          ∙ cut_at wanted 0 (tree_tokens parts.left) parts.token (tree_tokens parts.right)
          (depth_spelled 0 parts.left) parts.wants none in
          let long : length (tree_tokens tree)
          ≡ length (tree_tokens parts.left) + suc (length (tree_tokens parts.right)) =
          ap length parts.spelled_is
          ∙ length-append (tree_tokens parts.left) (parts.token ∷ tree_tokens parts.right) in
          let left : chained wanted inner turns (tree_tokens parts.left) ≡ Some parts.left =
          rest parts.left (omega (arith, long, short)) (record {
            loose = parts.loose_left;
            leftmost = parts.left_is;
            within = omega (arith, parts.within, fine.within);
          }) in
          let right : inner (tree_tokens parts.right) ≡ Some parts.right =
          known parts.right (record {
            loose = parts.loose_right;
            leftmost = parts.right_is;
            within = omega (arith, parts.within, fine.within);
          }) in
          ap (cut_by inner (chained wanted inner turns) (tree_tokens tree)) cut
          ∙ (ap (λ (o : Option Tree).
          both_trees parts.token o (inner (tree_tokens parts.right))) left
          ∙ (ap (λ (o : Option Tree). both_trees parts.token (Some parts.left) o) right
          ∙ parts.is))

      by : (n : ℕ) → looseness tree ≡ n →
          ((t : Tree) → length (tree_tokens t) < turns → IsFine (suc least) levels t →
          chained wanted inner turns (tree_tokens t) ≡ Some t) →
          cut_by inner (chained wanted inner turns) (tree_tokens tree)
          (last_cut wanted 0 (tree_tokens tree)) ≡ Some tree
      by n is rest = elim (order n (suc least)) [
        | inl same ↦ split (kind.splits tree fine.leftmost (omega (arith, is, same))) rest
        | inr other ↦ tight (omega (arith, is, other, fine.loose))
      ]

-- references between commas
references_is : (tokens : List Token) (rs : List Reference) →
    references_between tokens ≡ Some rs → (references_spelled rs ≡ tokens) × (0 < length rs)
references_is (refers r ∷ []) rs is =
    let same : r ∷ [] ≡ rs = cc in
    subst (λ (all : List Reference). (references_spelled all ≡ refers r ∷ []) × (0 < length all))
    same (refl, omega arith)
references_is (refers r ∷ comma ∷ tokens) rs is =
    let others = mapped_from (λ all. r ∷ all) (references_between tokens) rs is in
    let known = references_is tokens others.value others.was in
    subst (λ (all : List Reference). (references_spelled all ≡ refers r ∷ comma ∷ tokens)
    × (0 < length all)) others.is (
      spelled_more others.value known.1
          ∙ ap (λ (ts : List Token). refers r ∷ comma ∷ ts) known.0,
      omega arith,
    )
  where
    spelled_more : (all : List Reference) → 0 < length all →
        references_spelled (r ∷ all) ≡ refers r ∷ comma ∷ references_spelled all
    spelled_more [] some = absurd (omega arith)
    spelled_more (next ∷ all) some = refl
references_is _ rs is = absurd (cc)

references_known : (rs : List Reference) → 0 < length rs →
    references_between (references_spelled rs) ≡ Some rs
references_known [] some = absurd (omega arith)
references_known (r ∷ []) some = refl
references_known (r ∷ next ∷ others) some =
    ap (λ (o : Option (List Reference)). option_map (λ all. r ∷ all) o)
    (references_known (next ∷ others) (omega arith))

-- what stands before a closing parenthesis
closing_is : (tokens front : List Token) → before_closing tokens ≡ Some front →
    tokens ≡ front ++ closes ∷ []
closing_is [] front is = absurd (cc)
closing_is (token ∷ []) front is = alone token is
  where
    alone : (token : Token) → cond (is_closing token) (Some []) None ≡ Some front →
        token ∷ [] ≡ front ++ closes ∷ []
    alone closes found =
        let none : [] ≡ front = cc in
        ap (λ (ts : List Token). ts ++ closes ∷ []) none
    alone _ found = absurd (cc)
closing_is (token ∷ next ∷ tokens) front is =
    let others = mapped_from (λ ts. token ∷ ts) (before_closing (next ∷ tokens)) front is in
    ap (λ (ts : List Token). token ∷ ts)
    (closing_is (next ∷ tokens) others.value others.was)
    ∙ ap (λ (ts : List Token). ts ++ closes ∷ []) others.is

closing_known : (front : List Token) → before_closing (front ++ closes ∷ []) ≡ Some front
closing_known [] = refl
closing_known (token ∷ []) = refl
closing_known (token ∷ next ∷ front) =
    ap (λ (o : Option (List Token)). option_map (λ ts. token ∷ ts) o) (closing_known (next ∷ front))

record HasNoOperator (tokens : List Token) : Type 0 where
  comparison : last_cut is_comparison 0 tokens ≡ None
  addition : last_cut is_addition 0 tokens ≡ None
  multiplication : last_cut is_multiplication 0 tokens ≡ None

-- trees inside parentheses and signs, with one level less
abbrev AreSpelled : ℕ → (List Token → Option Tree) → Type 0
AreSpelled levels inner =
    (tokens : List Token) (tree : Tree) → inner tokens ≡ Some tree →
    (tree_tokens tree ≡ tokens) × IsLeftmost tree × (enclosures tree < levels)

factor_spells : (levels : ℕ) (inner : List Token → Option Tree) → AreSpelled levels inner →
    (tokens : List Token) (tree : Tree) → HasNoOperator tokens →
    factor_of inner tokens ≡ Some tree → Spells 0 levels tree tokens
factor_spells levels inner spells (constant number ∷ []) tree clear is =
    let same : literal number ≡ tree = cc in
    subst (λ (t : Tree). Spells 0 levels t (constant number ∷ [])) same (record {
      is = refl;
      fine = record { loose = omega arith; leftmost = _; within = omega arith };
    })
factor_spells levels inner spells (refers r ∷ []) tree clear is = by r.second refl is
  where
    by : (second : Option Corner) → r.second ≡ second → cell_alone r second ≡ Some tree →
        Spells 0 levels tree (refers r ∷ [])
    by None alone found =
        let same : cell r ≡ tree = cc in
        subst (λ (t : Tree). Spells 0 levels t (refers r ∷ [])) same (record {
          is = refl;
          fine = record { loose = omega arith; leftmost = alone; within = omega arith };
        })
    by (Some second) alone found = absurd (cc)
factor_spells levels inner spells (sign ∷ tokens) tree clear is =
    let signed = mapped_from negated (inner tokens) tree is in
    let known = spells tokens signed.value signed.was in
    let no_comparison = none_first is_comparison 0 sign tokens clear.comparison in
    let no_addition = none_first is_addition 0 sign tokens clear.addition in
    let no_multiplication = none_first is_multiplication 0 sign tokens clear.multiplication in
    let factor : looseness signed.value ≤ 0 =
    is_factor signed.value known.1
    (ap (last_cut is_comparison 0) known.0 ∙ no_comparison.1)
    (ap (last_cut is_addition 0) known.0 ∙ no_addition.1)
    (ap (last_cut is_multiplication 0) known.0 ∙ no_multiplication.1) in
    subst (λ (t : Tree). Spells 0 levels t (sign ∷ tokens)) signed.is (record {
      is = ap (λ (ts : List Token). sign ∷ ts) known.0;
      fine = record {
        loose = omega arith;
        leftmost = (factor, known.1);
        within = omega (arith, known.2);
      };
    })
factor_spells levels inner spells (opens ∷ tokens) tree clear is =
    let group = mapped_from grouped (option_and_then inner (before_closing tokens)) tree is in
    let front = taken_from inner (before_closing tokens) group.value group.was in
    let known = spells front.value group.value front.is in
    subst (λ (t : Tree). Spells 0 levels t (opens ∷ tokens)) group.is (record {
      is = ap (λ (ts : List Token). opens ∷ (ts ++ closes ∷ [])) known.0
          ∙ ap (λ (ts : List Token). opens ∷ ts) (sym (closing_is tokens front.value front.was));
      fine = record {
        loose = omega arith;
        leftmost = known.1;
        within = omega (arith, known.2);
      };
    })
factor_spells levels inner spells (sum ∷ opens ∷ tokens) tree clear is =
    let whole =
    mapped_from total (option_and_then references_between (before_closing tokens)) tree is in
    let front = taken_from references_between (before_closing tokens) whole.value whole.was in
    let known = references_is front.value whole.value front.is in
    subst (λ (t : Tree). Spells 0 levels t (sum ∷ opens ∷ tokens)) whole.is (record {
      is = ap (λ (ts : List Token). sum ∷ opens ∷ (ts ++ closes ∷ [])) known.0
          ∙ ap (λ (ts : List Token). sum ∷ opens ∷ ts)
          (sym (closing_is tokens front.value front.was));
      fine = record { loose = omega arith; leftmost = known.1; within = omega arith };
    })
factor_spells levels inner spells _ tree clear is = absurd (cc)

abbrev AreKnown : ℕ → (List Token → Option Tree) → Type 0
AreKnown levels inner =
    (tree : Tree) → IsLeftmost tree → enclosures tree < levels → inner (tree_tokens tree)
    ≡ Some tree

factor_spelled : (levels : ℕ) (inner : List Token → Option Tree) → AreKnown levels inner →
    (tree : Tree) → IsFine 0 levels tree → factor_of inner (tree_tokens tree) ≡ Some tree
factor_spelled levels inner known (literal number) fine = refl
factor_spelled levels inner known (cell r) fine = ap (cell_alone r) fine.leftmost
factor_spelled levels inner known (total rs) fine =
    ap (λ (o : Option (List Token)). option_map total (option_and_then references_between o))
    (closing_known (references_spelled rs))
    ∙ ap (λ (o : Option (List Reference)). option_map total o) (references_known rs fine.leftmost)
factor_spelled levels inner known (negated t) fine =
    ap (λ (o : Option Tree). option_map negated o)
    (known t fine.leftmost.1 (omega (arith, fine.within)))
factor_spelled levels inner known (grouped t) fine =
    ap (λ (o : Option (List Token)). option_map grouped (option_and_then inner o))
    (closing_known (tree_tokens t))
    ∙ ap (λ (o : Option Tree). option_map grouped o)
    (known t fine.leftmost (omega (arith, fine.within)))
factor_spelled levels inner known (added l r) fine = absurd (omega (arith, fine.loose))
factor_spelled levels inner known (less l r) fine = absurd (omega (arith, fine.loose))
factor_spelled levels inner known (product l r) fine = absurd (omega (arith, fine.loose))
factor_spelled levels inner known (compared c l r) fine = absurd (omega (arith, fine.loose))

module _ (levels : ℕ) (inner : List Token → Option Tree) where
  abbrev factors : List Token → Option Tree
  factors tokens = factor_of inner tokens

  abbrev all_products : List Token → Option Tree
  all_products tokens = chain_of is_multiplication factors tokens

  abbrev all_sums : List Token → Option Tree
  all_sums tokens = chain_of is_addition all_products tokens

  record IsProductAlone (tokens : List Token) : Type 0 where
    comparison : last_cut is_comparison 0 tokens ≡ None
    addition : last_cut is_addition 0 tokens ≡ None

  products_spell : AreSpelled levels inner → (tokens : List Token) (tree : Tree) →
      IsProductAlone tokens → all_products tokens ≡ Some tree → Spells 1 levels tree tokens
  products_spell spells tokens tree clear is =
      chained_spells is_multiplication 0 levels products factors IsProductAlone
      (λ ts cut known at.
      let comparison =
      cut_parts is_comparison is_multiplication 1 0 products ts cut known.comparison at in
      let addition =
      cut_parts is_addition is_multiplication 1 0 products ts cut known.addition at in (
        record { comparison = comparison.0; addition = addition.0 },
        record { comparison = comparison.1; addition = addition.1 },
      ))
      (λ ts t known none found. factor_spells levels inner spells ts t
      (record {
        comparison = known.comparison;
        addition = known.addition;
        multiplication = none;
      }) found)
      (suc (length tokens)) tokens tree clear is

  sums_spell : AreSpelled levels inner → (tokens : List Token) (tree : Tree) →
      last_cut is_comparison 0 tokens ≡ None → all_sums tokens ≡ Some tree →
      Spells 2 levels tree tokens
  sums_spell spells tokens tree clear is =
      chained_spells is_addition 1 levels sums all_products
      (λ ts. last_cut is_comparison 0 ts ≡ None)
      (λ ts cut known at. cut_parts is_comparison is_addition 2 1 sums ts cut known at)
      (λ ts t known none found.
      products_spell spells ts t (record { comparison = known; addition = none }) found)
      (suc (length tokens)) tokens tree clear is

  comparison_spells : AreSpelled levels inner → (tokens : List Token) (tree : Tree) →
      comparison_of all_sums tokens ≡ Some tree → Spells 3 levels tree tokens
  comparison_spells spells tokens tree is =
      by (last_cut is_comparison 0 tokens) refl is
    where
      cut_by_one : (cut : Cut) → last_cut is_comparison 0 tokens ≡ Some cut →
          last_cut is_comparison 0 cut.front ≡ None →
          both_trees cut.token (all_sums cut.front) (all_sums cut.behind) ≡ Some tree →
          Spells 3 levels tree tokens
      cut_by_one cut at none found =
          let both =
          joined_from cut.token (all_sums cut.front) (all_sums cut.behind) tree found in
          spells_joined is_comparison 2 2 levels comparisons tokens cut both.left both.right tree at
          both.is (sums_spell spells cut.front both.left none both.left_was)
          (sums_spell spells cut.behind both.right
          (cut_last is_comparison 2 2 comparisons tokens cut at) both.right_was)

      alone : (cut : Cut) → last_cut is_comparison 0 tokens ≡ Some cut → (o : Option Cut) →
          last_cut is_comparison 0 cut.front ≡ o →
          cond (is_none o)
          (both_trees cut.token (all_sums cut.front) (all_sums cut.behind)) None ≡ Some tree →
          Spells 3 levels tree tokens
      alone cut at None none found = cut_by_one cut at none found
      alone cut at (Some other) none found = absurd (cc)

      by : (o : Option Cut) → last_cut is_comparison 0 tokens ≡ o →
          compared_at all_sums tokens o ≡ Some tree → Spells 3 levels tree tokens
      by None none found =
          looser_spells 2 3 levels tree tokens (omega arith)
          (sums_spell spells tokens tree none found)
      by (Some cut) at found =
          alone cut at (last_cut is_comparison 0 cut.front) refl found

  products_spelled : AreKnown levels inner → (tree : Tree) → IsFine 1 levels tree →
      all_products (tree_tokens tree) ≡ Some tree
  products_spelled known tree fine =
      chained_spelled is_multiplication 0 levels products factors
      (factor_spelled levels inner known) looser_products (suc (length (tree_tokens tree))) tree
      (omega arith) fine

  sums_spelled : AreKnown levels inner → (tree : Tree) → IsFine 2 levels tree →
      all_sums (tree_tokens tree) ≡ Some tree
  sums_spelled known tree fine =
      chained_spelled is_addition 1 levels sums all_products (products_spelled known) looser_sums
      (suc (length (tree_tokens tree))) tree (omega arith) fine

  comparison_spelled : AreKnown levels inner → (tree : Tree) → IsFine 3 levels tree →
      comparison_of all_sums (tree_tokens tree) ≡ Some tree
  comparison_spelled known tree fine = elim (order (looseness tree) 3) [
    | inl same ↦ split (comparisons.splits tree fine.leftmost same)
    | inr other ↦
        let loose : looseness tree ≤ 2 = omega (arith, other, fine.loose) in
        ap (compared_at all_sums (tree_tokens tree))
        (none_spelled is_comparison 2 looser_comparisons tree fine.leftmost loose)
        ∙ sums_spelled known tree
        (record { loose = loose; leftmost = fine.leftmost; within = fine.within })
  ]
    where
      split : Splits is_comparison 2 2 tree → comparison_of all_sums (tree_tokens tree) ≡ Some tree
      split parts =
          let none_left : last_cut is_comparison 0 (tree_tokens parts.left) ≡ None =
          none_spelled is_comparison 2 looser_comparisons parts.left parts.left_is
          parts.loose_left in
          let none : last_cut is_comparison (open_behind 0 parts.token) (tree_tokens parts.right)
          ≡ None =
          subst (λ (n : ℕ). last_cut is_comparison n (tree_tokens parts.right) ≡ None)
          (sym (comparisons.flat parts.token parts.wants 0))
          (none_spelled is_comparison 2 looser_comparisons parts.right parts.right_is
          parts.loose_right) in
          let cut : last_cut is_comparison 0 (tree_tokens tree)
          ≡ Some (record {
            front = tree_tokens parts.left;
            token = parts.token;
            behind = tree_tokens parts.right;
          }) =
          ap (last_cut is_comparison 0) parts.spelled_is
          ∙ cut_at is_comparison 0 (tree_tokens parts.left) parts.token (tree_tokens parts.right)
          (depth_spelled 0 parts.left) parts.wants none in
          let left : all_sums (tree_tokens parts.left) ≡ Some parts.left =
          sums_spelled known parts.left (record {
            loose = parts.loose_left;
            leftmost = parts.left_is;
            within = omega (arith, parts.within, fine.within);
          }) in
          let right : all_sums (tree_tokens parts.right) ≡ Some parts.right =
          sums_spelled known parts.right (record {
            loose = parts.loose_right;
            leftmost = parts.right_is;
            within = omega (arith, parts.within, fine.within);
          }) in
          ap (compared_at all_sums (tree_tokens tree)) cut
          ∙ (ap (λ (o : Option Cut). cond (is_none o) (both_trees parts.token
          (all_sums (tree_tokens parts.left)) (all_sums (tree_tokens parts.right))) None) none_left
          ∙ (ap (λ (o : Option Tree). both_trees parts.token o (all_sums (tree_tokens parts.right)))
          left
          ∙ (ap (λ (o : Option Tree). both_trees parts.token (Some parts.left) o) right
          ∙ parts.is)))

pub tree_spells : (levels : ℕ) → AreSpelled levels (tree_within levels)
tree_spells zero tokens tree is = absurd (cc)
tree_spells (suc levels) tokens tree is =
    let spells =
    comparison_spells levels (tree_within levels) (tree_spells levels) tokens tree is in
    (spells.is, spells.fine.leftmost, omega (arith, spells.fine.within))

pub tree_spelled : (levels : ℕ) → AreKnown levels (tree_within levels)
tree_spelled zero tree leftmost within = absurd (omega arith)
tree_spelled (suc levels) tree leftmost within =
    comparison_spelled levels (tree_within levels) (tree_spelled levels) tree
    (record { loose = loosest tree; leftmost = leftmost; within = omega (arith, within) })
