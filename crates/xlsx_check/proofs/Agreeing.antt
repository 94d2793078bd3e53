-- The descent reads the tree of the tokens, where they have one, and else none.
use Rattle.std.proofs.Common.{◌≡◌, ◌≤◌, List, [], ◌∷◌, ◌++◌, Some, None, Option, refl, sym, ap, ◌∙◌}
use Rattle.std.proofs.Common.{subst, arith}
use Rattle.std.specs.Prelude.{option_and_then}
use Rattle.std.proofs.lemmas.List.{append-nil}
use Rattle.xlsx_check.specs.Tokens.{Token}
use Rattle.xlsx_check.specs.Trees.{Tree, formula_tree, tree_tokens, IsLeftmost, enclosures}
use Rattle.xlsx_check.specs.Reading.{TreeRead, comparison_read, factor_read, if_all, tree_read}
use Rattle.xlsx_check.proofs.Descending.{comparisons_read, comparisons_back}
use Rattle.xlsx_check.proofs.Joins.{loosest}
use Rattle.xlsx_check.proofs.Options.{taken_from}
use Rattle.xlsx_check.proofs.Splitting.{tree_spells, tree_spelled}

pub spells : (tokens : List Token) (tree : Tree) → formula_tree tokens ≡ Some tree →
    (tree_tokens tree ≡ tokens) × IsLeftmost tree × (enclosures tree ≤ 64)
unfolding formula_tree
spells tokens tree is =
    let known = tree_spells 65 tokens tree is in
    (known.0, known.1, omega (arith, known.2))

pub has_tree : (tree : Tree) → IsLeftmost tree → enclosures tree ≤ 64 →
    formula_tree (tree_tokens tree) ≡ Some tree
unfolding formula_tree
has_tree tree leftmost within = tree_spelled 65 tree leftmost (omega (arith, within))

all_from : (tree known : Tree) (rest : List Token) → if_all tree rest ≡ Some known →
    (tree ≡ known) × (rest ≡ [])
all_from tree known [] is = (cc, refl)
all_from tree known (token ∷ rest) is = absurd (cc)

read_spells : (tokens : List Token) (tree : Tree) → tree_read tokens ≡ Some tree →
    (tree_tokens tree ≡ tokens) × IsLeftmost tree × (enclosures tree ≤ 64)
unfolding tree_read
read_spells tokens tree is =
    let whole =
    taken_from (λ (r : TreeRead). if_all r.tree r.rest) (comparison_read (factor_read 65)
    tokens) tree
    is in
    let ends = all_from whole.value.tree tree whole.value.rest whole.is in
    let known = comparisons_read tokens whole.value whole.was in
    subst (λ (t : Tree). (tree_tokens t ≡ tokens) × IsLeftmost t × (enclosures t ≤ 64)) ends.0 (
      sym (append-nil (tree_tokens whole.value.tree))
          ∙ (ap (λ (ts : List Token). tree_tokens whole.value.tree ++ ts) (sym ends.1) ∙ known.is),
      known.fine.leftmost,
      known.fine.within,
    )

read_back : (tree : Tree) → IsLeftmost tree → enclosures tree ≤ 64 →
    tree_read (tree_tokens tree) ≡ Some tree
unfolding tree_read
read_back tree leftmost within =
    ap (λ (o : Option TreeRead). option_and_then (λ r. if_all r.tree r.rest) o)
    (comparisons_back tree
    (record { loose = loosest tree; leftmost = leftmost; within = within }))

pub reads_tree : (tokens : List Token) → tree_read tokens ≡ formula_tree tokens
reads_tree tokens = by (tree_read tokens) (formula_tree tokens) refl refl
  where
    by : (o p : Option Tree) → tree_read tokens ≡ o → formula_tree tokens ≡ p → o ≡ p
    by None None read split = refl
    by (Some tree) p read split =
        let known = read_spells tokens tree read in
        sym (has_tree tree known.1 known.2) ∙ (ap formula_tree known.0 ∙ split)
    by None (Some tree) read split =
        let known = spells tokens tree split in
        sym read ∙ (sym (ap tree_read known.0) ∙ read_back tree known.1 known.2)
