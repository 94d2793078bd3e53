-- What the descent reads: a tree that is spelled as the tokens in front, and is leftmost; and from
-- what a leftmost tree is spelled as, that tree.
use Rattle.std.proofs.Common.{◌≡◌, ℕ, zero, suc, ◌<◌, ◌≤◌, Bool, true, false, cond, not, List, []}
use Rattle.std.proofs.Common.{◌∷◌, ◌++◌, length, Some, None, Option, refl, sym, ap, ◌∙◌, subst}
use Rattle.std.proofs.Common.{arith, append_assoc, inl, inr}
use Rattle.std.specs.Prelude.{option_map, option_and_then}
use Rattle.std.proofs.lemmas.List.{length-append, append-nil}
use Rattle.formula_shift.specs.declared.corner.Corner.{Corner}
use Rattle.formula_shift.specs.declared.reference.Reference.{Reference}
use Rattle.xlsx_check.specs.Tokens.{Token, constant, refers, sum, plus, minus, sign, opens, closes}
use Rattle.xlsx_check.specs.Tokens.{comma, compares}
use Rattle.xlsx_check.specs.Trees.{Tree, literal, cell, total, negated, grouped, added, less}
use Rattle.xlsx_check.specs.Trees.{product, compared, is_comparison, is_addition, is_multiplication}
use Rattle.xlsx_check.specs.Trees.{joined_by, cell_alone, references_spelled, tree_tokens}
use Rattle.xlsx_check.specs.Trees.{looseness, IsLeftmost, enclosures}
use Rattle.xlsx_check.specs.Reading.{TreeRead, read, read_as, chain_on, chain_read, product_read}
use Rattle.xlsx_check.specs.Reading.{sum_read, compared_on, comparison_read, cell_read, closed_by}
use Rattle.xlsx_check.specs.Reading.{stops, ReferencesRead, with_first_reference, references_read}
use Rattle.xlsx_check.specs.Reading.{factor_read}
use Rattle.xlsx_check.proofs.Joins.{IsKind, Splits, products, sums, comparisons, loosest}
use Rattle.xlsx_check.proofs.Options.{mapped_from, taken_from}
use Rattle.xlsx_check.proofs.Splitting.{IsFine, order}

-- a tree that was read from these tokens
pub record ReadsFrom (most levels : ℕ) (r : TreeRead) (tokens : List Token) : Type 0 where
  pub is : tree_tokens r.tree ++ r.rest ≡ tokens
  pub fine : IsFine most levels r.tree

looser_fine : (most more levels : ℕ) (tree : Tree) → most ≤ more → IsFine most levels tree →
    IsFine more levels tree
looser_fine most more levels tree less_than fine = record {
  loose = omega (arith, fine.loose);
  leftmost = fine.leftmost;
  within = fine.within;
}

abbrev AreRead : ℕ → ℕ → (List Token → Option TreeRead) → Type 0
AreRead most levels inner =
    (tokens : List Token) (r : TreeRead) → inner tokens ≡ Some r → ReadsFrom most levels r tokens

-- two trees on both sides of a token that was read between them
reads_joined : (wanted : Token → Bool) (most least levels : ℕ) → IsKind wanted most least →
    (token : Token) → wanted token ≡ true → (left right tree : Tree) (rest tokens : List Token) →
    joined_by token left right ≡ Some tree → IsFine most levels left → IsFine least levels right →
    tree_tokens right ++ rest ≡ tokens →
    (tree_tokens tree ++ rest ≡ tree_tokens left ++ token ∷ tokens) × IsFine (suc least) levels tree
reads_joined wanted most least levels kind token wants left right tree rest tokens joined before
    behind is =
    let joins = kind.joins token wants left right in
    let same : joins.tree ≡ tree = (let a = joins.is in cc) in
    subst (λ (t : Tree).
    (tree_tokens t ++ rest ≡ tree_tokens left ++ token ∷ tokens) × IsFine (suc least) levels
    t) same (
      ap (λ (ts : List Token). ts ++ rest) joins.spelled_is
          ∙ (append_assoc (tree_tokens left) (token ∷ tree_tokens right) rest
          ∙ ap (λ (ts : List Token). tree_tokens left ++ token ∷ ts) is),
      record {
        loose = omega (arith, joins.loose);
        leftmost = joins.leftmost before.loose behind.loose before.leftmost behind.leftmost;
        within = omega (arith, joins.within, before.within, behind.within);
      },
    )

module _ (wanted : Token → Bool) (least levels : ℕ) (kind : IsKind wanted (suc least) least)
    (inner : List Token → Option TreeRead) where
  on_reads : AreRead least levels inner → (turns : ℕ) (left : Tree) (tokens : List Token)
      (r : TreeRead) → IsFine (suc least) levels left →
      chain_on wanted inner turns left tokens ≡ Some r →
      (tree_tokens r.tree ++ r.rest ≡ tree_tokens left ++ tokens) × IsFine (suc least) levels r.tree
  on_reads reads zero left tokens r fine is =
      let same : read left tokens ≡ r = cc in
      subst (λ (s : TreeRead). (tree_tokens s.tree ++ s.rest ≡ tree_tokens left ++ tokens)
      × IsFine (suc least) levels s.tree) same (refl, fine)
  on_reads reads (suc turns) left [] r fine is =
      let same : read left [] ≡ r = cc in
      subst (λ (s : TreeRead). (tree_tokens s.tree ++ s.rest ≡ tree_tokens left ++ [])
      × IsFine (suc least) levels s.tree) same (refl, fine)
  on_reads reads (suc turns) left (token ∷ tokens) r fine is =
      by (wanted token) refl is (on_reads reads turns)
    where
      by : (t : Bool) → wanted token ≡ t →
          cond t (option_and_then (λ s. option_and_then
          (λ tree. chain_on wanted inner turns tree s.rest) (joined_by token left s.tree))
          (inner tokens)) (Some (read left (token ∷ tokens))) ≡ Some r →
          ((l : Tree) (ts : List Token) (s : TreeRead) → IsFine (suc least) levels l →
          chain_on wanted inner turns l ts ≡ Some s →
          (tree_tokens s.tree ++ s.rest ≡ tree_tokens l ++ ts) × IsFine (suc least) levels s.tree) →
          (tree_tokens r.tree ++ r.rest ≡ tree_tokens left ++ token ∷ tokens)
          × IsFine (suc least) levels r.tree
      by false wants found rest =
          let same : read left (token ∷ tokens) ≡ r = cc in
          subst (λ (s : TreeRead). (tree_tokens s.tree ++ s.rest ≡ tree_tokens left ++ token
          ∷ tokens)
          × IsFine (suc least) levels s.tree) same (refl, fine)
      by true wants found rest =
          let right =
          taken_from (λ (s : TreeRead). option_and_then
          (λ tree. chain_on wanted inner turns tree s.rest) (joined_by token left s.tree))
          (inner tokens) r found in
          let whole =
          taken_from (λ tree. chain_on wanted inner turns tree right.value.rest)
          (joined_by token left right.value.tree) r right.is in
          let own = reads tokens right.value right.was in
          let joined =
          reads_joined wanted (suc least) least levels kind token wants left right.value.tree
          whole.value right.value.rest tokens whole.was fine own.fine own.is in
          let others = rest whole.value right.value.rest r joined.1 whole.is in
          (others.0 ∙ joined.0, others.1)

  chain_reads : AreRead least levels inner → AreRead (suc least) levels (chain_read wanted inner)
  chain_reads reads tokens r is =
      let first =
      taken_from (λ (s : TreeRead). chain_on wanted inner (length s.rest) s.tree s.rest)
      (inner tokens) r is in
      let own = reads tokens first.value first.was in
      let whole =
      on_reads reads (length first.value.rest) first.value.tree first.value.rest r
      (looser_fine least (suc least) levels first.value.tree (omega arith) own.fine) first.is in
      record { is = whole.0 ∙ own.is; fine = whole.1 }

-- what was read of references is spelled as the tokens in front
references_from : (tokens : List Token) (r : ReferencesRead) → references_read tokens ≡ Some r →
    (references_spelled r.references ++ closes ∷ r.rest ≡ tokens) × (0 < length r.references)
references_from (refers r ∷ closes ∷ rest) s is =
    let same : record { references = r ∷ []; rest = rest } ≡ s = cc in
    subst (λ (t : ReferencesRead).
    (references_spelled t.references ++ closes ∷ t.rest ≡ refers r ∷ closes ∷ rest)
    × (0 < length t.references)) same (refl, omega arith)
references_from (refers r ∷ comma ∷ tokens) s is =
    let others = mapped_from (with_first_reference r) (references_read tokens) s is in
    let known = references_from tokens others.value others.was in
    subst (λ (t : ReferencesRead).
    (references_spelled t.references ++ closes ∷ t.rest ≡ refers r ∷ comma ∷ tokens)
    × (0 < length t.references)) others.is (
      ap (λ (ts : List Token). ts ++ closes ∷ others.value.rest)
          (spelled_more others.value.references known.1)
          ∙ ap (λ (ts : List Token). refers r ∷ comma ∷ ts) known.0,
      omega arith,
    )
  where
    spelled_more : (all : List Reference) → 0 < length all →
        references_spelled (r ∷ all) ≡ refers r ∷ comma ∷ references_spelled all
    spelled_more [] some = absurd (omega arith)
    spelled_more (next ∷ all) some = refl
references_from _ s is = absurd (cc)

references_back : (rs : List Reference) (rest : List Token) → 0 < length rs →
    references_read (references_spelled rs ++ closes ∷ rest)
    ≡ Some (record { references = rs; rest = rest })
references_back [] rest some = absurd (omega arith)
references_back (r ∷ []) rest some = refl
references_back (r ∷ next ∷ others) rest some =
    ap (λ (o : Option ReferencesRead). option_map (with_first_reference r) o)
    (references_back (next ∷ others) rest (omega arith))

closed_from : (tree : Tree) (tokens : List Token) (r : TreeRead) → closed_by tree tokens ≡ Some r →
    (r.tree ≡ grouped tree) × (tokens ≡ closes ∷ r.rest)
closed_from tree [] r is = absurd (cc)
closed_from tree (closes ∷ rest) r is =
    let same : read (grouped tree) rest ≡ r = cc in
    subst (λ (s : TreeRead). (s.tree ≡ grouped tree) × (closes ∷ rest ≡ closes ∷ s.rest)) same
    (refl, refl)
closed_from tree (_ ∷ rest) r is = absurd (cc)

compared_reads : (levels : ℕ) (factor : List Token → Option TreeRead) →
    AreRead 2 levels (sum_read factor) → (left : Tree) (tokens : List Token) (r : TreeRead) →
    IsFine 2 levels left → compared_on factor left tokens ≡ Some r →
    (tree_tokens r.tree ++ r.rest ≡ tree_tokens left ++ tokens) × IsFine 3 levels r.tree
compared_reads levels factor reads left [] r fine is =
    let same : read left [] ≡ r = cc in
    subst (λ (s : TreeRead). (tree_tokens s.tree ++ s.rest ≡ tree_tokens left ++ [])
    × IsFine 3 levels s.tree) same (refl, looser_fine 2 3 levels left (omega arith) fine)
compared_reads levels factor reads left (token ∷ tokens) r fine is =
    by (is_comparison token) refl is
  where
    by : (t : Bool) → is_comparison token ≡ t →
        cond t (option_and_then (λ s. option_map (λ tree. read tree s.rest)
        (joined_by token left s.tree)) (sum_read factor tokens)) (Some (read left (token ∷ tokens)))
        ≡ Some r →
        (tree_tokens r.tree ++ r.rest ≡ tree_tokens left ++ token ∷ tokens) × IsFine 3 levels r.tree
    by false wants found =
        let same : read left (token ∷ tokens) ≡ r = cc in
        subst (λ (s : TreeRead). (tree_tokens s.tree ++ s.rest ≡ tree_tokens left ++ token ∷ tokens)
        × IsFine 3 levels s.tree) same
        (refl, looser_fine 2 3 levels left (omega arith) fine)
    by true wants found =
        let right =
        taken_from (λ (s : TreeRead). option_map (λ tree. read tree s.rest)
        (joined_by token left s.tree)) (sum_read factor tokens) r found in
        let whole =
        mapped_from (λ tree. read tree right.value.rest) (joined_by token left right.value.tree) r
        right.is in
        let own = reads tokens right.value right.was in
        let joined =
        reads_joined is_comparison 2 2 levels comparisons token wants left right.value.tree
        whole.value right.value.rest tokens whole.was fine own.fine own.is in
        subst (λ (s : TreeRead). (tree_tokens s.tree ++ s.rest ≡ tree_tokens left ++ token ∷ tokens)
        × IsFine 3 levels s.tree) whole.is joined

module _ (levels : ℕ) (factor : List Token → Option TreeRead) (reads : AreRead 0 levels
    factor) where
  sum_reads : AreRead 2 levels (sum_read factor)
  sum_reads =
      chain_reads is_addition 1 levels sums (product_read factor)
      (chain_reads is_multiplication 0 levels products factor reads)

  comparison_reads : AreRead 3 levels (comparison_read factor)
  comparison_reads tokens r is =
      let first =
      taken_from (λ (s : TreeRead). compared_on factor s.tree s.rest)
      (sum_read factor tokens) r is in
      let own = sum_reads tokens first.value first.was in
      let whole =
      compared_reads levels factor sum_reads first.value.tree first.value.rest r own.fine
      first.is in
      record { is = whole.0 ∙ own.is; fine = whole.1 }

-- a factor has fewer parentheses and signs round its tokens than there are levels
abbrev FactorReads : ℕ → Type 0
FactorReads levels =
    (tokens : List Token) (r : TreeRead) → factor_read levels tokens ≡ Some r →
    (tree_tokens r.tree ++ r.rest ≡ tokens) × (looseness r.tree ≤ 0) × IsLeftmost r.tree
    × (enclosures r.tree < levels)

-- the trees inside it have at least one level less
less_levels : (levels : ℕ) → FactorReads (suc levels) → AreRead 0 levels (factor_read (suc levels))
less_levels levels reads tokens r is =
    let known = reads tokens r is in
    record {
      is = known.0;
      fine = record {
        loose = known.1;
        leftmost = known.2;
        within = omega (arith, known.3);
      };
    }

factor_reads : (levels : ℕ) → FactorReads levels
factor_reads zero tokens r is = absurd (cc)
factor_reads (suc levels) (constant number ∷ rest) r is =
    let same : read (literal number) rest ≡ r = cc in
    subst (λ (s : TreeRead). (tree_tokens s.tree ++ s.rest ≡ constant number ∷ rest)
    × (looseness s.tree ≤ 0) × IsLeftmost s.tree × (enclosures s.tree < suc levels)) same
    (refl, omega arith, _, omega arith)
factor_reads (suc levels) (refers reference ∷ rest) r is = by reference.second refl is
  where
    by : (second : Option Corner) → reference.second ≡ second →
        cell_read rest (cell_alone reference second) ≡ Some r →
        (tree_tokens r.tree ++ r.rest ≡ refers reference ∷ rest) × (looseness r.tree ≤ 0)
        × IsLeftmost r.tree × (enclosures r.tree < suc levels)
    by None alone found =
        let same : read (cell reference) rest ≡ r = cc in
        subst (λ (s : TreeRead). (tree_tokens s.tree ++ s.rest ≡ refers reference ∷ rest)
        × (looseness s.tree ≤ 0) × IsLeftmost s.tree × (enclosures s.tree < suc levels)) same
        (refl, omega arith, alone, omega arith)
    by (Some second) alone found = absurd (cc)
factor_reads (suc levels) (sign ∷ tokens) r is =
    let inside = mapped_from (read_as negated) (factor_read levels tokens) r is in
    let known = factor_reads levels tokens inside.value inside.was in
    subst (λ (s : TreeRead). (tree_tokens s.tree ++ s.rest ≡ sign ∷ tokens)
    × (looseness s.tree ≤ 0) × IsLeftmost s.tree × (enclosures s.tree < suc levels)) inside.is (
      ap (λ (ts : List Token). sign ∷ ts) known.0,
      omega arith,
      (known.1, known.2),
      omega (arith, known.3),
    )
factor_reads (suc zero) (opens ∷ tokens) r is =
    let inside =
    taken_from (λ (s : TreeRead). closed_by s.tree s.rest) (comparison_read (factor_read zero)
    tokens) r
    is in
    absurd (let a = inside.was in cc)
factor_reads (suc (suc levels)) (opens ∷ tokens) r is =
    let inside =
    taken_from (λ (s : TreeRead). closed_by s.tree s.rest)
    (comparison_read (factor_read (suc levels)) tokens) r is in
    let known =
    comparison_reads levels (factor_read (suc levels))
    (less_levels levels (factor_reads (suc levels))) tokens inside.value inside.was in
    let closed = closed_from inside.value.tree inside.value.rest r inside.is in
    let tree_is : grouped inside.value.tree ≡ r.tree = sym closed.0 in
    let whole : opens ∷ (tree_tokens inside.value.tree ++ closes ∷ []) ++ r.rest ≡ opens ∷ tokens =
    ap (λ (ts : List Token). opens ∷ ts)
    (append_assoc (tree_tokens inside.value.tree) (closes ∷ []) r.rest
    ∙ (ap (λ (ts : List Token). tree_tokens inside.value.tree ++ ts) (sym closed.1) ∙ known.is)) in
    subst (λ (t : Tree). (tree_tokens t ++ r.rest ≡ opens ∷ tokens)
    × (looseness t ≤ 0) × IsLeftmost t × (enclosures t < suc (suc levels))) tree_is
    (whole, omega arith, known.fine.leftmost, omega (arith, known.fine.within))
factor_reads (suc levels) (sum ∷ opens ∷ tokens) r is =
    let inside =
    mapped_from (λ (s : ReferencesRead). read (total s.references) s.rest) (references_read tokens)
    r is in
    let known = references_from tokens inside.value inside.was in
    subst (λ (s : TreeRead). (tree_tokens s.tree ++ s.rest ≡ sum ∷ opens ∷ tokens)
    × (looseness s.tree ≤ 0) × IsLeftmost s.tree × (enclosures s.tree < suc levels)) inside.is (
      ap (λ (ts : List Token). sum ∷ opens ∷ ts)
          (append_assoc (references_spelled inside.value.references) (closes ∷ []) inside.value.rest
          ∙ known.0),
      omega arith,
      known.1,
      omega arith,
    )
factor_reads (suc levels) _ r is = absurd (cc)

-- ---- and back

pub not_so : (t : Bool) → not t ≡ true → t ≡ false
not_so true is = absurd (cc)
not_so false is = refl

-- a chain ends where no operator of its kind stands in front
pub chain_stops : (wanted : Token → Bool) (inner : List Token → Option TreeRead) (turns : ℕ)
    (tree : Tree) (rest : List Token) → stops wanted rest ≡ true →
    chain_on wanted inner turns tree rest ≡ Some (read tree rest)
chain_stops wanted inner zero tree rest ends = refl
chain_stops wanted inner (suc turns) tree [] ends = refl
chain_stops wanted inner (suc turns) tree (token ∷ rest) ends =
    ap (λ (t : Bool). cond t (option_and_then (λ s. option_and_then
    (λ t. chain_on wanted inner turns t s.rest) (joined_by token tree s.tree)) (inner rest))
    (Some (read tree (token ∷ rest)))) (not_so (wanted token) ends)

module _ (wanted : Token → Bool) (least levels : ℕ) (kind : IsKind wanted (suc least) least)
    (inner : List Token → Option TreeRead) (Stops : List Token → Type 0)
    (known : (tree : Tree) (rest : List Token) → IsFine least levels tree → Stops rest →
    inner (tree_tokens tree ++ rest) ≡ Some (read tree rest))
    (stops_before : (token : Token) (tokens : List Token) → wanted token ≡ true →
    Stops (token ∷ tokens)) where
  -- reading what a tree is spelled as comes to going on from that tree
  record GoesOn (tree : Tree) (rest : List Token) : Type 0 where
    turns : ℕ
    enough : length rest ≤ turns
    is : chain_read wanted inner (tree_tokens tree ++ rest) ≡ chain_on wanted inner turns tree rest

  tight_on : (tree : Tree) (rest : List Token) → IsFine (suc least) levels tree →
      (looseness tree ≡ suc least → ⊥) → Stops rest → GoesOn tree rest
  tight_on tree rest fine other ends =
      let tight : IsFine least levels tree = record {
        loose = omega (arith, other, fine.loose);
        leftmost = fine.leftmost;
        within = fine.within;
      } in
      record {
        turns = length rest;
        enough = omega arith;
        is = ap (λ (o : Option TreeRead). option_and_then
            (λ s. chain_on wanted inner (length s.rest) s.tree s.rest) o)
            (known tree rest tight ends);
      }

  joined_on : (tree : Tree) (rest : List Token) → IsFine (suc least) levels tree → Stops rest →
      (parts : Splits wanted (suc least) least tree) (n : ℕ) →
      length (parts.token ∷ (tree_tokens parts.right ++ rest)) ≤ n →
      chain_read wanted inner (tree_tokens tree ++ rest)
      ≡ chain_on wanted inner n parts.left (parts.token ∷ (tree_tokens parts.right ++ rest)) →
      GoesOn tree rest
  joined_on tree rest fine ends parts zero enough is = absurd (omega arith)
  joined_on tree rest fine ends parts (suc n) enough is =
      let long = length-append (tree_tokens parts.right) rest in
      let right : inner (tree_tokens parts.right ++ rest) ≡ Some (read parts.right rest) =
      known parts.right rest (record {
        loose = parts.loose_right;
        leftmost = parts.right_is;
        within = omega (arith, parts.within, fine.within);
      }) ends in
      record {
        turns = n;
        enough = omega (arith, long, enough);
        is = is
            ∙ (ap (λ (t : Bool). cond t (option_and_then (λ s. option_and_then
            (λ t. chain_on wanted inner n t s.rest) (joined_by parts.token parts.left s.tree))
            (inner (tree_tokens parts.right ++ rest)))
            (Some (read parts.left (parts.token ∷ (tree_tokens parts.right ++ rest)))))
            parts.wants
            ∙ (ap (λ (o : Option TreeRead). option_and_then (λ s. option_and_then
            (λ t. chain_on wanted inner n t s.rest) (joined_by parts.token parts.left s.tree))
            o) right
            ∙ ap (λ (o : Option Tree). option_and_then
            (λ t. chain_on wanted inner n t rest) o) parts.is));
      }

  split_on : (fuel : ℕ) →
      ((tree : Tree) (rest : List Token) → length (tree_tokens tree) ≤ fuel →
      IsFine (suc least) levels tree → Stops rest → GoesOn tree rest) →
      (tree : Tree) (rest : List Token) → length (tree_tokens tree) ≤ suc fuel →
      IsFine (suc least) levels tree → Stops rest → Splits wanted (suc least) least tree →
      GoesOn tree rest
  split_on fuel on tree rest short fine ends parts =
      let long = ap length parts.spelled_is in
      let long_parts = length-append (tree_tokens parts.left) (parts.token
      ∷ tree_tokens parts.right) in
      let left =
      on parts.left (parts.token ∷ (tree_tokens parts.right ++ rest))
      (omega (arith, short, long, long_parts)) (record {
        loose = parts.loose_left;
        leftmost = parts.left_is;
        within = omega (arith, parts.within, fine.within);
      }) (stops_before parts.token (tree_tokens parts.right ++ rest) parts.wants) in
      joined_on tree rest fine ends parts left.turns left.enough
      (ap (λ (ts : List Token). chain_read wanted inner (ts ++ rest)) parts.spelled_is
      ∙ (ap (chain_read wanted inner)
      (append_assoc (tree_tokens parts.left) (parts.token ∷ tree_tokens parts.right) rest)
      ∙ left.is))

  goes_on : (fuel : ℕ) (tree : Tree) (rest : List Token) → length (tree_tokens tree) ≤ fuel →
      IsFine (suc least) levels tree → Stops rest → GoesOn tree rest
  goes_on zero tree rest short fine ends = elim (order (looseness tree) (suc least)) [
    | inr other ↦ tight_on tree rest fine other ends
    | inl same ↦
        let parts = kind.splits tree fine.leftmost same in
        absurd (omega (
          arith,
          short,
          ap length parts.spelled_is,
          length-append (tree_tokens parts.left) (parts.token ∷ tree_tokens parts.right),
        ))
  ]
  goes_on (suc fuel) tree rest short fine ends = elim (order (looseness tree) (suc least)) [
    | inr other ↦ tight_on tree rest fine other ends
    | inl same ↦
        split_on fuel (goes_on fuel) tree rest short fine ends
        (kind.splits tree fine.leftmost same)
  ]

  chain_back : (tree : Tree) (rest : List Token) → IsFine (suc least) levels tree → Stops rest →
      stops wanted rest ≡ true →
      chain_read wanted inner (tree_tokens tree ++ rest) ≡ Some (read tree rest)
  chain_back tree rest fine ends stop =
      let on = goes_on (length (tree_tokens tree)) tree rest (omega arith) fine ends in
      on.is ∙ chain_stops wanted inner on.turns tree rest stop

abbrev FactorBack : ℕ → (List Token → Option TreeRead) → Type 0
FactorBack levels factor =
    (tree : Tree) (rest : List Token) → IsFine 0 levels tree →
    factor (tree_tokens tree ++ rest) ≡ Some (read tree rest)

record EndsAll (rest : List Token) : Type 0 where
  multiplication : stops is_multiplication rest ≡ true
  addition : stops is_addition rest ≡ true

module _ (levels : ℕ) (factor : List Token → Option TreeRead) (known : FactorBack levels
    factor) where
  product_back : (tree : Tree) (rest : List Token) → IsFine 1 levels tree →
      stops is_multiplication rest ≡ true →
      product_read factor (tree_tokens tree ++ rest) ≡ Some (read tree rest)
  product_back tree rest fine stop =
      chain_back is_multiplication 0 levels products factor (λ _. Unit {0})
      (λ t ts tight _. known t ts tight) (λ token ts wants. tt) tree rest fine tt stop

  sum_back : (tree : Tree) (rest : List Token) → IsFine 2 levels tree → EndsAll rest →
      sum_read factor (tree_tokens tree ++ rest) ≡ Some (read tree rest)
  sum_back tree rest fine stop =
      chain_back is_addition 1 levels sums (product_read factor)
      (λ ts. stops is_multiplication ts ≡ true) product_back before tree rest fine
      stop.multiplication stop.addition
    where
      before : (token : Token) (ts : List Token) → is_addition token ≡ true →
          stops is_multiplication (token ∷ ts) ≡ true
      before plus ts wants = refl
      before minus ts wants = refl
      before _ ts wants = absurd (cc)

  comparison_back : (tree : Tree) (rest : List Token) → IsFine 3 levels tree → EndsAll rest →
      stops is_comparison rest ≡ true →
      comparison_read factor (tree_tokens tree ++ rest) ≡ Some (read tree rest)
  comparison_back tree rest fine ends stop = elim (order (looseness tree) 3) [
    | inr other ↦
        ap (λ (o : Option TreeRead). option_and_then (λ s. compared_on factor s.tree s.rest) o)
        (sum_back tree rest (record {
          loose = omega (arith, other, fine.loose);
          leftmost = fine.leftmost;
          within = fine.within;
        }) ends)
        ∙ on rest stop
    | inl same ↦ split (comparisons.splits tree fine.leftmost same)
  ]
    where
      on : (ts : List Token) → stops is_comparison ts ≡ true →
          compared_on factor tree ts ≡ Some (read tree ts)
      on [] end = refl
      on (token ∷ ts) end =
          ap (λ (t : Bool). cond t (option_and_then (λ s. option_map (λ tree. read tree s.rest)
          (joined_by token tree s.tree)) (sum_read factor ts)) (Some (read tree (token ∷ ts))))
          (not_so (is_comparison token) end)

      before : (token : Token) (ts : List Token) → is_comparison token ≡ true →
          EndsAll (token ∷ ts)
      before (compares c) ts wants = record { multiplication = refl; addition = refl }
      before _ ts wants = absurd (cc)

      split : Splits is_comparison 2 2 tree →
          comparison_read factor (tree_tokens tree ++ rest) ≡ Some (read tree rest)
      split parts =
          let tokens : List Token = tree_tokens parts.right ++ rest in
          let left : sum_read factor (tree_tokens parts.left ++ parts.token ∷ tokens)
          ≡ Some (read parts.left (parts.token ∷ tokens)) =
          sum_back parts.left (parts.token ∷ tokens) (record {
            loose = parts.loose_left;
            leftmost = parts.left_is;
            within = omega (arith, parts.within, fine.within);
          }) (before parts.token tokens parts.wants) in
          let right : sum_read factor tokens ≡ Some (read parts.right rest) =
          sum_back parts.right rest (record {
            loose = parts.loose_right;
            leftmost = parts.right_is;
            within = omega (arith, parts.within, fine.within);
          }) ends in
          ap (λ (ts : List Token). comparison_read factor (ts ++ rest)) parts.spelled_is
          ∙ (ap (comparison_read factor)
          (append_assoc (tree_tokens parts.left) (parts.token ∷ tree_tokens parts.right) rest)
          ∙ (ap (λ (o : Option TreeRead). option_and_then (λ s. compared_on factor s.tree s.rest) o)
          left
          ∙ (ap (λ (t : Bool). cond t (option_and_then (λ s. option_map (λ t. read t s.rest)
          (joined_by parts.token parts.left s.tree)) (sum_read factor tokens))
          (Some (read parts.left (parts.token ∷ tokens)))) parts.wants
          ∙ (ap (λ (o : Option TreeRead). option_and_then (λ s. option_map (λ t. read t s.rest)
          (joined_by parts.token parts.left s.tree)) o) right
          ∙ ap (λ (o : Option Tree). option_map (λ t. read t rest) o) parts.is))))

-- a factor is read from what it is spelled as, whatever stands behind it
factor_back : (levels : ℕ) (tree : Tree) (rest : List Token) → looseness tree ≤ 0 →
    IsLeftmost tree → enclosures tree < levels →
    factor_read levels (tree_tokens tree ++ rest) ≡ Some (read tree rest)
factor_back zero tree rest loose leftmost within = absurd (omega arith)
factor_back (suc levels) (literal number) rest loose leftmost within = refl
factor_back (suc levels) (cell r) rest loose leftmost within =
    ap (λ (second : Option Corner). cell_read rest (cell_alone r second)) leftmost
factor_back (suc levels) (total rs) rest loose leftmost within =
    ap (λ (ts : List Token). factor_read (suc levels) (sum ∷ opens ∷ ts))
    (append_assoc (references_spelled rs) (closes ∷ []) rest)
    ∙ ap (λ (o : Option ReferencesRead). option_map
    (λ (s : ReferencesRead). read (total s.references) s.rest) o)
    (references_back rs rest leftmost)
factor_back (suc levels) (negated t) rest loose leftmost within =
    ap (λ (o : Option TreeRead). option_map (read_as negated) o)
    (factor_back levels t rest leftmost.0 leftmost.1 (omega (arith, within)))
factor_back (suc zero) (grouped t) rest loose leftmost within = absurd (omega (arith, within))
factor_back (suc (suc levels)) (grouped t) rest loose leftmost within =
    ap (λ (ts : List Token). factor_read (suc (suc levels)) (opens ∷ ts))
    (append_assoc (tree_tokens t) (closes ∷ []) rest)
    ∙ ap (λ (o : Option TreeRead). option_and_then (λ s. closed_by s.tree s.rest) o)
    (comparison_back levels (factor_read (suc levels))
    (λ u ts fine. factor_back (suc levels) u ts fine.loose fine.leftmost
    (omega (arith, fine.within))) t (closes ∷ rest)
    (record { loose = loosest t; leftmost = leftmost; within = omega (arith, within) })
    (record { multiplication = refl; addition = refl }) refl)
factor_back (suc levels) (added l r) rest loose leftmost within = absurd (omega (arith, loose))
factor_back (suc levels) (less l r) rest loose leftmost within = absurd (omega (arith, loose))
factor_back (suc levels) (product l r) rest loose leftmost within = absurd (omega (arith, loose))
factor_back (suc levels) (compared c l r) rest loose leftmost within =
    absurd (omega (arith, loose))

pub comparisons_read : AreRead 3 64 (comparison_read (factor_read 65))
comparisons_read = comparison_reads 64 (factor_read 65) (less_levels 64 (factor_reads 65))

pub comparisons_back : (tree : Tree) → IsFine 3 64 tree →
    comparison_read (factor_read 65) (tree_tokens tree) ≡ Some (read tree [])
comparisons_back tree fine =
    ap (comparison_read (factor_read 65)) (sym (append-nil (tree_tokens tree)))
    ∙ comparison_back 64 (factor_read 65)
    (λ u ts own. factor_back 65 u ts own.loose own.leftmost (omega (arith, own.within))) tree []
    fine (record { multiplication = refl; addition = refl }) refl
