-- Tokens that are cut at one of them.
use Rattle.std.proofs.Common.{◌≡◌, ℕ, zero, suc, ◌-◌, ◌≤◌, Bool, true, false, List, [], ◌∷◌, ◌++◌}
use Rattle.std.proofs.Common.{Some, None, Option, refl, sym, ap, ◌∙◌, subst, arith, ◌==◌, ◌&&◌}
use Rattle.std.proofs.lemmas.Bool.Decides.{nat_tests}
use Rattle.formula_shift.specs.declared.reference.Reference.{Reference}
use Rattle.xlsx_check.specs.declared.token.Comparison.{Comparison}
use Rattle.xlsx_check.specs.Tokens.{Token, constant, refers, sum, plus, minus, sign, times, opens}
use Rattle.xlsx_check.specs.Tokens.{closes, comma, compares}
use Rattle.xlsx_check.specs.Trees.{Tree, literal, cell, total, negated, grouped, added, less}
use Rattle.xlsx_check.specs.Trees.{product, compared, Cut, open_behind, onto_front, or_cut_here}
use Rattle.xlsx_check.specs.Trees.{last_cut, tree_tokens, references_spelled, looseness, IsLeftmost}
use Rattle.xlsx_check.specs.Trees.{is_comparison, is_addition, is_multiplication}
use Rattle.xlsx_check.proofs.Joins.{IsKind, products, sums, comparisons, loosest}

-- how many parentheses are opened behind tokens
abbrev pub depth_behind : ℕ → List Token → ℕ
depth_behind opened [] = opened
depth_behind opened (token ∷ tokens) = depth_behind (open_behind opened token) tokens

pub depth-append : (opened : ℕ) (front rest : List Token) →
    depth_behind opened (front ++ rest) ≡ depth_behind (depth_behind opened front) rest
depth-append opened [] rest = refl
depth-append opened (token ∷ front) rest = depth-append (open_behind opened token) front rest

module _ (wanted : Token → Bool) where
  abbrev here : ℕ → Token → Bool
  here opened token = opened == 0 && wanted token

  abbrev NoCut : ℕ → List Token → Type 0
  NoCut opened tokens = last_cut wanted opened tokens ≡ None

  not_here : (o : Option Cut) (h : Bool) (token : Token) (tokens : List Token) →
      or_cut_here o h token tokens ≡ None → (h ≡ false) × (o ≡ None)
  not_here (Some later) h token tokens none = absurd (cc)
  not_here None true token tokens none = absurd (cc)
  not_here None false token tokens none = (refl, refl)

  pub none_first : (opened : ℕ) (token : Token) (tokens : List Token) →
      NoCut opened (token ∷ tokens) →
      (here opened token ≡ false) × NoCut (open_behind opened token) tokens
  none_first opened token tokens none =
      not_here (last_cut wanted (open_behind opened token) tokens) (here opened token) token tokens
      none

  pub none_more : (opened : ℕ) (token : Token) (tokens : List Token) → here opened token ≡ false →
      NoCut (open_behind opened token) tokens → NoCut opened (token ∷ tokens)
  none_more opened token tokens not rest =
      ap (λ (o : Option Cut). or_cut_here o (here opened token) token tokens) rest
      ∙ ap (λ (t : Bool). or_cut_here None t token tokens) not

  pub none_parts : (opened : ℕ) (front rest : List Token) → NoCut opened (front ++ rest) →
      NoCut opened front × NoCut (depth_behind opened front) rest
  none_parts opened [] rest none = (refl, none)
  none_parts opened (token ∷ front) rest none =
      let first = none_first opened token (front ++ rest) none in
      let others = none_parts (open_behind opened token) front rest first.1 in
      (none_more opened token front first.0 others.0, others.1)

  pub none_joined : (opened : ℕ) (front rest : List Token) → NoCut opened front →
      NoCut (depth_behind opened front) rest → NoCut opened (front ++ rest)
  none_joined opened [] rest none behind = behind
  none_joined opened (token ∷ front) rest none behind =
      let first = none_first opened token front none in
      none_more opened token (front ++ rest) first.0
      (none_joined (open_behind opened token) front rest first.1 behind)

  -- where tokens are cut
  pub record IsCut (opened : ℕ) (tokens : List Token) (cut : Cut) : Type 0 where
    pub whole : tokens ≡ cut.front ++ cut.token ∷ cut.behind
    pub depth : depth_behind opened cut.front ≡ 0
    pub wants : wanted cut.token ≡ true
    pub later : NoCut (open_behind 0 cut.token) cut.behind

  pub cut_is : (opened : ℕ) (tokens : List Token) (cut : Cut) →
      last_cut wanted opened tokens ≡ Some cut → IsCut opened tokens cut
  cut_is opened [] cut is = absurd (cc)
  cut_is opened (token ∷ tokens) cut is =
      by (last_cut wanted (open_behind opened token) tokens) (here opened token) refl refl is
      (cut_is (open_behind opened token) tokens)
    where
      at : (a b : Bool) → (a && b) ≡ true → (a ≡ true) × (b ≡ true)
      at true b both = (refl, both)
      at false b both = absurd (cc)

      by : (o : Option Cut) (h : Bool) → last_cut wanted (open_behind opened token) tokens ≡ o →
          here opened token ≡ h → or_cut_here o h token tokens ≡ Some cut →
          ((later : Cut) → last_cut wanted (open_behind opened token) tokens ≡ Some later →
          IsCut (open_behind opened token) tokens later) → IsCut opened (token ∷ tokens) cut
      by None false later at_it found rest = absurd (cc)
      by None true later at_it found rest =
          let both = at (opened == 0) (wanted token) at_it in
          let none : opened ≡ 0 = grind (arith, nat_tests, both.0) in
          let same : record { front = []; token = token; behind = tokens } ≡ cut = cc in
          subst (IsCut opened (token ∷ tokens)) same (record {
            whole = refl;
            depth = none;
            wants = both.1;
            later = subst (λ (n : ℕ). NoCut (open_behind n token) tokens) none later;
          })
      by (Some behind) h later at_it found rest =
          let known = rest behind later in
          let same : onto_front token behind ≡ cut = cc in
          subst (IsCut opened (token ∷ tokens)) same (record {
            whole = ap (λ (ts : List Token). token ∷ ts) known.whole;
            depth = known.depth;
            wants = known.wants;
            later = known.later;
          })

  -- the last of the wanted tokens outside parentheses
  pub cut_at : (opened : ℕ) (front : List Token) (token : Token) (behind : List Token) →
      depth_behind opened front ≡ 0 → wanted token ≡ true → NoCut (open_behind 0 token) behind →
      last_cut wanted opened (front ++ token ∷ behind)
      ≡ Some (record { front = front; token = token; behind = behind })
  cut_at opened [] token behind depth wants none =
      let none_here : NoCut (open_behind opened token) behind =
      subst (λ (n : ℕ). NoCut (open_behind n token) behind) (sym depth) none in
      ap (λ (o : Option Cut). or_cut_here o (here opened token) token behind) none_here
      ∙ (ap (λ (n : ℕ). or_cut_here None (n == 0 && wanted token) token behind) depth
      ∙ ap (λ (t : Bool). or_cut_here None t token behind) wants)
  cut_at opened (first ∷ front) token behind depth wants none =
      ap (λ (o : Option Cut). or_cut_here o (here opened first) first (front ++ token ∷ behind))
      (cut_at (open_behind opened first) front token behind depth wants none)

-- what a tree is spelled as closes its parentheses
depth_references : (opened : ℕ) (rs : List Reference) →
    depth_behind opened (references_spelled rs) ≡ opened
depth_references opened [] = refl
depth_references opened (r ∷ []) = refl
depth_references opened (r ∷ next ∷ others) = depth_references opened (next ∷ others)

one_less : (n : ℕ) → suc n - 1 ≡ n
one_less n = omega arith

depth_closed : (opened : ℕ) (inside : List Token) → depth_behind (suc opened) inside ≡ suc opened →
    depth_behind (suc opened) (inside ++ closes ∷ []) ≡ opened
depth_closed opened inside same =
    depth-append (suc opened) inside (closes ∷ [])
    ∙ (ap (λ (n : ℕ). n - 1) same ∙ one_less opened)

depth_joined : (opened : ℕ) (left right : List Token) (token : Token) →
    depth_behind opened left ≡ opened → open_behind opened token ≡ opened →
    depth_behind opened right ≡ opened → depth_behind opened (left ++ token ∷ right) ≡ opened
depth_joined opened left right token before at behind =
    depth-append opened left (token ∷ right)
    ∙ (ap (λ (n : ℕ). depth_behind (open_behind n token) right) before
    ∙ (ap (λ (n : ℕ). depth_behind n right) at ∙ behind))

pub depth_spelled : (opened : ℕ) (tree : Tree) → depth_behind opened (tree_tokens tree) ≡ opened
depth_spelled opened (literal number) = refl
depth_spelled opened (cell r) = refl
depth_spelled opened (total rs) =
    depth_closed opened (references_spelled rs) (depth_references (suc opened) rs)
depth_spelled opened (negated t) = depth_spelled opened t
depth_spelled opened (grouped t) =
    depth_closed opened (tree_tokens t) (depth_spelled (suc opened) t)
depth_spelled opened (added l r) =
    depth_joined opened (tree_tokens l) (tree_tokens r) plus (depth_spelled opened l) refl
    (depth_spelled opened r)
depth_spelled opened (less l r) =
    depth_joined opened (tree_tokens l) (tree_tokens r) minus (depth_spelled opened l) refl
    (depth_spelled opened r)
depth_spelled opened (product l r) =
    depth_joined opened (tree_tokens l) (tree_tokens r) times (depth_spelled opened l) refl
    (depth_spelled opened r)
depth_spelled opened (compared c l r) =
    depth_joined opened (tree_tokens l) (tree_tokens r) (compares c) (depth_spelled opened l) refl
    (depth_spelled opened r)

-- tokens of this kind join nothing so tight
pub record IsLooser (wanted : Token → Bool) (most : ℕ) : Type 0 where
  pub constants : (number : _) → wanted (constant number) ≡ false
  pub references : (r : Reference) → wanted (refers r) ≡ false
  pub totals : wanted sum ≡ false
  pub signs : wanted sign ≡ false
  pub openings : wanted opens ≡ false
  pub closings : wanted closes ≡ false
  pub commas : wanted comma ≡ false
  pub products : 1 ≤ most → wanted times ≡ false
  pub sums : 2 ≤ most → wanted plus ≡ false
  pub differences : 2 ≤ most → wanted minus ≡ false
  pub comparisons : 3 ≤ most → (c : Comparison) → wanted (compares c) ≡ false

module _ (wanted : Token → Bool) where
  inside_parentheses : (opened : ℕ) (b : Bool) → (suc opened == 0 && b) ≡ false
  inside_parentheses opened b =
      let some : (suc opened == 0) ≡ false = grind (arith, nat_tests) in
      ap (λ (t : Bool). t && b) some

  -- no token inside parentheses is where tokens are cut
  none_references : (opened : ℕ) (rs : List Reference) →
      last_cut wanted (suc opened) (references_spelled rs) ≡ None
  none_references opened [] = refl
  none_references opened (r ∷ []) =
      none_more wanted (suc opened) (refers r) [] (inside_parentheses opened (wanted (refers r)))
      refl
  none_references opened (r ∷ next ∷ others) =
      none_more wanted (suc opened) (refers r) (comma ∷ references_spelled (next ∷ others))
      (inside_parentheses opened (wanted (refers r)))
      (none_more wanted (suc opened) comma (references_spelled (next ∷ others))
      (inside_parentheses opened (wanted comma)) (none_references opened (next ∷ others)))

  none_closed : (opened : ℕ) (inside : List Token) →
      depth_behind (suc opened) inside ≡ suc opened →
      last_cut wanted (suc opened) inside ≡ None →
      last_cut wanted (suc opened) (inside ++ closes ∷ []) ≡ None
  none_closed opened inside depth none =
      none_joined wanted (suc opened) inside (closes ∷ []) none
      (subst (λ (n : ℕ). last_cut wanted n (closes ∷ []) ≡ None) (sym depth)
      (none_more wanted (suc opened) closes [] (inside_parentheses opened (wanted closes)) refl))

  none_between : (opened : ℕ) (left right : List Token) (token : Token) →
      depth_behind opened left ≡ opened → open_behind opened token ≡ opened →
      (opened == 0 && wanted token) ≡ false → last_cut wanted opened left ≡ None →
      last_cut wanted opened right ≡ None →
      last_cut wanted opened (left ++ token ∷ right) ≡ None
  none_between opened left right token depth flat not before behind =
      none_joined wanted opened left (token ∷ right) before
      (subst (λ (n : ℕ). last_cut wanted n (token ∷ right) ≡ None) (sym depth)
      (none_more wanted opened token right not
      (subst (λ (n : ℕ). last_cut wanted n right ≡ None) (sym flat) behind)))

  none_inside : (opened : ℕ) (tree : Tree) → last_cut wanted (suc opened) (tree_tokens tree) ≡ None
  none_inside opened (literal number) =
      none_more wanted (suc opened) (constant number) []
      (inside_parentheses opened (wanted (constant number))) refl
  none_inside opened (cell r) =
      none_more wanted (suc opened) (refers r) [] (inside_parentheses opened (wanted (refers r)))
      refl
  none_inside opened (total rs) =
      none_more wanted (suc opened) sum (opens ∷ (references_spelled rs ++ closes ∷ []))
      (inside_parentheses opened (wanted sum))
      (none_more wanted (suc opened) opens (references_spelled rs ++ closes ∷ [])
      (inside_parentheses opened (wanted opens))
      (none_closed (suc opened) (references_spelled rs) (depth_references (suc (suc opened)) rs)
      (none_references (suc opened) rs)))
  none_inside opened (negated t) =
      none_more wanted (suc opened) sign (tree_tokens t) (inside_parentheses opened (wanted sign))
      (none_inside opened t)
  none_inside opened (grouped t) =
      none_more wanted (suc opened) opens (tree_tokens t ++ closes ∷ [])
      (inside_parentheses opened (wanted opens))
      (none_closed (suc opened) (tree_tokens t) (depth_spelled (suc (suc opened)) t)
      (none_inside (suc opened) t))
  none_inside opened (added l r) =
      none_between (suc opened) (tree_tokens l) (tree_tokens r) plus
      (depth_spelled (suc opened) l) refl
      (inside_parentheses opened (wanted plus)) (none_inside opened l) (none_inside opened r)
  none_inside opened (less l r) =
      none_between (suc opened) (tree_tokens l) (tree_tokens r) minus
      (depth_spelled (suc opened) l) refl
      (inside_parentheses opened (wanted minus)) (none_inside opened l) (none_inside opened r)
  none_inside opened (product l r) =
      none_between (suc opened) (tree_tokens l) (tree_tokens r) times
      (depth_spelled (suc opened) l) refl
      (inside_parentheses opened (wanted times)) (none_inside opened l) (none_inside opened r)
  none_inside opened (compared c l r) =
      none_between (suc opened) (tree_tokens l) (tree_tokens r) (compares c)
      (depth_spelled (suc opened) l)
      refl (inside_parentheses opened (wanted (compares c))) (none_inside opened l)
      (none_inside opened r)

  -- a tree that is joined tighter has no such token outside parentheses
  pub none_spelled : (most : ℕ) → IsLooser wanted most → (tree : Tree) → IsLeftmost tree →
      looseness tree ≤ most → last_cut wanted 0 (tree_tokens tree) ≡ None
  none_spelled most looser (literal number) leftmost tight =
      none_more wanted 0 (constant number) [] (looser.constants number) refl
  none_spelled most looser (cell r) leftmost tight =
      none_more wanted 0 (refers r) [] (looser.references r) refl
  none_spelled most looser (total rs) leftmost tight =
      none_more wanted 0 sum (opens ∷ (references_spelled rs ++ closes ∷ [])) looser.totals
      (none_more wanted 0 opens (references_spelled rs ++ closes ∷ []) looser.openings
      (none_closed 0 (references_spelled rs) (depth_references 1 rs) (none_references 0 rs)))
  none_spelled most looser (negated t) leftmost tight =
      none_more wanted 0 sign (tree_tokens t) looser.signs
      (none_spelled most looser t leftmost.1 (omega (arith, leftmost.0)))
  none_spelled most looser (grouped t) leftmost tight =
      none_more wanted 0 opens (tree_tokens t ++ closes ∷ []) looser.openings
      (none_closed 0 (tree_tokens t) (depth_spelled 1 t) (none_inside 0 t))
  none_spelled most looser (added l r) leftmost tight =
      none_between 0 (tree_tokens l) (tree_tokens r) plus (depth_spelled 0 l) refl
      (looser.sums tight)
      (none_spelled most looser l leftmost.2 (omega (arith, leftmost.0, tight)))
      (none_spelled most looser r leftmost.3 (omega (arith, leftmost.1, tight)))
  none_spelled most looser (less l r) leftmost tight =
      none_between 0 (tree_tokens l) (tree_tokens r) minus (depth_spelled 0 l) refl
      (looser.differences tight)
      (none_spelled most looser l leftmost.2 (omega (arith, leftmost.0, tight)))
      (none_spelled most looser r leftmost.3 (omega (arith, leftmost.1, tight)))
  none_spelled most looser (product l r) leftmost tight =
      none_between 0 (tree_tokens l) (tree_tokens r) times (depth_spelled 0 l) refl
      (looser.products tight)
      (none_spelled most looser l leftmost.2 (omega (arith, leftmost.0, tight)))
      (none_spelled most looser r leftmost.3 (omega (arith, leftmost.1, tight)))
  none_spelled most looser (compared c l r) leftmost tight =
      none_between 0 (tree_tokens l) (tree_tokens r) (compares c) (depth_spelled 0 l) refl
      (looser.comparisons tight c)
      (none_spelled most looser l leftmost.2 (omega (arith, leftmost.0, tight)))
      (none_spelled most looser r leftmost.3 (omega (arith, leftmost.1, tight)))

pub looser_products : IsLooser is_multiplication 0
looser_products = record {
  constants = λ n. refl;
  references = λ r. refl;
  totals = refl;
  signs = refl;
  openings = refl;
  closings = refl;
  commas = refl;
  products = λ h. absurd (omega arith);
  sums = λ h. refl;
  differences = λ h. refl;
  comparisons = λ h c. refl;
}

pub looser_sums : IsLooser is_addition 1
looser_sums = record {
  constants = λ n. refl;
  references = λ r. refl;
  totals = refl;
  signs = refl;
  openings = refl;
  closings = refl;
  commas = refl;
  products = λ h. refl;
  sums = λ h. absurd (omega arith);
  differences = λ h. absurd (omega arith);
  comparisons = λ h c. refl;
}

pub looser_comparisons : IsLooser is_comparison 2
looser_comparisons = record {
  constants = λ n. refl;
  references = λ r. refl;
  totals = refl;
  signs = refl;
  openings = refl;
  closings = refl;
  commas = refl;
  products = λ h. refl;
  sums = λ h. refl;
  differences = λ h. refl;
  comparisons = λ h c. absurd (omega arith);
}

-- a tree that is joined by a token of a kind has one outside parentheses
pub joined_cut : (wanted : Token → Bool) (most least : ℕ) → IsKind wanted most least →
    (tree : Tree) → IsLeftmost tree → looseness tree ≡ suc least →
    last_cut wanted 0 (tree_tokens tree) ≡ None → ⊥
joined_cut wanted most least kind tree leftmost loose none =
    let parts = kind.splits tree leftmost loose in
    let behind =
    none_parts wanted 0 (tree_tokens parts.left) (parts.token ∷ tree_tokens parts.right)
    (subst (λ (ts : List Token). last_cut wanted 0 ts ≡ None) parts.spelled_is none) in
    let here : last_cut wanted 0 (parts.token ∷ tree_tokens parts.right) ≡ None =
    subst (λ (n : ℕ). last_cut wanted n (parts.token ∷ tree_tokens parts.right) ≡ None)
    (depth_spelled 0 parts.left) behind.1 in
    let not = none_first wanted 0 parts.token (tree_tokens parts.right) here in
    let no : wanted parts.token ≡ false = not.0 in
    let yes = parts.wants in
    cc

-- so what has none of any kind is a factor
pub is_factor : (tree : Tree) → IsLeftmost tree →
    last_cut is_comparison 0 (tree_tokens tree) ≡ None → last_cut is_addition 0 (tree_tokens tree)
    ≡ None →
    last_cut is_multiplication 0 (tree_tokens tree) ≡ None → looseness tree ≤ 0
is_factor tree leftmost no_comparison no_addition no_multiplication =
    by (looseness tree) refl (loosest tree)
  where
    by : (n : ℕ) → looseness tree ≡ n → n ≤ 3 → looseness tree ≤ 0
    by zero is most = omega (arith, is)
    by (suc zero) is most =
        absurd (joined_cut is_multiplication 1 0 products tree leftmost is no_multiplication)
    by (suc (suc zero)) is most =
        absurd (joined_cut is_addition 2 1 sums tree leftmost is no_addition)
    by (suc (suc (suc zero))) is most =
        absurd (joined_cut is_comparison 2 2 comparisons tree leftmost is no_comparison)
    by (suc (suc (suc (suc n)))) is most = absurd (omega arith)
