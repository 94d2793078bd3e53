-- What the descent comes to, where it stands before tokens that are still to be read.
use Rattle.std.proofs.Common.{◌≡◌, ℕ, zero, suc, ◌-◌, ◌≤◌, Bool, true, false, cond, List, [], ◌∷◌}
use Rattle.std.proofs.Common.{◌++◌, length, Some, None, Option, refl, sym, ap, ◌∙◌, subst, arith}
use Rattle.std.proofs.Common.{append_assoc, ℤ, pos}
use Rattle.std.specs.Prelude.{option_map, option_and_then}
use Rattle.std.specs.List.{flat_map, fold}
use Rattle.std.proofs.lemmas.List.{append-nil}
use Rattle.cell_data.specs.Words.{CellValue}
use Rattle.formula_shift.specs.Words.{area_named}
use Rattle.formula_shift.specs.declared.reference.Reference.{Reference}
use Rattle.xlsx_check.specs.Denoting.{is_unsupported, joined_result, value_read, rest_read}
use Rattle.xlsx_check.specs.Denoting.{total_of_references, references_rest, opened_references}
use Rattle.xlsx_check.specs.Denoting.{references_from}
use Rattle.xlsx_check.specs.Evaluation.{Denoted, a_number, number_past, unsupported, of_two}
use Rattle.xlsx_check.specs.Evaluation.{result_of, total_of, total_with_value, values_within}
use Rattle.xlsx_check.specs.Evaluation.{of_one}
use Rattle.xlsx_check.specs.Reading.{TreeRead, read, stops, chain_on, chain_read, sum_read}
use Rattle.xlsx_check.specs.Reading.{compared_on, comparison_read, closed_by, closes_first}
use Rattle.xlsx_check.specs.Reading.{group_read, ReferencesRead, references_read}
use Rattle.xlsx_check.specs.Reading.{with_first_reference, read_as, cell_read, factor_read}
use Rattle.xlsx_check.specs.Tokens.{Token, constant, refers, sum, plus, minus, sign, times, opens}
use Rattle.xlsx_check.specs.Tokens.{closes, comma, compares}
use Rattle.xlsx_check.specs.Trees.{Tree, literal, total, negated, grouped, added, less, product}
use Rattle.xlsx_check.specs.Trees.{compared, joined_by, cell_alone, is_comparison, is_closing}
use Rattle.xlsx_check.proofs.Descending.{chain_stops, not_so}

pub known_not : (d : Denoted) → is_unsupported d ≡ true → d ≡ unsupported
known_not unsupported is = refl
known_not _ is = absurd (cc)

off_on : (d : Denoted) → d ≡ unsupported → is_unsupported d ≡ false → ⊥
off_on d is known = let e : is_unsupported d ≡ true = ap is_unsupported is in cc

two_right : (f : ℤ × ℤ → ℤ × ℤ → Denoted) (past a : Denoted) →
    of_two f past a unsupported ≡ unsupported
two_right f past (a_number n) = refl
two_right f past number_past = refl
two_right f past _ = refl

-- what isn't computed makes what it is joined to such a one, too
joined_left : (token : Token) (b : Denoted) → joined_result token unsupported b ≡ unsupported
joined_left plus b = refl
joined_left minus b = refl
joined_left times b = refl
joined_left (compares c) b = refl
joined_left _ b = refl

joined_right : (token : Token) (a : Denoted) → joined_result token a unsupported ≡ unsupported
joined_right plus a = two_right _ _ a
joined_right minus a = two_right _ _ a
joined_right times a = two_right _ _ a
joined_right (compares c) a = two_right _ _ a
joined_right _ a = refl

module _ (values : List ((ℕ × ℕ) × CellValue)) where
  joined_tree : (token : Token) (left right tree : Tree) → joined_by token left right ≡ Some tree →
      result_of values tree
      ≡ joined_result token (result_of values left) (result_of values right)
  joined_tree plus left right tree is =
      let same : added left right ≡ tree = cc in sym (ap (result_of values) same)
  joined_tree minus left right tree is =
      let same : less left right ≡ tree = cc in sym (ap (result_of values) same)
  joined_tree times left right tree is =
      let same : product left right ≡ tree = cc in sym (ap (result_of values) same)
  joined_tree (compares c) left right tree is =
      let same : compared c left right ≡ tree = cc in sym (ap (result_of values) same)
  joined_tree _ left right tree is = absurd (cc)

  module _ (wanted : Token → Bool) (inner : List Token → Option TreeRead) where
    -- a tree that isn't computed goes on as such a one
    chain_off : (turns : ℕ) (tree : Tree) (tokens : List Token) →
        result_of values tree ≡ unsupported →
        value_read values (chain_on wanted inner turns tree tokens) ≡ unsupported
    chain_off zero tree tokens off = off
    chain_off (suc turns) tree [] off = off
    chain_off (suc turns) tree (token ∷ tokens) off =
        by (wanted token) (inner tokens) (chain_off turns)
      where
        joined : (s : TreeRead) (o : Option Tree) → joined_by token tree s.tree ≡ o →
            ((t : Tree) (ts : List Token) → result_of values t ≡ unsupported →
            value_read values (chain_on wanted inner turns t ts) ≡ unsupported) →
            value_read values (option_and_then (λ t. chain_on wanted inner turns t s.rest) o)
            ≡ unsupported
        joined s None is rest = refl
        joined s (Some t) is rest =
            rest t s.rest
            (joined_tree token tree s.tree t is
            ∙ (ap (λ (d : Denoted). joined_result token d (result_of values s.tree)) off
            ∙ joined_left token (result_of values s.tree)))

        by : (t : Bool) (o : Option TreeRead) →
            ((t : Tree) (ts : List Token) → result_of values t ≡ unsupported →
            value_read values (chain_on wanted inner turns t ts) ≡ unsupported) →
            value_read values (cond t (option_and_then (λ s. option_and_then
            (λ tree. chain_on wanted inner turns tree s.rest) (joined_by token tree s.tree)) o)
            (Some (read tree (token ∷ tokens)))) ≡ unsupported
        by false o rest = off
        by true None rest = refl
        by true (Some s) rest = joined s (joined_by token tree s.tree) refl rest

    -- a chain goes on from a tree that comes to what was computed so far
    pub record IsOn (whole : Option TreeRead) (left : Denoted) (tokens : List Token) : Type 0 where
      pub tree : Tree
      pub turns : ℕ
      pub enough : length tokens ≤ turns
      pub comes : result_of values tree ≡ left
      pub is : whole ≡ chain_on wanted inner turns tree tokens

    -- and where that isn't computed, the whole isn't
    pub record Goes (whole : Option TreeRead) (left : Denoted) (tokens : List Token) : Type 0 where
      pub on : is_unsupported left ≡ false → IsOn whole left tokens
      pub off : is_unsupported left ≡ true → unsupported ≡ value_read values whole

    pub goes_start : (tokens now : List Token) (left : Denoted) →
        left ≡ value_read values (inner tokens) →
        (is_unsupported left ≡ false → now ≡ rest_read (inner tokens)) →
        Goes (chain_read wanted inner tokens) left now
    goes_start tokens now left is rest = by (inner tokens) is rest
      where
        by : (o : Option TreeRead) → left ≡ value_read values o →
            (is_unsupported left ≡ false → now ≡ rest_read o) →
            Goes (option_and_then
            (λ r. chain_on wanted inner (length r.rest) r.tree r.rest) o) left now
        by None left_is behind = record {
          on = λ known. absurd (off_on left left_is known);
          off = λ known. refl;
        }
        by (Some r) left_is behind = record {
          on = λ known. record {
            tree = r.tree;
            turns = length r.rest;
            enough = omega (arith, ap (λ (ts : List Token). length ts) (behind known));
            comes = sym left_is;
            is = ap (λ (ts : List Token). chain_on wanted inner (length r.rest) r.tree ts)
                (sym (behind known));
          };
          off = λ known.
              sym (chain_off (length r.rest) r.tree r.rest
              (sym left_is ∙ known_not left known));
        }

    step_from : (whole : Option TreeRead) (token : Token) (after now : List Token)
        (left right : Denoted) (tree : Tree) (turns : ℕ) → wanted token ≡ true →
        ((l r : Tree) → (t : Tree) × (joined_by token l r ≡ Some t)) →
        result_of values tree ≡ left →
        whole ≡ chain_on wanted inner (suc turns) tree (token ∷ after) →
        length after ≤ turns → (o : Option TreeRead) → inner after ≡ o →
        right ≡ value_read values o → (is_unsupported right ≡ false → now ≡ rest_read o) →
        length now ≤ length after → Goes whole (joined_result token left right) now
    step_from whole token after now left right tree turns wants joins comes is enough None at
        right_is behind shorter =
        let none : joined_result token left right ≡ unsupported =
        ap (joined_result token left) right_is ∙ joined_right token left in
        let whole_none : whole ≡ None =
        is ∙ (ap (λ (t : Bool). cond t (option_and_then (λ s. option_and_then
        (λ tree. chain_on wanted inner turns tree s.rest) (joined_by token tree s.tree))
        (inner after)) (Some (read tree (token ∷ after)))) wants
        ∙ ap (λ (o : Option TreeRead). option_and_then (λ s. option_and_then
        (λ tree. chain_on wanted inner turns tree s.rest) (joined_by token tree s.tree)) o) at) in
        record {
          on = λ known. absurd (off_on (joined_result token left right) none known);
          off = λ known. sym (ap (value_read values) whole_none);
        }
    step_from whole token after now left right tree turns wants joins comes is enough (Some s) at
        right_is behind shorter =
        let both = joins tree s.tree in
        let whole_is : whole ≡ chain_on wanted inner turns both.0 s.rest =
        is ∙ (ap (λ (t : Bool). cond t (option_and_then (λ s. option_and_then
        (λ tree. chain_on wanted inner turns tree s.rest) (joined_by token tree s.tree))
        (inner after)) (Some (read tree (token ∷ after)))) wants
        ∙ (ap (λ (o : Option TreeRead). option_and_then (λ s. option_and_then
        (λ tree. chain_on wanted inner turns tree s.rest) (joined_by token tree s.tree)) o) at
        ∙ ap (λ (o : Option Tree). option_and_then
        (λ tree. chain_on wanted inner turns tree s.rest) o) both.1)) in
        let result : result_of values both.0 ≡ joined_result token left right =
        joined_tree token tree s.tree both.0 both.1
        ∙ (ap (λ (d : Denoted). joined_result token d (result_of values s.tree)) comes
        ∙ ap (joined_result token left) (sym right_is)) in
        record {
          on = λ known.
              let rest : now ≡ s.rest = behind (right_known known) in
              record {
                tree = both.0;
                turns = turns;
                enough = omega (arith, shorter, enough);
                comes = result;
                is = whole_is
                    ∙ ap (λ (ts : List Token). chain_on wanted inner turns both.0 ts) (sym rest);
              };
          off = λ known.
              sym (ap (value_read values) whole_is
              ∙ chain_off turns both.0 s.rest
              (result ∙ known_not (joined_result token left right) known));
        }
      where
        right_known : is_unsupported (joined_result token left right) ≡ false →
            is_unsupported right ≡ false
        right_known known = kept right known
          where
            kept : (d : Denoted) → is_unsupported (joined_result token left d) ≡ false →
                is_unsupported d ≡ false
            kept unsupported known =
                absurd (off_on (joined_result token left unsupported) (joined_right token left)
                known)
            kept _ known = refl

    pub goes_step : (whole : Option TreeRead) (token : Token) (before after now : List Token)
        (left right : Denoted) → wanted token ≡ true →
        ((l r : Tree) → (t : Tree) × (joined_by token l r ≡ Some t)) →
        is_unsupported left ≡ false → Goes whole left before → before ≡ token ∷ after →
        right ≡ value_read values (inner after) →
        (is_unsupported right ≡ false → now ≡ rest_read (inner after)) →
        length now ≤ length after → Goes whole (joined_result token left right) now
    goes_step whole token before after now left right wants joins known goes split right_is behind
        shorter =
        let on = goes.on known in
        by on.turns (subst (λ (ts : List Token). length ts ≤ on.turns) split on.enough) on.tree
        (subst (λ (ts : List Token). whole ≡ chain_on wanted inner on.turns on.tree ts) split on.is)
        on.comes
      where
        by : (turns : ℕ) → length (token ∷ after) ≤ turns → (tree : Tree) →
            whole ≡ chain_on wanted inner turns tree (token ∷ after) →
            result_of values tree ≡ left → Goes whole (joined_result token left right) now
        by zero enough tree is comes = absurd (omega arith)
        by (suc turns) enough tree is comes =
            step_from whole token after now left right tree turns wants joins comes is
            (omega (arith, enough)) (inner after) refl right_is behind shorter

    pub goes_stop : (whole : Option TreeRead) (left : Denoted) (tokens : List Token) →
        Goes whole left tokens → is_unsupported left ≡ false → stops wanted tokens ≡ true →
        (left ≡ value_read values whole) × (tokens ≡ rest_read whole)
    goes_stop whole left tokens goes known ends =
        let on = goes.on known in
        let whole_is : whole ≡ Some (read on.tree tokens) =
        on.is ∙ chain_stops wanted inner on.turns on.tree tokens ends in
        (sym (ap (value_read values) whole_is ∙ on.comes), sym (ap rest_read whole_is))

  -- ---- a comparison

  compared_off : (factor : List Token → Option TreeRead) (tree : Tree) (tokens : List Token) →
      result_of values tree ≡ unsupported →
      value_read values (compared_on factor tree tokens) ≡ unsupported
  compared_off factor tree [] off = off
  compared_off factor tree (token ∷ tokens) off =
      by (is_comparison token) (sum_read factor tokens)
    where
      joined : (s : TreeRead) (o : Option Tree) → joined_by token tree s.tree ≡ o →
          value_read values (option_map (λ t. read t s.rest) o) ≡ unsupported
      joined s None is = refl
      joined s (Some t) is =
          joined_tree token tree s.tree t is
          ∙ (ap (λ (d : Denoted). joined_result token d (result_of values s.tree)) off
          ∙ joined_left token (result_of values s.tree))

      by : (t : Bool) (o : Option TreeRead) →
          value_read values (cond t (option_and_then (λ s. option_map (λ tree. read tree s.rest)
          (joined_by token tree s.tree)) o) (Some (read tree (token ∷ tokens)))) ≡ unsupported
      by false o = off
      by true None = refl
      by true (Some s) = joined s (joined_by token tree s.tree) refl

  -- where the left side isn't computed
  pub comparison_off : (factor : List Token → Option TreeRead) (tokens : List Token)
      (left : Denoted) →
      left ≡ value_read values (sum_read factor tokens) → is_unsupported left ≡ true →
      left ≡ value_read values (comparison_read factor tokens)
  comparison_off factor tokens left is off = by (sum_read factor tokens) is
    where
      by : (o : Option TreeRead) → left ≡ value_read values o →
          left ≡ value_read values (option_and_then (λ r. compared_on factor r.tree r.rest) o)
      by None left_is = left_is
      by (Some r) left_is =
          known_not left off
          ∙ sym (compared_off factor r.tree r.rest (sym left_is ∙ known_not left off))

  -- where no comparison stands behind the sum
  pub comparison_stop : (factor : List Token → Option TreeRead) (tokens now : List Token)
      (left : Denoted) → left ≡ value_read values (sum_read factor tokens) →
      is_unsupported left ≡ false → now ≡ rest_read (sum_read factor tokens) →
      stops is_comparison now ≡ true →
      (left ≡ value_read values (comparison_read factor tokens))
      × (now ≡ rest_read (comparison_read factor tokens))
  comparison_stop factor tokens now left is known behind ends =
      by (sum_read factor tokens) is behind
    where
      on : (tree : Tree) (ts : List Token) → stops is_comparison ts ≡ true →
          compared_on factor tree ts ≡ Some (read tree ts)
      on tree [] stop = refl
      on tree (token ∷ ts) stop =
          ap (λ (t : Bool). cond t (option_and_then (λ s. option_map (λ tree. read tree s.rest)
          (joined_by token tree s.tree)) (sum_read factor ts)) (Some (read tree (token ∷ ts))))
          (not_so (is_comparison token) stop)

      by : (o : Option TreeRead) → left ≡ value_read values o → now ≡ rest_read o →
          (left ≡ value_read values (option_and_then (λ r. compared_on factor r.tree r.rest) o))
          × (now ≡ rest_read (option_and_then (λ r. compared_on factor r.tree r.rest) o))
      by None left_is rest = absurd (off_on left left_is known)
      by (Some r) left_is rest =
          let stop : stops is_comparison r.rest ≡ true =
          ap (stops is_comparison) (sym rest) ∙ ends in
          let whole = on r.tree r.rest stop in
          (left_is ∙ sym (ap (value_read values) whole), rest ∙ sym (ap rest_read whole))

  -- where one does
  pub comparison_step : (factor : List Token → Option TreeRead) (tokens before after now
      : List Token)
      (token : Token) (left right : Denoted) → is_comparison token ≡ true →
      ((l r : Tree) → (t : Tree) × (joined_by token l r ≡ Some t)) →
      left ≡ value_read values (sum_read factor tokens) → is_unsupported left ≡ false →
      before ≡ rest_read (sum_read factor tokens) → before ≡ token ∷ after →
      right ≡ value_read values (sum_read factor after) →
      (is_unsupported right ≡ false → now ≡ rest_read (sum_read factor after)) →
      (joined_result token left right ≡ value_read values (comparison_read factor tokens))
      × (is_unsupported (joined_result token left right) ≡ false →
      now ≡ rest_read (comparison_read factor tokens))
  comparison_step factor tokens before after now token left right wants joins left_is known behind
      split right_is right_behind =
      by (sum_read factor tokens) left_is behind
    where
      on : (tree : Tree) (o : Option TreeRead) → sum_read factor after ≡ o →
          left ≡ result_of values tree →
          right ≡ value_read values o → (is_unsupported right ≡ false → now ≡ rest_read o) →
          (joined_result token left right
          ≡ value_read values (compared_on factor tree (token ∷ after)))
          × (is_unsupported (joined_result token left right) ≡ false →
          now ≡ rest_read (compared_on factor tree (token ∷ after)))
      on tree None at comes right_none rest =
          let none : joined_result token left right ≡ unsupported =
          ap (joined_result token left) right_none ∙ joined_right token left in
          let whole : compared_on factor tree (token ∷ after) ≡ None =
          ap (λ (t : Bool). cond t (option_and_then (λ s. option_map (λ tree. read tree s.rest)
          (joined_by token tree s.tree)) (sum_read factor after))
          (Some (read tree (token ∷ after)))) wants
          ∙ ap (λ (o : Option TreeRead). option_and_then (λ s. option_map (λ tree. read tree s.rest)
          (joined_by token tree s.tree)) o) at in (
            none ∙ sym (ap (value_read values) whole),
            λ on. absurd (off_on (joined_result token left right) none on),
          )
      on tree (Some s) at comes right_some rest =
          let both = joins tree s.tree in
          let whole : compared_on factor tree (token ∷ after) ≡ Some (read both.0 s.rest) =
          ap (λ (t : Bool). cond t (option_and_then (λ s. option_map (λ tree. read tree s.rest)
          (joined_by token tree s.tree)) (sum_read factor after))
          (Some (read tree (token ∷ after)))) wants
          ∙ (ap (λ (o : Option TreeRead). option_and_then (λ s. option_map (λ tree.
          read tree s.rest)
          (joined_by token tree s.tree)) o) at
          ∙ ap (λ (o : Option Tree). option_map (λ tree. read tree s.rest) o) both.1) in
          let result : joined_result token left right ≡ result_of values both.0 =
          ap (λ (d : Denoted). joined_result token d right) comes
          ∙ (ap (joined_result token (result_of values tree)) right_some
          ∙ sym (joined_tree token tree s.tree both.0 both.1)) in (
            result ∙ sym (ap (value_read values) whole),
            λ on. rest (kept right on) ∙ sym (ap rest_read whole),
          )
        where
          kept : (d : Denoted) → is_unsupported (joined_result token left d) ≡ false →
              is_unsupported d ≡ false
          kept unsupported on =
              absurd (off_on (joined_result token left unsupported) (joined_right token left) on)
          kept _ on = refl

      by : (o : Option TreeRead) → left ≡ value_read values o → before ≡ rest_read o →
          (joined_result token left right
          ≡ value_read values (option_and_then (λ r. compared_on factor r.tree r.rest) o))
          × (is_unsupported (joined_result token left right) ≡ false →
          now ≡ rest_read (option_and_then (λ r. compared_on factor r.tree r.rest) o))
      by None is rest = absurd (off_on left is known)
      by (Some r) is rest =
          let tokens_are : token ∷ after ≡ r.rest = sym split ∙ rest in
          subst (λ (ts : List Token).
          (joined_result token left right ≡ value_read values (compared_on factor r.tree ts))
          × (is_unsupported (joined_result token left right) ≡ false →
          now ≡ rest_read (compared_on factor r.tree ts))) tokens_are
          (on r.tree (sum_read factor after) refl is right_is right_behind)

  -- ---- parentheses

  pub group_off : (factor : List Token → Option TreeRead) (tokens : List Token) (inside : Denoted) →
      inside ≡ value_read values (comparison_read factor tokens) → is_unsupported inside ≡ true →
      inside ≡ value_read values (group_read factor tokens)
  group_off factor tokens inside is off = by (comparison_read factor tokens) is
    where
      closed : (tree : Tree) (ts : List Token) → inside ≡ result_of values tree →
          inside ≡ value_read values (closed_by tree ts)
      closed tree [] comes = known_not inside off
      closed tree (token ∷ ts) comes = at (is_closing token)
        where
          at : (t : Bool) →
              inside ≡ value_read values (cond t (Some (read (grouped tree) ts)) None)
          at true = comes
          at false = known_not inside off

      by : (o : Option TreeRead) → inside ≡ value_read values o →
          inside ≡ value_read values (option_and_then (λ r. closed_by r.tree r.rest) o)
      by None comes = comes
      by (Some r) comes = closed r.tree r.rest comes

  pub group_closed : (factor : List Token → Option TreeRead) (tokens now after : List Token)
      (inside : Denoted) → inside ≡ value_read values (comparison_read factor tokens) →
      is_unsupported inside ≡ false → now ≡ rest_read (comparison_read factor tokens) →
      now ≡ closes ∷ after →
      (inside ≡ value_read values (group_read factor tokens))
      × (after ≡ rest_read (group_read factor tokens))
  group_closed factor tokens now after inside is known behind split =
      by (comparison_read factor tokens) is behind
    where
      by : (o : Option TreeRead) → inside ≡ value_read values o → now ≡ rest_read o →
          (inside ≡ value_read values (option_and_then (λ r. closed_by r.tree r.rest) o))
          × (after ≡ rest_read (option_and_then (λ r. closed_by r.tree r.rest) o))
      by None comes rest = absurd (off_on inside comes known)
      by (Some r) comes rest =
          let whole : closed_by r.tree r.rest ≡ Some (read (grouped r.tree) after) =
          ap (closed_by r.tree) (sym rest ∙ split) in
          (comes ∙ sym (ap (value_read values) whole), sym (ap rest_read whole))

  pub group_open : (factor : List Token → Option TreeRead) (tokens now : List Token)
      (inside : Denoted) → inside ≡ value_read values (comparison_read factor tokens) →
      is_unsupported inside ≡ false → now ≡ rest_read (comparison_read factor tokens) →
      closes_first now ≡ false → unsupported ≡ value_read values (group_read factor tokens)
  group_open factor tokens now inside is known behind unclosed =
      by (comparison_read factor tokens) is behind
    where
      not_closed : (tree : Tree) (ts : List Token) → closes_first ts ≡ false →
          closed_by tree ts ≡ None
      not_closed tree [] none = refl
      not_closed tree (token ∷ ts) none =
          ap (λ (t : Bool). cond t (Some (read (grouped tree) ts)) None) none

      by : (o : Option TreeRead) → inside ≡ value_read values o → now ≡ rest_read o →
          unsupported ≡ value_read values (option_and_then (λ r. closed_by r.tree r.rest) o)
      by None comes rest = refl
      by (Some r) comes rest =
          sym (ap (value_read values)
          (not_closed r.tree r.rest (ap closes_first (sym rest) ∙ unclosed)))

  -- ---- totals

  abbrev pub joined_references : List Reference → ReferencesRead → ReferencesRead
  joined_references done s = record { references = done ++ s.references; rest = s.rest }

  -- the total of the references that were read
  pub record IsTotal (whole : Option ReferencesRead) (total : Denoted) (tokens : List Token) :
      Type 0 where
    pub done : List Reference
    pub comes : total ≡ total_of values done
    pub is : whole ≡ option_map (joined_references done) (references_read tokens)

  total_more : (done : List Reference) (r : Reference) →
      fold total_with_value (total_of values done) (values_within values (area_named r))
      ≡ total_of values (done ++ r ∷ [])
  total_more done r =
      sym (ap (fold total_with_value (a_number (pos 0, pos 0))) (joined done)
      ∙ fold_on (a_number (pos 0, pos 0)) (flat_map (λ r. values_within values (area_named r)) done)
      (values_within values (area_named r)))
    where
      fold_on : (d : Denoted) (xs ys : List CellValue) →
          fold total_with_value d (xs ++ ys) ≡ fold total_with_value (fold total_with_value d xs) ys
      fold_on d [] ys = refl
      fold_on d (x ∷ xs) ys = fold_on (total_with_value d x) xs ys

      joined : (rs : List Reference) →
          flat_map (λ r. values_within values (area_named r)) (rs ++ r ∷ [])
          ≡ flat_map (λ r. values_within values (area_named r)) rs
          ++ values_within values (area_named r)
      joined [] = append-nil (values_within values (area_named r))
      joined (first ∷ rs) =
          ap (λ (vs : List CellValue). values_within values (area_named first) ++ vs) (joined rs)
          ∙ sym (append_assoc (values_within values (area_named first))
          (flat_map (λ r. values_within values (area_named r)) rs)
          (values_within values (area_named r)))

  pub total_start : (tokens : List Token) →
      IsTotal (references_read tokens) (a_number (pos 0, pos 0)) tokens
  total_start tokens = record { done = []; comes = refl; is = same (references_read tokens) }
    where
      same : (o : Option ReferencesRead) → o ≡ option_map (joined_references []) o
      same None = refl
      same (Some s) = refl

  pub total_step : (whole : Option ReferencesRead) (amount more : Denoted)
      (tokens after rest : List Token) (r : Reference) → IsTotal whole amount tokens →
      more ≡ fold total_with_value amount (values_within values (area_named r)) →
      tokens ≡ refers r ∷ after → after ≡ comma ∷ rest → IsTotal whole more rest
  total_step whole amount more tokens after rest r so_far more_is split separated = record {
    done = so_far.done ++ r ∷ [];
    comes = more_is
        ∙ (ap (λ (d : Denoted). fold total_with_value d (values_within values (area_named r)))
        so_far.comes
        ∙ total_more so_far.done r);
    is = so_far.is
        ∙ (ap (λ (ts : List Token). option_map (joined_references so_far.done)
        (references_read ts)) (split ∙ ap (λ (ts : List Token). refers r ∷ ts) separated)
        ∙ on (references_read rest));
  }
    where
      on : (o : Option ReferencesRead) →
          option_map (joined_references so_far.done) (option_map (with_first_reference r) o)
          ≡ option_map (joined_references (so_far.done ++ r ∷ [])) o
      on None = refl
      on (Some s) =
          ap (λ (rs : List Reference). Some (record { references = rs; rest = s.rest }))
          (sym (append_assoc so_far.done (r ∷ []) s.references))

-- ---- factors

-- tokens that a factor begins with
abbrev pub begins_factor : Token → Bool
begins_factor (constant number) = true
begins_factor (refers r) = true
begins_factor sign = true
begins_factor opens = true
begins_factor sum = true
begins_factor _ = false

abbrev pub IsSome : ℕ → Type 0
IsSome levels = levels ≡ 0 → ⊥

pub factor_no_level : (levels : ℕ) (tokens : List Token) → levels ≡ 0 →
    factor_read levels tokens ≡ None
factor_no_level levels tokens none = ap (λ (n : ℕ). factor_read n tokens) none

pub factor_no_token : (levels : ℕ) (tokens : List Token) → tokens ≡ [] →
    factor_read levels tokens ≡ None
factor_no_token zero tokens none = refl
factor_no_token (suc levels) tokens none = ap (factor_read (suc levels)) none

pub factor_other : (levels : ℕ) (tokens rest : List Token) (token : Token) →
    tokens ≡ token ∷ rest → begins_factor token ≡ false → factor_read levels tokens ≡ None
factor_other zero tokens rest token split other = refl
factor_other (suc levels) tokens rest token split other =
    ap (factor_read (suc levels)) split ∙ by token rest other
  where
    by : (token : Token) (rest : List Token) → begins_factor token ≡ false →
        factor_read (suc levels) (token ∷ rest) ≡ None
    by (constant number) rest other = absurd (cc)
    by (refers r) rest other = absurd (cc)
    by sign rest other = absurd (cc)
    by opens rest other = absurd (cc)
    by sum rest other = absurd (cc)
    by _ rest other = refl

pub factor_constant : (levels : ℕ) (tokens rest : List Token) (number : ℤ × ℤ) → IsSome levels →
    tokens ≡ constant number ∷ rest → factor_read levels tokens ≡ Some (read (literal number) rest)
factor_constant zero tokens rest number some split = absurd (some refl)
factor_constant (suc levels) tokens rest number some split = ap (factor_read (suc levels)) split

pub factor_cell : (levels : ℕ) (tokens rest : List Token) (r : Reference) → IsSome levels →
    tokens ≡ refers r ∷ rest → factor_read levels tokens ≡ cell_read rest (cell_alone r r.second)
factor_cell zero tokens rest r some split = absurd (some refl)
factor_cell (suc levels) tokens rest r some split = ap (factor_read (suc levels)) split

less_one : (levels : ℕ) → suc levels - 1 ≡ levels
less_one levels = omega arith

pub factor_sign : (levels : ℕ) (tokens rest : List Token) → IsSome levels →
    tokens ≡ sign ∷ rest →
    factor_read levels tokens ≡ option_map (read_as negated) (factor_read (levels - 1) rest)
factor_sign zero tokens rest some split = absurd (some refl)
factor_sign (suc levels) tokens rest some split =
    ap (factor_read (suc levels)) split
    ∙ ap (λ (n : ℕ). option_map (read_as negated) (factor_read n rest)) (sym (less_one levels))

pub factor_group : (levels : ℕ) (tokens rest : List Token) → IsSome levels →
    tokens ≡ opens ∷ rest →
    factor_read levels tokens ≡ group_read (factor_read (levels - 1)) rest
factor_group zero tokens rest some split = absurd (some refl)
factor_group (suc levels) tokens rest some split =
    ap (factor_read (suc levels)) split
    ∙ ap (λ (n : ℕ). group_read (factor_read n) rest) (sym (less_one levels))

abbrev pub whole_total : ReferencesRead → TreeRead
whole_total s = read (total s.references) s.rest

pub factor_total : (levels : ℕ) (tokens rest : List Token) → IsSome levels →
    tokens ≡ sum ∷ rest →
    factor_read levels tokens ≡ option_map whole_total (opened_references rest)
unfolding references_from
factor_total zero tokens rest some split = absurd (some refl)
factor_total (suc levels) tokens rest some split =
    ap (factor_read (suc levels)) split ∙ by rest
  where
    by : (rest : List Token) →
        factor_read (suc levels) (sum ∷ rest) ≡ option_map whole_total (opened_references rest)
    by [] = refl
    by (opens ∷ rest) = refl
    by (_ ∷ rest) = refl

module _ (values : List ((ℕ × ℕ) × CellValue)) where
  pub signed_value : (o : Option TreeRead) (inside result : Denoted) → result ≡ of_one inside →
      inside ≡ value_read values o → result ≡ value_read values (option_map (read_as negated) o)
  signed_value None inside result is inside_is = is ∙ ap of_one inside_is
  signed_value (Some r) inside result is inside_is = is ∙ ap of_one inside_is

  pub signed_rest : (o : Option TreeRead) (inside result : Denoted) (now : List Token) →
      result ≡ of_one inside → is_unsupported result ≡ false →
      (is_unsupported inside ≡ false → now ≡ rest_read o) →
      now ≡ rest_read (option_map (read_as negated) o)
  signed_rest o inside result now is known rest =
      rest (kept inside (ap is_unsupported (sym is) ∙ known)) ∙ same o
    where
      kept : (d : Denoted) → is_unsupported (of_one d) ≡ false → is_unsupported d ≡ false
      kept unsupported on = absurd (cc)
      kept _ on = refl

      same : (o : Option TreeRead) → rest_read o ≡ rest_read (option_map (read_as negated) o)
      same None = refl
      same (Some r) = refl

  pub total_value : (o : Option ReferencesRead) →
      total_of_references values o ≡ value_read values (option_map whole_total o)
  total_value None = refl
  total_value (Some s) = refl

  pub total_rest : (o : Option ReferencesRead) →
      references_rest o ≡ rest_read (option_map whole_total o)
  total_rest None = refl
  total_rest (Some s) = refl

  pub cell_value : (tree : Option Tree) (rest : List Token) →
      value_read values (cell_read [] tree) ≡ value_read values (cell_read rest tree)
  cell_value None rest = refl
  cell_value (Some t) rest = refl

  pub cell_rest : (tree : Option Tree) (rest : List Token) (result : Denoted) →
      result ≡ value_read values (cell_read [] tree) → is_unsupported result ≡ false →
      rest ≡ rest_read (cell_read rest tree)
  cell_rest None rest result is known = absurd (off_on result is known)
  cell_rest (Some t) rest result is known = refl
