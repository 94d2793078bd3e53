-- The lookup of several keys is that of each by itself.
use Rattle.std.proofs.Common.{◌≡◌, ℕ, zero, suc, ◌<◌, Bool, true, false, List, [], ◌∷◌, map, length}
use Rattle.std.proofs.Common.{get_or, Ok, Err, Option, Some, None, Result, refl, sym, ap, ap₂, ◌∙◌}
use Rattle.std.proofs.Common.{inl, inr, arith}
use Rattle.std.proofs.lemmas.Bool.{and_cases}
use Rattle.std.proofs.Math.Bool.{and-false}
use Rattle.std.specs.Prelude.{is_some, Any, ◌↔◌}
use Rattle.std.specs.List.{list_all}
use Rattle.std.specs.Str.{bytes_eq}
use Rattle.attr_text.specs.Attributes.{Item, first_value, first_values, ending_fault, answer, items}
use Rattle.attr_text.specs.Attributes.{value_of, lookup, with_values, all_values}
use Rattle.attr_text.specs.declared.fault.AttrFault.{AttrFault}

-- what is found for one key
abbrev found : List Item → List ℕ → Option (List ℕ)
found all key = first_value (bytes_eq key) all

-- the lookup of one key in these items
abbrev one_answer : List Item → Option AttrFault → List ℕ → Result (Option (List ℕ)) AttrFault
one_answer all fault key = answer (found all key) (is_some (found all key)) fault

-- one key before others
with_values-answer : (v : Option (List ℕ)) (vs : List (Option (List ℕ))) (b : Bool)
    (o : Option AttrFault) → list_all is_some vs ≡ b →
    with_values (answer v (is_some v) o) (answer vs b o)
    ≡ answer (v ∷ vs) (list_all is_some (v ∷ vs)) o
with_values-answer None vs true None is = refl
with_values-answer None vs false None is = refl
with_values-answer None vs true (Some f) is = refl
with_values-answer None vs false (Some f) is = refl
with_values-answer (Some v) vs true None is = refl
with_values-answer (Some v) vs false None is = refl
with_values-answer (Some v) vs true (Some f) is = rw is
with_values-answer (Some v) vs false (Some f) is = rw is

answers-by_key : (all : List Item) (fault : Option AttrFault) (keys : List (List ℕ)) →
    answer (first_values keys all) (list_all is_some (first_values keys all)) fault
    ≡ all_values (map (one_answer all fault) keys)
answers-by_key all None [] = refl
answers-by_key all (Some f) [] = refl
answers-by_key all fault (key ∷ keys) =
    let others = first_values keys all in
    sym (with_values-answer (found all key) others (list_all is_some others) fault refl)
    ∙ ap (with_values (one_answer all fault key)) (answers-by_key all fault keys)

-- the lookup of several keys gives the value of each, or the first refusal
pub lookup-by_key : (keys : List (List ℕ)) (text : List ℕ) →
    lookup keys text ≡ all_values (map (λ key. value_of key text) keys)
unfolding lookup value_of
lookup-by_key keys text = answers-by_key (items text) (ending_fault (items text)) keys

-- the values of answers that are all given
all_values-ok : {A : Type 0} (values : List A) → all_values (map Ok values) ≡ Ok values
all_values-ok [] = refl
all_values-ok (v ∷ values) = ap (with_values (Ok v)) (all_values-ok values)

with_values-given : {A : Type 0} (first : Result A AttrFault) (others : Result (List A) AttrFault)
    (values : List A) → with_values first others ≡ Ok values →
    (v : A) × (vs : List A) × (first ≡ Ok v) × (others ≡ Ok vs) × (values ≡ v ∷ vs)
with_values-given (Ok v) (Ok vs) values is = (v, vs, refl, refl, cc)
with_values-given (Ok v) (Err f) values is = absurd cc
with_values-given (Err f) others values is = absurd cc

all_values-given : {A : Type 0} (answers : List (Result A AttrFault)) (values : List A) →
    all_values answers ≡ Ok values → answers ≡ map Ok values
all_values-given [] [] is = refl
all_values-given [] (v ∷ values) is = absurd cc
all_values-given (a ∷ answers) values is =
    let given = with_values-given a (all_values answers) values is in
    let first = given.2 in
    let others = all_values-given answers given.1 given.3 in
    let all = given.4 in
    rw all cc

-- the lookup of several keys gives these values exactly where that of each gives its one
pub lookup-ok : (keys : List (List ℕ)) (values : List (Option (List ℕ))) (text : List ℕ) →
    lookup keys text ≡ Ok values ↔ map (λ key. value_of key text) keys ≡ map Ok values
lookup-ok keys values text = (
  λ is. all_values-given (map (λ key. value_of key text) keys) values
      (sym (lookup-by_key keys text) ∙ is),
  λ each. lookup-by_key keys text ∙ ap all_values each ∙ all_values-ok values,
)

answer-refused : {A : Type 0} (value : A) (has_all : Bool) (ends : Option AttrFault)
    (fault : AttrFault) → answer value has_all ends ≡ Err fault →
    (has_all ≡ false) × (ends ≡ Some fault)
answer-refused value true None fault is = absurd cc
answer-refused value false None fault is = absurd cc
answer-refused value true (Some f) fault is = absurd cc
answer-refused value false (Some f) fault is = (refl, cc)

answer-err : {A : Type 0} (value : A) (has_all : Bool) (ends : Option AttrFault)
    (fault : AttrFault) → has_all ≡ false → ends ≡ Some fault →
    answer value has_all ends ≡ Err fault
answer-err value has_all ends fault missing refused = ap₂ (answer value) missing refused

-- a wanted key without a pair
abbrev IsMissing : List Item → List ℕ → Type 0
IsMissing all key = is_some (found all key) ≡ false

first_missing : (all : List Item) (keys : List (List ℕ)) →
    list_all is_some (first_values keys all) ≡ false → Any (IsMissing all) keys
first_missing all [] is = absurd cc
first_missing all (key ∷ keys) is =
    elim (and_cases (is_some (found all key)) (list_all is_some (first_values keys all)) is) [
      | inl missing ↦ (0, key, omega arith, refl, missing)
      | inr others ↦
          let later = first_missing all keys others in
          (suc later.0, later.1, omega (arith, later.2), later.3, later.4)
    ]

some_missing : (all : List Item) (keys : List (List ℕ)) (k : ℕ) (key : List ℕ) →
    k < length keys → get_or keys k key ≡ key → IsMissing all key →
    list_all is_some (first_values keys all) ≡ false
some_missing all [] k key within at missing = absurd (omega arith)
some_missing all (w ∷ keys) zero key within at missing = rw (at, missing) refl
some_missing all (w ∷ keys) (suc k) key within at missing =
    rw (some_missing all keys k key (omega arith) at missing) (and-false (is_some (found all w)))

-- the lookup of several keys is refused exactly where that of one of them is, in the same fault
pub lookup-err : (keys : List (List ℕ)) (fault : AttrFault) (text : List ℕ) →
    lookup keys text ≡ Err fault ↔ Any (λ key. value_of key text ≡ Err fault) keys
unfolding lookup value_of
lookup-err keys fault text =
    let all = items text in
    let values = first_values keys all in (
      λ is.
          let refused = answer-refused values (list_all is_some values)
          (ending_fault all) fault is in
          let missing = first_missing all keys refused.0 in
          let here = found all missing.1 in (
            missing.0,
            missing.1,
            missing.2,
            missing.3,
            answer-err here (is_some here) (ending_fault all) fault missing.4 refused.1,
          ),
      λ one.
          let here = found all one.1 in
          let refused = answer-refused here (is_some here) (ending_fault all) fault one.4 in
          answer-err values (list_all is_some values) (ending_fault all) fault
          (some_missing all keys one.0 one.1 one.2 one.3 refused.0) refused.1,
    )
