-- What is kept of many elements, with one more of them.
use Rattle.std.proofs.Common.{◌≡◌, List, [], ◌∷◌, ◌++◌, Option, Some, None, Result, Ok, Err, refl}
use Rattle.std.proofs.Common.{sym, ◌∙◌, ap, append_assoc, append-nil}
use Rattle.xlsx_sections.specs.Changes.{all_changes, changed_by}
use Rattle.xlsx_sections.specs.Refusal.{Refusal}
use Rattle.xlsx_sections.specs.Answers.{or_earlier, or_later, with_first, and_others, and_others_if}
use Rattle.xlsx_sections.specs.Answers.{prepended, last_answer, some_answers}

-- what the last of some gives, with one before them
pub or_earlier-or_later : {A : Type 0} (kept next : Option A)
    (answer others : Result (Option A) Refusal) → or_earlier kept answer ≡ Ok next
    → or_earlier next others ≡ or_earlier kept (or_later answer others)
or_earlier-or_later kept next (Err refusal) others is = absurd (cc)
or_earlier-or_later kept next (Ok (Some own)) (Ok (Some later)) is = refl
or_earlier-or_later kept next (Ok (Some own)) (Ok None) is = sym is
or_earlier-or_later kept next (Ok (Some own)) (Err refusal) is = refl
or_earlier-or_later kept next (Ok None) (Ok (Some later)) is = refl
or_earlier-or_later kept next (Ok None) (Ok None) is = sym is
or_earlier-or_later kept next (Ok None) (Err refusal) is = refl

pub or_earlier-None : {A : Type 0} (answer : Result (Option A) Refusal) → or_earlier None answer
    ≡ answer
or_earlier-None (Ok (Some later)) = refl
or_earlier-None (Ok None) = refl
or_earlier-None (Err refusal) = refl

-- what all of some give, with one before them
pub prepended-and_others : {A : Type 0} (kept : List A) (own : A) (answer : Result A Refusal)
    (others : Result (List A) Refusal) → answer ≡ Ok own → prepended (kept ++ own ∷ []) others
    ≡ prepended kept (and_others answer others)
prepended-and_others kept own answer (Ok others) is =
    rw (is, append_assoc kept (own ∷ []) others) refl
prepended-and_others kept own answer (Err refusal) is = rw is refl

pub prepended-nil : {A : Type 0} (answer : Result (List A) Refusal) → prepended [] answer ≡ answer
prepended-nil (Ok others) = refl
prepended-nil (Err refusal) = refl

-- with one of those that are left, the last of all is the same
pub last_further : {X A : Type 0} {next : Option A} {x : X} {xs rest : List X}
    {all : Result (Option A) Refusal} (answer : X → Result (Option A) Refusal) (kept : Option A)
    → xs ≡ x ∷ rest → or_earlier kept (answer x) ≡ Ok next → or_earlier kept (last_answer answer xs)
    ≡ all → or_earlier next (last_answer answer rest) ≡ all
last_further {next = next} {x = x} {rest = rest} answer kept same is holds =
    or_earlier-or_later kept next (answer x) (last_answer answer rest) is ∙ (rw same at holds)

-- one of those that are left is refused
pub last_refused : {X A : Type 0} {x : X} {xs rest : List X} {all : Result (Option A) Refusal}
    {refusal : Refusal} (answer : X → Result (Option A) Refusal) (kept : Option A) → xs ≡ x ∷ rest
    → answer x ≡ Err refusal → or_earlier kept (last_answer answer xs) ≡ all → all ≡ Err refusal
last_refused {xs = xs} {refusal = refusal} answer kept same refuses holds =
    let here : or_earlier kept (last_answer answer xs) ≡ Err refusal = rw (same, refuses) refl in
    sym holds ∙ here

-- one more change was made
pub change_further : {X A : Type 0} {x : X} {xs rest : List X} {all : Result A Refusal} {next : A}
    (change : X → A → Result A Refusal) (now : A) → xs ≡ x ∷ rest → change x now ≡ Ok next
    → all_changes change xs now ≡ all → all_changes change rest next ≡ all
change_further {X = X} {rest = rest} change now same is holds =
    sym (ap (changed_by (all_changes change rest)) is)
    ∙ (sym (ap (λ (elements : List X). all_changes change elements now) same) ∙ holds)

-- one of those that are left is refused
pub change_refused : {X A : Type 0} {x : X} {xs rest : List X} {all : Result A Refusal}
    {refusal : Refusal} (change : X → A → Result A Refusal) (now : A) → xs ≡ x ∷ rest
    → change x now ≡ Err refusal → all_changes change xs now ≡ all → all ≡ Err refusal
change_refused {X = X} {rest = rest} change now same refuses holds =
    sym holds ∙ (ap (λ (elements : List X). all_changes change elements now) same
    ∙ ap (changed_by (all_changes change rest)) refuses)

-- one that gives something was taken of those that are left
pub some_taken : {X A : Type 0} {x : X} {xs rest : List X} {own : A} {all : Result (List A) Refusal}
    (answer : X → Result (Option A) Refusal) (kept : List A) → xs ≡ x ∷ rest
    → answer x ≡ Ok (Some own) → prepended kept (some_answers answer xs) ≡ all
    → prepended (kept ++ own ∷ []) (some_answers answer rest) ≡ all
some_taken {x = x} {rest = rest} {own = own} answer kept same is holds =
    prepended-and_others kept own (Ok own) (some_answers answer rest) refl
    ∙ ap (λ (first : Result (Option _) Refusal). prepended kept
    (and_others_if first (some_answers answer rest))) (sym is)
    ∙ (rw same at holds)

-- one that gives nothing was
pub some_passed : {X A : Type 0} {x : X} {xs rest : List X} {all : Result (List A) Refusal}
    (answer : X → Result (Option A) Refusal) (kept : List A) → xs ≡ x ∷ rest → answer x ≡ Ok None
    → prepended kept (some_answers answer xs) ≡ all
    → prepended kept (some_answers answer rest) ≡ all
some_passed {rest = rest} answer kept same is holds =
    ap (λ (first : Result (Option _) Refusal). prepended kept
    (and_others_if first (some_answers answer rest))) (sym is)
    ∙ (rw same at holds)

-- one of those that are left is refused
pub some_refused : {X A : Type 0} {x : X} {xs rest : List X} {all : Result (List A) Refusal}
    {refusal : Refusal} (answer : X → Result (Option A) Refusal) (kept : List A) → xs ≡ x ∷ rest
    → answer x ≡ Err refusal → prepended kept (some_answers answer xs) ≡ all → all ≡ Err refusal
some_refused {xs = xs} {refusal = refusal} answer kept same refuses holds =
    let here : prepended kept (some_answers answer xs) ≡ Err refusal = rw (same, refuses) refl in
    sym holds ∙ here

-- none of them is left
pub all_taken : {X A : Type 0} {xs : List X} {all : Result (List A) Refusal}
    (answer : X → Result (Option A) Refusal) (kept : List A) → xs ≡ []
    → prepended kept (some_answers answer xs) ≡ all → all ≡ Ok kept
all_taken {xs = xs} answer kept same holds =
    let here : prepended kept (some_answers answer xs) ≡ Ok kept = rw (same, append-nil kept) refl
    in
    sym holds ∙ here

some_first : {A : Type 0} (passed : List A) (first : Result (Option A) Refusal)
    (others all more : Result (List A) Refusal) → and_others_if first others ≡ Ok passed
    → ((rest : List A) → others ≡ Ok rest → all ≡ prepended rest more)
    → and_others_if first all ≡ prepended passed more
some_first passed (Err refusal) others all more is same = absurd (cc)
some_first passed (Ok None) others all more is same = same passed is
some_first passed (Ok (Some own)) (Err refusal) all more is same = absurd (cc)
some_first {A = A} passed (Ok (Some own)) (Ok rest) all (Ok behind) is same =
    let front : own ∷ rest ≡ passed = cc in
    ap (with_first own) (same rest refl)
    ∙ ap (λ (kept : List A). prepended kept (Ok behind)) front
some_first passed (Ok (Some own)) (Ok rest) all (Err refusal) is same =
    ap (with_first own) (same rest refl)

-- what is given by some and by more behind them
pub some_and_more : {X A : Type 0} (answer : X → Result (Option A) Refusal) (front more : List X)
    (passed : List A) → some_answers answer front ≡ Ok passed
    → some_answers answer (front ++ more) ≡ prepended passed (some_answers answer more)
some_and_more {A = A} answer [] more passed is =
    let none : [] ≡ passed = cc in
    sym (prepended-nil (some_answers answer more))
    ∙ ap (λ (kept : List A). prepended kept (some_answers answer more)) none
some_and_more answer (x ∷ front) more passed is =
    some_first passed (answer x) (some_answers answer front)
    (some_answers answer (front ++ more)) (some_answers answer more) is
    (λ rest own. some_and_more answer front more rest own)

-- what stands behind what was kept is refused
pub behind_refused : {A : Type 0} {refusal : Refusal} (kept : List A)
    (answer : Result (List A) Refusal) → prepended kept answer ≡ Err refusal
    → answer ≡ Err refusal
behind_refused kept (Ok others) is = absurd (cc)
behind_refused kept (Err own) is = is
