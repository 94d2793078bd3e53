-- What becomes of the answers of many elements, of which one is refused.
use Rattle.std.specs.Prelude.{ℕ, List, [], ◌∷◌, ◌++◌, Option, Some, None, Result, Ok, Err}
use Rattle.xlsx_sections.specs.Refusal.{Refusal}

-- an answer in front of others
abbrev pub with_first : {A : Type 0} → A → Result (List A) Refusal → Result (List A) Refusal
with_first first (Ok others) = Ok (first ∷ others)
with_first first (Err refusal) = Err refusal

-- an answer in front of others; the first refusal counts
abbrev pub and_others : {A : Type 0} → Result A Refusal → Result (List A) Refusal
    → Result (List A) Refusal
and_others (Ok first) others = with_first first others
and_others (Err refusal) others = Err refusal

-- what each of a list gives, in order, or the first refusal
abbrev pub all_answers : {X A : Type 0} → (X → Result A Refusal) → List X → Result (List A) Refusal
all_answers answer [] = Ok []
all_answers answer (x ∷ xs) = and_others (answer x) (all_answers answer xs)

-- a list of answers, the first in front of the others, where the first may say nothing
abbrev pub and_others_if : {A : Type 0} → Result (Option A) Refusal → Result (List A) Refusal
    → Result (List A) Refusal
and_others_if (Ok (Some first)) others = with_first first others
and_others_if (Ok None) others = others
and_others_if (Err refusal) others = Err refusal

-- what each gives that gives something, or the first refusal
abbrev pub some_answers : {X A : Type 0} → (X → Result (Option A) Refusal) → List X
    → Result (List A) Refusal
some_answers answer [] = Ok []
some_answers answer (x ∷ xs) = and_others_if (answer x) (some_answers answer xs)

-- what comes later counts, and what came earlier where nothing does
abbrev pub or_earlier : {A : Type 0} → Option A → Result (Option A) Refusal
    → Result (Option A) Refusal
or_earlier earlier (Ok (Some later)) = Ok (Some later)
or_earlier earlier (Ok None) = Ok earlier
or_earlier earlier (Err refusal) = Err refusal

-- of two answers the later one that says something; the first refusal counts
abbrev pub or_later : {A : Type 0} → Result (Option A) Refusal → Result (Option A) Refusal
    → Result (Option A) Refusal
or_later (Ok earlier) later = or_earlier earlier later
or_later (Err refusal) later = Err refusal

-- what the last gives that gives something, or the first refusal
abbrev pub last_answer : {X A : Type 0} → (X → Result (Option A) Refusal) → List X
    → Result (Option A) Refusal
last_answer answer [] = Ok None
last_answer answer (x ∷ xs) = or_later (answer x) (last_answer answer xs)

-- what was given before, and behind it what the others give, or their refusal
abbrev pub prepended : {A : Type 0} → List A → Result (List A) Refusal → Result (List A) Refusal
prepended kept (Ok others) = Ok (kept ++ others)
prepended kept (Err refusal) = Err refusal

-- two values that were looked up, handed on; another number of them never comes
abbrev pub with_two : {A : Type 0} → (Option (List ℕ) → Option (List ℕ) → A) → A
    → List (Option (List ℕ)) → A
with_two f other [] = other
with_two f other (a ∷ []) = other
with_two f other (a ∷ b ∷ []) = f a b
with_two f other (a ∷ b ∷ c ∷ values) = other

-- three values that were looked up, handed on; another number of them never comes
abbrev pub with_three :
    {A : Type 0} → (Option (List ℕ) → Option (List ℕ) → Option (List ℕ) → A) → A →
    List (Option (List ℕ)) → A
with_three f other [] = other
with_three f other (a ∷ []) = other
with_three f other (a ∷ b ∷ []) = other
with_three f other (a ∷ b ∷ c ∷ []) = f a b c
with_three f other (a ∷ b ∷ c ∷ d ∷ values) = other
