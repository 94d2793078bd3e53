-- Packages that have the same parts where a look goes say the same by it.
use Rattle.std.proofs.Common.{◌≡◌, ℕ, List, [], ◌∷◌, ◌++◌, Option, Some, None, refl, sym, ◌∙◌, ap}
use Rattle.std.proofs.Common.{subst, inl, inr}
use Rattle.std.specs.Prelude.{flat_map, option_map, option_and_then, MatchOption}
use Rattle.std.specs.Option.{option_map_or}
use Rattle.part_events.specs.Words.{Event, Part}
use Rattle.xlsx_error.specs.declared.error.XlsxError.{XlsxError}
use Rattle.xlsx_parts.specs.Words.{all_said, put_together, SomeCause}
use Rattle.looks.specs.Look.{Look, says, refuses, asks, and_then, both, for_each, mapped}
use Rattle.looks.specs.Look.{paired_said, look_said, LookCause, look_paths, HaveSameAt}
use Rattle.looks.specs.Look.{HaveSameLook}

-- ---- paths in parts

first_paths : (one two : List Part) (paths others : List (List ℕ))
    → HaveSameAt one two (paths ++ others) → HaveSameAt one two paths
first_paths one two [] others same = tt
first_paths one two (path ∷ paths) others same = (same.0, first_paths one two paths others same.1)

second_paths : (one two : List Part) (paths others : List (List ℕ))
    → HaveSameAt one two (paths ++ others) → HaveSameAt one two others
second_paths one two [] others same = same
second_paths one two (path ∷ paths) others same = second_paths one two paths others same.1

-- ---- what is said

-- what goes on from something
then_alike : {A B : Type 0} (one two : List Part) (found : Option A) (first second : A → Option B)
    (goes : A → List (List ℕ)) → HaveSameAt one two (option_map_or goes found [])
    → ((a : A) → HaveSameAt one two (goes a) → first a ≡ second a)
    → option_and_then first found ≡ option_and_then second found
then_alike one two None first second goes same over = refl
then_alike one two (Some a) first second goes same over = over a same

each_alike : {X A : Type 0} (one two : List Part) (first second : X → Option (List A))
    (goes : X → List (List ℕ)) (xs : List X) → HaveSameAt one two (flat_map goes xs)
    → ((x : X) → HaveSameAt one two (goes x) → first x ≡ second x)
    → all_said first xs ≡ all_said second xs
each_alike one two first second goes [] same over = refl
each_alike one two first second goes (x ∷ xs) same over =
    let own = over x (first_paths one two (goes x) (flat_map goes xs) same) in
    let others = each_alike one two first second goes xs
    (second_paths one two (goes x) (flat_map goes xs) same) over in
    ap (λ (said : Option (List _)). put_together said (all_said first xs)) own
    ∙ ap (put_together (second x)) others

pub said_alike : {A : Type 0} (look : Look A) (one two : List Part) → HaveSameLook look one two
    → look_said look one ≡ look_said look two
said_alike (says a) one two same = refl
said_alike (refuses cause) one two same = refl
said_alike (asks path ask) one two same = ap ask.said same.0
said_alike (and_then {A = A} first next) one two same =
    let goes = λ (a : A). look_paths (next a) one in
    let rest = option_map_or goes (look_said first one) [] in
    then_alike one two (look_said first one) (λ (a : A). look_said (next a) one)
    (λ (a : A). look_said (next a) two) goes (second_paths one two (look_paths first one) rest same)
    (λ a own. said_alike (next a) one two own)
    ∙ ap (option_and_then (λ (a : A). look_said (next a) two))
    (said_alike first one two (first_paths one two (look_paths first one) rest same))
said_alike (both {B = B} f first second) one two same =
    ap (λ (own : Option _). paired_said f own (look_said second one))
    (said_alike first one two (first_paths one two (look_paths first one) (look_paths second one) same))
    ∙ ap (paired_said f (look_said first two))
    (said_alike second one two (second_paths one two (look_paths first one) (look_paths second one) same))
said_alike (for_each {X = X} look xs) one two same =
    each_alike one two (λ (x : X). look_said (look x) one) (λ (x : X). look_said (look x) two)
    (λ (x : X). look_paths (look x) one) xs same (λ x own. said_alike (look x) one two own)
said_alike (mapped f look) one two same = ap (option_map f) (said_alike look one two same)

-- ---- why it is refused

then_cause_alike : {A : Type 0} (one two : List Part) (found : Option A) (first second : A → Type 0)
    (goes : A → List (List ℕ)) → HaveSameAt one two (option_map_or goes found [])
    → ((a : A) → HaveSameAt one two (goes a) → first a → second a)
    → MatchOption found ⊥ first → MatchOption found ⊥ second
then_cause_alike one two None first second goes same over cause = cause
then_cause_alike one two (Some a) first second goes same over cause = over a same cause

each_cause_alike : {X : Type 0} (one two : List Part) (first second : X → XlsxError → Type 0)
    (goes : X → List (List ℕ)) (xs : List X) (error : XlsxError)
    → HaveSameAt one two (flat_map goes xs)
    → ((x : X) → HaveSameAt one two (goes x) → first x error → second x error)
    → SomeCause first xs error → SomeCause second xs error
each_cause_alike one two first second goes [] error same over cause = cause
each_cause_alike one two first second goes (x ∷ xs) error same over (inl cause) =
    inl (over x (first_paths one two (goes x) (flat_map goes xs) same) cause)
each_cause_alike one two first second goes (x ∷ xs) error same over (inr cause) =
    inr (each_cause_alike one two first second goes xs error
    (second_paths one two (goes x) (flat_map goes xs) same) over cause)

pub cause_alike : {A : Type 0} (look : Look A) (one two : List Part) (error : XlsxError)
    → HaveSameLook look one two → LookCause look one error → LookCause look two error
cause_alike (says a) one two error same cause = cause
cause_alike (refuses why) one two error same cause = cause
cause_alike (asks path ask) one two error same cause =
    subst (λ (events : Option (List Event)). ask.cause events error) same.0 cause
cause_alike (and_then {A = A} first next) one two error same (inl cause) =
    let rest = option_map_or (λ (a : A). look_paths (next a) one) (look_said first one) [] in
    inl (cause_alike first one two error (first_paths one two (look_paths first one) rest same) cause)
cause_alike (and_then {A = A} first next) one two error same (inr cause) =
    let goes = λ (a : A). look_paths (next a) one in
    let rest = option_map_or goes (look_said first one) [] in
    inr (subst (λ (found : Option A). MatchOption found ⊥ (λ (a : A). LookCause (next a) two error))
    (said_alike first one two (first_paths one two (look_paths first one) rest same))
    (then_cause_alike one two (look_said first one) (λ (a : A). LookCause (next a) one error)
    (λ (a : A). LookCause (next a) two error) goes
    (second_paths one two (look_paths first one) rest same)
    (λ a own. cause_alike (next a) one two error own) cause))
cause_alike (both f first second) one two error same (inl cause) =
    inl (cause_alike first one two error
    (first_paths one two (look_paths first one) (look_paths second one) same) cause)
cause_alike (both f first second) one two error same (inr cause) =
    inr (cause_alike second one two error
    (second_paths one two (look_paths first one) (look_paths second one) same) cause)
cause_alike (for_each {X = X} look xs) one two error same cause =
    each_cause_alike one two (λ (x : X). LookCause (look x) one) (λ (x : X). LookCause (look x) two)
    (λ (x : X). look_paths (look x) one) xs error same
    (λ x own. cause_alike (look x) one two error own) cause
cause_alike (mapped f look) one two error same cause = cause_alike look one two error same cause

-- ---- and the paths are the same

then_paths_alike : {A : Type 0} (one two : List Part) (found : Option A)
    (first second : A → List (List ℕ)) → HaveSameAt one two (option_map_or first found [])
    → ((a : A) → HaveSameAt one two (first a) → first a ≡ second a)
    → option_map_or first found [] ≡ option_map_or second found []
then_paths_alike one two None first second same over = refl
then_paths_alike one two (Some a) first second same over = over a same

each_paths_alike : {X : Type 0} (one two : List Part) (first second : X → List (List ℕ))
    (xs : List X) → HaveSameAt one two (flat_map first xs)
    → ((x : X) → HaveSameAt one two (first x) → first x ≡ second x)
    → flat_map first xs ≡ flat_map second xs
each_paths_alike one two first second [] same over = refl
each_paths_alike one two first second (x ∷ xs) same over =
    let own = over x (first_paths one two (first x) (flat_map first xs) same) in
    let others = each_paths_alike one two first second xs
    (second_paths one two (first x) (flat_map first xs) same) over in
    ap (λ (goes : List (List ℕ)). goes ++ flat_map first xs) own
    ∙ ap (λ (paths : List (List ℕ)). second x ++ paths) others

pub paths_alike : {A : Type 0} (look : Look A) (one two : List Part) → HaveSameLook look one two
    → look_paths look one ≡ look_paths look two
paths_alike (says a) one two same = refl
paths_alike (refuses cause) one two same = refl
paths_alike (asks path ask) one two same = refl
paths_alike (and_then {A = A} first next) one two same =
    let goes = λ (a : A). look_paths (next a) one in
    let other = λ (a : A). look_paths (next a) two in
    let rest = option_map_or goes (look_said first one) [] in
    let here = first_paths one two (look_paths first one) rest same in
    ap (λ (paths : List (List ℕ)). paths ++ rest) (paths_alike first one two here)
    ∙ ap (λ (paths : List (List ℕ)). look_paths first two ++ paths)
    (then_paths_alike one two (look_said first one) goes other
    (second_paths one two (look_paths first one) rest same)
    (λ a own. paths_alike (next a) one two own)
    ∙ ap (λ (found : Option A). option_map_or other found []) (said_alike first one two here))
paths_alike (both f first second) one two same =
    ap (λ (paths : List (List ℕ)). paths ++ look_paths second one)
    (paths_alike first one two (first_paths one two (look_paths first one) (look_paths second one) same))
    ∙ ap (λ (paths : List (List ℕ)). look_paths first two ++ paths)
    (paths_alike second one two (second_paths one two (look_paths first one) (look_paths second one) same))
paths_alike (for_each {X = X} look xs) one two same =
    each_paths_alike one two (λ (x : X). look_paths (look x) one) (λ (x : X). look_paths (look x) two) xs same
    (λ x own. paths_alike (look x) one two own)
paths_alike (mapped f look) one two same = paths_alike look one two same

same_back : (one two : List Part) (paths : List (List ℕ)) → HaveSameAt one two paths
    → HaveSameAt two one paths
same_back one two [] same = tt
same_back one two (path ∷ paths) same = (sym same.0, same_back one two paths same.1)

pub alike_back : {A : Type 0} (look : Look A) (one two : List Part) → HaveSameLook look one two
    → HaveSameLook look two one
alike_back look one two same =
    subst (λ (paths : List (List ℕ)). HaveSameAt two one paths) (paths_alike look one two same)
    (same_back one two (look_paths look one) same)
