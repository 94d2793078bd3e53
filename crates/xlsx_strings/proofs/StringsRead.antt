-- How the elements of a string, and the strings of their section, are read one by one.
use Rattle.std.proofs.Common.{◌≡◌, ℕ, List, ◌∷◌, ◌++◌, Result, Ok, Err, refl, sym, ◌∙◌, ap}
use Rattle.std.proofs.Common.{append_assoc}
use Rattle.std.specs.List.{flat_map}
use Rattle.part_events.specs.Words.{Element}
use Rattle.xlsx_sections.specs.Words.{with_first, and_others, all_answers, element_said, Refusal}
use Rattle.xlsx_strings.specs.Strings.{piece_of, all_joined}

-- a text, and what is put behind it
abbrev pub onto : List ℕ → Result (List ℕ) Refusal → Result (List ℕ) Refusal
onto kept (Ok text) = Ok (kept ++ text)
onto kept (Err refusal) = Err refusal

onto-all_joined : (kept own : List ℕ) (others : Result (List (List ℕ)) Refusal)
    → onto (kept ++ own) (all_joined others) ≡ onto kept (all_joined (with_first own others))
onto-all_joined kept own (Ok texts) =
    ap (λ (text : List ℕ). let answer : Result (List ℕ) Refusal = Ok text in answer)
    (append_assoc kept own (flat_map (λ (text : List ℕ). text) texts))
onto-all_joined kept own (Err refusal) = refl

-- what the elements of a string add to it
abbrev pub pieces_joined : List Element → Result (List ℕ) Refusal
pieces_joined elements = all_joined (all_answers (element_said piece_of) elements)

-- and what others add behind what was put there before
abbrev pub pieces_behind : List ℕ → List Element → Result (List ℕ) Refusal
pieces_behind kept elements = onto kept (pieces_joined elements)

-- one more element of a string was read
pub piece_further : (x : Element) (kept own : List ℕ) (rest : List Element)
    → element_said piece_of x ≡ Ok own
    → pieces_behind (kept ++ own) rest ≡ pieces_behind kept (x ∷ rest)
piece_further x kept own rest is =
    let others = all_answers (element_said piece_of) rest in
    onto-all_joined kept own others
    ∙ ap (λ (answer : Result (List ℕ) Refusal). onto kept (all_joined (and_others answer others)))
    (sym is)

-- what is put behind a text is refused
pub onto_refused : (kept : List ℕ) (answer : Result (List ℕ) Refusal) (refusal : Refusal)
    → onto kept answer ≡ Err refusal → answer ≡ Err refusal
onto_refused kept (Ok text) refusal is = absurd (cc)
onto_refused kept (Err own) refusal is = is

-- one of them is refused
pub piece_refused : (x : Element) (kept : List ℕ) (rest : List Element) (refusal : Refusal)
    → element_said piece_of x ≡ Err refusal → pieces_behind kept (x ∷ rest) ≡ Err refusal
piece_refused x kept rest refusal is =
    ap (λ (answer : Result (List ℕ) Refusal).
    onto kept (all_joined (and_others answer (all_answers (element_said piece_of) rest)))) is
