-- Formulas that are put behind others, one after the other.
use Rattle.std.proofs.Common.{◌≡◌, ◌∙◌, ◌<◌, List, [], ◌∷◌, ◌++◌, length, map, true, sym, ap, subst}
use Rattle.std.proofs.Common.{cond, Bool, Result, Ok, Err, lt-ltb}
use Rattle.std.specs.Prelude.{nat_lt, IfErr}
use Rattle.std.proofs.lemmas.List.{map-append}
use Rattle.std.proofs.lemmas.List.Elements.{filter-append}
use Rattle.book_names.specs.Book.{Book}
use Rattle.xlsx_core.specs.Words.{FormulaSaid}
use Rattle.xlsx_graph.specs.Words.{Gathered, GathersOr, IsMeasured, is_too_large, GraphFormula}
use Rattle.xlsx_graph.specs.Words.{WhenTooLarge}
use Rattle.xlsx_graph.specs.declared.error.NamingError.{NamingError}
use Rattle.xlsx_graph.proofs.Adding.{when_also}
use Rattle.xlsx_graph.proofs.Gathering.{over_is_too_large}
use Rattle.graph_reading.specs.BookRead.{book_formula}
use Rattle.graph_reading.specs.GraphRead.{named_formulas, on_sheets}

-- a formula that stands on one of the sheets is named
named_one : (book : Book) (said : FormulaSaid) → said.sheet < length book.sheets
    → named_formulas book (said ∷ []) ≡ book_formula book said ∷ []
named_one book said within =
    ap (λ (b : Bool). map (book_formula book) (cond b (said ∷ []) []))
    (lt-ltb said.sheet (length book.sheets) within)

-- the first of formulas and the others
named_first : (book : Book) (said : FormulaSaid) (others : List FormulaSaid)
    → named_formulas book (said ∷ others)
    ≡ named_formulas book (said ∷ []) ++ named_formulas book others
named_first book said others =
    let count = length book.sheets in
    ap (map (book_formula book))
    (filter-append (λ (f : FormulaSaid). nat_lt f.sheet count) (said ∷ []) others)
    ∙ map-append (book_formula book) (on_sheets count (said ∷ [])) (on_sheets count others)

-- it takes more room than there is, and so do all of which it is one
pub refused_one : {T : Type 0} (book : Book) (said : FormulaSaid) (old new : Gathered)
    (result : Result T NamingError) → said.sheet < length book.sheets → IsMeasured old
    → GathersOr result old new (book_formula book said)
    → IfErr result (λ e. (rest : List GraphFormula) → WhenTooLarge e
    (is_too_large (old.formulas ++ (named_formulas book (said ∷ []) ++ rest)) ≡ true))
refused_one book said old new (Ok answer) within measured gathers = tt
refused_one book said old new (Err error) within measured gathers = λ rest.
    when_also error _ _ (λ over. subst (λ (own : List GraphFormula).
    is_too_large (old.formulas ++ (own ++ rest)) ≡ true) (sym (named_one book said within))
    (over_is_too_large old (book_formula book said) rest measured over)) gathers

-- all are too large where one of them was refused
pub refused_together : (book : Book) (said : FormulaSaid) (others all : List FormulaSaid)
    (first now : List GraphFormula) (error : NamingError)
    → now ++ named_formulas book (said ∷ others) ≡ first ++ named_formulas book all
    → ((rest : List GraphFormula) → WhenTooLarge error
    (is_too_large (now ++ (named_formulas book (said ∷ []) ++ rest)) ≡ true))
    → WhenTooLarge error (is_too_large (first ++ named_formulas book all) ≡ true)
refused_together book said others all first now error so_far large =
    when_also error _ _ (λ is. subst (λ (own : List GraphFormula). is_too_large own ≡ true)
    (ap (λ (own : List GraphFormula). now ++ own) (sym (named_first book said others)) ∙ so_far)
    is) (large (named_formulas book others))
