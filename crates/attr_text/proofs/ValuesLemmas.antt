-- The lookup of several keys, as the items are read one by one.
use Rattle.std.proofs.Common.{◌≡◌, ℕ, suc, ◌<◌, Bool, true, false, List, [], ◌∷◌, length, map}
use Rattle.std.proofs.Common.{get_or, Ok, Err, Option, Some, None, Bor, refl, sym, ap, ap₂, ◌∙◌}
use Rattle.std.proofs.Common.{arith}
use Rattle.std.specs.Prelude.{is_some, if◌then◌else◌}
use Rattle.std.specs.List.{list_all}
use Rattle.std.specs.Option.{option_copied, option_or}
use Rattle.std.specs.Str.{bytes_eq}
use Rattle.attr_text.specs.Attributes.{Item, first_value, first_values, ending_fault, answer, items}
use Rattle.attr_text.specs.Attributes.{lookup}
use Rattle.attr_text.specs.Wanted.{value_noted, noted}
use Rattle.attr_text.specs.declared.fault.AttrFault.{AttrFault}
use Rattle.attr_text.proofs.WantedLemmas.{answer-found}

-- a pair was noted for each key by itself
pub noted-is : (key value : List ℕ) (keys : List (List ℕ))
    (old new : List (Option (Bor (List ℕ)))) → length keys ≡ length old → length new ≡ length old
    → ((k : ℕ) → k < length old →
    option_copied (get_or new k None)
    ≡ value_noted key value (get_or keys k []) (option_copied (get_or old k None)))
    → map option_copied new ≡ noted key value keys (map option_copied old)
noted-is key value [] [] [] h g each = refl
noted-is key value [] [] (n ∷ new) h g each = absurd (omega arith)
noted-is key value [] (o ∷ old) new h g each = absurd (omega arith)
noted-is key value (w ∷ keys) [] new h g each = absurd (omega arith)
noted-is key value (w ∷ keys) (o ∷ old) [] h g each = absurd (omega arith)
noted-is key value (w ∷ keys) (o ∷ old) (n ∷ new) h g each =
    ap₂ (λ (x : Option (List ℕ)) (xs : List (Option (List ℕ))). x ∷ xs) (each 0 (omega arith))
    (noted-is key value keys old new (omega arith) (omega arith)
    (λ k l. each (suc k) (omega arith)))

-- what is found in the end: what was found so far, or else what these items give
abbrev pub found_later : List Item → List (List ℕ) → List (Option (List ℕ)) → List (Option (List ℕ))
found_later left [] values = []
found_later left (key ∷ keys) [] = []
found_later left (key ∷ keys) (found ∷ values) =
    option_or found (first_value (bytes_eq key) left) ∷ found_later left keys values

-- at the start nothing is found
pub found_later-start : {X : Type 0} (left : List Item) (now : X → List ℕ) (keys : List X) →
    first_values (map now keys) left ≡ found_later left (map now keys) (map (λ _. None) keys)
found_later-start left now [] = refl
found_later-start left now (k ∷ keys) =
    ap (λ xs. first_value (bytes_eq (now k)) left ∷ xs) (found_later-start left now keys)

one_noted : (b : Bool) (value : List ℕ) (found later : Option (List ℕ)) →
    option_or found (if b then Some value else later)
    ≡ option_or (option_or found (if b then Some value else None)) later
one_noted true value None later = refl
one_noted false value None later = refl
one_noted b value (Some v) later = refl

-- a pair that is read is noted
pub found_later-pair : (key value : List ℕ) (left : List Item) (keys : List (List ℕ))
    (values : List (Option (List ℕ))) →
    found_later (Ok (key, value) ∷ left) keys values
    ≡ found_later left keys (noted key value keys values)
found_later-pair key value left [] values = refl
found_later-pair key value left (w ∷ keys) [] = refl
found_later-pair key value left (w ∷ keys) (found ∷ values) =
    ap₂ (λ (x : Option (List ℕ)) (xs : List (Option (List ℕ))). x ∷ xs)
    (one_noted (bytes_eq w key) value found (first_value (bytes_eq w) left))
    (found_later-pair key value left keys values)

or_none : (found : Option (List ℕ)) → option_or found None ≡ found
or_none None = refl
or_none (Some v) = refl

-- where no pair is left, what was found stays
pub found_later-end : (keys : List (List ℕ)) (values : List (Option (List ℕ))) →
    length keys ≡ length values → found_later [] keys values ≡ values
found_later-end [] [] h = refl
found_later-end [] (v ∷ values) h = absurd (omega arith)
found_later-end (k ∷ keys) [] h = absurd (omega arith)
found_later-end (k ∷ keys) (v ∷ values) h =
    ap₂ (λ (x : Option (List ℕ)) (xs : List (Option (List ℕ))). x ∷ xs) (or_none v)
    (found_later-end keys values (omega arith))

pub found_later-fault : (fault : AttrFault) (left : List Item) (keys : List (List ℕ))
    (values : List (Option (List ℕ))) → length keys ≡ length values
    → found_later (Err fault ∷ left) keys values ≡ values
found_later-fault fault left [] [] h = refl
found_later-fault fault left [] (v ∷ values) h = absurd (omega arith)
found_later-fault fault left (k ∷ keys) [] h = absurd (omega arith)
found_later-fault fault left (k ∷ keys) (v ∷ values) h =
    ap₂ (λ (x : Option (List ℕ)) (xs : List (Option (List ℕ))). x ∷ xs) (or_none v)
    (found_later-fault fault left keys values (omega arith))

-- where all was found, nothing changes
pub found_later-all : (left : List Item) (keys : List (List ℕ)) (values : List (Option (List ℕ))) →
    length keys ≡ length values
    → list_all is_some values ≡ true → found_later left keys values ≡ values
found_later-all left [] [] h all = refl
found_later-all left [] (v ∷ values) h all = absurd (omega arith)
found_later-all left (k ∷ keys) [] h all = absurd (omega arith)
found_later-all left (k ∷ keys) (None ∷ values) h all = cc
found_later-all left (k ∷ keys) (Some v ∷ values) h all =
    ap (λ (xs : List (Option (List ℕ))). Some v ∷ xs)
    (found_later-all left keys values (omega arith) all)

-- a test of what the references point to
pub list_all-copied : (values : List (Option (Bor (List ℕ)))) →
    list_all is_some (map option_copied values) ≡ list_all is_some values
list_all-copied [] = refl
list_all-copied (None ∷ values) = refl
list_all-copied (Some v ∷ values) = list_all-copied values

-- the lookup, once its values are known
lookup-is : (keys : List (List ℕ)) (text : List ℕ) (values : List (Option (List ℕ))) (all : Bool)
    (fault : Option AttrFault)
    → first_values keys (items text) ≡ values → list_all is_some values ≡ all →
    ending_fault (items text) ≡ fault
    → lookup keys text ≡ answer values all fault
unfolding lookup
lookup-is keys text values all fault found test ends =
    ap (λ (vs : List (Option (List ℕ))). answer vs (list_all is_some vs)
    (ending_fault (items text))) found
    ∙ ap₂ (answer values) test ends

-- no item is left
pub lookup-end : (keys : List (List ℕ)) (text : List ℕ) (values : List (Option (List ℕ))) →
    length keys ≡ length values
    → first_values keys (items text) ≡ found_later [] keys values →
    ending_fault (items text) ≡ None → lookup keys text ≡ Ok values
lookup-end keys text values same found ends =
    lookup-is keys text values (list_all is_some values) None
    (found ∙ found_later-end keys values same) refl ends

-- a fault is read while a value is missing
pub lookup-refused : (keys : List (List ℕ)) (text : List ℕ) (values : List (Option (List ℕ)))
    (fault : AttrFault) (left : List Item) → length keys ≡ length values
    → first_values keys (items text) ≡ found_later (Err fault ∷ left) keys values →
    list_all is_some values ≡ false
    → ending_fault (items text) ≡ Some fault → lookup keys text ≡ Err fault
lookup-refused keys text values fault left same found missing ends =
    lookup-is keys text values false (Some fault)
    (found ∙ found_later-fault fault left keys values same) missing ends

-- every value was found
pub lookup-all_found : (keys : List (List ℕ)) (text : List ℕ) (values : List (Option (List ℕ)))
    (left : List Item) → length keys ≡ length values
    → first_values keys (items text) ≡ found_later left keys values →
    list_all is_some values ≡ true → lookup keys text ≡ Ok values
lookup-all_found keys text values left same found all =
    lookup-is keys text values true (ending_fault (items text))
    (found ∙ found_later-all left keys values same all) all refl
    ∙ answer-found values (ending_fault (items text))

-- no key is wanted
pub lookup-no_keys : (keys : List (List ℕ)) (text : List ℕ) (values : List (Option (List ℕ))) →
    length keys ≡ 0 → length values ≡ 0 → lookup keys text ≡ Ok values
lookup-no_keys [] text [] h g = lookup-all_found [] text [] [] refl refl refl
lookup-no_keys [] text (v ∷ values) h g = absurd (omega arith)
lookup-no_keys (k ∷ keys) text values h g = absurd (omega arith)

-- nothing was found for any key
pub list_all-none : {X : Type 0} (keys : List X) (values : List (Option (Bor (List ℕ)))) →
    0 < length keys
    → map option_copied values ≡ map (λ _. None) keys → list_all is_some values ≡ false
list_all-none [] values h e = absurd (omega arith)
list_all-none (k ∷ keys) [] h e = cc
list_all-none (k ∷ keys) (None ∷ values) h e = refl
list_all-none (k ∷ keys) (Some v ∷ values) h e = absurd (cc)

-- a turn of the loop at a pair
pub found_later-noted : (key value : List ℕ) (all left rest : List Item) (keys : List (List ℕ))
    (old new : List (Option (List ℕ)))
    → first_values keys all ≡ found_later left keys old → left ≡ Ok (key, value) ∷ rest →
    new ≡ noted key value keys old
    → first_values keys all ≡ found_later rest keys new
found_later-noted key value all left rest keys old new found first now =
    found ∙ ap (λ (is : List Item). found_later is keys old) first
    ∙ found_later-pair key value rest keys old
    ∙ ap (found_later rest keys) (sym now)
