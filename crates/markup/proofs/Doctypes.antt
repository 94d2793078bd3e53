-- Where a document type ends.
use Rattle.std.proofs.Common.{◌≡◌, ℕ, zero, suc, ◌+◌, ◌<◌, ◌≤◌, true, false, List, [], ◌∷◌, length}
use Rattle.std.proofs.Common.{get_or, drop, Some, None, refl, ap, ◌∙◌, arith}
use Rattle.std.specs.Option.{option_map, option_and_then}
use Rattle.std.proofs.lemmas.Bool.{cond-true, cond-false}
use Rattle.std.proofs.lemmas.List.{at_drop_more, drop-drop, drop_all}
use Rattle.markup.specs.Front.{doctype_place, passed_over, begins_span, inner_behind}
use Rattle.markup.specs.Front.{closes_doctype}
use Rattle.markup.proofs.Places.{shifted, shifted-zero, shifted-suc, suc-shifted, shifted-shifted}

-- behind what is passed over the search goes on
pub doctype_over : (bytes : List ℕ) (over inner : ℕ)
    → doctype_place bytes over inner ≡ shifted over (doctype_place (drop over bytes) 0 inner)
unfolding doctype_place
doctype_over [] zero inner = refl
doctype_over [] (suc over) inner = refl
doctype_over (b ∷ bytes) zero inner = shifted-zero (doctype_place (b ∷ bytes) 0 inner)
doctype_over (b ∷ bytes) (suc over) inner =
    ap (option_map suc) (doctype_over bytes over inner)
    ∙ suc-shifted over (doctype_place (drop over bytes) 0 inner)

-- the search at a place, where something begins that is passed over
at_span : (bytes : List ℕ) (i inner : ℕ) → i < length bytes
    → begins_span (get_or bytes i 0) (drop (i + 1) bytes) ≡ true
    → doctype_place (drop i bytes) 0 inner ≡ option_map suc
    (option_and_then (λ over. doctype_place (drop (i + 1) bytes) over inner)
    (passed_over (get_or bytes i 0) (drop (i + 1) bytes)))
unfolding doctype_place
at_span bytes i inner within is =
    at_drop_more (λ rest. doctype_place rest 0 inner) bytes i 0 within ∙ cond-true _ _ _ is

pub doctype_span : (bytes : List ℕ) (i inner over : ℕ) → i < length bytes
    → begins_span (get_or bytes i 0) (drop (i + 1) bytes) ≡ true
    → passed_over (get_or bytes i 0) (drop (i + 1) bytes) ≡ Some over
    → shifted i (doctype_place (drop i bytes) 0 inner)
    ≡ shifted (i + (1 + over)) (doctype_place (drop (i + (1 + over)) bytes) 0 inner)
doctype_span bytes i inner over within is passed =
    let rest = drop (i + 1) bytes in
    let behind : drop over rest ≡ drop (i + (1 + over)) bytes =
    drop-drop over (i + 1) bytes ∙ ap (λ n. drop n bytes) (omega arith) in
    ap (shifted i) (at_span bytes i inner within is
    ∙ ap (λ found. option_map suc (option_and_then (λ n. doctype_place rest n inner) found)) passed)
    ∙ shifted-suc i (doctype_place rest over inner)
    ∙ ap (shifted (i + 1)) (doctype_over rest over inner)
    ∙ shifted-shifted (i + 1) over (i + (1 + over)) (doctype_place (drop over rest) 0 inner)
    (omega arith)
    ∙ ap (λ own. shifted (i + (1 + over)) (doctype_place own 0 inner)) behind

pub doctype_open : (bytes : List ℕ) (i inner : ℕ) → i < length bytes
    → begins_span (get_or bytes i 0) (drop (i + 1) bytes) ≡ true
    → passed_over (get_or bytes i 0) (drop (i + 1) bytes) ≡ None
    → shifted i (doctype_place (drop i bytes) 0 inner) ≡ None
doctype_open bytes i inner within is passed =
    let rest = drop (i + 1) bytes in
    ap (shifted i) (at_span bytes i inner within is
    ∙ ap (λ found. option_map suc (option_and_then (λ n. doctype_place rest n inner) found)) passed)

pub doctype_closed : (bytes : List ℕ) (i inner : ℕ) → i < length bytes
    → begins_span (get_or bytes i 0) (drop (i + 1) bytes) ≡ false
    → closes_doctype (get_or bytes i 0) inner ≡ true
    → shifted i (doctype_place (drop i bytes) 0 inner) ≡ Some i
unfolding doctype_place
doctype_closed bytes i inner within not is =
    ap (shifted i) (at_drop_more (λ rest. doctype_place rest 0 inner) bytes i 0 within
    ∙ cond-false _ _ _ not ∙ cond-true _ _ _ is)
    ∙ ap Some (omega arith)

pub doctype_next : (bytes : List ℕ) (i inner : ℕ) → i < length bytes
    → begins_span (get_or bytes i 0) (drop (i + 1) bytes) ≡ false
    → closes_doctype (get_or bytes i 0) inner ≡ false
    → shifted i (doctype_place (drop i bytes) 0 inner)
    ≡ shifted (i + 1) (doctype_place (drop (i + 1) bytes) 0 (inner_behind (get_or bytes i 0) inner))
unfolding doctype_place
doctype_next bytes i inner within not is =
    ap (shifted i) (at_drop_more (λ rest. doctype_place rest 0 inner) bytes i 0 within
    ∙ cond-false _ _ _ not ∙ cond-false _ _ _ is)
    ∙ shifted-suc i (doctype_place (drop (i + 1) bytes) 0 (inner_behind (get_or bytes i 0) inner))

pub doctype_end : (bytes : List ℕ) (i inner : ℕ) → length bytes ≤ i
    → shifted i (doctype_place (drop i bytes) 0 inner) ≡ None
unfolding doctype_place
doctype_end bytes i inner past =
    ap (λ rest. shifted i (doctype_place rest 0 inner)) (drop_all i bytes past)
