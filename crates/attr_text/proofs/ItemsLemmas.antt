-- The items of a text, by the first one and what follows it.
use Rattle.std.proofs.Common.{◌≡◌, ℕ, zero, suc, ◌+◌, ◌-◌, ◌<◌, ◌≤◌, true, false, List, [], ◌∷◌}
use Rattle.std.proofs.Common.{length, drop, Ok, Err, refl, sym, ap, ◌∙◌, arith, length-drop}
use Rattle.std.specs.Prelude.{nat_lt, ◌==◌, if◌then◌else◌}
use Rattle.std.specs.List.{prefix_len, position_or_len, before_first, after_first}
use Rattle.std.specs.Char.{is_ascii_whitespace}
use Rattle.attr_text.specs.declared.fault.AttrFault.{AttrFault}
use Rattle.attr_text.specs.declared.fault.AttrFault.TheVariants.{ExpectedEq, UnquotedValue}
use Rattle.attr_text.specs.Attributes.{Item, Front, nothing, broken, attribute}
use Rattle.attr_text.specs.Attributes.{without_leading_space, without_trailing_space, is_quote}
use Rattle.attr_text.specs.Attributes.{is_equals_sign, front_with_key, front_behind_space, front_of}
use Rattle.attr_text.specs.Attributes.{items_from, items_within, items_left}

-- what follows the first item has fewer than n bytes
abbrev pub RestIsBelow : Front → ℕ → Type 0
RestIsBelow nothing n = Unit {0}
RestIsBelow (broken fault) n = Unit {0}
RestIsBelow (attribute key value rest) n = length rest < n

RestIsBelow-weaker : (front : Front) (m n : ℕ) → m ≤ n → RestIsBelow front m → RestIsBelow front n
RestIsBelow-weaker nothing m n le h = tt
RestIsBelow-weaker (broken fault) m n le h = tt
RestIsBelow-weaker (attribute key value rest) m n le h = omega arith

length-drop-le : (n : ℕ) (xs : List ℕ) → length (drop n xs) ≤ length xs
length-drop-le n xs = omega (arith, length-drop n xs)

front_with_key-below : (size : ℕ) (key text : List ℕ) →
    RestIsBelow (front_with_key size key text) (length text)
front_with_key-below size key [] = tt
front_with_key-below size key (b ∷ bs) =
    elim (is_quote b) as
    (λ q. RestIsBelow (if q then attribute key (before_first (λ c. c == b) bs)
    (after_first (λ c. c == b) bs) else broken (UnquotedValue (size - length (b ∷ bs))))
    (length (b ∷ bs))) [
      | true ↦ omega (arith, length-drop-le (position_or_len (λ c. c == b) bs + 1) bs)
      | false ↦ tt
    ]

front_behind_space-below : (size : ℕ) (text : List ℕ) →
    RestIsBelow (front_behind_space size text) (length text)
front_behind_space-below size [] = tt
front_behind_space-below size (b ∷ bs) =
    let text = b ∷ bs in
    let behind = after_first is_equals_sign text in
    let value = without_leading_space behind in
    let key = without_trailing_space (before_first is_equals_sign text) in
    let short : length value ≤ length text =
    omega (
      arith,
      length-drop-le (prefix_len is_ascii_whitespace behind) behind,
      length-drop-le (position_or_len is_equals_sign text + 1) text,
    ) in
    elim (nat_lt (position_or_len is_equals_sign text) (length text)) as
    (λ q. RestIsBelow (if q then front_with_key size key value else broken
    (ExpectedEq (size - length text))) (length text)) [
      | true ↦ RestIsBelow-weaker (front_with_key size key value) (length value) (length text) short
          (front_with_key-below size key value)
      | false ↦ tt
    ]

-- what follows the first item of a text is shorter than the text
pub front_of-below : (size : ℕ) (text : List ℕ) → RestIsBelow (front_of size text) (length text)
front_of-below size text =
    let body = without_leading_space text in
    RestIsBelow-weaker (front_of size text) (length body) (length text)
    (length-drop-le (prefix_len is_ascii_whitespace text) text)
    (front_behind_space-below size body)

-- only what follows the first item matters for the others
items_from-same : (f g : List ℕ → List Item) (front : Front) (n : ℕ) → RestIsBelow front n
    → ((rest : List ℕ) → length rest < n → f rest ≡ g rest) →
    items_from f front ≡ items_from g front
items_from-same f g nothing n below same = refl
items_from-same f g (broken fault) n below same = refl
items_from-same f g (attribute key value rest) n below same =
    ap (λ is. Ok (key, value) ∷ is) (same rest below)

items_within-nil : (n size : ℕ) → items_within n size [] ≡ []
unfolding items_within
items_within-nil zero size = refl
items_within-nil (suc n) size = refl

-- any number that is at least the text's length gives all items
items_within-enough : (m n size : ℕ) (text : List ℕ) → length text ≤ m → length text ≤ n →
    items_within m size text ≡ items_within n size text
unfolding items_within
items_within-enough m n size [] h k = items_within-nil m size ∙ sym (items_within-nil n size)
items_within-enough zero n size (b ∷ bs) h k = absurd (omega arith)
items_within-enough (suc m) zero size (b ∷ bs) h k = absurd (omega arith)
items_within-enough (suc m) (suc n) size (b ∷ bs) h k =
    items_from-same (items_within m size) (items_within n size) (front_of size (b ∷ bs))
    (length (b ∷ bs)) (front_of-below size (b ∷ bs))
    (λ rest below. items_within-enough m n size rest (omega arith) (omega arith))

-- the first item, and then the items of what follows it
pub items_left-first : (size : ℕ) (text : List ℕ) →
    items_left size text ≡ items_from (items_left size) (front_of size text)
unfolding items_within items_left
items_left-first size text =
    items_within-enough (length text) (suc (length text)) size text (omega arith) (omega arith)
    ∙ items_from-same (items_within (length text) size) (items_left size) (front_of size text)
    (length text) (front_of-below size text)
    (λ rest below. items_within-enough (length text) (length rest) size rest (omega arith)
    (omega arith))

pub items_left-nil : (size : ℕ) → items_left size [] ≡ []
unfolding items_left
items_left-nil size = items_within-nil 0 size

length-items_from : (more : List ℕ → List Item) (front : Front) (n : ℕ) →
    ((rest : List ℕ) → length (more rest) ≤ n) → length (items_from more front) ≤ suc n
length-items_from more nothing n h = omega arith
length-items_from more (broken fault) n h = omega arith
length-items_from more (attribute key value rest) n h = omega (arith, h rest)

length-items_within : (n size : ℕ) (text : List ℕ) → length (items_within n size text) ≤ n
unfolding items_within
length-items_within zero size text = omega arith
length-items_within (suc n) size text =
    length-items_from (items_within n size) (front_of size text) n (length-items_within n size)

-- at most as many items as bytes
pub length-items_left : (size : ℕ) (text : List ℕ) → length (items_left size text) ≤ length text
unfolding items_left
length-items_left size text = length-items_within (length text) size text

-- the items of a text by what stands first in it
pub items_left-nothing : (size : ℕ) (text : List ℕ) → nothing ≡ front_of size text →
    items_left size text ≡ []
items_left-nothing size text first =
    items_left-first size text ∙ ap (items_from (items_left size)) (sym first)

pub items_left-broken : (size : ℕ) (text : List ℕ) (fault : AttrFault) →
    broken fault ≡ front_of size text → items_left size text ≡ Err fault ∷ []
items_left-broken size text fault first =
    items_left-first size text ∙ ap (items_from (items_left size)) (sym first)

pub items_left-attribute : (size : ℕ) (text key value rest : List ℕ) →
    attribute key value rest ≡ front_of size text →
    items_left size text ≡ Ok (key, value) ∷ items_left size rest
items_left-attribute size text key value rest first =
    items_left-first size text ∙ ap (items_from (items_left size)) (sym first)
