-- The definitions, byte by byte.
use Rattle.std.proofs.Common.{◌≡◌, ℕ, ◌-◌, ◌<◌, ◌≤◌, true, false, List, [], ◌∷◌, length, take, drop}
use Rattle.std.proofs.Common.{get_or, sym, ap, ◌∙◌, arith, inl, inr, ◌⊎◌, ◌++◌, Ok, Err, subst}
use Rattle.std.proofs.Common.{append_assoc, append-nil}
use Rattle.std.specs.Prelude.{◌==◌}
use Rattle.std.specs.Char.{is_ascii_whitespace}
use Rattle.std.specs.List.{position_or_len, before_first, after_first}
use Rattle.std.proofs.lemmas.Bool.{lt-ltb}
use Rattle.std.proofs.lemmas.List.Sums.{prefix_len_is, suffix_len_is}
use Rattle.attr_text.specs.declared.fault.AttrFault.{AttrFault}
use Rattle.attr_text.proofs.ItemsLemmas.{RestIsBelow, front_of-below, items_left-nothing}
use Rattle.attr_text.proofs.ItemsLemmas.{items_left-broken, items_left-attribute}
use Rattle.attr_text.specs.Words.{Front, Item, nothing, broken, attribute, items_left}
use Rattle.attr_text.specs.Words.{without_leading_space, without_trailing_space, is_quote}
use Rattle.attr_text.specs.Words.{is_equals_sign, front_of}

-- n bytes of white space stand in front
pub without_leading_space-is : (text : List ℕ) (n : ℕ) → n ≤ length text →
    ((k : ℕ) → k < n → is_ascii_whitespace (get_or text k 0) ≡ true)
    → (n < length text → is_ascii_whitespace (get_or text n 0) ≡ false) →
    drop n text ≡ without_leading_space text
without_leading_space-is text n within passes stops =
    ap (λ m. drop m text) (sym (prefix_len_is is_ascii_whitespace text n 0 within passes stops))

-- white space stands from n on
pub without_trailing_space-is : (text : List ℕ) (n : ℕ) → n ≤ length text →
    ((k : ℕ) → n ≤ k → k < length text → is_ascii_whitespace (get_or text k 0) ≡ true)
    → (0 < n → is_ascii_whitespace (get_or text (n - 1) 0) ≡ false) →
    take n text ≡ without_trailing_space text
without_trailing_space-is text n within passes stops =
    let len = suffix_len_is is_ascii_whitespace text n 0 within passes stops in
    ap (λ m. take m text) (omega arith)

-- a key, its value and what follows
pub front_of-attribute : (size : ℕ) (text body value inside : List ℕ) →
    body ≡ without_leading_space text
    → position_or_len is_equals_sign body < length body →
    value ≡ without_leading_space (after_first is_equals_sign body)
    → 0 < length value → is_quote (get_or value 0 0) ≡ true → inside ≡ drop 1 value
    → attribute (without_trailing_space (before_first is_equals_sign body))
    (before_first (λ c. c == get_or value 0 0) inside)
    (after_first (λ c. c == get_or value 0 0) inside)
    ≡ front_of size text
front_of-attribute size text [] value inside body_is some value_is nonempty quote inside_is =
    absurd (omega arith)
front_of-attribute size text (b ∷ bs) [] inside body_is some value_is nonempty quote inside_is =
    absurd (omega arith)
front_of-attribute size text (b ∷ bs)
    (q ∷ vs) inside body_is some value_is nonempty quote inside_is =
    rw (
      ← body_is,
      lt-ltb (position_or_len is_equals_sign (b ∷ bs)) (length (b ∷ bs)) some,
      ← value_is,
      quote,
      inside_is,
    )

pub quoted : (b : ℕ) → (b ≡ 34) ⊎ (b ≡ 39) → is_quote b ≡ true
quoted b h = elim h [
  | inl e ↦ rw e
  | inr e ↦ rw e
]

-- a list of items that were read, and what is left
pub read-attribute : (size : ℕ) (text key value rest : List ℕ) (all read : List Item) →
    all ≡ read ++ items_left size text
    → attribute key value rest ≡ front_of size text →
    all ≡ (read ++ Ok (key, value) ∷ []) ++ items_left size rest
read-attribute size text key value rest all read so_far first =
    so_far ∙ ap (λ (is : List Item). read ++ is)
    (items_left-attribute size text key value rest first)
    ∙ sym (append_assoc read (Ok (key, value) ∷ []) (items_left size rest))

pub read-broken : (size : ℕ) (text : List ℕ) (fault : AttrFault) (all read : List Item) →
    all ≡ read ++ items_left size text
    → broken fault ≡ front_of size text → read ++ Err fault ∷ [] ≡ all
read-broken size text fault all read so_far first =
    sym (so_far ∙ ap (λ (is : List Item). read ++ is) (items_left-broken size text fault first))

pub read-nothing : (size : ℕ) (text : List ℕ) (all read : List Item) →
    all ≡ read ++ items_left size text
    → nothing ≡ front_of size text → read ≡ all
read-nothing size text all read so_far first =
    sym (so_far ∙ ap (λ (is : List Item). read ++ is) (items_left-nothing size text first)
    ∙ append-nil read)

pub rest-below : (size : ℕ) (text key value rest : List ℕ) →
    attribute key value rest ≡ front_of size text → length rest < length text
rest-below size text key value rest first =
    subst (λ (f : Front). RestIsBelow f (length text)) (sym first) (front_of-below size text)
