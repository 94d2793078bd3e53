-- Attributes as they are written have the pairs that were written.
use Rattle.std.proofs.Common.{◌≡◌, ℕ, zero, suc, ◌+◌, ◌-◌, ◌<◌, Bool, true, false, List, [], ◌∷◌}
use Rattle.std.proofs.Common.{◌++◌, length, map, take, drop, get_or, Ok, Option, Some, None, refl}
use Rattle.std.proofs.Common.{sym, ap, ◌∙◌, arith, append_assoc, append-nil}
use Rattle.std.specs.Prelude.{◌==◌, ◌||◌}
use Rattle.std.specs.Char.{is_ascii_whitespace}
use Rattle.std.specs.List.{position_or_len, prefix_len, suffix_len, before_first, after_first}
use Rattle.std.specs.List.{list_any}
use Rattle.std.specs.Str.{bytes_eq}
use Rattle.std.proofs.Math.Seq.{take-append_seam, drop-append-add}
use Rattle.std.proofs.lemmas.Bool.{lt-ltb}
use Rattle.std.proofs.lemmas.List.{length-append, take_all}
use Rattle.std.proofs.lemmas.List.Sums.{suffix_len_is}
use Rattle.attr_text.specs.Words.{Item, attribute as found, without_leading_space}
use Rattle.attr_text.specs.Words.{without_trailing_space, is_equals_sign, front_with_key}
use Rattle.attr_text.specs.Words.{front_behind_space, front_of, items_left, first_value}
use Rattle.attr_text.specs.Words.{first_values, ending_fault, has_local_name}
use Rattle.attr_text.specs.Attributes.{items, lookup, value_of, value_of_local}
use Rattle.attr_text.proofs.ItemsLemmas.{items_left-attribute, items_left-nil}
use Rattle.written_markup.specs.Markup.{attribute}
use Rattle.written_markup.specs.WrittenText.{has_byte, attributes_of, IsWritablePair}
use Rattle.written_markup.specs.WrittenText.{AreWritablePairs, attribute_if, pair_if}
use Rattle.written_markup.proofs.TextsReadBack.{neither}

-- a text in which none passes, up to the first that does
first_behind : (p : ℕ → Bool) (front : List ℕ) (mark : ℕ) (rest : List ℕ)
    → list_any p front ≡ false → p mark ≡ true
    → position_or_len p (front ++ mark ∷ rest) ≡ length front
first_behind p [] mark rest none is = rw is refl
first_behind p (b ∷ front) mark rest none is =
    let both = neither (p b) (list_any p front) none in
    rw (both.0) (omega (arith, first_behind p front mark rest both.1 is))

before_is : (p : ℕ → Bool) (front : List ℕ) (mark : ℕ) (rest : List ℕ)
    → list_any p front ≡ false → p mark ≡ true → before_first p (front ++ mark ∷ rest) ≡ front
before_is p front mark rest none is =
    ap (λ (n : ℕ). take n (front ++ mark ∷ rest)) (first_behind p front mark rest none is)
    ∙ take-append_seam front (mark ∷ rest)

after_is : (p : ℕ → Bool) (front : List ℕ) (mark : ℕ) (rest : List ℕ)
    → list_any p front ≡ false → p mark ≡ true → after_first p (front ++ mark ∷ rest) ≡ rest
after_is p front mark rest none is =
    ap (λ (n : ℕ). drop (n + 1) (front ++ mark ∷ rest)) (first_behind p front mark rest none is)
    ∙ drop-append-add front (mark ∷ rest) 1

-- a test that two tests make passes none: neither does
one_side : (p q : ℕ → Bool) (text : List ℕ) → list_any (λ b. p b || q b) text ≡ false
    → (list_any p text ≡ false) × (list_any q text ≡ false)
one_side p q [] none = (refl, refl)
one_side p q (b ∷ text) none =
    let both = neither (p b || q b) (list_any (λ c. p c || q c) text) none in
    let here = neither (p b) (q b) both.0 in
    let later = one_side p q text both.1 in
    (rw here.0 later.0, rw here.1 later.1)

none_at : (p : ℕ → Bool) (text : List ℕ) (k : ℕ) → list_any p text ≡ false → k < length text
    → p (get_or text k 0) ≡ false
none_at p [] k none within = absurd (omega arith)
none_at p (b ∷ text) zero none within = (neither (p b) (list_any p text) none).0
none_at p (b ∷ text) (suc k) none within =
    none_at p text k (neither (p b) (list_any p text) none).1 (omega arith)

-- a key without white space stays
key_stays : (key : List ℕ) → list_any is_ascii_whitespace key ≡ false
    → without_trailing_space key ≡ key
key_stays key none =
    let all : suffix_len is_ascii_whitespace key ≡ length key - length key =
    suffix_len_is is_ascii_whitespace key (length key) 0 (omega arith)
    (λ k past within. absurd (omega arith))
    (λ some. none_at is_ascii_whitespace key (length key - 1) none (omega arith)) in
    take_all (length key - suffix_len is_ascii_whitespace key) key (omega (arith, all))

-- what begins with a key and `=` begins with no white space
starts_plain : (key behind : List ℕ) → list_any is_ascii_whitespace key ≡ false
    → without_leading_space (key ++ 61 ∷ behind) ≡ key ++ 61 ∷ behind
starts_plain [] behind none = refl
starts_plain (b ∷ key) behind none =
    rw ((neither (is_ascii_whitespace b) (list_any is_ascii_whitespace key) none).0) refl

-- a key, `=` and what stands behind it
front_by_key : (size : ℕ) (key behind : List ℕ) → list_any is_equals_sign key ≡ false
    → front_behind_space size (key ++ 61 ∷ behind)
    ≡ front_with_key size (without_trailing_space key) (without_leading_space behind)
front_by_key size [] behind none =
    rw (lt-ltb 0 (length (61 ∷ behind)) (omega arith)) refl
front_by_key size (b ∷ key) behind none =
    let text = (b ∷ key) ++ 61 ∷ behind in
    let at = first_behind is_equals_sign (b ∷ key) 61 behind none refl in
    let within : position_or_len is_equals_sign text < length text =
    omega (arith, at, length-append (b ∷ key) (61 ∷ behind)) in
    rw (
      lt-ltb (position_or_len is_equals_sign text) (length text) within,
      before_is is_equals_sign (b ∷ key) 61 behind none refl,
      after_is is_equals_sign (b ∷ key) 61 behind none refl,
    ) refl

-- a value in quotes
front_by_value : (size : ℕ) (key value rest : List ℕ) → has_byte 34 value ≡ false
    → front_with_key size key (34 ∷ (value ++ 34 ∷ rest)) ≡ found key value rest
front_by_value size key value rest none =
    rw (
      before_is (λ c. c == 34) value 34 rest none refl,
      after_is (λ c. c == 34) value 34 rest none refl,
    ) refl

-- the bytes of an attribute and of what stands behind it
attribute_bytes : (key value rest : List ℕ) → attribute key value ++ rest
    ≡ 32 ∷ (key ++ 61 ∷ 34 ∷ (value ++ 34 ∷ rest))
attribute_bytes key value rest =
    ap (λ (t : List ℕ). 32 ∷ t) (append_assoc key (61 ∷ 34 ∷ (value ++ 34 ∷ [])) rest
    ∙ ap (λ (t : List ℕ). key ++ 61 ∷ 34 ∷ t) (append_assoc value (34 ∷ []) rest))

one_more : (n : ℕ) → 1 + n ≡ suc n
one_more n = omega arith

-- the space in front of an attribute is left out
space_left_out : (text : List ℕ) → without_leading_space (32 ∷ text) ≡ without_leading_space text
space_left_out text =
    ap (λ (n : ℕ). drop n (32 ∷ text)) (one_more (prefix_len is_ascii_whitespace text))

-- an attribute stands first
front_of_attribute : (size : ℕ) (key value rest : List ℕ) → IsWritablePair (key, value)
    → front_of size (attribute key value ++ rest) ≡ found key value rest
front_of_attribute size key value rest is =
    let sides = one_side is_ascii_whitespace is_equals_sign key is.key in
    let behind = 34 ∷ (value ++ 34 ∷ rest) in
    ap (front_of size) (attribute_bytes key value rest)
    ∙ ap (front_behind_space size)
    (space_left_out (key ++ 61 ∷ behind) ∙ starts_plain key behind sides.0)
    ∙ front_by_key size key behind sides.1
    ∙ ap (λ (own : List ℕ). front_with_key size own behind) (key_stays key sides.0)
    ∙ front_by_value size key value rest is.value

-- what follows attributes doesn't count
items_left_written : (size : ℕ) (pairs : List (List ℕ × List ℕ)) → AreWritablePairs pairs
    → items_left size (attributes_of pairs) ≡ map Ok pairs
items_left_written size [] are = items_left-nil size
items_left_written size (pair ∷ pairs) are =
    items_left-attribute size (attributes_of (pair ∷ pairs)) pair.0 pair.1 (attributes_of pairs)
    (sym (front_of_attribute size pair.0 pair.1 (attributes_of pairs) are.0))
    ∙ ap (λ (more : List Item). Ok pair ∷ more) (items_left_written size pairs are.1)

-- the items of written attributes are their pairs
pub items_written : (pairs : List (List ℕ × List ℕ)) → AreWritablePairs pairs
    → items (attributes_of pairs) ≡ map Ok pairs
unfolding items
items_written pairs are = items_left_written (length (attributes_of pairs)) pairs are

-- ---- the texts of pairs

-- an attribute that may be there, in front of others
pub attribute_if_in_row : (key : List ℕ) (value : Option (List ℕ))
    (pairs : List (List ℕ × List ℕ))
    → attribute_if key value ++ attributes_of pairs ≡ attributes_of (pair_if key value ++ pairs)
attribute_if_in_row key None pairs = refl
attribute_if_in_row key (Some value) pairs = refl

-- an attribute that may be there, alone
pub attribute_if_alone : (key : List ℕ) (value : Option (List ℕ))
    → attribute_if key value ≡ attributes_of (pair_if key value)
attribute_if_alone key None = refl
attribute_if_alone key (Some value) = sym (append-nil (attribute key value))

-- ---- lookups

no_fault : (pairs : List (List ℕ × List ℕ)) → ending_fault (map Ok pairs) ≡ None
no_fault [] = refl
no_fault (pair ∷ pairs) = no_fault pairs

-- a lookup in written attributes is one in their pairs
pub lookup_written : (keys : List (List ℕ)) (pairs : List (List ℕ × List ℕ))
    → AreWritablePairs pairs
    → lookup keys (attributes_of pairs) ≡ Ok (first_values keys (map Ok pairs))
unfolding lookup
lookup_written keys pairs are = rw (items_written pairs are, no_fault pairs) refl

-- the same of one key
pub value_written : (key : List ℕ) (pairs : List (List ℕ × List ℕ)) → AreWritablePairs pairs
    → value_of key (attributes_of pairs) ≡ Ok (first_value (bytes_eq key) (map Ok pairs))
unfolding value_of
value_written key pairs are = rw (items_written pairs are, no_fault pairs) refl

-- and of the first key with a local name
pub local_value_written : (local : List ℕ) (pairs : List (List ℕ × List ℕ))
    → AreWritablePairs pairs
    → value_of_local local (attributes_of pairs)
    ≡ Ok (first_value (has_local_name local) (map Ok pairs))
unfolding value_of_local
local_value_written local pairs are = rw (items_written pairs are, no_fault pairs) refl
