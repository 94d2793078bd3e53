-- What an attribute text says: its items, and the value that a key has in it.
use Rattle.std.specs.Prelude.{ℕ, zero, suc, ◌-◌, Bool, true, false, ◌||◌, ◌==◌, nat_lt, List, []}
use Rattle.std.specs.Prelude.{◌∷◌, map, take, drop, length, if◌then◌else◌, Option, None, Some}
use Rattle.std.specs.Prelude.{is_some, Result, Ok, Err, nat_eq}
use Rattle.std.specs.Char.{is_ascii_whitespace}
use Rattle.std.specs.List.{prefix_len, suffix_len, position_or_len, before_first, after_first}
use Rattle.std.specs.List.{after_last, ends_with, list_all}
use Rattle.std.specs.Str.{bytes_eq}
use Rattle.attr_text.specs.declared.fault.AttrFault.{AttrFault}
use Rattle.attr_text.specs.declared.fault.AttrFault.TheVariants.{ExpectedEq, UnquotedValue}

-- an item of an attribute text: a key and its value, or the fault in which the items end
abbrev pub Item : Type 0
Item = Result (List ℕ × List ℕ) AttrFault

-- what stands first in a text: nothing but white space, a fault, or a key, its value and what
-- follows them
pub data Front : Type 0 where
  nothing : Front
  broken : AttrFault → Front
  attribute : List ℕ → List ℕ → List ℕ → Front

-- a text without the white space at its front: spaces, tabs, LF, FF and CR
abbrev pub without_leading_space : List ℕ → List ℕ
without_leading_space text = drop (prefix_len is_ascii_whitespace text) text

-- the text without the white space at its end
abbrev pub without_trailing_space : List ℕ → List ℕ
without_trailing_space text = take (length text - suffix_len is_ascii_whitespace text) text

-- a byte is `"` or `'`
abbrev pub is_quote : ℕ → Bool
is_quote b = b == 34 || b == 39

-- a text begins with a quote of either kind
abbrev pub begins_with_quote : List ℕ → Bool
begins_with_quote [] = false
begins_with_quote (b ∷ bs) = is_quote b

-- a byte is `=`
abbrev pub is_equals_sign : ℕ → Bool
is_equals_sign b = b == 61

-- What stands behind the `=` of a key, where `text` is the end of a text of `size` bytes, so that
-- it begins at the place `size - length text`. The value runs to the quote with which it begins, or
-- to the end.
abbrev pub front_with_key : ℕ → List ℕ → List ℕ → Front
front_with_key size key [] = broken (UnquotedValue size)
front_with_key size key (b ∷ bs) =
    if is_quote b then attribute key (before_first (λ c. c == b) bs) (after_first (λ c. c == b) bs)
    else broken (UnquotedValue (size - length (b ∷ bs)))

-- what stands first behind white space: the key runs to the first `=`, without white space at its
-- end
abbrev pub front_behind_space : ℕ → List ℕ → Front
front_behind_space size [] = nothing
front_behind_space size (b ∷ bs) =
    if nat_lt (position_or_len is_equals_sign (b ∷ bs)) (length (b ∷ bs))
    then front_with_key size
    (without_trailing_space (before_first is_equals_sign (b ∷ bs)))
    (without_leading_space (after_first is_equals_sign (b ∷ bs)))
    else broken (ExpectedEq (size - length (b ∷ bs)))

-- what stands first in the end `text` of a text of `size` bytes
abbrev pub front_of : ℕ → List ℕ → Front
front_of size text = front_behind_space size (without_leading_space text)

-- the items that begin with this front, where `more` gives those of what follows
abbrev pub items_from : (List ℕ → List Item) → Front → List Item
items_from more nothing = []
items_from more (broken fault) = Err fault ∷ []
items_from more (attribute key value rest) = Ok (key, value) ∷ more rest

-- at most `most` items of the end `text` of a text of `size` bytes
unfoldable pub items_within : ℕ → ℕ → List ℕ → List Item
items_within zero size text = []
items_within (suc most) size text = items_from (items_within most size) (front_of size text)

-- The items of the end `text` of a text of `size` bytes: the first one, then those of what follows.
-- Each takes a byte at least, so that there are at most as many as bytes.
unfoldable pub items_left : ℕ → List ℕ → List Item
items_left size text = items_within (length text) size text

-- the items of an attribute text
unfoldable pub items : List ℕ → List Item
items text = items_left (length text) text

-- the value of the first pair whose key passes the test
abbrev pub first_value : (List ℕ → Bool) → List Item → Option (List ℕ)
first_value accepts [] = None
first_value accepts (Err fault ∷ others) = None
first_value accepts (Ok pair ∷ others) =
    if accepts pair.0 then Some pair.1 else first_value accepts others

-- the fault in which the items end, if they end in one
abbrev pub ending_fault : List Item → Option AttrFault
ending_fault [] = None
ending_fault (Err fault ∷ others) = Some fault
ending_fault (Ok pair ∷ others) = ending_fault others

-- the answer of a lookup: refused where the items end in a fault and some wanted key has no pair
abbrev pub answer : {A : Type 0} → A → Bool → Option AttrFault → Result A AttrFault
answer found has_all None = Ok found
answer found true (Some fault) = Ok found
answer found false (Some fault) = Err fault

-- the lookup of one key in an attribute text
unfoldable pub value_of : List ℕ → List ℕ → Result (Option (List ℕ)) AttrFault
value_of key text =
    let value = first_value (bytes_eq key) (items text) in
    answer value (is_some value) (ending_fault (items text))

-- the value of the first pair of each key
abbrev pub first_values : List (List ℕ) → List Item → List (Option (List ℕ))
first_values keys all = map (λ key. first_value (bytes_eq key) all) keys

-- the lookup of several keys: the value of the first pair of each
unfoldable pub lookup : List (List ℕ) → List ℕ → Result (List (Option (List ℕ))) AttrFault
lookup keys text =
    let values = first_values keys (items text) in
    answer values (list_all is_some values) (ending_fault (items text))

-- the first of several answers, and the others: each value, or the first refusal
abbrev pub with_values : {A : Type 0} → Result A AttrFault → Result (List A) AttrFault →
    Result (List A) AttrFault
with_values (Ok first) (Ok others) = Ok (first ∷ others)
with_values (Ok first) (Err fault) = Err fault
with_values (Err fault) others = Err fault

-- the value of each answer, or the first refusal
abbrev pub all_values : {A : Type 0} → List (Result A AttrFault) → Result (List A) AttrFault
all_values [] = Ok []
all_values (first ∷ others) = with_values first (all_values others)

-- a key is the local name, or ends in `:` and the local name
abbrev pub has_local_name : List ℕ → List ℕ → Bool
has_local_name local key = bytes_eq key local || ends_with nat_eq key (58 ∷ local)

-- the lookup of the first key with this local name
unfoldable pub value_of_local : List ℕ → List ℕ → Result (Option (List ℕ)) AttrFault
value_of_local local text =
    let value = first_value (has_local_name local) (items text) in
    answer value (is_some value) (ending_fault (items text))

-- what follows the last `:` of a name, or the whole name
abbrev pub local_name_of : List ℕ → List ℕ
local_name_of name = after_last (λ b. b == 58) name
