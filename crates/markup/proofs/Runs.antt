-- Searches that pass over bytes at which they don't stop, with more behind these.
use Rattle.std.proofs.Common.{◌≡◌, ℕ, suc, ◌+◌, Bool, true, false, List, [], ◌∷◌, ◌++◌, length}
use Rattle.std.proofs.Common.{Option, Some, None, refl, sym, ap, ◌∙◌, arith, inl, inr, take, ◌-◌}
use Rattle.std.specs.Prelude.{◌==◌, ◌||◌, not, is_none}
use Rattle.std.specs.List.{list_any, position_or_len, suffix_len}
use Rattle.std.specs.Option.{option_map}
use Rattle.std.proofs.lemmas.Bool.{cond-true, cond-false, or_parts, and_parts, cases_Bool, eqb-true}
use Rattle.std.proofs.lemmas.Bool.{true≢false, false≢true, and_right}
use Rattle.std.proofs.lemmas.List.Sums.{suffix_len_is}
use Rattle.std.proofs.Math.Seq.{take-length}
use Rattle.markup.specs.Marks.{ends_name, is_space, is_bracket, is_quote_mark, bracket_place}
use Rattle.markup.specs.Marks.{ends_tag, quote_behind, first_place_of, begins_with}
use Rattle.markup.specs.Marks.{without_space_behind}
use Rattle.markup.specs.Front.{last_byte_or_zero}
use Rattle.markup.specs.Spelled.{is_attribute_text}

pub neither : (x y : Bool) → x ≡ false → y ≡ false → not (x || y) ≡ true
neither false false a b = refl
neither false true a b = absurd (true≢false b)
neither true y a b = absurd (true≢false a)

-- ---- a search for a byte

pub search_over : (test : ℕ → Bool) (front more : List ℕ) → list_any test front ≡ false
    → position_or_len test (front ++ more) ≡ length front + position_or_len test more
search_over test [] more none = omega arith
search_over test (b ∷ front) more none =
    let tests = or_parts (test b) (list_any test front) none in
    let later = search_over test front more tests.1 in
    let here : position_or_len test (b ∷ (front ++ more))
    ≡ 1 + position_or_len test (front ++ more) = cond-true _ _ _ (ap not tests.0) in
    here ∙ omega arith

pub stops_at : (test : ℕ → Bool) (b : ℕ) (more : List ℕ) → test b ≡ true
    → position_or_len test (b ∷ more) ≡ 0
stops_at test b more is = cond-false _ _ _ (ap not is)

-- ---- a tag

pub record IsPlain (b : ℕ) : Type 0 where
  pub space : is_space b ≡ false
  pub bracket : is_bracket b ≡ false
  pub quote : is_quote_mark b ≡ false
  pub slash : b == 47 ≡ false

pub plain_byte : (b : ℕ) → ends_name b ≡ false → IsPlain b
plain_byte b none =
    let last = or_parts (is_space b || is_bracket b || is_quote_mark b) (b == 47) none in
    let third = or_parts (is_space b || is_bracket b) (is_quote_mark b) last.0 in
    let second = or_parts (is_space b) (is_bracket b) third.0 in
    record { space = second.0; bracket = second.1; quote = third.1; slash = last.1 }

space_ends : (b : ℕ) → is_space b ≡ true → ends_name b ≡ true
space_ends b is = simp is

-- a name has neither brackets nor quotes
pub bracket_over : (name more : List ℕ) → list_any ends_name name ≡ false
    → bracket_place None (name ++ more) ≡ length name + bracket_place None more
unfolding bracket_place
bracket_over [] more none = omega arith
bracket_over (b ∷ name) more none =
    let tests = or_parts (ends_name b) (list_any ends_name name) none in
    let plain = plain_byte b tests.0 in
    let later = bracket_over name more tests.1 in
    let here : bracket_place None (b ∷ (name ++ more)) ≡ suc (bracket_place None (name ++ more)) =
    cond-false _ _ _ plain.bracket
    ∙ ap (λ quote. suc (bracket_place quote (name ++ more))) (cond-false _ _ _ plain.quote) in
    here ∙ omega arith

-- behind bytes whose first bracket outside of quotes would stand at their end, no quote is open
bracket_run : (quote : Option ℕ) (bytes more : List ℕ)
    → bracket_place quote (bytes ++ 62 ∷ []) ≡ length bytes
    → bracket_place quote (bytes ++ more) ≡ length bytes + bracket_place None more
unfolding bracket_place
bracket_run None [] more is = omega arith
bracket_run (Some open_quote) [] more is = absurd (omega arith)
bracket_run quote (b ∷ bytes) more is = elim (cases_Bool (ends_tag quote b)) [
  | inl here ↦
      let none : bracket_place quote (b ∷ (bytes ++ 62 ∷ [])) ≡ 0 = cond-true _ _ _ here in
      absurd (omega arith)
  | inr there ↦
      let own : bracket_place quote (b ∷ (bytes ++ 62 ∷ []))
      ≡ suc (bracket_place (quote_behind quote b) (bytes ++ 62 ∷ [])) = cond-false _ _ _ there in
      let later = bracket_run (quote_behind quote b) bytes more (omega arith) in
      let now : bracket_place quote (b ∷ (bytes ++ more))
      ≡ suc (bracket_place (quote_behind quote b) (bytes ++ more)) = cond-false _ _ _ there in
      now ∙ omega arith
]

attribute_place : (attributes : List ℕ) → is_attribute_text attributes ≡ true
    → bracket_place None (attributes ++ 62 ∷ []) ≡ length attributes
unfolding bracket_place
attribute_place [] is = refl
attribute_place (b ∷ bytes) is = eqb-true _ _ (and_parts _ _ is).1

pub bracket_behind : (attributes more : List ℕ) → is_attribute_text attributes ≡ true
    → bracket_place None (attributes ++ more) ≡ length attributes + bracket_place None more
bracket_behind attributes more is = bracket_run None attributes more (attribute_place attributes is)

-- a name ends before its attribute text, and before what ends a tag
pub name_ends_before : (attributes : List ℕ) (b : ℕ) (more : List ℕ)
    → is_attribute_text attributes ≡ true → ends_name b ≡ true
    → position_or_len ends_name (attributes ++ b ∷ more) ≡ 0
name_ends_before [] b more is ends = stops_at ends_name b more ends
name_ends_before (first ∷ bytes) b more is ends =
    stops_at ends_name first (bytes ++ b ∷ more) (space_ends first (and_parts _ _ is).0)

-- ---- an end

pub kept_whole : (name : List ℕ) → is_space (last_byte_or_zero name) ≡ false
    → without_space_behind name ≡ name
kept_whole name none =
    let spaces : suffix_len is_space name ≡ 0 =
    suffix_len_is is_space name (length name) 0 (omega arith)
    (λ k high low. absurd (omega arith)) (λ some. none) ∙ omega arith in
    let size : length name - suffix_len is_space name ≡ length name = omega arith in
    ap (λ n. take n name) size ∙ take-length name

-- ---- character data

-- `]]>`
abbrev closing : List ℕ
closing = 93 ∷ 93 ∷ 62 ∷ []

pub none_from : (found : Option ℕ) → is_none found ≡ true → found ≡ None
none_from None is = refl
none_from (Some n) is = absurd (false≢true is)

none_behind : (found : Option ℕ) → option_map suc found ≡ None → found ≡ None
none_behind None is = refl
none_behind (Some n) is = absurd cc

-- what ends a section doesn't begin in front of its own first bytes
not_yet : (b : ℕ) (content more : List ℕ) → begins_with closing (b ∷ content) ≡ false
    → begins_with closing (b ∷ (content ++ 93 ∷ 93 ∷ 62 ∷ more)) ≡ false
not_yet b [] more not = and_right _ _ refl
not_yet b (c ∷ []) more not = and_right _ _ (and_right _ _ refl)
not_yet b (c ∷ d ∷ content) more not = not

pub data_over : (content more : List ℕ) → first_place_of (93 ∷ 93 ∷ 62 ∷ []) content ≡ None
    → first_place_of (93 ∷ 93 ∷ 62 ∷ []) (content ++ 93 ∷ 93 ∷ 62 ∷ more) ≡ Some (length content)
unfolding first_place_of
data_over [] more none = refl
data_over (b ∷ content) more none = elim (cases_Bool (begins_with closing (b ∷ content))) [
  | inl here ↦
      let found : first_place_of closing (b ∷ content) ≡ Some 0 = cond-true _ _ _ here in
      absurd cc
  | inr there ↦
      let own : first_place_of closing (b ∷ content)
      ≡ option_map suc (first_place_of closing content) =
      cond-false _ _ _ there in
      let later = data_over content more
      (none_behind (first_place_of closing content) (sym own ∙ none)) in
      cond-false _ _ _ (not_yet b content more there) ∙ ap (option_map suc) later
]
