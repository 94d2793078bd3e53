-- Where the first bracket outside of quotes stands.
use Rattle.std.proofs.Common.{◌≡◌, ◌≢◌, ℕ, suc, ◌+◌, ◌<◌, ◌≤◌, true, false, List, [], ◌∷◌, length}
use Rattle.std.proofs.Common.{get_or, take, drop, ◌-◌, Option, None, refl, ap, sym, subst, ◌∙◌}
use Rattle.std.proofs.Common.{arith, inl, inr}
use Rattle.std.proofs.lemmas.Bool.{cond-true, cond-false, eqb-true, cases_lt}
use Rattle.std.proofs.lemmas.List.{at_drop_more, drop_all, length-take, length-drop, get_or-take}
use Rattle.std.proofs.lemmas.List.{get_or-drop}
use Rattle.markup.specs.Front.{ends_in_slash}
use Rattle.markup.specs.Found.{HasAscii}
use Rattle.std.specs.List.{position_or_len}
use Rattle.markup.specs.Marks.{ends_name, bracket_place, quote_behind, ends_tag}

-- it lies in the text, or at its end
pub bracket_within : (quote : Option ℕ) (bytes : List ℕ) → bracket_place quote bytes ≤ length bytes
unfolding bracket_place
bracket_within quote [] = omega arith
bracket_within quote (b ∷ bytes) = grind (arith, bracket_within (quote_behind quote b) bytes)

-- a name ends before it
pub name_before_bracket : (bytes : List ℕ)
    → position_or_len ends_name bytes ≤ bracket_place None bytes
unfolding bracket_place
name_before_bracket [] = omega arith
name_before_bracket (b ∷ bytes) = grind (arith, name_before_bracket bytes)

-- the search at a place, by the byte there
pub bracket_here : (quote : Option ℕ) (bytes : List ℕ) (i : ℕ) → i < length bytes
    → ends_tag quote (get_or bytes i 0) ≡ true → bracket_place quote (drop i bytes) ≡ 0
unfolding bracket_place
bracket_here quote bytes i within is =
    at_drop_more (bracket_place quote) bytes i 0 within ∙ cond-true _ _ _ is

pub bracket_later : (quote : Option ℕ) (bytes : List ℕ) (i : ℕ) → i < length bytes
    → ends_tag quote (get_or bytes i 0) ≡ false
    → bracket_place quote (drop i bytes)
    ≡ suc (bracket_place (quote_behind quote (get_or bytes i 0)) (drop (i + 1) bytes))
unfolding bracket_place
bracket_later quote bytes i within is =
    at_drop_more (bracket_place quote) bytes i 0 within ∙ cond-false _ _ _ is

pub bracket_end : (quote : Option ℕ) (bytes : List ℕ) (i : ℕ) → length bytes ≤ i
    → bracket_place quote (drop i bytes) ≡ 0
unfolding bracket_place
bracket_end quote bytes i past = ap (bracket_place quote) (drop_all i bytes past)

-- ---- where the bytes of a start stand

has_byte_at : (bytes : List ℕ) (place own : ℕ) → own ≡ place → place < length bytes
    → get_or bytes place 0 < 128 → HasAscii (60 ∷ bytes) (suc own)
has_byte_at bytes place own is within ascii = record {
  within = omega arith;
  ascii = subst (λ n. get_or bytes n 0 < 128) (sym is) ascii;
}

pub start_stands : (bytes : List ℕ) (name place : ℕ) → name ≤ place → place < length bytes
    → get_or bytes name 0 < 128 → get_or bytes place 0 ≡ 62
    → HasAscii (60 ∷ bytes) 0 × HasAscii (60 ∷ bytes) (suc name)
    × HasAscii (60 ∷ bytes) (suc (name + (place - name)))
start_stands bytes name place ordered within ascii bracket = (
  record { within = omega arith; ascii = omega arith },
  has_byte_at bytes name name refl (omega arith) ascii,
  has_byte_at bytes place _ (omega arith) within (omega arith),
)

-- the last byte of an attribute text
slash_at : (bytes : List ℕ) (name place : ℕ) → name ≤ place → place < length bytes
    → ends_in_slash (take (place - name) (drop name bytes)) ≡ true
    → (name < place) × (get_or bytes (place - 1) 0 ≡ 47)
slash_at bytes name place ordered within is =
    let attributes = take (place - name) (drop name bytes) in
    let size : length attributes ≡ place - name =
    omega (arith, length-take (place - name) (drop name bytes), length-drop name bytes) in
    let last : get_or attributes (length attributes - 1) 0 ≡ 47 = eqb-true _ _ is in
    let some : name < place = elim_some attributes size last in (
      some,
      ap (λ n. get_or bytes n 0) (omega arith) ∙ sym (get_or-drop name bytes (place - name - 1) 0)
          ∙ sym (get_or-take (place - name) (drop name bytes) (place - name - 1) 0 (omega arith))
          ∙ ap (λ n. get_or attributes n 0) (omega arith) ∙ last,
    ) where
      elim_some : (attributes : List ℕ) → length attributes ≡ place - name
          → get_or attributes (length attributes - 1) 0 ≡ 47 → name < place
      elim_some [] size last = absurd (omega arith)
      elim_some (b ∷ more) size last = omega arith

pub empty_stands : (bytes : List ℕ) (name place : ℕ) → name ≤ place → place < length bytes
    → get_or bytes name 0 < 128 → get_or bytes place 0 ≡ 62
    → ends_in_slash (take (place - name) (drop name bytes)) ≡ true
    → HasAscii (60 ∷ bytes) 0 × HasAscii (60 ∷ bytes) (suc name)
    × HasAscii (60 ∷ bytes) (suc (name + (place - name - 1)))
    × HasAscii (60 ∷ bytes) (suc (suc (name + (place - name - 1))))
empty_stands bytes name place ordered within ascii bracket slash =
    let last = slash_at bytes name place ordered within slash in (
      record { within = omega arith; ascii = omega arith },
      has_byte_at bytes name name refl (omega arith) ascii,
      has_byte_at bytes (place - 1) _ (omega (arith, last.0)) (omega arith) (omega (arith, last.1)),
      has_byte_at bytes place _ (omega (arith, last.0)) within (omega arith),
    )

-- where the bytes of an end stand
pub end_stands : (bytes : List ℕ) (size kept : ℕ) → size < length bytes → get_or bytes size 0 ≡ 62
    → kept ≤ length (take size bytes)
    → (kept < length (take size bytes) → get_or (take size bytes) kept 0 < 128) → size ≢ 0
    → HasAscii (60 ∷ 47 ∷ bytes) 1 × HasAscii (60 ∷ 47 ∷ bytes) (suc (suc kept))
    × HasAscii (60 ∷ 47 ∷ bytes) (size + 3 - 1) × (3 ≤ size + 3)
end_stands bytes size kept within bracket kept_within kept_ascii some =
    let long : length (take size bytes) ≡ size = omega (arith, length-take size bytes) in (
      record { within = omega arith; ascii = omega arith },
      record { within = omega arith; ascii = own long },
      at_end (size + 3 - 1) (omega arith),
      omega arith,
    ) where
      at_end : (n : ℕ) → suc (suc size) ≡ n → HasAscii (60 ∷ 47 ∷ bytes) n
      at_end n is = record {
        within = omega arith;
        ascii = subst (λ m. get_or (60 ∷ 47 ∷ bytes) m 0 < 128) is (omega arith);
      }

      own : length (take size bytes) ≡ size → get_or bytes kept 0 < 128
      own long = elim (cases_lt kept size) [
        | inl inside ↦ subst (λ b. b < 128) (get_or-take size bytes kept 0 inside)
            (kept_ascii (omega arith))
        | inr past ↦ let is : size ≡ kept = omega arith in
            subst (λ n. get_or bytes n 0 < 128) is (omega arith)
      ]

-- what the front of a start needs
pub ruleset of_start = (name_before_bracket, start_stands, empty_stands)
