-- What a search for bytes answers is the first place of the definitions.
use Rattle.std.proofs.Common.{◌≡◌, ℕ, ◌<◌, ◌≤◌, Bool, true, List, Option, Some, None, length}
use Rattle.std.proofs.Common.{get_or, sym, arith, subst}
use Rattle.std.proofs.lemmas.Bool.Decides.{nat_tests}
use Rattle.markup.specs.Marks.{is_mark, is_reference_end, is_bracket, ends_name}
use Rattle.std.specs.Option.{unwrap_or}
use Rattle.std.specs.List.{position_or_len}
use Rattle.std.proofs.lemmas.Bool.{false_from_ne_true}
use Rattle.std.specs.Prelude.{not}
use Rattle.std.proofs.lemmas.List.Sums.{position_or_len_is, passes_at_first, prefix_len-le-length}
use Rattle.memchr.specs.Find.{IsFirstByte}

pub first_place : (test : ℕ → Bool) (bytes : List ℕ) (found : Option ℕ)
    → IsFirstByte test bytes found → unwrap_or found (length bytes) ≡ position_or_len test bytes
first_place test bytes None none =
    sym (position_or_len_is test bytes (length bytes) 0 (omega arith)
    (λ k below. false_from_ne_true _ (none k (omega arith) below)) (λ past. absurd (omega arith)))
first_place test bytes (Some place) found =
    sym (position_or_len_is test bytes place 0 (omega (arith, found.0.high))
    (λ k below. false_from_ne_true _ (found.0.before k (omega arith) below)) (λ here. found.1))

-- it lies in the text, or at its end
pub first_within : (test : ℕ → Bool) (bytes : List ℕ) → position_or_len test bytes ≤ length bytes
first_within test bytes = prefix_len-le-length (λ b. not (test b)) bytes

-- what is looked for is ASCII
mark_below : (b : ℕ) → is_mark b ≡ true → b < 128
mark_below b is = grind (arith, nat_tests)

reference_end_below : (b : ℕ) → is_reference_end b ≡ true → b < 128
reference_end_below b is = grind (arith, nat_tests)

bracket_below : (b : ℕ) → is_bracket b ≡ true → b < 128
bracket_below b is = grind (arith, nat_tests)

name_end_below : (b : ℕ) → ends_name b ≡ true → b < 128
name_end_below b is = grind (arith, nat_tests)

first_below : (test : ℕ → Bool) → ((b : ℕ) → test b ≡ true → b < 128) → (bytes : List ℕ) (size : ℕ)
    → size ≡ position_or_len test bytes → size < length bytes → get_or bytes size 0 < 128
first_below test below bytes size is within =
    below (get_or bytes size 0) (subst (λ n. test (get_or bytes n 0) ≡ true) (sym is)
    (passes_at_first test bytes 0 (omega (arith, is))))

pub mark_ascii : (bytes : List ℕ) (size : ℕ) → size ≡ position_or_len is_mark bytes
    → size < length bytes → get_or bytes size 0 < 128
mark_ascii = first_below is_mark mark_below

pub reference_end_ascii : (bytes : List ℕ) (size : ℕ)
    → size ≡ position_or_len is_reference_end bytes
    → size < length bytes → get_or bytes size 0 < 128
reference_end_ascii = first_below is_reference_end reference_end_below

pub bracket_ascii : (bytes : List ℕ) (size : ℕ) → size ≡ position_or_len is_bracket bytes
    → size < length bytes → get_or bytes size 0 < 128
bracket_ascii = first_below is_bracket bracket_below

pub name_end_ascii : (bytes : List ℕ) (size : ℕ) → size ≡ position_or_len ends_name bytes
    → size < length bytes → get_or bytes size 0 < 128
name_end_ascii = first_below ends_name name_end_below
