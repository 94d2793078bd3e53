-- Words in either case, and where they end.
use Rattle.std.proofs.Common.{◌≡◌, ◌<◌, ◌≤◌, ◌-◌, ℕ, Bool, true, false, List, refl, sym, ◌↔◌}
use Rattle.std.proofs.Common.{IsTrue}
use Rattle.std.proofs.Common.{rules, length-take, get_or-take, length, take, map, ap, ◌∙◌, arith}
use Rattle.std.proofs.Common.{get_or}
use Rattle.std.specs.Char.{to_ascii_lowercase}
use Rattle.std.specs.Str.{bytes_eq, IsAscii}
use Rattle.std.proofs.lemmas.Slice.Eq.{bytes_eq-Decides}
use Rattle.std.proofs.lemmas.List.{get_or-map, length-map}
use Rattle.format_codes.specs.Groups.{begins}

-- a test that holds of no value is false
fails : (b : Bool) → (b ≡ true → ⊥) → false ≡ b
fails true never = absurd (never refl)
fails false never = refl

-- false isn't true
absurd_false : false ≡ true → ⊥
absurd_false same = search rules

-- a test that holds of lists that are the same is the comparison of their bytes
pub same_word : (b : Bool) (xs ys : List ℕ) → (IsTrue b ↔ (xs ≡ ys)) → b ≡ bytes_eq xs ys
same_word true xs ys tells = sym ((bytes_eq-Decides xs ys).1 (tells.0 refl))
same_word false xs ys tells =
    fails _ (λ same. absurd_false (tells.1 ((bytes_eq-Decides xs ys).0 same)))

-- a byte that is an ASCII byte in either case is ASCII
pub ascii_in_either_case : (b c : ℕ) → to_ascii_lowercase b ≡ to_ascii_lowercase c → c < 128 →
    b < 128
ascii_in_either_case b c same ascii = grind arith

-- a text that begins with an ASCII word has an ASCII byte where the word ends
pub word_ends : (word text : List ℕ) → IsAscii word → 0 < length word → begins word text ≡ true →
    (length word ≤ length text) × (get_or text (length word - 1) 0 < 128)
word_ends word text ascii some holds =
    let same : map to_ascii_lowercase (take (length word) text) ≡ map to_ascii_lowercase word =
    (bytes_eq-Decides _ _).0 holds in
    let long : length word ≤ length text =
    omega (
      arith,
      length-take (length word) text,
      length-map (take (length word) text) to_ascii_lowercase,
      length-map word to_ascii_lowercase,
      ap length same,
    ) in
    let last = length word - 1 in
    let front = take (length word) text in
    let within : last < length front =
    omega (arith, long, length-take (length word) text) in
    let cased : to_ascii_lowercase (get_or text last 0) ≡ to_ascii_lowercase (get_or word last 0) =
    ap to_ascii_lowercase
    (sym (get_or-take (length word) text last 0 (omega (arith, some))))
    ∙ (sym (get_or-map to_ascii_lowercase front last 0 0 within)
    ∙ (ap (λ bytes. get_or bytes last 0) same
    ∙ get_or-map to_ascii_lowercase word last 0 0 (omega (arith, some)))) in
    (long, ascii_in_either_case _ _ cased (ascii last))
