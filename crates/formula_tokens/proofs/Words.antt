-- Where a word ends that a text begins with.
use Rattle.std.proofs.Common.{◌≡◌, ◌<◌, ◌≤◌, ◌-◌, ◌&&◌, ℕ, Bool, true, false, cond, List, [], ◌∷◌}
use Rattle.std.proofs.Common.{length-take, get_or-take, length, take, map, get_or, sym, ap, ◌∙◌}
use Rattle.std.proofs.Common.{refl}
use Rattle.std.proofs.Common.{arith}
use Rattle.std.specs.Prelude.{nat_lt, Some, IfSome}
use Rattle.std.specs.Char.{to_ascii_lowercase}
use Rattle.std.specs.List.{list_all}
use Rattle.std.proofs.lemmas.Bool.Decides.{nat_tests}
use Rattle.std.proofs.lemmas.Slice.Eq.{bytes_eq-Decides}
use Rattle.std.proofs.lemmas.List.{get_or-map, length-map}
use Rattle.formula_tokens.specs.Tokens.{is_begun_by, word_size, failures}

-- a byte that is an ASCII byte in either case is ASCII
ascii_in_either_case : (b c : ℕ) → to_ascii_lowercase b ≡ to_ascii_lowercase c → c < 128 → b < 128
ascii_in_either_case b c same ascii = grind arith

-- a place with an ASCII byte before it, in a text
abbrev pub StandsBehindAscii : List ℕ → ℕ → Type 0
StandsBehindAscii text n = (0 < n) × (n ≤ length text) × (get_or text (n - 1) 0 < 128)

-- a word ends with an ASCII byte
abbrev ends_ascii : List ℕ → Bool
ends_ascii word = nat_lt 0 (length word) && nat_lt (get_or word (length word - 1) 0) 128

-- a text that begins with such a word has an ASCII byte where the word ends
word_ends : (word text : List ℕ) → 0 < length word → get_or word (length word - 1) 0 < 128 →
    is_begun_by word text ≡ true → StandsBehindAscii text (length word)
word_ends word text some ascii holds =
    let front = take (length word) text in
    let last = length word - 1 in
    let same : map to_ascii_lowercase front ≡ map to_ascii_lowercase word =
    (bytes_eq-Decides (map to_ascii_lowercase front) (map to_ascii_lowercase word)).0 holds in
    let long : length word ≤ length text =
    omega (
      arith,
      length-take (length word) text,
      length-map front to_ascii_lowercase,
      length-map word to_ascii_lowercase,
      ap length same,
    ) in
    let within : last < length front =
    omega (arith, long, length-take (length word) text) in
    let cased : to_ascii_lowercase (get_or text last 0) ≡ to_ascii_lowercase (get_or word last 0) =
    ap to_ascii_lowercase (sym (get_or-take (length word) text last 0 (omega (arith, some))))
    ∙ sym (get_or-map to_ascii_lowercase front last 0 0 within)
    ∙ ap (λ bytes. get_or bytes last 0) same
    ∙ get_or-map to_ascii_lowercase word last 0 0 (omega (arith, some)) in
    (some, long, ascii_in_either_case _ _ cased ascii)

both_hold : (a b : Bool) → (a && b) ≡ true → (a ≡ true) × (b ≡ true)
both_hold true true all = (refl, refl)
both_hold true false all = cc
both_hold false b all = cc

-- the first of some words that a text begins with
first_ends : (words : List (List ℕ)) (text : List ℕ) → list_all ends_ascii words ≡ true →
    IfSome (word_size words text) (StandsBehindAscii text)
first_ends [] text all = tt
first_ends (w ∷ ws) text all =
    let here = both_hold (ends_ascii w) (list_all ends_ascii ws) all in
    let ends = both_hold (nat_lt 0 (length w)) (nat_lt (get_or w (length w - 1) 0) 128) here.0 in
    let some : 0 < length w = grind (arith, nat_tests) in
    let ascii : get_or w (length w - 1) 0 < 128 = grind (arith, nat_tests) in
    by_test (is_begun_by w text) refl some ascii (first_ends ws text here.1) where
      by_test : (begun : Bool) → is_begun_by w text ≡ begun → 0 < length w →
          get_or w (length w - 1) 0 < 128 →
          IfSome (word_size ws text) (StandsBehindAscii text) →
          IfSome (cond begun (Some (length w)) (word_size ws text)) (StandsBehindAscii text)
      by_test true is some ascii rest = word_ends w text some ascii is
      by_test false is some ascii rest = rest

-- an error ends with an ASCII byte
pub failure_ends : (text : List ℕ) → IfSome (word_size failures text) (StandsBehindAscii text)
failure_ends text = first_ends failures text refl
