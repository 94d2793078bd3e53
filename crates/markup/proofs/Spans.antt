-- Where the bytes of a comment and of a section of character data stand.
use Rattle.std.proofs.Common.{◌≡◌, ℕ, zero, suc, ◌+◌, ◌-◌, ◌<◌, true, List, [], ◌∷◌, length, get_or}
use Rattle.std.proofs.Common.{drop, sym, ap, subst, ◌∙◌, arith}
use Rattle.std.specs.Prelude.{◌==◌}
use Rattle.std.proofs.lemmas.Bool.{false≢true, eqb-true, and_parts}
use Rattle.std.proofs.lemmas.List.{get_or-drop, length-drop}
use Rattle.markup.specs.Marks.{begins_with}
use Rattle.markup.specs.Found.{HasAscii}

-- a text has the bytes with which it begins
pub front_reads : (needle text : List ℕ) → begins_with needle text ≡ true → (k : ℕ)
    → k < length needle → (k < length text) × (get_or text k 0 ≡ get_or needle k 0)
front_reads [] text is k within = absurd (omega arith)
front_reads (a ∷ needle) [] is k within = absurd (false≢true is)
front_reads (a ∷ needle) (x ∷ text) is zero within =
    (omega arith, sym (eqb-true a x (and_parts _ _ is).0))
front_reads (a ∷ needle) (x ∷ text) is (suc k) within =
    let tests = and_parts (a == x) (begins_with needle text) is in
    let more = front_reads needle text tests.1 k (omega arith) in
    (omega (arith, more.0), more.1)

-- a byte of what was found behind the first bytes of a text
byte_behind : (bytes : List ℕ) (over n k own value : ℕ) → own ≡ over + (n + k)
    → k < length (drop n (drop over bytes)) → get_or (drop n (drop over bytes)) k 0 ≡ value
    → value < 128
    → HasAscii (60 ∷ 33 ∷ bytes) (suc (suc own))
byte_behind bytes over n k own value is within reads ascii =
    let here : get_or bytes own 0 ≡ value =
    ap (λ i. get_or bytes i 0) is ∙ sym (get_or-drop over bytes (n + k) 0)
    ∙ sym (get_or-drop n (drop over bytes) k 0) ∙ reads in
    record {
      within = omega (arith, length-drop n (drop over bytes), length-drop over bytes);
      ascii = omega arith;
    }

pub comment_stands : (bytes : List ℕ) (n : ℕ)
    → begins_with (45 ∷ 45 ∷ 62 ∷ []) (drop n (drop 2 bytes)) ≡ true
    → HasAscii (60 ∷ 33 ∷ bytes) (n + 7 - 1) × (0 < n + 7)
comment_stands bytes n is =
    let last = front_reads (45 ∷ 45 ∷ 62 ∷ []) (drop n (drop 2 bytes)) is 2 (omega arith) in
    let place : suc (suc (n + 4)) ≡ n + 7 - 1 = omega arith in (
      subst (HasAscii (60 ∷ 33 ∷ bytes)) place
          (byte_behind bytes 2 n 2 (n + 4) 62 (omega arith) last.0 last.1 (omega arith)),
      omega arith,
    )

pub data_stands : (bytes : List ℕ) (n : ℕ)
    → begins_with (91 ∷ 67 ∷ 68 ∷ 65 ∷ 84 ∷ 65 ∷ 91 ∷ []) bytes ≡ true
    → begins_with (93 ∷ 93 ∷ 62 ∷ []) (drop n (drop 7 bytes)) ≡ true
    → HasAscii (60 ∷ 33 ∷ bytes) 8 × HasAscii (60 ∷ 33 ∷ bytes) (n + 9)
    × HasAscii (60 ∷ 33 ∷ bytes) (n + 11)
data_stands bytes n opens is =
    let first = front_reads (91 ∷ 67 ∷ 68 ∷ 65 ∷ 84 ∷ 65 ∷ 91 ∷ []) bytes opens 6 (omega arith) in
    let middle = front_reads (93 ∷ 93 ∷ 62 ∷ []) (drop n (drop 7 bytes)) is 0 (omega arith) in
    let last = front_reads (93 ∷ 93 ∷ 62 ∷ []) (drop n (drop 7 bytes)) is 2 (omega arith) in
    let here : suc (suc (n + 7)) ≡ n + 9 = omega arith in
    let there : suc (suc (n + 9)) ≡ n + 11 = omega arith in (
      record { within = omega (arith, first.0); ascii = omega (arith, first.1) },
      subst (HasAscii (60 ∷ 33 ∷ bytes)) here
          (byte_behind bytes 7 n 0 (n + 7) 93 (omega arith) middle.0 middle.1 (omega arith)),
      subst (HasAscii (60 ∷ 33 ∷ bytes)) there
          (byte_behind bytes 7 n 2 (n + 9) 62 (omega arith) last.0 last.1 (omega arith)),
    )
