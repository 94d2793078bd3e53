-- The pieces in front of a text are those in front of it with `;` and more behind it.
use Rattle.excel_dates.proofs.SerialSteps.{by_true, is_less}
use Rattle.std.proofs.Common.{◌≡◌, ◌∙◌, ◌++◌, ◌+◌, ◌<◌, ◌≤◌, ◌&&◌, ◌||◌, ◌==◌, ℕ, suc, Bool, true}
use Rattle.std.proofs.Common.{false, cond, List, [], ◌∷◌, Option, Some, None, codes, length, take}
use Rattle.std.proofs.Common.{not, get_or, refl, sym, ap, subst, arith, rules, ◌⊎◌, inl, inr, ◌≢◌}
use Rattle.std.proofs.Common.{eqb}
use Rattle.std.specs.Prelude.{nat_lt}
use Rattle.std.specs.Char.{to_ascii_lowercase}
use Rattle.std.specs.List.{prefix_len, position_or_len, before_first, list_any, list_all}
use Rattle.std.proofs.lemmas.Bool.{eqb-true}
use Rattle.std.proofs.lemmas.Bool.Decides.{eqb_tells}
use Rattle.std.proofs.lemmas.List.{take-append-le}
use Rattle.std.proofs.lemmas.List.Sums.{prefix_len-le-length}
use Rattle.format_codes.specs.declared.piece.CodePiece.{CodePiece}
use Rattle.format_codes.specs.declared.piece.CodePiece.TheVariants as piece
use Rattle.format_codes.specs.declared.piece.HalfDay.TheVariants.{Words, Letters}
use Rattle.format_codes.specs.declared.piece.TimeUnit.{TimeUnit}
use Rattle.format_codes.specs.Words.{begins, date_unit, literal_pieces, group_pieces, PiecesInFront}
use Rattle.format_codes.specs.Words.{one, size_behind, character_size, first_character}
use Rattle.format_codes.specs.Words.{quoted_in_front, group_in_front, unit_in_front, unit_or_other}
use Rattle.format_codes.specs.Words.{half_day_or_other, letter_in_front, sign_or_letter, sign_piece}
use Rattle.format_codes.specs.Words.{pieces_in_front}
use Rattle.shown_text_laws.specs.JoinedCodes.{stays_open}

-- how many elements pass in front, where one behind them doesn't
prefix_kept : (p : ℕ → Bool) (bs r : List ℕ) (d : ℕ) → p d ≡ false
    → prefix_len p (bs ++ d ∷ r) ≡ prefix_len p bs
prefix_kept p [] r d fails = ap (λ b. cond b (1 + prefix_len p r) 0) fails
prefix_kept p (b ∷ bs) r d fails =
    ap (λ n. cond (p b) (1 + n) 0) (prefix_kept p bs r d fails)

position_step : (passes some : Bool) (n m : ℕ) → (passes || some) ≡ true → (some ≡ true → n ≡ m)
    → cond (not passes) (1 + n) 0 ≡ cond (not passes) (1 + m) 0
position_step true some n m found same = refl
position_step false some n m found same = ap (λ k. 1 + k) (same found)

-- a place that is found stays the first one
position_kept : (p : ℕ → Bool) (bs r : List ℕ) → list_any p bs ≡ true
    → position_or_len p (bs ++ r) ≡ position_or_len p bs
position_kept p [] r found = absurd (search rules)
position_kept p (b ∷ bs) r found =
    position_step (p b) (list_any p bs) _ _ found (position_kept p bs r)

within_step : (passes some : Bool) (n m : ℕ) → (passes || some) ≡ true → (some ≡ true → n < m)
    → cond (not passes) (1 + n) 0 < suc m
within_step true some n m found less = omega arith
within_step false some n m found less = let h : n < m = less found in omega arith

-- a place that is found is within
position_within : (p : ℕ → Bool) (bs : List ℕ) → list_any p bs ≡ true
    → position_or_len p bs < length bs
position_within p [] found = absurd (search rules)
position_within p (b ∷ bs) found =
    within_step (p b) (list_any p bs) _ _ found (position_within p bs)

-- what stands before the place that is found
before_kept : (p : ℕ → Bool) (bs r : List ℕ) → list_any p bs ≡ true
    → before_first p (bs ++ r) ≡ before_first p bs
before_kept p bs r found =
    ap (λ n. take n (bs ++ r)) (position_kept p bs r found)
    ∙ take-append-le (position_or_len p bs) bs r
    (let h = position_within p bs found in omega arith)

-- some pieces in front, and how many bytes belong to them
abbrev front_of : List CodePiece → ℕ → PiecesInFront
front_of found size = record { pieces = found; size = size }

if_same : {A : Type 0} (c : Bool) (x y z w : A) → (c ≡ true → x ≡ z) → (c ≡ false → y ≡ w)
    → cond c x y ≡ cond c z w
if_same true x y z w holds fails = holds refl
if_same false x y z w holds fails = fails refl

-- the character that begins a text with more behind it
character_kept : (b : ℕ) (bs r : List ℕ)
    → first_character (b ∷ (bs ++ 59 ∷ r)) ≡ first_character (b ∷ bs)
character_kept b bs r =
    ap (λ n. literal_pieces (take (suc n) (b ∷ (bs ++ 59 ∷ r)))) (prefix_kept _ bs r 59 refl)
    ∙ ap literal_pieces (take-append-le (suc (size_behind bs)) (b ∷ bs) (59 ∷ r)
    (let h : size_behind bs ≤ length bs = prefix_len-le-length _ bs in omega arith))

-- a character that isn't ASCII
wide_kept : (b : ℕ) (bs r : List ℕ)
    → front_of (first_character (b ∷ (bs ++ 59 ∷ r))) (size_behind (bs ++ 59 ∷ r))
    ≡ front_of (first_character (b ∷ bs)) (size_behind bs)
wide_kept b bs r =
    ap (λ found. front_of found (size_behind (bs ++ 59 ∷ r))) (character_kept b bs r)
    ∙ ap (front_of (first_character (b ∷ bs))) (prefix_kept _ bs r 59 refl)

-- a sign that takes the next character
escaped_kept : (f : List CodePiece → List CodePiece) (bs r : List ℕ) → (length bs == 0) ≡ false
    → front_of (f (first_character (bs ++ 59 ∷ r))) (character_size (bs ++ 59 ∷ r))
    ≡ front_of (f (first_character bs)) (character_size bs)
escaped_kept f [] r some = absurd (search rules)
escaped_kept f (c ∷ cs) r some =
    ap (λ found. front_of (f found) (suc (size_behind (cs ++ 59 ∷ r)))) (character_kept c cs r)
    ∙ ap (λ n. front_of (f (first_character (c ∷ cs))) (suc n)) (prefix_kept _ cs r 59 refl)

any_step : (passes some more : Bool) → (passes || some) ≡ true → (some ≡ true → more ≡ true)
    → (passes || more) ≡ true
any_step true some more found kept = refl
any_step false some more found kept = kept found

-- a text in quotes that ends
quoted_kept : (bs r : List ℕ) → list_any (λ c. c == 34) bs ≡ true
    → quoted_in_front (bs ++ r) ≡ quoted_in_front bs
quoted_kept bs r ends =
    ap (λ text. front_of (literal_pieces text) (position_or_len (λ c. c == 34) (bs ++ r) + 1))
    (before_kept (λ c. c == 34) bs r ends)
    ∙ ap (λ n. front_of (literal_pieces (before_first (λ c. c == 34) bs)) (n + 1))
    (position_kept (λ c. c == 34) bs r ends)

-- a group in brackets that ends
closed_group : (bs : List ℕ) → list_any (λ c. c == 93) bs ≡ true
    → group_in_front bs
    ≡ front_of (group_pieces (before_first (λ c. c == 93) bs))
    (position_or_len (λ c. c == 93) bs + 1)
closed_group bs ends =
    by_true (nat_lt (position_or_len (λ c. c == 93) bs) (length bs)) _ _
    (is_less _ _ (position_within (λ c. c == 93) bs ends))

any_append : (p : ℕ → Bool) (bs r : List ℕ) → list_any p bs ≡ true → list_any p (bs ++ r) ≡ true
any_append p [] r found = absurd (search rules)
any_append p (b ∷ bs) r found = any_step (p b) (list_any p bs) _ found (any_append p bs r)

group_kept : (bs r : List ℕ) → list_any (λ c. c == 93) bs ≡ true
    → group_in_front (bs ++ r) ≡ group_in_front bs
group_kept bs r ends =
    closed_group (bs ++ r) (any_append (λ c. c == 93) bs r ends)
    ∙ (ap (λ text. front_of (group_pieces text) (position_or_len (λ c. c == 93) (bs ++ r) + 1))
    (before_kept (λ c. c == 93) bs r ends)
    ∙ (ap (λ n. front_of (group_pieces (before_first (λ c. c == 93) bs)) (n + 1))
    (position_kept (λ c. c == 93) bs r ends)
    ∙ sym (closed_group bs ends)))

-- a word without `;` in it, at the beginning of a text
and_false : (x y : Bool) → x ≡ false → (x && y) ≡ false
and_false true y none = absurd (cc)
and_false false y none = refl

both : (x y : Bool) → (x && y) ≡ true → (x ≡ true) × (y ≡ true)
both true y all = (refl, all)
both false y all = absurd (cc)

not_false : (x : Bool) → not x ≡ false → x ≡ true
not_false true closed = refl
not_false false closed = absurd (cc)

not_true : (x : Bool) → not x ≡ true → x ≡ false
not_true true fails = absurd (cc)
not_true false fails = refl

word_kept : (word text r : List ℕ) → list_all (λ w. not (59 == to_ascii_lowercase w)) word ≡ true
    → begins word (text ++ 59 ∷ r) ≡ begins word text
word_kept [] text r none = refl
word_kept (w ∷ ws) [] r none =
    and_false (59 == to_ascii_lowercase w) (begins ws r)
    (not_true _ (both (not (59 == to_ascii_lowercase w)) _ none).0)
word_kept (w ∷ ws) (t ∷ ts) r none =
    ap (λ rest. (to_ascii_lowercase t == to_ascii_lowercase w) && rest)
    (word_kept ws ts r (both (not (59 == to_ascii_lowercase w)) _ none).1)

-- the byte behind a letter
sign_kept : (n : ℕ) (bs r : List ℕ) → (59 == n) ≡ false → (0 == n) ≡ false
    → (get_or (bs ++ 59 ∷ r) 0 0 == n) ≡ (get_or bs 0 0 == n)
sign_kept n [] r divider none = divider ∙ sym none
sign_kept n (b ∷ bs) r divider none = refl

-- a part of a date
unit_kept : (unit : Option TimeUnit) (b : ℕ) (bs r : List ℕ)
    → ((to_ascii_lowercase 59 == to_ascii_lowercase b) ≡ false) ⊎ (unit ≡ None)
    → unit_in_front unit b (bs ++ 59 ∷ r) ≡ unit_in_front unit b bs
unit_kept None b bs r other = refl
unit_kept (Some unit) b bs r (inl other) =
    ap (λ run. one (piece.TimePart unit (run + 1)) run)
    (prefix_kept (λ c. to_ascii_lowercase c == to_ascii_lowercase b) bs r 59 other)
unit_kept (Some unit) b bs r (inr none) = absurd (cc)

unit_case_by : (letter : ℕ)
    → ((eqb 59 letter ≡ true) × (59 ≡ letter)) ⊎ ((eqb 59 letter ≡ false) × (59 ≢ letter))
    → ((59 == letter) ≡ false) ⊎ (date_unit letter ≡ None)
unit_case_by letter (inl same) = inr (subst (λ l. date_unit l ≡ None) same.1 refl)
unit_case_by letter (inr other) = inl other.0

unit_or_other_kept : (b : ℕ) (bs r : List ℕ)
    → unit_or_other b (bs ++ 59 ∷ r) ≡ unit_or_other b bs
unit_or_other_kept b bs r =
    unit_kept (date_unit (to_ascii_lowercase b)) b bs r
    (unit_case_by (to_ascii_lowercase b) (eqb_tells 59 (to_ascii_lowercase b)))

-- the letter of the second half of a day
second_kept : (b : ℕ) (bs r : List ℕ) → begins (codes "a/p") (b ∷ bs) ≡ true
    → get_or (bs ++ 59 ∷ r) 1 0 ≡ get_or bs 1 0
second_kept b [] r holds =
    let none : false ≡ true = (both (to_ascii_lowercase b == 97) false holds).1 in absurd (cc)
second_kept b (c ∷ []) r holds =
    let none : false ≡ true =
    (both (to_ascii_lowercase c == 47) false
    (both (to_ascii_lowercase b == 97) ((to_ascii_lowercase c == 47) && false) holds).1).1 in
    absurd (cc)
second_kept b (c ∷ d ∷ ds) r holds = refl

half_day_kept : (b : ℕ) (bs r : List ℕ)
    → half_day_or_other b (bs ++ 59 ∷ r) ≡ half_day_or_other b bs
half_day_kept b bs r =
    let more = bs ++ 59 ∷ r in
    ap (λ w. cond w (one (piece.HalfDay Words) 4)
    (cond (begins (codes "a/p") (b ∷ more)) (one (piece.HalfDay (Letters b (get_or more 1 0))) 2)
    (unit_or_other b more)))
    (word_kept (codes "am/pm") (b ∷ bs) r refl)
    ∙ ap (λ other. cond (begins (codes "am/pm") (b ∷ bs)) (one (piece.HalfDay Words) 4) other)
    (ap (λ w. cond w (one (piece.HalfDay (Letters b (get_or more 1 0))) 2) (unit_or_other b more))
    (word_kept (codes "a/p") (b ∷ bs) r refl)
    ∙ if_same (begins (codes "a/p") (b ∷ bs)) _ _ _ _
    (λ holds. ap (λ c. one (piece.HalfDay (Letters b c)) 2) (second_kept b bs r holds))
    (λ other. unit_or_other_kept b bs r))

letter_kept : (b : ℕ) (bs r : List ℕ) → letter_in_front b (bs ++ 59 ∷ r) ≡ letter_in_front b bs
letter_kept b bs r =
    let more = bs ++ 59 ∷ r in
    let is_e = to_ascii_lowercase b == 101 in
    let word = λ (text : List ℕ). cond (begins (codes "general") (b ∷ text)) (one piece.General 6)
    (half_day_or_other b text) in
    ap (λ plus. cond (is_e && (plus || (get_or more 0 0 == 45))) (one (piece.Exponent b plus) 1)
    (word more))
    (sign_kept 43 bs r refl refl)
    ∙ (ap (λ minus. cond (is_e && ((get_or bs 0 0 == 43) || minus))
    (one (piece.Exponent b (get_or bs 0 0 == 43)) 1) (word more))
    (sign_kept 45 bs r refl refl)
    ∙ ap (cond (is_e && ((get_or bs 0 0 == 43) || (get_or bs 0 0 == 45)))
    (one (piece.Exponent b (get_or bs 0 0 == 43)) 1))
    (ap (λ w. cond w (one piece.General 6) (half_day_or_other b more))
    (word_kept (codes "general") (b ∷ bs) r refl)
    ∙ ap (cond (begins (codes "general") (b ∷ bs)) (one piece.General 6))
    (half_day_kept b bs r)))

sign_or_letter_kept : (sign : Option CodePiece) (b : ℕ) (bs r : List ℕ)
    → sign_or_letter sign b (bs ++ 59 ∷ r) ≡ sign_or_letter sign b bs
sign_or_letter_kept None b bs r = letter_kept b bs r
sign_or_letter_kept (Some sign) b bs r = refl

-- what is known of a sign that leaves nothing open
at_sign : (n b : ℕ) (bs : List ℕ) → stays_open b bs ≡ false → (b == n) ≡ true
    → stays_open n bs ≡ false
at_sign n b bs closed same = subst (λ c. stays_open c bs ≡ false) (eqb-true b n same) closed

-- the pieces in front of a text, where they leave nothing open
pub front_kept : (b : ℕ) (bs r : List ℕ) → stays_open b bs ≡ false
    → pieces_in_front b (bs ++ 59 ∷ r) ≡ pieces_in_front b bs
front_kept b bs r closed =
    if_same (nat_lt 127 b) _ _ _ _ (λ h. wide_kept b bs r)
    (λ h. if_same (b == 92) _ _ _ _
    (λ e. escaped_kept (λ found. found) bs r (at_sign 92 b bs closed e))
    (λ h. if_same (b == 34) _ _ _ _
    (λ e. quoted_kept bs (59 ∷ r) (not_false _ (at_sign 34 b bs closed e)))
    (λ h. if_same (b == 95) _ _ _ _
    (λ e. escaped_kept (λ found. piece.Literal 32 ∷ []) bs r (at_sign 95 b bs closed e))
    (λ h. if_same (b == 42) _ _ _ _
    (λ e. escaped_kept (λ found. []) bs r (at_sign 42 b bs closed e))
    (λ h. if_same (b == 91) _ _ _ _
    (λ e. group_kept bs (59 ∷ r) (not_false _ (at_sign 91 b bs closed e)))
    (λ h. sign_or_letter_kept (sign_piece b) b bs r))))))
