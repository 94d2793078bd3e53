-- The first token of a text, and what is named behind it.
use Rattle.std.proofs.Common.{◌≡◌, ◌∙◌, ◌+◌, ◌<◌, ◌≤◌, ◌&&◌, ◌||◌, ℕ, Bool, true, false, cond, eqb}
use Rattle.std.proofs.Common.{not, List, [], ◌∷◌, ◌++◌, length, take, drop, Option, Some, None}
use Rattle.std.proofs.Common.{refl, sym, ap, subst, arith, length-drop, append-nil}
use Rattle.std.specs.Prelude.{◌==◌, codes, position, IfSome, ℤ}
use Rattle.std.specs.Char.{is_ascii_alphabetic}
use Rattle.std.specs.List.{prefix_len, list_all}
use Rattle.std.proofs.lemmas.Bool.Decides.{nat_tests}
use Rattle.std.proofs.lemmas.List.{take-append-drop, take_at, drop_at, drop_all, take_all}
use Rattle.std.proofs.lemmas.List.{take-take, length-take-le, take-append-le}
use Rattle.std.proofs.lemmas.List.Sums.{prefix_len-le-length}
use Rattle.formula_shift.specs.Words.{last_byte, is_elsewhere, PieceKind, string_kind, quoted_kind}
use Rattle.formula_shift.specs.Words.{group_kind, string_length, quoted_length, group_length}
use Rattle.formula_shift.specs.Words.{first_byte, moved}
use Rattle.formula_shift.specs.Pieces.{piece_kind, is_word_byte, is_other_byte, length_behind}
use Rattle.formula_shift.specs.Relocation.{is_word, is_name_before}
use Rattle.formula_shift.proofs.Cutting.{length_behind-le}
use Rattle.formula_shift.proofs.Recutting.{begins}
use Rattle.formula_shift.proofs.Joining.{both_true}
use Rattle.formula_shift.proofs.Moving.{run_is}
use Rattle.formula_tokens.specs.Tokens.{TokenText, word, quotes, brackets, lost, failure, blank}
use Rattle.formula_tokens.specs.Tokens.{sign, TokenCut, is_name_byte, is_blank_byte, behind_blanks}
use Rattle.formula_tokens.specs.Tokens.{is_begun_by, word_size, failures, quotes_end, brackets_end}
use Rattle.formula_tokens.specs.Tokens.{word_cut, colon_cut, blanks_before, blank_cut, literal_cut}
use Rattle.formula_tokens.specs.Tokens.{closed_cut, failure_cut, hash_cut, other_cut, tokens}
use Rattle.formula_tokens.specs.Items.{token_sign, sign_at}
use Rattle.formula_tokens.proofs.Cutting.{tokens-nil, tokens-cons}
use Rattle.graph_naming_laws.specs.MovedItems.{are_hashes_apart, starts_word}
use Rattle.graph_naming_laws.specs.OwnSheet.{is_one_word, goes_on_in_word, starts_on}
use Rattle.graph_naming_laws.specs.OwnSheet.{is_error_token, is_mark_token, are_errors_apart}
use Rattle.graph_naming_laws.proofs.Corners.{all_tell, run_passes}
use Rattle.graph_naming_laws.proofs.Ends.{closed_size, quoted_size, quoted_last, group_size}
use Rattle.graph_naming_laws.proofs.Ends.{group_last, string_size, string_last}
use Rattle.graph_naming_laws.proofs.Errors.{is_error_byte, errors_skip, failure_all, lost_all}
use Rattle.graph_naming_laws.proofs.Errors.{run_over}
use Rattle.graph_naming_laws.proofs.KeptEnds.{is_closed, string_kept, quotes_kept, brackets_kept}
use Rattle.graph_naming_laws.proofs.KeptEnds.{begun_length, begun_kept, failure_kept}
use Rattle.graph_naming_laws.proofs.KeptEnds.{failure_length, quotes_over, no_error}
use Rattle.graph_naming_laws.proofs.Moves.{moved_none, closed_moved, other_moved, begins_kept}
use Rattle.graph_naming_laws.proofs.Moves.{same_front}
use Rattle.graph_naming_laws.proofs.Passing.{AreAlike, Passes, passes_on, passes_same, skips_pass}
use Rattle.graph_naming_laws.proofs.Passing.{passes_free, no_colon_first, no_word_first}
use Rattle.graph_naming_laws.proofs.Spelled.{moved_begins}
use Rattle.graph_naming_laws.proofs.Standing.{words_in, closed_step, other_step}
use Rattle.graph_naming_laws.proofs.Tests.{is_it}

-- ---- words

-- a word, and the tokens behind it
pub word_tokens : (w rest : List ℕ) → 0 < length w → list_all is_name_byte w ≡ true →
    begins is_name_byte rest ≡ false → tokens (w ++ rest) ≡ word w ∷ tokens rest
word_tokens [] rest some names stops = absurd (omega arith)
word_tokens (b ∷ bs) rest some names stops =
    let both = both_true (is_name_byte b) (list_all is_name_byte bs) names in
    let n : prefix_len is_name_byte (bs ++ rest) ≡ length bs =
    run_is is_name_byte bs rest both.1 stops in
    let front : take (prefix_len is_name_byte (bs ++ rest)) (bs ++ rest) ≡ bs =
    take_at bs rest (prefix_len is_name_byte (bs ++ rest)) (sym n) in
    let after : drop (prefix_len is_name_byte (bs ++ rest)) (bs ++ rest) ≡ rest =
    drop_at bs rest (prefix_len is_name_byte (bs ++ rest)) (sym n) in
    tokens-cons b (bs ++ rest)
    ∙ ap (λ t. (cond t (word_cut b (bs ++ rest)) (other_cut b (bs ++ rest))).token
    ∷ tokens (drop (cond t (word_cut b (bs ++ rest)) (other_cut b (bs ++ rest))).size
    (bs ++ rest))) both.0
    ∙ (λ i. word (b ∷ front i) ∷ tokens (after i))

-- a text that begins with a byte of a name is a word and the rest
pub record Worded (text : List ℕ) : Type 0 where
  pub front : List ℕ
  pub rest : List ℕ
  pub text_is : text ≡ front ++ rest
  pub some : 0 < length front
  pub names : list_all is_name_byte front ≡ true
  pub stops : begins is_name_byte rest ≡ false

pub worded : (b : ℕ) (bs : List ℕ) → is_name_byte b ≡ true → Worded (b ∷ bs)
worded b bs name =
    let n = prefix_len is_name_byte bs in record {
      front = b ∷ take n bs;
      rest = drop n bs;
      text_is = ap (λ t. b ∷ t) (sym (take-append-drop n bs));
      some = omega arith;
      names = λ i. name i && run_passes is_name_byte bs i;
      stops = run_over is_name_byte bs;
    }

-- ---- signs

pub other_token : (b : ℕ) (bs : List ℕ) → is_name_byte b ≡ false →
    tokens (b ∷ bs) ≡ (other_cut b bs).token ∷ tokens (drop (other_cut b bs).size bs)
other_token b bs name = tokens-cons b bs
    ∙ ap (λ t. (cond t (word_cut b bs) (other_cut b bs)).token
    ∷ tokens (drop (cond t (word_cut b bs) (other_cut b bs)).size bs)) name

-- a token is the sign `(` or `!`
abbrev is_before : TokenText → Bool
is_before t = (token_sign (Some t) == 40) || (token_sign (Some t) == 33)

blanks_apart : (n : ℕ) (bs : List ℕ) → is_before (blanks_before n bs).token ≡ false
blanks_apart n [] = refl
blanks_apart n (b ∷ bs) = by_test (eqb b 58) where
  by_test : (t : Bool) → is_before (cond {A = TokenCut} t (record {
    token = sign 58;
    size = n + 1 + prefix_len is_blank_byte bs;
  }) (record { token = blank; size = n })).token ≡ false
  by_test true = refl
  by_test false = refl

literal_apart : (o : Option ℕ) (bs : List ℕ) → is_before (literal_cut o bs).token ≡ false
literal_apart None bs = refl
literal_apart (Some n) bs = refl

quotes_apart : (b : ℕ) (o : Option ℕ) (bs : List ℕ) →
    is_before (closed_cut b quotes o bs).token ≡ false
quotes_apart b None bs = refl
quotes_apart b (Some n) bs = refl

brackets_apart : (b : ℕ) (o : Option ℕ) (bs : List ℕ) →
    is_before (closed_cut b brackets o bs).token ≡ false
brackets_apart b None bs = refl
brackets_apart b (Some n) bs = refl

hash_apart : (t : Bool) (o : Option ℕ) →
    is_before (cond {A = TokenCut} t (record { token = lost; size = 4 }) (failure_cut o)).token
    ≡ false
hash_apart true o = refl
hash_apart false None = refl
hash_apart false (Some n) = refl

name_apart : (b : ℕ) → is_name_byte b ≡ true → ((b == 40) || (b == 33)) ≡ false
name_apart b name = grind (arith, nat_tests)

kinds_apart : (b : ℕ) → (is_blank_byte b || (b == 58) || (b == 34) || (b == 39) || (b == 91)
    || (b == 35)) ≡ true → ((b == 40) || (b == 33)) ≡ false
kinds_apart b is = grind (arith, nat_tests)

other_first : (b : ℕ) (bs : List ℕ) → ((b == 40) || (b == 33)) ≡ is_before (other_cut b bs).token
other_first b bs =
    by_tests (is_blank_byte b) (eqb b 58) (eqb b 34) (eqb b 39) (eqb b 91) (eqb b 35)
    (kinds_apart b) where
      by_tests : (white two double single bracket hash : Bool) →
          ((white || two || double || single || bracket || hash) ≡ true →
          ((b == 40) || (b == 33)) ≡ false) →
          ((b == 40) || (b == 33))
          ≡ is_before (cond {A = TokenCut} white (blank_cut bs) (cond two (colon_cut bs)
          (cond double (literal_cut (position (λ c. c == 34) bs) bs)
          (cond single (closed_cut b quotes (quotes_end bs) bs)
          (cond bracket (closed_cut b brackets (brackets_end 0 bs) bs)
          (cond hash (hash_cut bs) (record { token = sign b; size = 0 }))))))).token
      by_tests true two double single bracket hash h =
          h refl ∙ sym (blanks_apart (prefix_len is_blank_byte bs) (behind_blanks bs))
      by_tests false true double single bracket hash h = h refl
      by_tests false false true single bracket hash h =
          h refl ∙ sym (literal_apart (position (λ c. c == 34) bs) bs)
      by_tests false false false true bracket hash h =
          h refl ∙ sym (quotes_apart b (quotes_end bs) bs)
      by_tests false false false false true hash h =
          h refl ∙ sym (brackets_apart b (brackets_end 0 bs) bs)
      by_tests false false false false false true h =
          h refl ∙ sym (hash_apart (is_begun_by (codes "REF!") bs) (word_size failures bs))
      by_tests false false false false false false h = refl

-- `(` and `!` are tokens of their own
pub sign_first : (text : List ℕ) →
    is_name_before (first_byte text)
    ≡ ((sign_at 0 (tokens text) == 40) || (sign_at 0 (tokens text) == 33))
sign_first [] = sym (ap (λ ts. (sign_at 0 ts == 40) || (sign_at 0 ts == 33)) tokens-nil)
sign_first (b ∷ bs) = by_test (is_name_byte b) refl where
  by_test : (t : Bool) → is_name_byte b ≡ t →
      ((b == 40) || (b == 33))
      ≡ ((sign_at 0 (tokens (b ∷ bs)) == 40) || (sign_at 0 (tokens (b ∷ bs)) == 33))
  by_test true name =
      name_apart b name
      ∙ sym (ap (λ ts. (sign_at 0 ts == 40) || (sign_at 0 ts == 33))
      (tokens-cons b bs ∙ ap (λ t. (cond t (word_cut b bs) (other_cut b bs)).token
      ∷ tokens (drop (cond t (word_cut b bs) (other_cut b bs)).size bs)) name))
  by_test false name =
      other_first b bs
      ∙ sym (ap (λ ts. (sign_at 0 ts == 40) || (sign_at 0 ts == 33)) (other_token b bs name))

-- a text that begins with the sign `!`, and what stands behind it
pub record Marked (text : List ℕ) : Type 0 where
  pub rest : List ℕ
  pub text_is : text ≡ 33 ∷ rest
  pub tokens_are : tokens text ≡ sign 33 ∷ tokens rest

pub mark_tokens : (rest : List ℕ) → tokens (33 ∷ rest) ≡ sign 33 ∷ tokens rest
mark_tokens rest = other_token 33 rest refl

never_both : (c : ℕ) → eqb c 33 ≡ true → ((c == 40) || (c == 33)) ≡ true
never_both c is = grind (arith, nat_tests)

-- `(` is no `!`
open_tokens : (bs : List ℕ) → eqb (sign_at 0 (tokens (40 ∷ bs))) 33 ≡ false
open_tokens bs = ap (λ ts. eqb (sign_at 0 ts) 33) (other_token 40 bs refl)

open_or_mark : (b : ℕ) → ((b == 40) || (b == 33)) ≡ true → eqb b 33 ≡ false → b ≡ 40
open_or_mark b is none = grind (arith, nat_tests)

pub mark_first : (text : List ℕ) → eqb (sign_at 0 (tokens text)) 33 ≡ true → Marked text
mark_first [] is =
    let never : false ≡ true = sym (ap (λ ts. eqb (sign_at 0 ts) 33) tokens-nil) ∙ is in
    absurd (cc)
mark_first (b ∷ bs) is =
    by_test (eqb b 33) refl
    (sign_first (b ∷ bs) ∙ never_both (sign_at 0 (tokens (b ∷ bs))) is) where
      by_test : (t : Bool) → eqb b 33 ≡ t → ((b == 40) || (b == 33)) ≡ true → Marked (b ∷ bs)
      by_test true mark both =
          let b_is : b ≡ 33 = grind (arith, nat_tests) in record {
            rest = bs;
            text_is = ap (λ b. b ∷ bs) b_is;
            tokens_are = ap (λ b. tokens (b ∷ bs)) b_is ∙ mark_tokens bs;
          }
      by_test false mark both =
          let b_is : b ≡ 40 = open_or_mark b both mark in
          let never : false ≡ true =
          sym (open_tokens bs) ∙ ap (λ b. eqb (sign_at 0 (tokens (b ∷ bs))) 33) (sym b_is) ∙ is in
          absurd (cc)

-- ---- other tokens

-- a token that is no word and no colon, and what is named behind it
pub record Skipped (before : Option ℕ) (text : List ℕ) : Type 0 where
  pub token : TokenText
  pub rest : List ℕ
  pub after : Option ℕ
  pub tokens_are : tokens text ≡ token ∷ tokens rest
  pub no_word : goes_on_in_word token ≡ false
  pub passes : Passes before text after rest []
  pub own : is_mark_token token ≡ false → is_elsewhere after ≡ false
  pub shorter : length rest < length text
  pub stays : (offset : ℤ × ℤ) → are_hashes_apart (tokens text) ≡ true →
      tokens (moved text offset) ≡ token ∷ tokens (moved rest offset)

behind_less : (b : ℕ) (n : ℕ) (bs : List ℕ) → length (drop n bs) < length (b ∷ bs)
behind_less b n bs = omega (arith, length-drop n bs)

-- a token that was cut off
cut_skipped : (before after : Option ℕ) (b : ℕ) (bs : List ℕ) (cut : TokenCut) →
    is_name_byte b ≡ false → other_cut b bs ≡ cut → goes_on_in_word cut.token ≡ false →
    Passes before (b ∷ bs) after (drop cut.size bs) [] →
    (is_mark_token cut.token ≡ false → is_elsewhere after ≡ false) →
    ((offset : ℤ × ℤ) → are_hashes_apart (tokens (b ∷ bs)) ≡ true →
    tokens (moved (b ∷ bs) offset) ≡ cut.token ∷ tokens (moved (drop cut.size bs) offset)) →
    Skipped before (b ∷ bs)
cut_skipped before after b bs cut name is no_word passes own stays = record {
  token = cut.token;
  rest = drop cut.size bs;
  after = after;
  tokens_are = other_token b bs name
      ∙ ap (λ (c : TokenCut). c.token ∷ tokens (drop c.size bs)) is;
  no_word = no_word;
  passes = passes;
  own = own;
  shorter = behind_less b cut.size bs;
  stays = stays;
}

-- a token that is cut off as it was
stays_cut : (offset : ℤ × ℤ) (b : ℕ) (bs behind : List ℕ) (cut new : TokenCut) →
    is_name_byte b ≡ false → moved (b ∷ bs) offset ≡ b ∷ behind → other_cut b behind ≡ new →
    new.token ≡ cut.token → drop new.size behind ≡ moved (drop cut.size bs) offset →
    tokens (moved (b ∷ bs) offset) ≡ cut.token ∷ tokens (moved (drop cut.size bs) offset)
stays_cut offset b bs behind cut new name moved_is new_is token rest =
    ap tokens moved_is ∙ other_token b behind name
    ∙ ap (λ (c : TokenCut). c.token ∷ tokens (drop c.size behind)) new_is
    ∙ (λ i. token i ∷ tokens (rest i))

-- ---- what is closed

-- what nothing closes is all that is left
unclosed : (before : Option ℕ) (b : ℕ) (bs : List ℕ) (kind : PieceKind) (n : ℕ) →
    piece_kind b ≡ kind → is_word kind ≡ false → length_behind kind bs ≡ length bs →
    n ≡ length bs → Passes before (b ∷ bs) None (drop n bs) []
unclosed before b bs kind n is none whole n_is =
    let k = length_behind kind bs in
    let empty : drop k bs ≡ [] = drop_all k bs (omega (arith, whole)) in
    let here : drop n bs ≡ drop k bs = ap (λ m. drop m bs) (n_is ∙ sym whole) in
    subst (λ rest. Passes before (b ∷ bs) None rest []) (sym here)
    (passes_free before (b ∷ bs) (last_byte (Some b) (take k bs)) (drop k bs) []
    (ap (begins is_word_byte) empty)
    (passes_same before (b ∷ bs) (last_byte (Some b) (take k bs)) (drop k bs)
    (closed_step before b bs kind is none)))

closed : (before : Option ℕ) (b : ℕ) (bs : List ℕ) (kind : PieceKind) (n : ℕ) (c : ℕ) →
    piece_kind b ≡ kind → is_word kind ≡ false → length_behind kind bs ≡ n →
    last_byte (Some b) (take (length_behind kind bs) bs) ≡ Some c →
    Passes before (b ∷ bs) (Some c) (drop n bs) []
closed before b bs kind n c is none n_is last =
    subst (λ m. Passes before (b ∷ bs) (Some c) (drop m bs) []) n_is
    (subst (λ x. Passes before (b ∷ bs) x (drop (length_behind kind bs) bs) []) last
    (passes_same before (b ∷ bs) (last_byte (Some b) (take (length_behind kind bs) bs))
    (drop (length_behind kind bs) bs) (closed_step before b bs kind is none)))

-- what nothing closes stays
unclosed_moved : (offset : ℤ × ℤ) (b : ℕ) (bs : List ℕ) (kind : PieceKind) →
    piece_kind b ≡ kind → is_word kind ≡ false → length_behind kind bs ≡ length bs →
    moved (b ∷ bs) offset ≡ b ∷ bs
unclosed_moved offset b bs kind is none whole =
    let k = length_behind kind bs in
    let all : take k bs ≡ bs = take_all k bs (omega (arith, whole)) in
    let empty : drop k bs ≡ [] = drop_all k bs (omega (arith, whole)) in
    closed_moved offset b bs kind is none
    ∙ (λ i. b ∷ (all i ++ moved (empty i) offset))
    ∙ ap (λ t. b ∷ (bs ++ t)) (moved_none offset) ∙ ap (λ t. b ∷ t) (append-nil bs)

unclosed_stays : (offset : ℤ × ℤ) (b : ℕ) (bs : List ℕ) (kind : PieceKind) (cut : TokenCut) →
    is_name_byte b ≡ false → piece_kind b ≡ kind → is_word kind ≡ false →
    length_behind kind bs ≡ length bs → other_cut b bs ≡ cut → cut.size ≡ length bs →
    tokens (moved (b ∷ bs) offset) ≡ cut.token ∷ tokens (moved (drop cut.size bs) offset)
unclosed_stays offset b bs kind cut name is none whole cut_is size =
    let empty : drop cut.size bs ≡ [] = drop_all cut.size bs (omega (arith, size)) in
    stays_cut offset b bs bs cut cut name (unclosed_moved offset b bs kind is none whole) cut_is
    refl
    (empty ∙ sym (moved_none offset) ∙ ap (λ t. moved t offset) (sym empty))

closed_stays : (offset : ℤ × ℤ) (b : ℕ) (bs : List ℕ) (kind : PieceKind) (n : ℕ)
    (cut new : TokenCut) → is_name_byte b ≡ false → piece_kind b ≡ kind →
    is_word kind ≡ false → length_behind kind bs ≡ n + 1 → cut.size ≡ n + 1 → new.size ≡ n + 1 →
    other_cut b (take (length_behind kind bs) bs ++ moved (drop (length_behind kind bs) bs) offset)
    ≡ new → new.token ≡ cut.token →
    tokens (moved (b ∷ bs) offset) ≡ cut.token ∷ tokens (moved (drop cut.size bs) offset)
closed_stays offset b bs kind n cut new name is none k_is size size' new_is token =
    let k = length_behind kind bs in
    let long : length (take k bs) ≡ k = length-take-le k bs (length_behind-le kind bs) in
    let behind = take k bs ++ moved (drop k bs) offset in
    stays_cut offset b bs behind cut new name (closed_moved offset b bs kind is none) new_is token
    (drop_at (take k bs) (moved (drop k bs) offset) new.size (omega (arith, long, k_is, size'))
    ∙ ap (λ m. moved (drop m bs) offset) (k_is ∙ sym size))

taken_kept : (n k : ℕ) (bs xs : List ℕ) → n ≤ k → k ≤ length bs →
    take n (take k bs ++ xs) ≡ take n bs
taken_kept n k bs xs less within =
    let long : length (take k bs) ≡ k = length-take-le k bs within in
    take-append-le n (take k bs) xs (omega (arith, less, long)) ∙ take-take n k bs less

literal_skipped : (before : Option ℕ) (bs : List ℕ) (o : Option ℕ) →
    position (λ c. c == 34) bs ≡ o → Skipped before (34 ∷ bs)
literal_skipped before bs None is =
    let whole = sym (ap (λ o. closed_size o (length bs)) (sym is) ∙ string_size bs) in
    cut_skipped before None 34 bs (literal_cut None bs) refl
    (ap (λ o. literal_cut o bs) is) refl
    (unclosed before 34 bs string_kind (length bs) refl refl whole refl) (λ m. refl)
    (λ offset h. unclosed_stays offset 34 bs string_kind (literal_cut None bs) refl refl refl whole
    (ap (λ o. literal_cut o bs) is) refl)
literal_skipped before bs (Some n) is =
    cut_skipped before (Some 34) 34 bs (literal_cut (Some n) bs) refl
    (ap (λ o. literal_cut o bs) is) refl
    (closed before 34 bs string_kind (n + 1) 34 refl refl size
    (string_last (Some 34) bs n is)) (λ m. refl)
    (λ offset h. closed_stays offset 34 bs string_kind n (literal_cut (Some n) bs)
    (literal_cut (Some n) (behind offset)) refl refl refl size refl refl
    (ap (λ o. literal_cut o (behind offset))
    (string_kept bs (moved (drop (string_length bs) bs) offset) (ap is_closed is) ∙ is)) refl) where
      size : string_length bs ≡ n + 1
      size = sym (ap (λ o. closed_size o (length bs)) (sym is) ∙ string_size bs)

      behind : ℤ × ℤ → List ℕ
      behind offset =
          take (string_length bs) bs ++ moved (drop (string_length bs) bs) offset

no_quote : (b : ℕ) → is_word_byte b ≡ true → eqb b 58 ≡ false → eqb b 39 ≡ false
no_quote b is colon = grind (arith, nat_tests)

quotes_skipped : (before : Option ℕ) (bs : List ℕ) (o : Option ℕ) →
    quotes_end bs ≡ o → Skipped before (39 ∷ bs)
quotes_skipped before bs None is =
    let whole = sym (ap (λ o. closed_size o (length bs)) (sym is) ∙ quoted_size bs) in
    cut_skipped before None 39 bs (closed_cut 39 quotes None bs) refl
    (ap (λ o. closed_cut 39 quotes o bs) is) refl
    (unclosed before 39 bs quoted_kind (length bs) refl refl whole refl) (λ m. refl)
    (λ offset h. unclosed_stays offset 39 bs quoted_kind (closed_cut 39 quotes None bs) refl
    refl refl whole (ap (λ o. closed_cut 39 quotes o bs) is) refl)
quotes_skipped before bs (Some n) is =
    cut_skipped before (Some 39) 39 bs (closed_cut 39 quotes (Some n) bs) refl
    (ap (λ o. closed_cut 39 quotes o bs) is) refl
    (closed before 39 bs quoted_kind (n + 1) 39 refl refl size
    (quoted_last (Some 39) bs n is)) (λ m. refl)
    (λ offset h. closed_stays offset 39 bs quoted_kind n (closed_cut 39 quotes (Some n) bs)
    (closed_cut 39 quotes (Some n) (behind offset)) refl refl refl size refl refl
    (ap (λ o. closed_cut 39 quotes o (behind offset))
    (quotes_kept bs (moved (drop (quoted_length bs) bs) offset) (ap is_closed is)
    (no_apostrophe offset) ∙ is))
    (ap quotes (taken_kept n (quoted_length bs) bs (moved (drop (quoted_length bs) bs) offset)
    (omega (arith, size)) (length_behind-le quoted_kind bs)))) where
      size : quoted_length bs ≡ n + 1
      size = sym (ap (λ o. closed_size o (length bs)) (sym is) ∙ quoted_size bs)

      behind : ℤ × ℤ → List ℕ
      behind offset = take (quoted_length bs) bs ++ moved (drop (quoted_length bs) bs) offset

      no_apostrophe : (offset : ℤ × ℤ) →
          begins (λ c. eqb c 39) (moved (drop (quoted_length bs) bs) offset) ≡ false
      no_apostrophe offset =
          moved_begins offset (λ c. eqb c 39) no_quote refl (drop (quoted_length bs) bs)
          (quotes_over bs (ap is_closed is))

brackets_skipped : (before : Option ℕ) (bs : List ℕ) (o : Option ℕ) →
    brackets_end 0 bs ≡ o → Skipped before (91 ∷ bs)
brackets_skipped before bs None is =
    let whole = sym (ap (λ o. closed_size o (length bs)) (sym is) ∙ group_size 0 bs) in
    cut_skipped before None 91 bs (closed_cut 91 brackets None bs) refl
    (ap (λ o. closed_cut 91 brackets o bs) is) refl
    (unclosed before 91 bs group_kind (length bs) refl refl whole refl) (λ m. refl)
    (λ offset h. unclosed_stays offset 91 bs group_kind (closed_cut 91 brackets None bs) refl
    refl refl whole (ap (λ o. closed_cut 91 brackets o bs) is) refl)
brackets_skipped before bs (Some n) is =
    cut_skipped before (Some 93) 91 bs (closed_cut 91 brackets (Some n) bs) refl
    (ap (λ o. closed_cut 91 brackets o bs) is) refl
    (closed before 91 bs group_kind (n + 1) 93 refl refl size
    (group_last (Some 91) 0 bs n is)) (λ m. refl)
    (λ offset h. closed_stays offset 91 bs group_kind n (closed_cut 91 brackets (Some n) bs)
    (closed_cut 91 brackets (Some n) (behind offset)) refl refl refl size refl refl
    (ap (λ o. closed_cut 91 brackets o (behind offset))
    (brackets_kept 0 bs (moved (drop (group_length 0 bs) bs) offset) (ap is_closed is) ∙ is))
    (ap brackets (taken_kept n (group_length 0 bs) bs (moved (drop (group_length 0 bs) bs) offset)
    (omega (arith, size)) (length_behind-le group_kind bs)))) where
      size : group_length 0 bs ≡ n + 1
      size = sym (ap (λ o. closed_size o (length bs)) (sym is) ∙ group_size 0 bs)

      behind : ℤ × ℤ → List ℕ
      behind offset = take (group_length 0 bs) bs ++ moved (drop (group_length 0 bs) bs) offset

-- ---- errors

-- a text that goes on begins with a word or a colon
begins_on : (text : List ℕ) → begins is_word_byte text ≡ true → starts_on (tokens text) ≡ true
begins_on [] is = absurd (cc)
begins_on (b ∷ bs) is = by_test (is_name_byte b) refl where
  colon_of : is_name_byte b ≡ false → b ≡ 58
  colon_of name = grind (arith, nat_tests)

  by_test : (t : Bool) → is_name_byte b ≡ t → starts_on (tokens (b ∷ bs)) ≡ true
  by_test true name =
      ap starts_on (tokens-cons b bs ∙ ap (λ t. (cond t (word_cut b bs) (other_cut b bs)).token
      ∷ tokens (drop (cond t (word_cut b bs) (other_cut b bs)).size bs)) name)
  by_test false name =
      ap (λ b. starts_on (tokens (b ∷ bs))) (colon_of name)
      ∙ ap starts_on (other_token 58 bs refl)

pub not_on : (text : List ℕ) → starts_on (tokens text) ≡ false → begins is_word_byte text ≡ false
not_on text none = by_test (begins is_word_byte text) refl where
  by_test : (t : Bool) → begins is_word_byte text ≡ t → t ≡ false
  by_test false is = refl
  by_test true is = let never : true ≡ false = sym (begins_on text is) ∙ none in never

apart_behind : (a b : Bool) → (not (true && a) && b) ≡ true → a ≡ false
apart_behind true b e = absurd (cc)
apart_behind false b e = refl

-- behind an error no Word begins
error_ends : (t : TokenText) (text rest : List ℕ) → is_error_token t ≡ true →
    tokens text ≡ t ∷ tokens rest → are_errors_apart (tokens text) ≡ true →
    begins is_word_byte rest ≡ false
error_ends t text rest error are apart =
    not_on rest
    (apart_behind (starts_on (tokens rest)) (are_errors_apart (tokens rest))
    (ap (λ e. not (e && starts_on (tokens rest)) && are_errors_apart (tokens rest)) (sym error)
    ∙ sym (ap are_errors_apart are) ∙ apart))

error_skipped : (before : Option ℕ) (bs : List ℕ) (t : TokenText) (n : ℕ) → is_error_token t
    ≡ true →
    goes_on_in_word t ≡ false → is_mark_token t ≡ false → other_cut 35 bs ≡ record {
      token =
          t;
      size = n;
    } →
    list_all is_error_byte (take n bs) ≡ true → are_errors_apart (tokens (35 ∷ bs)) ≡ true →
    ((xs : List ℕ) → other_cut 35 (take n bs ++ xs) ≡ record { token = t; size = n }) →
    length (take n bs) ≡ n → Skipped before (35 ∷ bs)
error_skipped before bs t n error no_word no_mark cut all apart kept long =
    let are : tokens (35 ∷ bs) ≡ t ∷ tokens (drop n bs) = other_token 35 bs refl
    ∙ ap (λ (c : TokenCut). c.token ∷ tokens (drop c.size bs)) cut in
    let stops = error_ends t (35 ∷ bs) (drop n bs) error are apart in
    let split : take n bs ++ drop n bs ≡ bs = take-append-drop n bs in
    let skips = errors_skip (Some 35) (take n bs) (drop n bs) all stops in
    let behind : Passes (Some 35) bs None (drop n bs) [] =
    passes_free (Some 35) bs skips.after (drop n bs) [] stops
    (subst (λ text. Passes (Some 35) text skips.after (drop n bs) []) split
    (skips_pass (Some 35) (take n bs ++ drop n bs) (drop n bs) skips)) in
    cut_skipped before None 35 bs (record { token = t; size = n }) refl cut no_word
    (passes_on before (35 ∷ bs) (Some 35) bs [] None (drop n bs) []
    (passes_same before (35 ∷ bs) (Some 35) bs (other_step before 35 bs refl)) behind)
    (λ m. refl)
    (λ offset h. stays_cut offset 35 bs (take n bs ++ moved (drop n bs) offset)
    (record { token = t; size = n }) (record { token = t; size = n }) refl
    (other_moved offset 35 bs refl
    ∙ ap (λ t. 35 ∷ moved t offset) (sym split)
    ∙ ap (λ t. 35 ∷ t) (skips.stays offset)
    ∙ ap (λ xs. 35 ∷ (xs ++ moved (drop n bs) offset))
    (same_front skips.bytes (take n bs) (drop n bs) (sym skips.text_is)))
    (kept (moved (drop n bs) offset)) refl
    (drop_at (take n bs) (moved (drop n bs) offset) n long))

hash_is : (bs : List ℕ) → is_begun_by (codes "REF!") bs ≡ false →
    other_cut 35 bs ≡ failure_cut (word_size failures bs)
hash_is bs none =
    ap (λ t. cond t (record { token = lost; size = 4 }) (failure_cut (word_size failures bs))) none

-- behind a `#` that is no error begins no word
hash_behind : (a b : Bool) → (not (true && a) && b) ≡ true → a ≡ false
hash_behind true b e = absurd (cc)
hash_behind false b e = refl

pub begins_word : (text : List ℕ) → begins is_name_byte text ≡ true →
    starts_word (tokens text) ≡ true
begins_word [] is = absurd (cc)
begins_word (b ∷ bs) is =
    ap starts_word (tokens-cons b bs ∙ ap (λ t. (cond t (word_cut b bs) (other_cut b bs)).token
    ∷ tokens (drop (cond t (word_cut b bs) (other_cut b bs)).size bs)) is)

pub not_named : (text : List ℕ) → starts_word (tokens text) ≡ false →
    begins is_name_byte text ≡ false
not_named text none = by_test (begins is_name_byte text) refl where
  by_test : (t : Bool) → begins is_name_byte text ≡ t → t ≡ false
  by_test false is = refl
  by_test true is = let never : true ≡ false = sym (begins_word text is) ∙ none in never

hash_ends : (bs : List ℕ) → other_cut 35 bs ≡ record { token = sign 35; size = 0 } →
    are_hashes_apart (tokens (35 ∷ bs)) ≡ true → begins is_name_byte bs ≡ false
hash_ends bs cut hashes =
    let are : tokens (35 ∷ bs) ≡ sign 35 ∷ tokens bs = other_token 35 bs refl
    ∙ ap (λ (c : TokenCut). c.token ∷ tokens (drop c.size bs)) cut in
    not_named bs
    (hash_behind (starts_word (tokens bs)) (are_hashes_apart (tokens bs))
    (sym (ap are_hashes_apart are) ∙ hashes))

letter_named : (b : ℕ) → is_name_byte b ≡ false → is_ascii_alphabetic b ≡ false
letter_named b none = grind (arith, nat_tests)

no_letter_first : (text : List ℕ) → begins is_name_byte text ≡ false →
    begins is_ascii_alphabetic text ≡ false
no_letter_first [] none = refl
no_letter_first (b ∷ bs) none = letter_named b none

no_letter : (offset : ℤ × ℤ) (bs : List ℕ) → begins is_name_byte bs ≡ false →
    begins (λ b. b == 58) bs ≡ false → begins is_ascii_alphabetic (moved bs offset) ≡ false
no_letter offset bs none colon =
    begins_kept offset is_ascii_alphabetic bs (no_word_first bs none colon)
    ∙ no_letter_first bs none

failure_skipped : (before : Option ℕ) (bs : List ℕ) (o : Option ℕ) →
    is_begun_by (codes "REF!") bs ≡ false → word_size failures bs ≡ o →
    IfSome o (λ n. list_all is_error_byte (take n bs) ≡ true) →
    are_errors_apart (tokens (35 ∷ bs)) ≡ true → begins (λ b. b == 58) bs ≡ false →
    Skipped before (35 ∷ bs)
failure_skipped before bs None no_lost is all apart colon =
    let cut = hash_is bs no_lost ∙ ap failure_cut is in
    cut_skipped before (Some 35) 35 bs (record { token = sign 35; size = 0 }) refl cut refl
    (passes_same before (35 ∷ bs) (Some 35) bs (other_step before 35 bs refl)) (λ m. refl)
    (λ offset h.
    let none = no_error (moved bs offset) (no_letter offset bs (hash_ends bs cut h) colon) in
    stays_cut offset 35 bs (moved bs offset) (record { token = sign 35; size = 0 })
    (record { token = sign 35; size = 0 }) refl (other_moved offset 35 bs refl)
    (hash_is (moved bs offset) none.0 ∙ ap failure_cut none.1) refl refl)
failure_skipped before bs (Some n) no_lost is all apart colon =
    error_skipped before bs failure n refl refl refl (hash_is bs no_lost ∙ ap failure_cut is) all
    apart
    (λ xs. let kept = failure_kept bs xs n no_lost is in
    hash_is (take n bs ++ xs) kept.0 ∙ ap failure_cut kept.1) (failure_length bs n is)

hash_skipped : (before : Option ℕ) (bs : List ℕ) → are_errors_apart (tokens (35 ∷ bs)) ≡ true →
    begins (λ b. b == 58) bs ≡ false → Skipped before (35 ∷ bs)
hash_skipped before bs apart colon = by_test (is_begun_by (codes "REF!") bs) refl where
  by_test : (t : Bool) → is_begun_by (codes "REF!") bs ≡ t → Skipped before (35 ∷ bs)
  by_test true is =
      error_skipped before bs lost 4 refl refl refl
      (ap (λ t. cond t (record { token = lost; size = 4 }) (failure_cut (word_size failures bs)))
      is) (lost_all bs is) apart
      (λ xs. ap (λ t. cond t (record { token = lost; size = 4 })
      (failure_cut (word_size failures (take 4 bs ++ xs)))) (begun_kept (codes "REF!") bs xs is))
      (begun_length (codes "REF!") bs is)
  by_test false is =
      failure_skipped before bs (word_size failures bs) is refl (failure_all bs) apart
      colon

-- ---- blanks

-- bytes of an Other are passed by
pub others_pass : (before : Option ℕ) (xs rest : List ℕ) → list_all is_other_byte xs ≡ true →
    words_in before (xs ++ rest) ≡ words_in (last_byte before xs) rest
others_pass before [] rest all = refl
others_pass before (x ∷ xs) rest all =
    let both = both_true (is_other_byte x) (list_all is_other_byte xs) all in
    other_step before x (xs ++ rest) both.0 ∙ others_pass (Some x) xs rest both.1

-- the last of bytes that pass
pub last_passes : (p : ℕ → Bool) (b : ℕ) (xs : List ℕ) → p b ≡ true → list_all p xs ≡ true →
    (c : ℕ) × (last_byte (Some b) xs ≡ Some c) × (p c ≡ true)
last_passes p b [] own all = (b, refl, own)
last_passes p b (x ∷ xs) own all =
    let both = both_true (p x) (list_all p xs) all in last_passes p x xs both.0 both.1

blank_other : (b : ℕ) → is_blank_byte b ≡ true → is_other_byte b ≡ true
blank_other b is = grind (arith, nat_tests)

blank_own : (b : ℕ) → is_blank_byte b ≡ true → eqb b 33 ≡ false
blank_own b is = grind (arith, nat_tests)

blanks_plain : (n : ℕ) (bs : List ℕ) → begins (λ b. b == 58) bs ≡ false →
    blanks_before n bs ≡ record { token = blank; size = n }
blanks_plain n [] none = refl
blanks_plain n (b ∷ bs) none =
    ap (λ t. cond t (record {
      token = sign 58;
      size = n + 1 + prefix_len is_blank_byte bs;
    }) (record { token = blank; size = n })) none

others_stay : (offset : ℤ × ℤ) (xs rest : List ℕ) → list_all is_other_byte xs ≡ true →
    moved (xs ++ rest) offset ≡ xs ++ moved rest offset
others_stay offset [] rest all = refl
others_stay offset (x ∷ xs) rest all =
    let both = both_true (is_other_byte x) (list_all is_other_byte xs) all in
    other_moved offset x (xs ++ rest) both.0
    ∙ ap (λ t. x ∷ t) (others_stay offset xs rest both.1)

no_blank : (b : ℕ) → is_word_byte b ≡ true → eqb b 58 ≡ false → is_blank_byte b ≡ false
no_blank b is colon = grind (arith, nat_tests)

blank_cut_is : (b : ℕ) (bs : List ℕ) → is_blank_byte b ≡ true → other_cut b bs ≡ blank_cut bs
blank_cut_is b bs white =
    ap (λ t. cond t (blank_cut bs) (cond (b == 58) (colon_cut bs)
    (cond (b == 34) (literal_cut (position (λ c. c == 34) bs) bs)
    (cond (b == 39) (closed_cut b quotes (quotes_end bs) bs)
    (cond (b == 91) (closed_cut b brackets (brackets_end 0 bs) bs)
    (cond (b == 35) (hash_cut bs) (record { token = sign b; size = 0 }))))))) white

blank_stays : (offset : ℤ × ℤ) (b : ℕ) (bs : List ℕ) → is_name_byte b ≡ false →
    is_blank_byte b ≡ true →
    begins (λ c. c == 58) (drop (prefix_len is_blank_byte bs) bs) ≡ false →
    tokens (moved (b ∷ bs) offset)
    ≡ blank ∷ tokens (moved (drop (prefix_len is_blank_byte bs) bs) offset)
blank_stays offset b bs name white none =
    let n = prefix_len is_blank_byte bs in
    let xs = take n bs in
    let new = moved (drop n bs) offset in
    let split : b ∷ bs ≡ (b ∷ xs) ++ drop n bs =
    ap (λ t. b ∷ t) (sym (take-append-drop n bs)) in
    let all : list_all is_blank_byte (b ∷ xs) ≡ true =
    λ i. white i && run_passes is_blank_byte bs i in
    let stops : begins is_blank_byte new ≡ false =
    moved_begins offset is_blank_byte no_blank refl (drop n bs) (run_over is_blank_byte bs) in
    let apart : begins (λ c. c == 58) new ≡ false =
    moved_begins offset (λ c. c == 58) (λ b word colon. colon) refl (drop n bs) none in
    let long : length xs ≡ n = length-take-le n bs (prefix_len-le-length is_blank_byte bs) in
    let run : prefix_len is_blank_byte (xs ++ new) ≡ n =
    run_is is_blank_byte xs new (run_passes is_blank_byte bs) stops ∙ long in
    let dropped : drop (prefix_len is_blank_byte (xs ++ new)) (xs ++ new) ≡ new =
    drop_at xs new (prefix_len is_blank_byte (xs ++ new)) (long ∙ sym run) in
    stays_cut offset b bs (xs ++ new) (record { token = blank; size = n })
    (record { token = blank; size = n }) name
    (ap (λ t. moved t offset) split
    ∙ others_stay offset (b ∷ xs) (drop n bs)
    (all_tell is_blank_byte is_other_byte blank_other (b ∷ xs) all))
    (blank_cut_is b (xs ++ new) white
    ∙ (λ i. blanks_before (run i) (dropped i)) ∙ blanks_plain n new apart) refl
    (drop_at xs new n long)

blank_skipped : (before : Option ℕ) (b : ℕ) (bs : List ℕ) → is_name_byte b ≡ false →
    is_blank_byte b ≡ true → AreAlike before (b ∷ bs) → Skipped before (b ∷ bs)
blank_skipped before b bs name white alike =
    let n = prefix_len is_blank_byte bs in
    let xs = take n bs in
    let split : b ∷ bs ≡ (b ∷ xs) ++ drop n bs =
    ap (λ t. b ∷ t) (sym (take-append-drop n bs)) in
    let all : list_all is_blank_byte (b ∷ xs) ≡ true =
    λ i. white i && run_passes is_blank_byte bs i in
    let last = last_passes is_blank_byte b xs white (run_passes is_blank_byte bs) in
    let words : words_in before (b ∷ bs) ≡ words_in (last_byte (Some b) xs) (drop n bs) =
    ap (words_in before) split
    ∙ others_pass before (b ∷ xs) (drop n bs)
    (all_tell is_blank_byte is_other_byte blank_other (b ∷ xs) all) in
    let passes = passes_same before (b ∷ bs) (last_byte (Some b) xs) (drop n bs) words in
    let none = no_colon_first (last_byte (Some b) xs) (drop n bs) (passes.alike alike) in
    cut_skipped before (last_byte (Some b) xs) b bs (record { token = blank; size = n }) name
    (ap (λ t. cond t (blank_cut bs) (cond (b == 58) (colon_cut bs)
    (cond (b == 34) (literal_cut (position (λ c. c == 34) bs) bs)
    (cond (b == 39) (closed_cut b quotes (quotes_end bs) bs)
    (cond (b == 91) (closed_cut b brackets (brackets_end 0 bs) bs)
    (cond (b == 35) (hash_cut bs) (record { token = sign b; size = 0 }))))))) white
    ∙ blanks_plain n (drop n bs) none) refl passes
    (λ m. ap is_elsewhere last.1 ∙ blank_own last.0 last.2)
    (λ offset h. blank_stays offset b bs name white none)

-- ---- all of them

sign_other : (b : ℕ) → is_name_byte b ≡ false → (b == 58) ≡ false → (b == 34) ≡ false →
    (b == 39) ≡ false → (b == 91) ≡ false → is_other_byte b ≡ true
sign_other b name two double single bracket = grind (arith, nat_tests)

pub skipped : (before : Option ℕ) (b : ℕ) (bs : List ℕ) → is_name_byte b ≡ false →
    AreAlike before (b ∷ bs) → are_errors_apart (tokens (b ∷ bs)) ≡ true →
    Skipped before (b ∷ bs)
skipped before b bs name alike apart =
    by_tests (is_blank_byte b) (eqb b 58) (eqb b 34) (eqb b 39) (eqb b 91) (eqb b 35)
    refl refl refl refl refl refl where
      cut_is : is_blank_byte b ≡ false → eqb b 58 ≡ false → eqb b 34 ≡ false →
          eqb b 39 ≡ false → eqb b 91 ≡ false → eqb b 35 ≡ false → (bs : List ℕ) →
          other_cut b bs ≡ record { token = sign b; size = 0 }
      cut_is w t d s o h bs =
          (λ i. cond (w i) (blank_cut bs) (cond (t i) (colon_cut bs)
          (cond (d i) (literal_cut (position (λ c. c == 34) bs) bs)
          (cond (s i) (closed_cut b quotes (quotes_end bs) bs)
          (cond (o i) (closed_cut b brackets (brackets_end 0 bs) bs)
          (cond (h i) (hash_cut bs) (record { token = sign b; size = 0 })))))))

      by_tests : (white two double single bracket hash : Bool) → is_blank_byte b ≡ white →
          eqb b 58 ≡ two → eqb b 34 ≡ double → eqb b 39 ≡ single → eqb b 91 ≡ bracket →
          eqb b 35 ≡ hash → Skipped before (b ∷ bs)
      by_tests true two double single bracket hash w t d s o h =
          blank_skipped before b bs name w alike
      by_tests false true double single bracket hash w t d s o h =
          let never : true ≡ false = sym t ∙ no_colon_first before (b ∷ bs) alike in absurd (cc)
      by_tests false false true single bracket hash w t d s o h =
          subst (λ b. Skipped before (b ∷ bs)) (sym (is_it b 34 d))
          (literal_skipped before bs (position (λ c. c == 34) bs) refl)
      by_tests false false false true bracket hash w t d s o h =
          subst (λ b. Skipped before (b ∷ bs)) (sym (is_it b 39 s))
          (quotes_skipped before bs (quotes_end bs) refl)
      by_tests false false false false true hash w t d s o h =
          subst (λ b. Skipped before (b ∷ bs)) (sym (is_it b 91 o))
          (brackets_skipped before bs (brackets_end 0 bs) refl)
      by_tests false false false false false true w t d s o h =
          let b_is : b ≡ 35 = is_it b 35 h in
          subst (λ b. Skipped before (b ∷ bs)) (sym b_is)
          (hash_skipped before bs
          (subst (λ b. are_errors_apart (tokens (b ∷ bs)) ≡ true) b_is apart)
          (no_colon_first (Some 35) bs
          (sym (ap (list_all is_one_word) (other_step before 35 bs refl))
          ∙ subst (λ b. AreAlike before (b ∷ bs)) b_is alike)))
      by_tests false false false false false false w t d s o h =
          let other = sign_other b name t d s o in
          cut_skipped before (Some b) b bs (record { token = sign b; size = 0 }) name
          (cut_is w t d s o h bs) t
          (passes_same before (b ∷ bs) (Some b) bs (other_step before b bs other)) (λ m. m)
          (λ offset hashes. stays_cut offset b bs (moved bs offset)
          (record { token = sign b; size = 0 }) (record { token = sign b; size = 0 }) name
          (other_moved offset b bs other) (cut_is w t d s o h (moved bs offset)) refl refl)
