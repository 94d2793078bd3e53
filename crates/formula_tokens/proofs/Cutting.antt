-- Where a text may be cut behind its first token, and what follows a token and an item.
use Rattle.std.proofs.Common.{◌≡◌, ℕ, zero, suc, ◌+◌, ◌<◌, ◌≤◌, ◌↔◌, Bool, true, false, List, []}
use Rattle.std.proofs.Common.{◌∷◌, length, get_or, drop, IsUtf8, IsTrue, refl, ap, ◌∙◌, sym, subst}
use Rattle.std.proofs.Common.{add-one, arith, cond, take}
use Rattle.std.specs.Prelude.{Option, None, Some, MatchOption, option_map}
use Rattle.std.specs.List.{slice_get, prefix_len}
use Rattle.std.proofs.lemmas.List.{drop-drop}
use Rattle.std.proofs.lemmas.Bool.Decides.{same_from_decides, nat_tests}
use Rattle.std.proofs.lemmas.Slice.Eq.{bytes_eq-Decides}
use Rattle.std.specs.Str.{IsCharBoundary, bytes_eq}
use Rattle.std.proofs.lemmas.List.Sums.{prefix_len-le-length, prefix_len_passes, prefix_len_stops}
use Rattle.std.proofs.lemmas.Str.{IsCharBoundary-after_ascii, IsCharBoundary-start}
use Rattle.formula_tokens.specs.Tokens.{TokenText, is_name_byte, is_blank_byte, first_cut}
use Rattle.formula_tokens.specs.Tokens.{tokens_behind, tokens, word, word_cut, other_cut, IsCutAs}
use Rattle.formula_tokens.specs.declared.token.Token.{Token}
use Rattle.formula_tokens.specs.Told.{token_text}
use Rattle.formula_tokens.specs.Items.{ItemCutText, first_item, items_behind}

-- a test that holds of lists that are the same is the comparison of their bytes
pub same_word : (b : Bool) (xs ys : List ℕ) → (IsTrue b ↔ (xs ≡ ys)) → b ≡ bytes_eq xs ys
same_word b xs ys tells = same_from_decides b (bytes_eq xs ys) tells (bytes_eq-Decides xs ys)

-- a byte of another character is in names
other_in_name : (b : ℕ) → 128 ≤ b → is_name_byte b ≡ false → 192 ≤ b
other_in_name b other stops = grind (arith, nat_tests)

-- a text may be cut behind the bytes of names that it begins with
pub name_boundary : (text : List ℕ) (n : ℕ) → n ≡ prefix_len is_name_byte text →
    IsCharBoundary text n
name_boundary text n is = (
  omega (arith, is, prefix_len-le-length is_name_byte text),
  λ lt other. other_in_name (get_or text n 0) other (ap (λ k. is_name_byte (get_or text k 0)) is
      ∙ prefix_len_stops is_name_byte text 0 (omega (arith, is, lt))),
)

pub blank_is_ascii : (b : ℕ) → is_blank_byte b ≡ true → b < 128
blank_is_ascii b is = grind (arith, nat_tests)

-- a text may be cut behind the blanks that it begins with
pub blank_boundary : (text : List ℕ) (n : ℕ) → IsUtf8 text → n ≡ prefix_len is_blank_byte text →
    IsCharBoundary text n
blank_boundary text zero utf8 is = IsCharBoundary-start text utf8
blank_boundary text (suc n) utf8 is =
    let last : get_or text n 0 < 128 =
    blank_is_ascii (get_or text n 0)
    (prefix_len_passes is_blank_byte text n 0 (omega (arith, is))) in
    let within : n < length text = omega (arith, is, prefix_len-le-length is_blank_byte text) in
    subst (IsCharBoundary text) (add-one n) (IsCharBoundary-after_ascii text n utf8 within last)

-- what follows the first n bytes is cut as a text of its own
tokens_behind-drop : (n : ℕ) (bs : List ℕ) → tokens_behind n bs ≡ tokens_behind 0 (drop n bs)
unfolding tokens_behind
tokens_behind-drop zero [] = refl
tokens_behind-drop (suc n) [] = refl
tokens_behind-drop zero (b ∷ bs) = refl
tokens_behind-drop (suc n) (b ∷ bs) = tokens_behind-drop n bs

pub tokens-nil : tokens [] ≡ []
unfolding tokens tokens_behind
tokens-nil = refl

pub tokens-cons : (b : ℕ) (bs : List ℕ) →
    tokens (b ∷ bs) ≡ (first_cut b bs).token ∷ tokens (drop (first_cut b bs).size bs)
unfolding tokens tokens_behind
tokens-cons b bs = ap (λ ts. (first_cut b bs).token ∷ ts)
    (tokens_behind-drop (first_cut b bs).size bs)

-- what follows the first n tokens is put together by itself
items_behind-drop : (n : ℕ) (ts : List TokenText) → items_behind n ts ≡ items_behind 0 (drop n ts)
unfolding items_behind
items_behind-drop zero [] = refl
items_behind-drop (suc n) [] = refl
items_behind-drop zero (t ∷ ts) = refl
items_behind-drop (suc n) (t ∷ ts) = items_behind-drop n ts

pub items_behind-nil : items_behind 0 [] ≡ []
unfolding items_behind
items_behind-nil = refl

pub items_behind-cons : (t : TokenText) (ts : List TokenText) →
    items_behind 0 (t ∷ ts)
    ≡ (first_item t ts).item ∷ items_behind 0 (drop (first_item t ts).size ts)
unfolding items_behind
items_behind-cons t ts = ap (λ xs. (first_item t ts).item ∷ xs)
    (items_behind-drop (first_item t ts).size ts)

-- ---- the first token of a text

text_begins : (text : List ℕ) (b : ℕ) → slice_get text 0 ≡ Some b → text ≡ b ∷ drop 1 text
text_begins [] b is = cc
text_begins (x ∷ xs) b is = cc

-- a text of this byte and those behind it
module _ (text : List ℕ) (b : ℕ) (begins : slice_get text 0 ≡ Some b) where
  starts : text ≡ b ∷ drop 1 text
  starts = text_begins text b begins

  pub word_first : (front after : List ℕ) → is_name_byte b ≡ true →
      front ≡ take (prefix_len is_name_byte text) text →
      after ≡ drop (prefix_len is_name_byte text) text →
      tokens text ≡ word front ∷ tokens after
  word_first front after in_name front_is after_is =
      let bs = drop 1 text in
      let n = prefix_len is_name_byte bs in
      let whole : prefix_len is_name_byte text ≡ suc n = ap (prefix_len is_name_byte) starts
      ∙ ap (λ t. cond t (1 + n) 0) in_name ∙ omega arith in
      let front_now : front ≡ b ∷ take n bs = front_is ∙ ap (λ k. take k text) whole
      ∙ ap (take (suc n)) starts in
      let after_now : after ≡ drop n bs = after_is ∙ ap (λ k. drop k text) whole
      ∙ ap (drop (suc n)) starts in
      ap tokens starts ∙ tokens-cons b bs
      ∙ ap (λ t. (cond t (word_cut b bs) (other_cut b bs)).token
      ∷ tokens (drop (cond t (word_cut b bs) (other_cut b bs)).size bs)) in_name
      ∙ (λ i. word (sym front_now i) ∷ tokens (sym after_now i))

  pub token_first : (behind rest : List ℕ) (token : TokenText) → behind ≡ drop 1 text →
      is_name_byte b ≡ false → IsCutAs (other_cut b behind) behind token rest →
      tokens text ≡ token ∷ tokens rest
  token_first behind rest token is no_name cut =
      ap tokens (starts ∙ ap (λ t. b ∷ t) (sym is)) ∙ tokens-cons b behind
      ∙ ap (λ t. (cond t (word_cut b behind) (other_cut b behind)).token
      ∷ tokens (drop (cond t (word_cut b behind) (other_cut b behind)).size behind)) no_name
      ∙ (λ i. sym cut.is_token i ∷ tokens (sym cut.is_rest i))

-- what an iterator has left behind a token, where it had these left
pub one_more : (ts before after : List TokenText) (n : ℕ) (found : Option Token) →
    before ≡ drop n ts →
    MatchOption found ((before ≡ []) × (after ≡ [])) (λ x. before ≡ token_text x ∷ after) →
    after ≡ drop (n + 1) ts
one_more ts before after n None left none =
    none.1 ∙ sym (past none.0) where
      past : before ≡ [] → drop (n + 1) ts ≡ []
      past nothing = sym (drop-drop 1 n ts ∙ ap (λ k. drop k ts) (omega arith))
          ∙ ap (drop 1) (sym left ∙ nothing)
one_more ts before after n (Some x) left some =
    ap (drop 1) (sym some) ∙ ap (drop 1) left ∙ drop-drop 1 n ts
    ∙ ap (λ k. drop k ts) (omega arith)

-- a token by its number, of what an iterator has left behind those before it
slice_get-drop : (n : ℕ) (ts : List TokenText) → slice_get (drop n ts) 0 ≡ slice_get ts n
slice_get-drop zero ts = refl
slice_get-drop (suc n) [] = refl
slice_get-drop (suc n) (t ∷ ts) = slice_get-drop n ts

pub taken_at : (ts before after : List TokenText) (n : ℕ) (found : Option Token) →
    before ≡ drop n ts →
    MatchOption found ((before ≡ []) × (after ≡ [])) (λ x. before ≡ token_text x ∷ after) →
    option_map token_text found ≡ slice_get ts n
taken_at ts before after n None left none =
    ap (λ l. slice_get l 0) (sym none.0 ∙ left) ∙ slice_get-drop n ts
taken_at ts before after n (Some x) left some =
    ap (λ l. slice_get l 0) (sym some ∙ left) ∙ slice_get-drop n ts

-- a text without a first byte has no tokens
pub none_left : (text : List ℕ) → None ≡ slice_get text 0 → tokens text ≡ []
none_left [] none = tokens-nil
none_left (b ∷ bs) none = cc

-- ---- the first item of tokens

pub items_none : (ts : List TokenText) → ts ≡ [] → items_behind 0 ts ≡ []
items_none ts none = ap (items_behind 0) none ∙ items_behind-nil

pub items_first : (ts rest left : List TokenText) (t : TokenText) (cut : ItemCutText) →
    ts ≡ t ∷ rest → cut ≡ first_item t rest → left ≡ drop cut.size rest →
    items_behind 0 ts ≡ cut.item ∷ items_behind 0 left
items_first ts rest left t cut starts is left_is =
    ap (items_behind 0) starts ∙ items_behind-cons t rest
    ∙ ap (λ (c : ItemCutText). c.item ∷ items_behind 0 (drop c.size rest)) (sym is)
    ∙ ap (λ l. cut.item ∷ items_behind 0 l) (sym left_is)
