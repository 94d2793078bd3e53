-- Escapes, run by run.
use Rattle.std.proofs.Common.{◌≡◌, ℕ, zero, suc, ◌+◌, ◌<◌, ◌≤◌, Bool, true, false, ◌&&◌, List, []}
use Rattle.std.proofs.Common.{◌∷◌, ◌++◌, length, take, drop, get_or, Option, Some, None, refl, sym}
use Rattle.std.proofs.Common.{ap, ◌∙◌, arith, append_assoc, append-nil, length-drop}
use Rattle.std.specs.Prelude.{◌==◌, ◌||◌, nat_le, encode_utf8}
use Rattle.std.specs.List.{list_any}
use Rattle.std.specs.Str.Parse.{digits_value}
use Rattle.std.proofs.lemmas.Bool.{eqb-true, leb-true}
use Rattle.std.proofs.lemmas.Option.{cond_some}
use Rattle.std.proofs.lemmas.List.{at_drop_more, take_more, drop-drop, get_or-drop, drop_all}
use Rattle.std.proofs.lemmas.List.{take_all}
use lib.Utf8.{scalar}
use Rattle.attr_text.specs.Text.{begins_with_escape, all_digits, escaped_character, onto_unescaped}
use Rattle.attr_text.specs.Text.{unescaped_within, unescaped}
use Rattle.attr_text.specs.Escapes.{HasEscapeAt}

unescaped_within-skip : (text : List ℕ) (n : ℕ) →
    unescaped_within text n ≡ unescaped_within (drop n text) 0
unfolding unescaped_within
unescaped_within-skip [] zero = refl
unescaped_within-skip [] (suc n) = refl
unescaped_within-skip (b ∷ bs) zero = refl
unescaped_within-skip (b ∷ bs) (suc n) = unescaped_within-skip bs n

-- no escape begins the text
pub unescaped-byte : (b : ℕ) (bs : List ℕ) → escaped_character (b ∷ bs) ≡ None →
    unescaped (b ∷ bs) ≡ b ∷ unescaped bs
unfolding unescaped_within unescaped
unescaped-byte b bs none =
    ap (λ (o : Option ℕ). onto_unescaped o b (unescaped_within bs 0) (unescaped_within bs 6)) none

-- an escape begins the text
unescaped-escape : (b c : ℕ) (bs : List ℕ) → escaped_character (b ∷ bs) ≡ Some c →
    unescaped (b ∷ bs) ≡ encode_utf8 c ++ unescaped (drop 6 bs)
unfolding unescaped_within unescaped
unescaped-escape b c bs some =
    ap (λ (o : Option ℕ). onto_unescaped o b (unescaped_within bs 0) (unescaped_within bs 6)) some
    ∙ ap (λ (t : List ℕ). encode_utf8 c ++ t) (unescaped_within-skip bs 6)

-- one more byte that begins no escape
pub unescaped-more : (text : List ℕ) (i : ℕ) → i < length text →
    unescaped text ≡ take i text ++ unescaped (drop i text)
    → escaped_character (drop i text) ≡ None →
    unescaped text ≡ take (i + 1) text ++ unescaped (drop (i + 1) text)
unescaped-more text i within so_far none =
    let b = get_or text i 0 in
    let rest = drop (i + 1) text in
    let here : drop i text ≡ b ∷ rest = at_drop_more (λ (t : List ℕ). t) text i 0 within in
    so_far
    ∙ ap (λ (t : List ℕ). take i text ++ unescaped t) here
    ∙ ap (λ (t : List ℕ). take i text ++ t)
    (unescaped-byte b rest (ap escaped_character (sym here) ∙ none))
    ∙ sym (append_assoc (take i text) (b ∷ []) (unescaped rest))
    ∙ ap (λ (t : List ℕ). t ++ unescaped rest) (sym (take_more text i 0 within))

pub unescaped-nil : unescaped [] ≡ []
unfolding unescaped_within unescaped
unescaped-nil = refl

-- no escape was found
pub unescaped-end : (text : List ℕ) (i : ℕ) → length text ≤ i →
    unescaped text ≡ take i text ++ unescaped (drop i text) → unescaped text ≡ text
unescaped-end text i past so_far =
    so_far ∙ rw (take_all i text past, drop_all i text past, unescaped-nil, append-nil)

both : (a b : Bool) → (a && b) ≡ true → (a ≡ true) × (b ≡ true)
both true b e = (refl, e)
both false b e = cc

-- what an escape in front says of the text
starts : (text : List ℕ) (c : ℕ) → escaped_character text ≡ Some c →
    (7 ≤ length text) × (get_or text 0 0 ≡ 95) × (get_or text 6 0 ≡ 95)
starts text c some =
    let digits = take 4 (drop 2 text) in
    let number = digits_value 16 digits in
    let escape = both (begins_with_escape text) (scalar number)
    (cond_some (begins_with_escape text && scalar number) number c some).0 in
    let long = both (nat_le 7 (length text))
    (get_or text 0 0 == 95 &&
    (get_or text 1 0 == 120 && (get_or text 6 0 == 95 && all_digits 16 digits))) escape.0 in
    let first = both (get_or text 0 0 == 95)
    (get_or text 1 0 == 120 && (get_or text 6 0 == 95 && all_digits 16 digits)) long.1 in
    let second = both (get_or text 1 0 == 120) (get_or text 6 0 == 95 && all_digits 16 digits)
    first.1 in
    let last = both (get_or text 6 0 == 95) (all_digits 16 digits) second.1 in
    (leb-true 7 (length text) long.0, eqb-true _ _ first.0, eqb-true _ _ last.0)

-- an escape was found
pub HasEscapeAt-found : (text : List ℕ) (i c : ℕ) → i < length text →
    unescaped text ≡ take i text ++ unescaped (drop i text)
    → escaped_character (drop i text) ≡ Some c → HasEscapeAt text i c
HasEscapeAt-found text i c within so_far some =
    let b = get_or text i 0 in
    let rest = drop (i + 1) text in
    let here : drop i text ≡ b ∷ rest = at_drop_more (λ (t : List ℕ). t) text i 0 within in
    let facts = starts (drop i text) c some in
    let behind : drop 6 rest ≡ drop (i + 7) text = drop-drop 6 (i + 1) text
    ∙ ap (λ n. drop n text) (omega arith) in
    record {
      within = omega (arith, facts.0, length-drop i text);
      begins = ap (λ n. get_or text n 0) (omega arith) ∙ sym (get_or-drop i text 0 0) ∙ facts.1;
      ends = sym (get_or-drop i text 6 0) ∙ facts.2;
      splits = so_far
          ∙ ap (λ (t : List ℕ). take i text ++ unescaped t) here
          ∙ ap (λ (t : List ℕ). take i text ++ t)
          (unescaped-escape b c rest (ap escaped_character (sym here) ∙ some))
          ∙ ap (λ (t : List ℕ). take i text ++ (encode_utf8 c ++ unescaped t)) behind;
    }

-- an escape begins the text, and the rest stands behind its seven bytes
pub unescaped-seven : (text : List ℕ) (c : ℕ) → escaped_character text ≡ Some c →
    unescaped text ≡ encode_utf8 c ++ unescaped (drop 7 text)
unescaped-seven [] c some = absurd cc
unescaped-seven (b ∷ bs) c some = unescaped-escape b c bs some

-- no byte of the text begins an escape
no_escape : (b : ℕ) (rest : List ℕ) → (b == 95) ≡ false → escaped_character (b ∷ rest) ≡ None
no_escape b rest not_it = grind (arith)

either_false : (a b : Bool) → (a || b) ≡ false → (a ≡ false) × (b ≡ false)
either_false true b is = absurd cc
either_false false b is = (refl, is)

pub unescaped_plain : (text : List ℕ) → list_any (λ (b : ℕ). b == 95) text ≡ false
    → unescaped text ≡ text
unescaped_plain [] none = unescaped-nil
unescaped_plain (b ∷ rest) none =
    let both = either_false (b == 95) (list_any (λ (c : ℕ). c == 95) rest) none in
    unescaped-byte b rest (no_escape b rest both.0)
    ∙ ap (λ (own : List ℕ). b ∷ own) (unescaped_plain rest both.1)
