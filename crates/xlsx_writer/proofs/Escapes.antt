-- Texts that are written run by run: each run as it is, and what stands between them escaped.
use Rattle.std.proofs.Common.{◌≡◌, ℕ, ◌<◌, Bool, true, false, List, [], ◌∷◌, ◌++◌, length, refl}
use Rattle.std.proofs.Common.{sym, ap, ◌∙◌, arith, append_assoc, eqb-true, length-append, Option}
use Rattle.std.proofs.Common.{Some, None}
use Rattle.std.specs.Prelude.{codes, ◌==◌, if◌then◌else◌, Result, Ok, Err, OnOk, is_ok, is_some}
use Rattle.std.specs.Option.{unwrap_or}
use Rattle.std.proofs.lemmas.Grind.{flat_map-append}
use Rattle.part_events.specs.Words.{leaf, entity_ref}
use Rattle.written_markup.specs.Words.{run_events, text_events, underscores_escaped}
use Rattle.written_markup.specs.Words.{escaped_underscore, encoded, encoded_byte}
use Rattle.written_markup.proofs.EventsReadBack.{run_and_reference, none_there}
use Rattle.written_markup.proofs.TextsReadBack.{neither}
use Rattle.xlsx_writer.specs.Escaping.{escape_of, escaped_by, has_escape, IsCutAt}
use Rattle.xlsx_writer.specs.declared.escaping.Escaping.{Escaping}
use Rattle.xlsx_writer.specs.declared.escaping.Escaping.TheVariants.{References, Quoted}
use Rattle.xlsx_writer.specs.declared.escaping.Escaping.TheVariants.{Underscores}

-- ---- bytes that aren't written as they are

-- one byte, or one of the others
one_ascii : (b c : ℕ) (word escape : List ℕ) (others : Option (List ℕ)) (test : Bool) → c < 128
    → (b == c) ≡ test → (if test then Some word else others) ≡ Some escape
    → (others ≡ Some escape → b < 128) → b < 128
one_ascii b c word escape others true small same is more =
    let own = eqb-true b c same in omega arith
one_ascii b c word escape others false small same is more = more is

-- each of them is an ASCII byte
pub escape_ascii : (escaping : Escaping) (b : ℕ) (escape : List ℕ)
    → escape_of escaping b ≡ Some escape → b < 128
escape_ascii References b escape is =
    one_ascii b 13 _ escape _ (b == 13) (omega arith) refl is
    (λ other. one_ascii b 38 _ escape _ (b == 38) (omega arith) refl other
    (λ further. one_ascii b 60 _ escape _ (b == 60) (omega arith) refl further
    (λ last. one_ascii b 62 _ escape None (b == 62) (omega arith) refl last (λ none. absurd cc))))
escape_ascii Quoted b escape is =
    one_ascii b 38 _ escape _ (b == 38) (omega arith) refl is
    (λ other. one_ascii b 34 _ escape _ (b == 34) (omega arith) refl other
    (λ further. one_ascii b 60 _ escape None (b == 60) (omega arith) refl further
    (λ none. absurd cc)))
escape_ascii Underscores b escape is =
    one_ascii b 95 _ escape None (b == 95) (omega arith) refl is (λ none. absurd cc)

-- ---- runs

-- a text of which every byte is written as it is
pub escaped_plain : (escaping : Escaping) (bytes : List ℕ) → has_escape escaping bytes ≡ false
    → escaped_by escaping bytes ≡ bytes
escaped_plain escaping [] none = refl
escaped_plain escaping (b ∷ bytes) none =
    let both = neither (is_some (escape_of escaping b)) (has_escape escaping bytes) none in
    ap (λ (found : Option (List ℕ)). unwrap_or found (b ∷ []) ++ escaped_by escaping bytes)
    (none_there (escape_of escaping b) both.0)
    ∙ ap (λ (rest : List ℕ). b ∷ rest) (escaped_plain escaping bytes both.1)

-- a run, what is written for the byte behind it, and what stands behind that
pub escaped_cut : (escaping : Escaping) (text run escape behind : List ℕ)
    → IsCutAt escaping text run escape behind
    → escaped_by escaping text ≡ run ++ (escape ++ escaped_by escaping behind)
escaped_cut escaping text run escape behind is =
    ap (escaped_by escaping) is.parts
    ∙ flat_map-append (λ b. unwrap_or (escape_of escaping b) (b ∷ [])) run (is.byte ∷ behind)
    ∙ ap (λ (front : List ℕ). front ++ (unwrap_or (escape_of escaping is.byte) (is.byte ∷ [])
    ++ escaped_by escaping behind)) (escaped_plain escaping run is.plain)
    ∙ ap (λ (found : Option (List ℕ)). run ++ (unwrap_or found (is.byte ∷ [])
    ++ escaped_by escaping behind)) is.written

-- a text is shorter without its first run
pub cut_shorter : (escaping : Escaping) (text run escape behind : List ℕ)
    → IsCutAt escaping text run escape behind → length behind < length text
cut_shorter escaping text run escape behind is =
    omega (arith, ap length is.parts, length-append run (is.byte ∷ behind))

-- the events of a text that is cut
pub events_cut : (text run escape behind : List ℕ) → IsCutAt References text run escape behind
    → text_events text ≡ run_events run ++ (leaf (entity_ref escape) ∷ text_events behind)
events_cut text run escape behind is =
    ap text_events is.parts ∙ run_and_reference run is.byte escape behind is.plain is.written

-- a run and what is written behind it were appended, and what is left to append is as before
pub goes_on : (escaping : Escaping) (old mid new text run escape behind whole : List ℕ)
    → IsCutAt escaping text run escape behind → mid ≡ old ++ run → new ≡ mid ++ escape
    → old ++ escaped_by escaping text ≡ whole → new ++ escaped_by escaping behind ≡ whole
goes_on escaping old mid new text run escape behind whole is front more same =
    ap (λ own. own ++ escaped_by escaping behind) (more ∙ ap (λ own. own ++ escape) front)
    ∙ append_assoc (old ++ run) escape (escaped_by escaping behind)
    ∙ append_assoc old run (escape ++ escaped_by escaping behind)
    ∙ ap (λ own. old ++ own) (sym (escaped_cut escaping text run escape behind is)) ∙ same

-- ---- the two ways by their own words

-- a choice, and what stands in for none
either_way : (test : Bool) (word own : List ℕ) (others : Option (List ℕ)) (rest : List ℕ)
    → unwrap_or others own ≡ rest
    → unwrap_or (if test then Some word else others) own ≡ (if test then word else rest)
either_way true word own others rest is = refl
either_way false word own others rest is = is

pub escaped_underscores : (bytes : List ℕ) → escaped_by Underscores bytes
    ≡ underscores_escaped bytes
escaped_underscores [] = refl
escaped_underscores (b ∷ bytes) =
    ap (λ (front : List ℕ). front ++ escaped_by Underscores bytes)
    (either_way (b == 95) (codes "_x005F_") (b ∷ []) None (b ∷ []) refl)
    ∙ ap (λ (rest : List ℕ). escaped_underscore b ++ rest) (escaped_underscores bytes)

pub escaped_quoted : (bytes : List ℕ) → escaped_by Quoted bytes ≡ encoded bytes
escaped_quoted [] = refl
escaped_quoted (b ∷ bytes) =
    ap (λ (front : List ℕ). front ++ escaped_by Quoted bytes)
    (either_way (b == 38) (codes "&amp;") (b ∷ []) _ _
    (either_way (b == 34) (codes "&quot;") (b ∷ []) _ _
    (either_way (b == 60) (codes "&lt;") (b ∷ []) None (b ∷ []) refl)))
    ∙ ap (λ (rest : List ℕ). encoded_byte b ++ rest) (escaped_quoted bytes)

-- ---- what was appended

-- a text that is appended at the end leaves nothing to append
pub ends_with : {T E : Type 0} (r : Result T E) (old new rest whole : List ℕ) →
    new ≡ if◌then◌else◌ (is_ok r) (old ++ rest) old → old ++ rest ≡ whole → OnOk r (new ≡ whole)
ends_with (Ok t) old new rest whole bytes same = bytes ∙ same
ends_with (Err e) old new rest whole bytes same = tt

-- pieces that were appended one behind another, and a last one
pub pieces : (none one two three four a b c d e : List ℕ) → none ≡ [] → one ≡ none ++ a →
    two ≡ one ++ b → three ≡ two ++ c → four ≡ three ++ d →
    four ++ e ≡ a ++ (b ++ (c ++ (d ++ e)))
pieces none one two three four a b c d e is_none is_one is_two is_three is_four =
    ap (λ own. own ++ e) (is_four ∙ ap (λ own. own ++ d) (is_three ∙ ap (λ own. own ++ c)
    (is_two ∙ ap (λ own. own ++ b) (is_one ∙ ap (λ own. own ++ a) is_none))))
    ∙ append_assoc ((a ++ b) ++ c) d e ∙ append_assoc (a ++ b) c (d ++ e)
    ∙ append_assoc a b (c ++ (d ++ e))
