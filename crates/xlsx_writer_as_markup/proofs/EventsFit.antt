-- Which events markup spells one behind the other.
use Rattle.std.proofs.Common.{◌≡◌, ℕ, suc, Bool, true, false, List, [], ◌∷◌, ◌++◌, length, zero}
use Rattle.std.proofs.Common.{Option, Some, None, refl, sym, ap, ◌∙◌, subst, arith, append_assoc}
use Rattle.std.proofs.Common.{append-nil}
use Rattle.std.specs.Prelude.{⊤, ◌==◌, ◌||◌, not, codes, if◌then◌else◌}
use Rattle.std.specs.List.{list_any, flat_map, All}
use Rattle.std.specs.Option.{option_map_or}
use Rattle.std.proofs.lemmas.Bool.{or_from, and_from, ne_eqb}
use Rattle.std.proofs.lemmas.List.Folds.{list_any-append}
use Rattle.part_events.specs.Words.{Event, end, leaf, entity_ref}
use Rattle.markup.specs.Words.{is_mark, is_reference_end, one, events_of_piece, are_spellable}
use Rattle.markup.specs.Words.{begin_with_words, is_tag_name, is_end_name}
use Rattle.text_package.specs.PartSpelling.{IsPartText, HasTexts}
use Rattle.written_markup.specs.Words.{element, run_events, events_behind_run, text_events}
use Rattle.written_markup.specs.Words.{reference_name}
use Rattle.xlsx_writer.proofs.Escapes.{escape_ascii}
use Rattle.xlsx_writer.specs.declared.escaping.Escaping.TheVariants.{References}
use Rattle.xlsx_writer_as_markup.specs.WrittenPieces.{pieces_of}
use Rattle.xlsx_writer_as_markup.proofs.Texts.{is_word, word_text, cut_apart}
use Rattle.xlsx_writer_as_markup.proofs.AttributesFit.{IsAttributes, start_fits}

-- these events are spelled, each as a piece
abbrev pub are_spelled : List Event → Bool
are_spelled events = are_spellable (pieces_of events)

-- these events begin with a text
abbrev pub begin_with_text : List Event → Bool
begin_with_text events = begin_with_words (pieces_of events)

-- each text of these events can be that of a part
abbrev pub HaveEventTexts : List Event → Type 0
HaveEventTexts [] = ⊤
HaveEventTexts (event ∷ events) = HasTexts (one event) × HaveEventTexts events

-- Events that are spelled in front of others that don't begin with a text; their texts are texts
-- of a part where the sheet's are known to be.
pub record AreMarkup (Known : Type 0) (events : List Event) : Type 0 where
  pub spelled : (rest : List Event) → are_spelled rest ≡ true → begin_with_text rest ≡ false
      → are_spelled (events ++ rest) ≡ true
  pub texts : Known → HaveEventTexts events

-- such events that don't begin with a text
pub record AreElements (Known : Type 0) (events : List Event) : Type 0 where
  pub markup : AreMarkup Known events
  pub apart : (rest : List Event) → begin_with_text rest ≡ false
      → begin_with_text (events ++ rest) ≡ false

texts_in_row : (first second : List Event) → HaveEventTexts first → HaveEventTexts second
    → HaveEventTexts (first ++ second)
texts_in_row [] second a b = b
texts_in_row (event ∷ first) second a b = (a.0, texts_in_row first second a.1 b)

-- ---- elements

pub no_elements : (Known : Type 0) → AreElements Known []
no_elements Known = record {
  markup = record { spelled = λ rest are plain. are; texts = λ known. tt };
  apart = λ rest plain. plain;
}

pub elements_in_row : (Known : Type 0) (first second : List Event) → AreElements Known first
    → AreElements Known second → AreElements Known (first ++ second)
elements_in_row Known first second a b = record {
  markup = record {
    spelled = λ rest are plain.
        ap are_spelled (append_assoc first second rest)
        ∙ a.markup.spelled (second ++ rest) (b.markup.spelled rest are plain) (b.apart rest plain);
    texts = λ known. texts_in_row first second (a.markup.texts known) (b.markup.texts known);
  };
  apart = λ rest plain.
      ap begin_with_text (append_assoc first second rest)
      ∙ a.apart (second ++ rest) (b.apart rest plain);
}

pub each_elements : {A : Type 0} (Known : Type 0) (f : A → List Event) (xs : List A)
    → ((x : A) → AreElements Known (f x)) → AreElements Known (flat_map f xs)
each_elements Known f [] each = no_elements Known
each_elements Known f (x ∷ xs) each =
    elements_in_row Known (f x) (flat_map f xs) (each x) (each_elements Known f xs each)

-- a name that an element can have
pub record IsName (name : List ℕ) : Type 0 where
  pub tag : is_tag_name name ≡ true
  pub end : is_end_name name ≡ true
  pub text : IsPartText name

pub word_name : (name : List ℕ) → is_word name ≡ true → is_tag_name name ≡ true
    → is_end_name name ≡ true → IsName name
word_name name are begins ends =
    record { tag = begins; end = ends; text = word_text name are }

pub element_fits : (Known : Type 0) (name attributes : List ℕ) (inside : List Event)
    → IsName name → IsAttributes Known attributes → AreMarkup Known inside
    → AreElements Known (element name attributes inside)
element_fits Known name attributes inside is own within = record {
  markup = record {
    spelled = λ rest are plain.
        and_from _ _ (and_from _ _ (start_fits Known name attributes is.tag own) refl)
        (ap are_spelled (append_assoc inside (end name ∷ []) rest)
        ∙ within.spelled (end name ∷ rest)
        (and_from _ _ (and_from _ _ is.end refl) are) refl);
    texts = λ known. (
      (is.text, own.text known),
      texts_in_row inside (end name ∷ []) (within.texts known) (is.text, tt),
    );
  };
  apart = λ rest plain. refl;
}

-- ---- texts

-- what is no reference begins no markup
no_mark : (a b c d : Bool) (w x y z : List ℕ)
    → (if a then Some w else (if b then Some x else (if c then Some y
    else (if d then Some z else None)))) ≡ None → (c || b) ≡ false
no_mark true b c d w x y z is = absurd cc
no_mark false true c d w x y z is = absurd cc
no_mark false false true d w x y z is = absurd cc
no_mark false false false d w x y z is = refl

-- what holds of four names holds of that which is chosen
of_four : (P : List ℕ → Type 0) (a b c d : Bool) (w x y z name : List ℕ) → P w → P x → P y → P z
    → (if a then Some w else (if b then Some x else (if c then Some y
    else (if d then Some z else None)))) ≡ Some name → P name
of_four P true b c d w x y z name p q r s is = subst P (let own : w ≡ name = cc in own) p
of_four P false true c d w x y z name p q r s is = subst P (let own : x ≡ name = cc in own) q
of_four P false false true d w x y z name p q r s is = subst P (let own : y ≡ name = cc in own) r
of_four P false false false true w x y z name p q r s is =
    subst P (let own : z ≡ name = cc in own) s
of_four P false false false false w x y z name p q r s is = absurd cc

-- the name of a reference is spelled, and a text of a part
abbrev IsReference : List ℕ → Type 0
IsReference name = (list_any is_reference_end name ≡ false) × IsPartText name

reference_fits : (b : ℕ) (name : List ℕ) → reference_name b ≡ Some name → IsReference name
reference_fits b name is =
    of_four IsReference (b == 13) (b == 38) (b == 60) (b == 62) (codes "#13") (codes "amp")
    (codes "lt") (codes "gt") name (refl, word_text _ refl) (refl, word_text _ refl)
    (refl, word_text _ refl) (refl, word_text _ refl) is

run_spelled : (run : List ℕ) (rest : List Event) → list_any is_mark run ≡ false
    → are_spelled rest ≡ true → begin_with_text rest ≡ false
    → are_spelled (run_events run ++ rest) ≡ true
run_spelled [] rest none are plain = are
run_spelled (b ∷ run) rest none are plain =
    and_from _ _ (and_from _ _
    (and_from _ _ (ap not (ne_eqb (length (b ∷ run)) 0 (λ same. omega arith))) (ap not none))
    (ap not plain)) are

longer_run : (run : List ℕ) (b : ℕ) → list_any is_mark run ≡ false → is_mark b ≡ false
    → list_any is_mark (run ++ b ∷ []) ≡ false
longer_run run b none other =
    list_any-append is_mark run (b ∷ []) ∙ or_from _ _ none (or_from _ _ other refl)

-- what goes on behind a run: one byte more, or a reference
abbrev goes_on : List ℕ → ℕ → List ℕ → Option (List ℕ) → List Event
goes_on run b bytes found =
    option_map_or (λ name. run_events run ++ (leaf (entity_ref name) ∷ events_behind_run [] bytes))
    found (events_behind_run (run ++ b ∷ []) bytes)

byte_spelled : (run : List ℕ) (b : ℕ) (bytes : List ℕ) (rest : List Event)
    (found : Option (List ℕ)) → reference_name b ≡ found → list_any is_mark run ≡ false
    → ((own : List ℕ) → list_any is_mark own ≡ false
    → are_spelled (events_behind_run own bytes ++ rest) ≡ true)
    → are_spelled (goes_on run b bytes found ++ rest) ≡ true
byte_spelled run b bytes rest None is none more =
    more (run ++ b ∷ []) (longer_run run b none
    (no_mark (b == 13) (b == 38) (b == 60) (b == 62) _ _ _ _ is))
byte_spelled run b bytes rest (Some name) is none more =
    ap are_spelled (append_assoc (run_events run)
    (leaf (entity_ref name) ∷ events_behind_run [] bytes) rest)
    ∙ run_spelled run (leaf (entity_ref name) ∷ (events_behind_run [] bytes ++ rest)) none
    (and_from _ _ (and_from _ _ (ap not (reference_fits b name is).0) refl) (more [] refl)) refl

text_spelled : (bytes run : List ℕ) (rest : List Event) → list_any is_mark run ≡ false
    → are_spelled rest ≡ true → begin_with_text rest ≡ false
    → are_spelled (events_behind_run run bytes ++ rest) ≡ true
text_spelled [] run rest none are plain = run_spelled run rest none are plain
text_spelled (b ∷ bytes) run rest none are plain =
    byte_spelled run b bytes rest (reference_name b) refl none
    (λ own plain_run. text_spelled bytes own rest plain_run are plain)

run_texts : (run : List ℕ) → IsPartText run → HaveEventTexts (run_events run)
run_texts [] own = tt
run_texts (b ∷ run) own = (own, tt)

byte_texts : (run : List ℕ) (b : ℕ) (bytes : List ℕ) (found : Option (List ℕ))
    → reference_name b ≡ found → IsPartText (run ++ b ∷ bytes)
    → ((own : List ℕ) → IsPartText (own ++ bytes) → HaveEventTexts (events_behind_run own bytes))
    → HaveEventTexts (goes_on run b bytes found)
byte_texts run b bytes None is whole more =
    more (run ++ b ∷ []) (subst IsPartText (sym (append_assoc run (b ∷ []) bytes)) whole)
byte_texts run b bytes (Some name) is whole more =
    let both = cut_apart run b bytes (escape_ascii References b name is) whole in
    texts_in_row (run_events run) (leaf (entity_ref name) ∷ events_behind_run [] bytes)
    (run_texts run both.0) ((reference_fits b name is).1, more [] both.1)

texts_behind : (bytes run : List ℕ) → IsPartText (run ++ bytes)
    → HaveEventTexts (events_behind_run run bytes)
texts_behind [] run whole = run_texts run (subst IsPartText (append-nil run) whole)
texts_behind (b ∷ bytes) run whole =
    byte_texts run b bytes (reference_name b) refl whole (texts_behind bytes)

-- a text as it is written
pub text_fits : (Known : Type 0) (bytes : List ℕ) → (Known → IsPartText bytes)
    → AreMarkup Known (text_events bytes)
text_fits Known bytes own = record {
  spelled = λ rest are plain. text_spelled bytes [] rest refl are plain;
  texts = λ known. texts_behind bytes [] (own known);
}

-- ---- pieces

-- the events of pieces that are one each
pub events_of_pieces : (events : List Event) → flat_map events_of_piece (pieces_of events) ≡ events
events_of_pieces [] = refl
events_of_pieces (event ∷ events) =
    ap (λ (rest : List Event). event ∷ rest) (events_of_pieces events)

-- the texts of pieces that are one each
pub texts_of_pieces : (events : List Event) → HaveEventTexts events
    → All HasTexts (pieces_of events)
texts_of_pieces [] have k d within = absurd (omega arith)
texts_of_pieces (event ∷ events) have zero d within = have.0
texts_of_pieces (event ∷ events) have (suc k) d within =
    texts_of_pieces events have.1 k d (omega arith)
