-- Reading a part from one event to the next.
use Rattle.std.proofs.Common.{◌≡◌, ℕ, ◌+◌, ◌-◌, ◌<◌, List, [], ◌∷◌, Bool, true, false, Option, Some}
use Rattle.std.proofs.Common.{None, length, drop, get_or, refl, sym, ap, ◌∙◌, subst, arith, inl}
use Rattle.std.proofs.Common.{inr}
use Rattle.std.specs.Prelude.{◌==◌}
use Rattle.std.specs.Str.{IsUtf8}
use Rattle.std.proofs.lemmas.Bool.{cond-true, cond-false, cases_lt, eq-eqb, ne_eqb, false≢true}
use Rattle.std.proofs.lemmas.List.{drop_all, drop_more}
use Rattle.part_events.specs.Words.{Event, leaf, other, flaw}
use Rattle.part_events.specs.declared.flaw.Flaw.TheVariants.{NotText}
use Rattle.markup.specs.Words.{IsCutting, Takes, events_left, has_cut_event, markup_events}
use Rattle.markup.specs.declared.cutter.Cutter.{Cutter}
use Rattle.markup.proofs.Fronts.{bounded}
use Rattle.text_package.specs.PartText.{text_in, events_in}
use Rattle.text_package.specs.Reading.{rest_in, event_in, taken_in, CutsIn, HoldsIn, IsReadingPart}
use Rattle.text_package.specs.Reading.{StepsIn}
use Rattle.text_package.specs.declared.reading.Reading.{Reading}
use Rattle.text_package.proofs.Texts.{text_is_utf8, text_within, some_byte}

-- ---- the beginning

abbrev first_reading : ℕ → Cutter → Reading
first_reading size cutter = record { cutter = cutter; left = size; has_event = false }

begins_as : (bytes : List ℕ) (cutter : Cutter) (text : Option (List ℕ)) → text_in bytes ≡ text
    → ((own : List ℕ) → IsUtf8 own → IsCutting own cutter)
    → ((own : List ℕ) → events_left own cutter ≡ markup_events own)
    → IsReadingPart text (length bytes) (first_reading (length bytes) cutter)
begins_as bytes cutter None is cuts left =
    let size = length bytes in
    let some = some_byte bytes is in
    let own : rest_in None size (first_reading size cutter) ≡ leaf (flaw NotText) ∷ [] =
    cond-true _ _ _ (eq-eqb size size refl) in
    let none : 0 ≡ size - size = omega arith in record {
      left = omega arith;
      rest = own ∙ ap (λ n. drop n (leaf (flaw NotText) ∷ [])) none;
      room = omega (arith, ap length own, some);
      cuts = tt;
      at_hand = λ has. absurd (false≢true has);
    }
begins_as bytes cutter (Some text) is cuts left =
    let size = length bytes in
    let none : 0 ≡ size - size = omega arith in record {
      left = omega arith;
      rest = left text ∙ ap (λ n. drop n (markup_events text)) none;
      room = omega (arith, ap length (left text), bounded text, text_within bytes text is);
      cuts = cuts text (text_is_utf8 bytes text is);
      at_hand = λ has. absurd (false≢true has);
    }

pub begins : (bytes : List ℕ) (cutter : Cutter)
    → ((own : List ℕ) → IsUtf8 own → IsCutting own cutter)
    → ((own : List ℕ) → events_left own cutter ≡ markup_events own)
    → IsReadingPart (text_in bytes) (length bytes) (first_reading (length bytes) cutter)
begins bytes cutter cuts left = begins_as bytes cutter (text_in bytes) refl cuts left

-- ---- a step

-- the event behind those that were taken
pub record IsNext (events : List Event) (n : ℕ) (event : Event) (rest : List Event)
    : Type 0 where
  pub within : n < length events
  pub is : event ≡ get_or events n (leaf other)
  pub behind : rest ≡ drop (n + 1) events

next_is : (events : List Event) (n : ℕ) (event : Event) (rest : List Event)
    → event ∷ rest ≡ drop n events → IsNext events n event rest
next_is events n first rest is = elim (cases_lt n (length events)) [
  | inr past ↦ let none : drop n events ≡ [] = drop_all n events past in absurd cc
  | inl inside ↦
      let own : drop n events ≡ get_or events n (leaf other) ∷ drop (n + 1) events =
      drop_more events n (leaf other) inside in
      record { within = inside; is = cc; behind = cc }
]

pub stepped : (text : Option (List ℕ)) (size : ℕ) (old new : Reading) → IsReadingPart text size old
    → StepsIn true text size old new → CutsIn text new → HoldsIn text new
    → new.left ≡ old.left - 1 → IsReadingPart text size new
stepped text size old new been steps cuts holds left =
    let events = events_in text in
    let n : ℕ = taken_in size old in
    let next = next_is events n (event_in text new) (rest_in text size new)
    (sym steps ∙ been.rest) in
    let long : length (rest_in text size old) ≡ length (rest_in text size new) + 1 =
    ap length steps ∙ omega arith in
    let taken : n + 1 ≡ taken_in size new = omega (arith, been.left, been.room, long, left) in
    let before : n ≡ taken_in size new - 1 = omega arith in record {
      left = omega (arith, been.left, left);
      rest = next.behind ∙ ap (λ k. drop k events) taken;
      room = omega (arith, been.room, long, left);
      cuts = cuts;
      at_hand = λ has. record {
        holds = holds;
        some = omega (arith, been.left, been.room, long, left);
        event = next.is ∙ ap (λ k. get_or events k (leaf other)) before;
      };
    }

-- the reading behind an event, by what was made of it before that was counted
abbrev pub counted : Reading → Bool → Reading
counted reading more = record {
  cutter = reading.cutter;
  left = reading.left - 1;
  has_event = more;
}

pub after_text : (found : Option (List ℕ)) (text : List ℕ) (size : ℕ) (old made : Reading)
    (cutter : Cutter) (more result : Bool) → Some text ≡ found → IsReadingPart found size old
    → IsCutting text cutter → Takes result text old.cutter cutter
    → result ≡ has_cut_event cutter.held → more ≡ result → more ≡ true
    → made ≡ record { cutter = cutter; left = old.left; has_event = old.has_event }
    → IsReadingPart found size (counted made more)
after_text found text size old made cutter more result is been cuts takes has same goes_on made_is =
    let here : result ≡ true = sym same ∙ goes_on in
    let own : Reading = record { cutter = cutter; left = old.left; has_event = old.has_event } in
    subst (λ (reading : Reading). IsReadingPart found size (counted reading more)) (sym made_is)
    (subst (λ (f : Option (List ℕ)). IsReadingPart f size (counted own more)) is
    (stepped (Some text) size old (counted own more)
    (subst (λ (f : Option (List ℕ)). IsReadingPart f size old) (sym is) been)
    (subst (λ (b : Bool). Takes b text old.cutter cutter) here takes) cuts (sym has ∙ here) refl))

-- the only step in a part that is no text
flaw_taken : (size : ℕ) (old : Reading) (more : Bool) → IsReadingPart None size old
    → (old.left == size) ≡ true → StepsIn true None size old (counted old more)
flaw_taken size old more been first =
    let own : rest_in None size old ≡ leaf (flaw NotText) ∷ [] = cond-true _ _ _ first in
    let some : 0 < old.left = omega (arith, been.room, ap length own) in
    let other : (old.left - 1 == size) ≡ false =
    ne_eqb (old.left - 1) size (λ same. omega (arith, same, been.left, some)) in
    own ∙ ap (λ (rest : List Event). leaf (flaw NotText) ∷ rest) (sym (cond-false _ _ _ other))

pub after_flaw : (found : Option (List ℕ)) (size own : ℕ) (old made : Reading) (more : Bool)
    → None ≡ found → IsReadingPart found size old → own ≡ size → more ≡ (old.left == own)
    → more ≡ true → made ≡ old → IsReadingPart found size (counted made more)
after_flaw found size own old made more is been size_is same goes_on made_is =
    let before = subst (λ (f : Option (List ℕ)). IsReadingPart f size old) (sym is) been in
    let first : (old.left == size) ≡ true =
    ap (λ n. old.left == n) (sym size_is) ∙ sym same ∙ goes_on in
    subst (λ (reading : Reading). IsReadingPart found size (counted reading more)) (sym made_is)
    (subst (λ (f : Option (List ℕ)). IsReadingPart f size (counted old more)) is
    (stepped None size old (counted old more) before (flaw_taken size old more before first) tt tt
    refl))
