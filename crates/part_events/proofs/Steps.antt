-- A reader's step to the next event.
use Rattle.std.proofs.Common.{◌≡◌, ℕ, ◌<◌, append-nil, List, [], ◌∷◌, ◌++◌, length, reverse, Bool}
use Rattle.std.proofs.Common.{true, false, refl, sym, ◌∙◌, ap, arith, Some}
use Rattle.std.specs.Prelude.{slice_get, Option, if◌then◌else◌}
use Rattle.std.specs.Option.{option_map_or}
use Rattle.std.specs.Str.{bytes_eq}
use Rattle.std.proofs.lemmas.List.{length-reverse, reverse-reverse}
use Rattle.part_events.specs.Event.{Event, end, leaf, flaw}
use Rattle.part_events.specs.Nesting.{goes_on, closes, whole_rest}
use Rattle.part_events.specs.OpenNames.{is_innermost}
use Rattle.part_events.specs.Package.{Advances}
use Rattle.part_events.specs.Reading.{Reading, IsReading, IsTracked, BreaksNext, break_by, EndsOpen}
use Rattle.part_events.specs.Reading.{ahead, events_of}
use Rattle.part_events.specs.declared.fault.BreakCause.{BreakCause}
use Rattle.part_events.specs.declared.fault.BreakCause.TheVariants.{EndMismatch, Flawed}
use Rattle.part_events.specs.declared.flaw.Flaw.{Flaw}
use Rattle.part_events.proofs.Nested.{reverse_on, broken, whole_split}

-- an event was taken of the same part
pub same_part : (old new : Reading) → Advances true old.source new.source → events_of new
    ≡ events_of old
same_part old new advances =
    ap (λ (past : List Event). reverse past ++ new.source.rest) advances.1
    ∙ reverse_on new.source.current old.source.past new.source.rest
    ∙ ap (λ (rest : List Event). reverse old.source.past ++ rest) (sym advances.0)

same_name : (name : List ℕ) (names : List (List ℕ))
    → option_map_or (bytes_eq name) (slice_get names 0) false ≡ is_innermost name names
same_name name [] = refl
same_name name (first ∷ names) = refl

-- the event that was taken doesn't go on with those before it
breaks_there : (old new : Reading) (event : Event) (why : BreakCause) (more : Bool) → more ≡ true
    → IsReading old → old.source.is_visible ≡ true → Advances more old.source new.source
    → event ≡ new.source.current → goes_on old.source.past event ≡ false → break_by event ≡ Some why
    → BreaksNext old new old.at why × (ahead old ≡ [])
breaks_there old new event why more is was told advanced current breaks by =
    let advances : Advances true old.source new.source = rw is at advanced in
    let before = was.tracked told in
    let same = same_part old new advances in
    let comes : old.source.rest ≡ event ∷ new.source.rest = advances.0
    ∙ ap (λ (own : Event). own ∷ new.source.rest) (sym current) in
    let none : ahead old ≡ [] =
    ap (whole_rest old.source.past) comes
    ∙ ap (λ (b : Bool). if b then event ∷ whole_rest (event ∷ old.source.past)
    new.source.rest else []) breaks
    in (
      (
        same,
        rw (
          same,
          before.at,
          comes,
        ) (broken old.source.past new.source.rest event why before.whole breaks by),
      ),
      none,
    )

-- an end of another name was taken
pub breaks_at_end : (old new : Reading) (name : List ℕ) (more : Bool) → more ≡ true → IsReading old
    → old.source.is_visible ≡ true → Advances more old.source new.source → end name
    ≡ new.source.current → is_innermost name old.names ≡ false
    → BreaksNext old new old.at EndMismatch × (ahead old ≡ [])
breaks_at_end old new name more is was told advanced current other =
    let breaks : closes old.source.past name ≡ false =
    ap (λ (first : Option (List ℕ)). option_map_or (bytes_eq name) first false)
    ((was.tracked told).names 0)
    ∙ same_name name old.names ∙ other
    in
    breaks_there old new (end name) EndMismatch more is was told advanced current breaks refl

-- a flaw was taken
pub breaks_at_flaw : (old new : Reading) (why : Flaw) (more : Bool) → more ≡ true → IsReading old
    → old.source.is_visible ≡ true → Advances more old.source new.source → leaf (flaw why)
    ≡ new.source.current → BreaksNext old new old.at (Flawed why) × (ahead old ≡ [])
breaks_at_flaw old new why more is was told advanced current =
    breaks_there old new (leaf (flaw why)) (Flawed why) more is was told advanced current refl refl

-- the part has ended, and some element is open
pub ends_open : (r : Reading) → IsTracked r → r.source.rest ≡ [] → 0 < length r.names
    → EndsOpen (events_of r) r.at
ends_open r is none some =
    let past = r.source.past in
    rw none (record {
      whole = whole_split past [] is.whole;
      size = ap length (append-nil (reverse past)) ∙ length-reverse past ∙ sym is.at;
      element = rw (append-nil (reverse past), reverse-reverse past) (omega (arith, is.depth));
    })
