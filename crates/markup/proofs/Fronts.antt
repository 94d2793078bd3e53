-- What every front tells: no flaw among its events, and no more events than it has bytes.
use Rattle.std.proofs.Common.{◌≡◌, ℕ, zero, suc, ◌+◌, ◌-◌, ◌<◌, ◌≤◌, false, List, [], ◌∷◌, ◌++◌}
use Rattle.std.proofs.Common.{length, take, drop, Option, Some, None, refl, sym, ap, ◌∙◌, arith}
use Rattle.std.specs.Prelude.{⊤, Bool, if◌then◌else◌, ◌==◌, ◌&&◌, ◌||◌, not, codes}
use Rattle.std.proofs.Math.Bool.{cond}
use Rattle.std.specs.List.{list_any, position_or_len, before_first}
use Rattle.std.proofs.lemmas.Bool.{cond_both, true≢false, or_from}
use Rattle.part_events.specs.Words.{Event, Leaf, leaf, text, char_data, flaw, is_flaw}
use Rattle.markup.specs.Marks.{bracket_place, byte_at, begins_with, begins_no_name, ends_name}
use Rattle.markup.specs.Marks.{is_mark, first_place_of}
use Rattle.markup.specs.Front.{Piece, one, empty, MarkupFront, flawed, piece, front_in_markup}
use Rattle.markup.specs.Front.{markup_front, start_front, end_front, reference_front, tagged}
use Rattle.markup.specs.Front.{attributed, as_other, ends_in_slash, span_front, declared_front}
use Rattle.markup.specs.Front.{doctype_front, doctype_place, is_behind_name}
use Rattle.markup.specs.Markup.{events_from, events_behind, markup_events, is_flaw_event}
use Rattle.part_events.specs.declared.flaw.Flaw.{Flaw}
use Rattle.part_events.specs.declared.flaw.Flaw.TheVariants.{Malformed}

-- a front behind whose first byte these stand
abbrev Fits : List ℕ → MarkupFront → Type 0
Fits bytes flawed = ⊤
Fits bytes (piece (one event) size) = is_flaw_event event ≡ false
Fits bytes (piece (empty tag) size) = (2 ≤ size) × (0 < length bytes)

record Tells (bytes : List ℕ) (front : MarkupFront) : Type 0 where
  fits : Fits bytes front

flaw_tells : (bytes : List ℕ) → Tells bytes flawed
flaw_tells bytes = record { fits = tt }

event_tells : (bytes : List ℕ) (event : Event) (size : ℕ) → is_flaw_event event ≡ false
    → Tells bytes (piece (one event) size)
event_tells bytes event size plain = record { fits = plain }

-- one of two fronts
either : (bytes : List ℕ) (test : Bool) (first second : MarkupFront) → Tells bytes first
    → Tells bytes second → Tells bytes (cond test first second)
either bytes test first second a b =
    cond_both test first second (Tells bytes) (λ _. a) (λ _. b)

tagged_tells : (bytes name attributes : List ℕ) (size : ℕ) → 2 ≤ size → 0 < length bytes
    → Tells bytes (piece (tagged name attributes) size)
tagged_tells bytes name attributes size two some =
    cond_both (ends_in_slash attributes) (empty _) (one _)
    (λ (first : Piece). Tells bytes (piece first size))
    (λ _. record { fits = (two, some) }) (λ _. record { fits = refl })

-- a tag's front takes two bytes at least
within_tells : (bytes : List ℕ) (test : Bool) (name attributes : List ℕ) (place : ℕ)
    → 0 < length bytes
    → Tells bytes (if test then attributed name attributes (place + 2) else flawed)
within_tells bytes test name attributes place some =
    either bytes test (attributed name attributes (place + 2)) flawed
    (either bytes (is_behind_name attributes) (piece (tagged name attributes) (place + 2)) flawed
    (tagged_tells bytes name attributes (place + 2) (omega arith) some) (flaw_tells bytes))
    (flaw_tells bytes)

start_tells : (bytes : List ℕ) → Tells bytes (start_front bytes)
unfolding bracket_place
start_tells [] = flaw_tells []
start_tells (b ∷ bytes) =
    let whole : List ℕ = b ∷ bytes in
    let size : ℕ = position_or_len ends_name whole in
    let place : ℕ = bracket_place None whole in
    within_tells whole
    (byte_at whole place == 62 && not (size == 0 || begins_no_name (byte_at whole 0)))
    (take size whole) (take (place - size) (drop size whole)) place (omega arith)

end_tells : (whole bytes : List ℕ) → Tells whole (end_front bytes)
end_tells whole bytes =
    either whole _ (piece _ _) flawed (event_tells whole _ _ refl) (flaw_tells whole)

reference_tells : (whole bytes : List ℕ) → Tells whole (reference_front bytes)
reference_tells whole bytes =
    either whole _ (piece _ _) flawed (event_tells whole _ _ refl) (flaw_tells whole)

span_tells : (whole : List ℕ) (leaf_of : List ℕ → Leaf) (around : ℕ) (bytes : List ℕ)
    (found : Option ℕ) → ((content : List ℕ) → is_flaw (leaf_of content) ≡ false)
    → Tells whole (span_front leaf_of around bytes found)
span_tells whole leaf_of around bytes None plain = flaw_tells whole
span_tells whole leaf_of around bytes (Some size) plain =
    event_tells whole _ _ (plain (take size bytes))

doctype_tells : (whole : List ℕ) (found : Option ℕ) → Tells whole (doctype_front found)
doctype_tells whole None = flaw_tells whole
doctype_tells whole (Some place) = event_tells whole _ _ refl

declared_tells : (whole bytes : List ℕ) → Tells whole (declared_front bytes)
declared_tells whole bytes =
    let comment = span_tells whole as_other 7 (drop 2 bytes)
    (first_place_of (codes "-->") (drop 2 bytes)) (λ c. refl) in
    let section = span_tells whole (λ content. char_data content) 12 (drop 7 bytes)
    (first_place_of (codes "]]>") (drop 7 bytes)) (λ c. refl) in
    let doctype = doctype_tells whole (doctype_place (drop 7 bytes) 0 0) in
    either whole (begins_with (codes "--") bytes) _ _ comment
    (either whole (begins_with (codes "[CDATA[") bytes) _ _ section
    (either whole (begins_with (codes "DOCTYPE") bytes) _ _ doctype (flaw_tells whole)))

markup_tells : (bytes : List ℕ) → Tells bytes (markup_front bytes)
markup_tells [] = flaw_tells []
markup_tells (b ∷ bytes) =
    let instruction = span_tells (b ∷ bytes) as_other 4 bytes (first_place_of (codes "?>") bytes)
    (λ c. refl) in
    either (b ∷ bytes) (b == 47) _ _ (end_tells (b ∷ bytes) bytes)
    (either (b ∷ bytes) (b == 63) _ _ instruction
    (either (b ∷ bytes) (b == 33) _ _ (declared_tells (b ∷ bytes) bytes)
    (start_tells (b ∷ bytes))))

front_tells : (b : ℕ) (bytes : List ℕ) → Tells bytes (front_in_markup b bytes)
unfolding front_in_markup
front_tells b bytes =
    either bytes (b == 60) _ _ (markup_tells bytes)
    (either bytes (b == 38) _ _ (reference_tells bytes bytes)
    (event_tells bytes (leaf (text (before_first is_mark (b ∷ bytes)))) _ refl))

-- ---- no more events than bytes

front_bounded : (bytes : List ℕ) (front : MarkupFront) → Tells bytes front
    → ((n : ℕ) → length (events_behind bytes n) ≤ length bytes - n)
    → length (events_from (events_behind bytes) front) ≤ suc (length bytes)
front_bounded bytes flawed tells more = omega arith
front_bounded bytes (piece (one event) size) tells more = omega (arith, more (size - 1))
front_bounded bytes (piece (empty tag) size) tells more =
    omega (arith, more (size - 1), tells.fits.0, tells.fits.1)

behind_bounded : (bytes : List ℕ) (n : ℕ) → length (events_behind bytes n) ≤ length bytes - n
unfolding events_behind
behind_bounded [] n = omega arith
behind_bounded (b ∷ bytes) (suc n) = omega (arith, behind_bounded bytes n)
behind_bounded (b ∷ bytes) zero =
    let own : length (events_from (events_behind bytes) (front_in_markup b bytes)) ≤ suc
    (length bytes) =
    front_bounded bytes (front_in_markup b bytes) (front_tells b bytes) (behind_bounded bytes) in
    omega arith

pub bounded : (bytes : List ℕ) → length (markup_events bytes) ≤ length bytes
unfolding markup_events
bounded bytes =
    let own : length (events_behind bytes 0) ≤ length bytes - 0 = behind_bounded bytes 0 in
    omega arith

-- ---- a flaw is last

abbrev pub HasFlawLast : List Event → Type 0
HasFlawLast events = (before behind : List Event) (why : Flaw)
    → events ≡ before ++ leaf (flaw why) ∷ behind
    → (why ≡ Malformed) × (behind ≡ []) × (list_any is_flaw_event before ≡ false)

alone : HasFlawLast (leaf (flaw Malformed) ∷ [])
alone [] behind why is = (cc, cc, refl)
alone (first ∷ []) behind why is = absurd cc
alone (first ∷ second ∷ before) behind why is = absurd cc

behind_one : (first : Event) (events : List Event) → is_flaw_event first ≡ false
    → HasFlawLast events → HasFlawLast (first ∷ events)
behind_one first events plain last [] behind why is =
    let same : leaf (flaw why) ≡ first = cc in
    absurd (true≢false (ap is_flaw_event same ∙ plain))
behind_one first events plain last (own ∷ before) behind why is =
    let rest : events ≡ before ++ leaf (flaw why) ∷ behind = cc in
    let same : first ≡ own = cc in
    let found = last before behind why rest in
    (found.0, found.1, or_from _ _ (ap is_flaw_event (sym same) ∙ plain) found.2)

none_last : HasFlawLast []
none_last [] behind why is = absurd cc
none_last (first ∷ before) behind why is = absurd cc

front_last : (bytes : List ℕ) (front : MarkupFront) → Tells bytes front
    → ((n : ℕ) → HasFlawLast (events_behind bytes n))
    → HasFlawLast (events_from (events_behind bytes) front)
front_last bytes flawed tells more = alone
front_last bytes (piece (one event) size) tells more =
    behind_one event (events_behind bytes (size - 1)) tells.fits (more (size - 1))
front_last bytes (piece (empty tag) size) tells more =
    behind_one _ _ refl (behind_one _ (events_behind bytes (size - 1)) refl (more (size - 1)))

behind_last : (bytes : List ℕ) (n : ℕ) → HasFlawLast (events_behind bytes n)
unfolding events_behind
behind_last [] n = none_last
behind_last (b ∷ bytes) (suc n) = behind_last bytes n
behind_last (b ∷ bytes) zero =
    front_last bytes (front_in_markup b bytes) (front_tells b bytes) (behind_last bytes)

pub flaw_last : (bytes : List ℕ) → HasFlawLast (markup_events bytes)
unfolding markup_events
flaw_last bytes = behind_last bytes 0
