-- The parts of a package in memory.
use Rattle.std.proofs.Common.{◌≡◌, ℕ, zero, suc, ◌<◌, ◌-◌, List, [], ◌∷◌, ◌++◌, length, set, get_or}
use Rattle.std.proofs.Common.{refl, ap, sym, ◌∙◌, arith}
use Rattle.std.proofs.lemmas.List.{get_or_read}
use Rattle.part_events.specs.Event.{Event}
use Rattle.part_events.specs.Package.{Part}
use Rattle.part_events.specs.Memory.{part_at, with_event}

-- the part with the event at its end
abbrev pub longer : Part → Event → Part
longer part event = record { name = part.name; events = part.events ++ event ∷ [] }

set_last : (parts : List Part) (event : Event) (last : ℕ) → suc last ≡ length parts
    → set parts last (longer (part_at parts last) event) ≡ with_event parts event
set_last [] event last is = absurd (omega arith)
set_last (part ∷ []) event last is = let first : last ≡ 0 = omega arith in rw first refl
set_last (part ∷ next ∷ parts) event zero is = absurd (omega arith)
set_last (part ∷ next ∷ parts) event (suc last) is =
    ap (λ (rest : List Part). part ∷ rest) (set_last (next ∷ parts) event last (omega arith))

-- with an event at its end, as the code reads and writes the last part
pub with_event-at : (parts : List Part) (event : Event) (last : ℕ) (part after : Part)
    → 0 < length parts → last ≡ length parts - 1 → part ≡ get_or parts last part → after
    ≡ longer part event → set parts last after ≡ with_event parts event
with_event-at parts event last part after some at read written =
    let here : last < length parts = omega arith in
    let same : part ≡ part_at parts last =
    get_or_read parts last part here read (record { name = []; events = [] }) in
    ap (λ (p : Part). set parts last p) (written ∙ ap (λ (p : Part). longer p event) same)
    ∙ set_last parts event last (omega arith)

below_both : (part next : Part) (parts : List Part) (first second : Event)
    → with_event (with_event (part ∷ next ∷ parts) first) second
    ≡ part ∷ with_event (with_event (next ∷ parts) first) second
below_both part next [] first second = refl
below_both part next (third ∷ parts) first second = refl

set_both : (parts : List Part) (first second : Event) (last : ℕ) → suc last ≡ length parts
    → set parts last (longer (longer (part_at parts last) first) second)
    ≡ with_event (with_event parts first) second
set_both [] first second last is = absurd (omega arith)
set_both (part ∷ []) first second last is = let one : last ≡ 0 = omega arith in rw one refl
set_both (part ∷ next ∷ parts) first second zero is = absurd (omega arith)
set_both (part ∷ next ∷ parts) first second (suc last) is =
    ap (λ (rest : List Part). part ∷ rest)
    (set_both (next ∷ parts) first second last (omega arith))
    ∙ sym (below_both part next parts first second)

-- with two events at its end
pub with_both-at : (parts : List Part) (first second : Event) (last : ℕ) (part after : Part)
    → 0 < length parts → last ≡ length parts - 1 → part ≡ get_or parts last part → after
    ≡ longer (longer part first) second
    → set parts last after ≡ with_event (with_event parts first) second
with_both-at parts first second last part after some at read written =
    let here : last < length parts = omega arith in
    let same : part ≡ part_at parts last =
    get_or_read parts last part here read (record { name = []; events = [] }) in
    ap (λ (p : Part). set parts last p)
    (written ∙ ap (λ (p : Part). longer (longer p first) second) same)
    ∙ set_both parts first second last (omega arith)
