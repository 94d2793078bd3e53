-- Outermost elements and children, by their starts.
use Rattle.std.proofs.Common.{◌≡◌, ℕ, zero, suc, ◌+◌, List, [], ◌∷◌, map, Bool, true, false, refl}
use Rattle.std.proofs.Common.{sym, ◌∙◌, ap, arith}
use Rattle.std.specs.Prelude.{if◌then◌else◌, ◌==◌}
use Rattle.std.proofs.lemmas.Bool.Decides.{nat_tests}
use Rattle.part_events.specs.Event.{Tag, Event, start, end, leaf, is_start}
use Rattle.part_events.specs.Nesting.{starts_in, ends_in, depth}
use Rattle.part_events.specs.NestingLaws.{starts_at}
use Rattle.part_events.specs.Section.{Element, element_of, content, behind, outermost}
use Rattle.part_events.specs.Section.{outermost_from, is_any, children}

left_behind : (wanted : Tag → Bool) (inner : ℕ) (events : List Event)
    → outermost_from wanted (suc inner) events ≡ outermost_from wanted 0 (behind inner events)
left_behind wanted inner [] = refl
left_behind wanted inner (start tag ∷ events) = left_behind wanted (suc inner) events
left_behind wanted zero (end name ∷ events) = refl
left_behind wanted (suc inner) (end name ∷ events) = left_behind wanted inner events
left_behind wanted inner (leaf kind ∷ events) = left_behind wanted inner events

pub outermost-wanted : (wanted : Tag → Bool) (tag : Tag) (events : List Event) → wanted tag ≡ true
    → outermost wanted (start tag ∷ events)
    ≡ element_of tag events ∷ outermost wanted (behind 0 events)
outermost-wanted wanted tag events is =
    let first = element_of tag events in
    ap (λ (b : Bool). if b then first ∷ outermost_from wanted 1 events else outermost_from wanted 0
    events) is
    ∙ ap (λ (others : List Element). first ∷ others) (left_behind wanted 0 events)

pub outermost-unwanted : (wanted : Tag → Bool) (tag : Tag) (events : List Event) → wanted tag
    ≡ false → outermost wanted (start tag ∷ events) ≡ outermost wanted events
outermost-unwanted wanted tag events is =
    let first = element_of tag events in
    ap (λ (b : Bool). if b then first ∷ outermost_from wanted 1 events else outermost_from wanted 0
    events) is

pub outermost-other : (wanted : Tag → Bool) (event : Event) (events : List Event) → is_start event
    ≡ false → outermost wanted (event ∷ events) ≡ outermost wanted events
outermost-other wanted (start tag) events is = absurd (cc)
outermost-other wanted (end name) events is = refl
outermost-other wanted (leaf kind) events is = refl

abbrev tags : List Element → List Tag
tags elements = map (λ (element : Element). element.tag) elements

at_level : (n : ℕ) → n ≡ 1 → (n == 1) ≡ true
at_level n is = grind (arith, nat_tests)

off_level : (n k : ℕ) → n ≡ k + 2 → (n == 1) ≡ false
off_level n k is = grind (arith, nat_tests)

children_from : (within : ℕ) (past events : List Event) → starts_in past ≡ ends_in past + 1 + within
    → tags (outermost_from is_any within (content within events))
    ≡ starts_at 1 past (content within events)
children_from within past [] is = refl
children_from zero past (start tag ∷ events) is =
    let level : (depth past == 1) ≡ true = at_level (depth past) (omega (arith, is)) in
    ap (λ (rest : List Tag). tag ∷ rest)
    (children_from 1 (start tag ∷ past) events (omega (arith, is)))
    ∙ ap (λ (b : Bool). if b then tag ∷ starts_at 1 (start tag ∷ past) (content 1 events) else
    starts_at 1 (start tag ∷ past) (content 1 events)) (sym level)
children_from (suc within) past (start tag ∷ events) is =
    let level : (depth past == 1) ≡ false = off_level (depth past) within (omega (arith, is)) in
    children_from (suc (suc within)) (start tag ∷ past) events (omega (arith, is))
    ∙ ap (λ (b : Bool). if b then tag ∷ starts_at 1 (start tag ∷ past)
    (content (suc (suc within)) events) else starts_at 1 (start tag ∷ past)
    (content (suc (suc within)) events)) (sym level)
children_from zero past (end name ∷ events) is = refl
children_from (suc within) past (end name ∷ events) is =
    children_from within (end name ∷ past) events (omega (arith, is))
children_from within past (leaf kind ∷ events) is =
    children_from within (leaf kind ∷ past) events is

pub children_at_depth_one : (tag : Tag) (events : List Event) → tags (children (content 0 events))
    ≡ starts_at 1 (start tag ∷ []) (content 0 events)
children_at_depth_one tag events = children_from 0 (start tag ∷ []) events (omega arith)
