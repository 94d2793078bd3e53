-- How calls of a reader follow one another, and what a part is that was read to its end.
use Rattle.std.proofs.Common.{◌≡◌, List, [], true, refl, ◌∙◌, subst, arith}
use Rattle.part_events.specs.Event.{Event}
use Rattle.part_events.specs.Nesting.{whole}
use Rattle.part_events.specs.Reading.{Reading, IsReading, IsAtEnd, MovesForward, ReadsOn, events_of}
use Rattle.part_events.proofs.Nested.{whole_split}

pub stays_forward : (r : Reading) → MovesForward r r
stays_forward r = record {
  parts = record { is_visible = refl; parts = refl; faults = omega arith; takes_memory = refl };
  alloc = refl;
  forward = omega arith;
  taken = omega arith;
  bounded = omega arith;
  within = λ told. omega arith;
}

pub reads_nothing : (r : Reading) → IsReading r → ReadsOn r r
reads_nothing r is = record {
  moves = stays_forward r;
  stays = record { reading = is; faults = refl; left = refl; part = λ told. refl };
}

pub moves_further : {old mid new : Reading} → MovesForward old mid → MovesForward mid new
    → MovesForward old new
moves_further first second = record {
  parts = record {
    is_visible = second.parts.is_visible ∙ first.parts.is_visible;
    parts = second.parts.parts ∙ first.parts.parts;
    faults = omega (arith, first.parts.faults, second.parts.faults);
    takes_memory = second.parts.takes_memory ∙ first.parts.takes_memory;
  };
  alloc = second.alloc ∙ first.alloc;
  forward = omega (arith, first.forward, second.forward);
  taken = omega (arith, first.forward, second.forward, first.taken, second.taken);
  bounded = omega (arith, first.bounded, second.bounded);
  within = λ told. omega (arith, first.within told, second.within (first.parts.is_visible ∙ told));
}

pub reads_further : {old mid new : Reading} → ReadsOn old mid → ReadsOn mid new → ReadsOn old new
reads_further first second = record {
  moves = moves_further first.moves second.moves;
  stays = record {
    reading = second.stays.reading;
    faults = second.stays.faults ∙ first.stays.faults;
    left = second.stays.left ∙ first.stays.left;
    part = λ told. second.stays.part (first.moves.parts.is_visible ∙ told) ∙ first.stays.part told;
  };
}

-- a part that was read to its end is whole
pub whole_at_end : {old new : Reading} → ReadsOn old new → IsAtEnd new
    → old.source.is_visible ≡ true
    → whole (events_of old) ≡ events_of old
whole_at_end {new = new} reads ended told =
    let tracked = reads.stays.reading.tracked (reads.moves.parts.is_visible ∙ told) in
    let here : whole (events_of new) ≡ events_of new =
    rw ended.rest (whole_split new.source.past [] tracked.whole) in
    subst (λ (events : List Event). whole events ≡ events) (reads.stays.part told) here
