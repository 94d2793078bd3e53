-- Wholeness, and the names of the open elements, from one event to the next.
use Rattle.std.proofs.Common.{◌≡◌, ℕ, List, [], ◌∷◌, ◌++◌, length, reverse, Bool, true, false, refl}
use Rattle.std.proofs.Common.{sym, ◌∙◌, ap, arith, append_assoc, append-nil, inl, inr, ◌⊎◌, Option}
use Rattle.std.proofs.Common.{Some, subst}
use Rattle.std.specs.Prelude.{if◌then◌else◌, slice_get, get_or, IsSomeAnd}
use Rattle.std.proofs.Math.Seq.{get_or-append_seam}
use Rattle.std.proofs.lemmas.Grind.{reverse_onto}
use Rattle.std.proofs.lemmas.List.{length-append, length-reverse}
use Rattle.std.proofs.lemmas.Option.{slice_get_read}
use Rattle.part_events.specs.Event.{Event}
use Rattle.part_events.specs.Nesting.{goes_on, IsWhole, whole_rest, whole}
use Rattle.part_events.specs.NestingLaws.{WholeIsLongest}
use Rattle.part_events.specs.Reading.{BreaksAt, break_by}
use Rattle.part_events.specs.declared.fault.BreakCause.{BreakCause}

-- the list with one event taken of it
pub reverse_on : (event : Event) (past rest : List Event) → reverse (event ∷ past) ++ rest
    ≡ reverse past ++ event ∷ rest
reverse_on event past rest =
    ap (λ (front : List Event). front ++ rest) (reverse_onto past event [])
    ∙ append_assoc (reverse past) (event ∷ []) rest

-- what was taken is whole, and what is ahead is what is left of the longest whole front
pub whole_split : (past rest : List Event) → IsWhole past → whole (reverse past ++ rest)
    ≡ reverse past ++ whole_rest past rest
whole_split [] rest is = refl
whole_split (event ∷ past) rest is =
    ap whole (reverse_on event past rest) ∙ whole_split past (event ∷ rest) is.1
    ∙ ap (λ (b : Bool). reverse past ++
    (if b then event ∷ whole_rest (event ∷ past) rest else [])) is.0
    ∙ sym (reverse_on event past (whole_rest (event ∷ past) rest))

-- the event behind those that were taken
behind_taken : (past rest : List Event) (event : Event)
    → slice_get (reverse past ++ event ∷ rest) (length past) ≡ Some event
behind_taken past rest event =
    let all = reverse past ++ event ∷ rest in
    let same = length-reverse past in
    slice_get_read all (length all) (length past) event refl
    (omega (arith, length-append (reverse past) (event ∷ rest), same))
    (sym (subst (λ (n : ℕ). get_or all n event ≡ event) same
    (get_or-append_seam (reverse past) event rest event)))

-- an event that doesn't go on ends the longest whole front
pub broken : (past rest : List Event) (event : Event) (why : BreakCause) → IsWhole past
    → goes_on past event ≡ false → break_by event ≡ Some why
    → BreaksAt (reverse past ++ event ∷ rest) (length past) why
broken past rest event why is breaks by =
    let front : whole (reverse past ++ event ∷ rest) ≡ reverse past =
    whole_split past (event ∷ rest) is
    ∙ ap (λ (b : Bool). reverse past ++
    (if b then event ∷ whole_rest (event ∷ past) rest else [])) breaks
    ∙ append-nil (reverse past)
    in
    record {
      before = ap length front ∙ length-reverse past;
      breaks = omega (arith, length-append (reverse past) (event ∷ rest), length-reverse past);
      cause = subst (λ (found : Option Event). IsSomeAnd found (λ own. break_by own ≡ Some why))
          (sym (behind_taken past rest event)) by;
    }

-- the longest whole front behind what was taken
pub whole_rest_is_whole : (past rest : List Event) → IsWhole past
    → IsWhole (reverse (whole_rest past rest) ++ past)
whole_rest_is_whole past [] is = is
whole_rest_is_whole past (event ∷ rest) is =
    elim (goes_on past event) as (λ b. goes_on past event ≡ b
    → IsWhole (reverse (if b then event ∷ whole_rest (event ∷ past) rest else []) ++ past)) [
      | true ↦ λ goes. rw reverse_on (whole_rest_is_whole (event ∷ past) rest (goes, is))
      | false ↦ λ breaks. is
    ] refl

-- what follows is whole, or an event in it doesn't go on
record Breaks (past rest : List Event) : Type 0 where
  event : Event
  more : List Event
  parts : rest ≡ whole_rest past rest ++ event ∷ more
  breaks : goes_on (reverse (whole_rest past rest) ++ past) event ≡ false

breaks_behind : (event : Event) (past rest : List Event) → whole_rest past (event ∷ rest)
    ≡ event ∷ whole_rest (event ∷ past) rest → (whole_rest (event ∷ past) rest ≡ rest)
    ⊎ Breaks (event ∷ past) rest → (whole_rest past (event ∷ rest) ≡ event ∷ rest)
    ⊎ Breaks past (event ∷ rest)
breaks_behind event past rest next (inl all) = inl (next
    ∙ ap (λ (events : List Event). event ∷ events) all)
breaks_behind event past rest next (inr broken_there) = inr (record {
  event = broken_there.event;
  more = broken_there.more;
  parts = rw next (ap (λ (events : List Event). event ∷ events) broken_there.parts);
  breaks = rw (next, reverse_on) broken_there.breaks;
})

whole_or_broken : (past rest : List Event) → (whole_rest past rest ≡ rest) ⊎ Breaks past rest
whole_or_broken past [] = inl refl
whole_or_broken past (event ∷ rest) =
    elim (goes_on past event) as (λ b. goes_on past event ≡ b
    → (whole_rest past (event ∷ rest) ≡ event ∷ rest) ⊎ Breaks past (event ∷ rest)) [
      | true ↦ λ goes. breaks_behind event past rest
          (ap (λ (b : Bool). if b then event ∷ whole_rest (event ∷ past) rest else []) goes)
          (whole_or_broken (event ∷ past) rest)
      | false ↦ λ breaks.
          let none : whole_rest past (event ∷ rest) ≡ [] =
          ap (λ (b : Bool). if b then event ∷ whole_rest (event ∷ past) rest else []) breaks in
          inr (record { event = event; more = rest; parts = rw none refl; breaks = rw none breaks })
    ] refl

pub whole_is_longest : (events : List Event) → WholeIsLongest events
whole_is_longest events = record {
  is_whole = rw append-nil at (whole_rest_is_whole [] events tt);
  longest = elim (whole_or_broken [] events) [
    | inl all ↦ inl all
    | inr found ↦ inr
        (record {
          event = found.event;
          more = found.more;
          parts = found.parts;
          breaks =
              rw append-nil at found.breaks;
        })
  ];
}
