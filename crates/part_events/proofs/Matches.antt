-- Reading forward finds the match of a start.
use Rattle.std.proofs.Common.{◌≡◌, ◌≢◌, ℕ, zero, suc, ◌+◌, List, [], ◌∷◌, ◌++◌, reverse, true}
use Rattle.std.proofs.Common.{false, refl, ◌∙◌, ap, arith}
use Rattle.part_events.specs.Event.{Tag, Event, start, end, leaf}
use Rattle.part_events.specs.Nesting.{starts_in, ends_in, IsWhole}
use Rattle.part_events.specs.NestingLaws.{IsMatch, ClosesAtMatch}
use Rattle.part_events.specs.Section.{content, is_closed, behind}
use Rattle.part_events.proofs.LookingBack.{balances}
use Rattle.part_events.proofs.Nested.{reverse_on}

pub record CountsTogether (events past : List Event) : Type 0 where
  pub starts : starts_in (reverse events ++ past) ≡ starts_in events + starts_in past
  pub ends : ends_in (reverse events ++ past) ≡ ends_in events + ends_in past

pub counts_together : (events past : List Event) → CountsTogether events past
counts_together [] past = record { starts = omega arith; ends = omega arith }
counts_together (start tag ∷ events) past = let rest = counts_together events (start tag ∷ past) in
    let same = reverse_on (start tag) events past in
    record {
      starts = omega (arith, ap starts_in same, rest.starts);
      ends =
          omega (arith, ap ends_in same, rest.ends);
    }
counts_together (end name ∷ events) past = let rest = counts_together events (end name ∷ past) in
    let same = reverse_on (end name) events past in
    record {
      starts = omega (arith, ap starts_in same, rest.starts);
      ends =
          omega (arith, ap ends_in same, rest.ends);
    }
counts_together (leaf kind ∷ events) past = let rest = counts_together events (leaf kind ∷ past) in
    let same = reverse_on (leaf kind) events past in
    record {
      starts = omega (arith, ap starts_in same, rest.starts);
      ends =
          omega (arith, ap ends_in same, rest.ends);
    }

-- no end before closes the element, where `within` elements are open in it
abbrev IsLeast : ℕ → List Event → Type 0
IsLeast within inside = (front more : List Event) (earlier : List ℕ) → inside
    ≡ front ++ end earlier ∷ more → starts_in front + within ≢ ends_in front

record Closes (within : ℕ) (events : List Event) : Type 0 where
  name : List ℕ
  parts : events ≡ content within events ++ end name ∷ behind within events
  balance : starts_in (content within events) + within ≡ ends_in (content within events)
  least : IsLeast within (content within events)

no_end : (front more : List Event) (earlier : List ℕ) → [] ≡ front ++ end earlier ∷ more → ⊥
no_end [] more earlier parts = cc
no_end (first ∷ front) more earlier parts = cc

least_behind : (event : Event) (inside : List Event) (within deeper : ℕ) → IsLeast deeper inside
    → starts_in (event ∷ []) + within ≡ ends_in (event ∷ []) + deeper
    → ((name : List ℕ) → event ≡ end name → within ≢ 0)
    → ((front : List Event) → starts_in (event ∷ front) ≡ starts_in (event ∷ []) + starts_in front)
    → ((front : List Event) → ends_in (event ∷ front) ≡ ends_in (event ∷ []) + ends_in front)
    → IsLeast within (event ∷ inside)
least_behind event inside within deeper least moves inner starts ends [] more earlier parts =
    λ same.
    let is_end : event ≡ end earlier = cc in inner earlier is_end (omega (arith, same))
least_behind event inside within deeper least moves inner starts ends (first ∷ front) more earlier
    parts =
    let is_first : event ≡ first = cc in
    let rest : inside ≡ front ++ end earlier ∷ more = cc in
    rw (← is_first) (λ same. least front more earlier rest
    (omega (arith, same, moves, starts front, ends front)))

closes : (within : ℕ) (events : List Event) → is_closed within events ≡ true → Closes within events
closes within [] is = absurd (cc)
closes within (start tag ∷ events) is =
    let rest = closes (suc within) events is in
    record {
      name = rest.name;
      parts = ap (λ (more : List Event). start tag ∷ more) rest.parts;
      balance = omega (arith, rest.balance);
      least = least_behind (start tag) (content (suc within) events) within (suc within) rest.least
          (omega arith) (λ name never. absurd (cc)) (λ front. omega arith) (λ front. omega arith);
    }
closes zero (end name ∷ events) is =
    record {
      name = name;
      parts = refl;
      balance = omega arith;
      least =
          λ front more earlier parts. absurd (no_end front more earlier parts);
    }
closes (suc within) (end name ∷ events) is =
    let rest = closes within events is in
    record {
      name = rest.name;
      parts = ap (λ (more : List Event). end name ∷ more) rest.parts;
      balance = omega (arith, rest.balance);
      least = least_behind (end name) (content within events) (suc within) within rest.least
          (omega arith) (λ other_name same. omega arith) (λ front. omega arith)
          (λ front. omega arith);
    }
closes within (leaf kind ∷ events) is =
    let rest = closes within events is in
    record {
      name = rest.name;
      parts =
          ap (λ (more : List Event). leaf kind ∷ more) rest.parts;
      balance = rest.balance;
      least =
          least_behind (leaf kind) (content within events) within within rest.least (omega arith)
          (λ name never. absurd (cc)) (λ front. omega arith) (λ front. omega arith);
    }

pub closes_at_match : (past : List Event) (tag : Tag) (events : List Event) → IsWhole past
    → is_closed 0 events ≡ true → ClosesAtMatch past tag events
closes_at_match past tag events is_whole is =
    let found = closes 0 events is in
    let fewer = (balances past is_whole).ends in
    let inside = content 0 events in
    record {
      name = found.name;
      match = record {
        parts = found.parts;
        one_in = omega (
          arith,
          found.balance,
          fewer,
          (counts_together inside (start tag ∷ past)).starts,
          (counts_together inside (start tag ∷ past)).ends,
        );
        least = λ front more earlier parts same. found.least front more earlier parts
            (omega (
              arith,
              same,
              fewer,
              (counts_together front (start tag ∷ past)).starts,
              (counts_together front (start tag ∷ past)).ends,
            ));
      };
    }

abbrev ClosesBefore : ℕ → List Event → List ℕ → List Event → Type 0
ClosesBefore within inside name after =
    (is_closed within (inside ++ end name ∷ after) ≡ true)
    × (content within (inside ++ end name ∷ after) ≡ inside)
    × (behind within (inside ++ end name ∷ after) ≡ after)

closed_before : (event : Event) (inside : List Event) (name : List ℕ) (after : List Event)
    (within deeper : ℕ) → (is_closed within (event ∷ (inside ++ end name ∷ after))
    ≡ is_closed deeper (inside ++ end name ∷ after))
    → (content within (event ∷ (inside ++ end name ∷ after))
    ≡ event ∷ content deeper (inside ++ end name ∷ after))
    → (behind within (event ∷ (inside ++ end name ∷ after))
    ≡ behind deeper (inside ++ end name ∷ after)) → ClosesBefore deeper inside name after
    → ClosesBefore within (event ∷ inside) name after
closed_before event inside name after within deeper closed contents rest found = (
  closed ∙ found.0,
  contents ∙ ap (λ (events : List Event). event ∷ events) found.1,
  rest
      ∙ found.2,
)

least_later : (event : Event) (inside : List Event) (within deeper : ℕ)
    → IsLeast within (event ∷ inside) → starts_in (event ∷ []) + within
    ≡ ends_in (event ∷ []) + deeper
    → ((front : List Event) → starts_in (event ∷ front) ≡ starts_in (event ∷ []) + starts_in front)
    → ((front : List Event) → ends_in (event ∷ front) ≡ ends_in (event ∷ []) + ends_in front)
    → IsLeast deeper inside
least_later event inside within deeper least moves starts ends = λ front more earlier parts same.
    least (event ∷ front) more earlier (ap (λ (events : List Event). event ∷ events) parts)
    (omega (arith, same, moves, starts front, ends front))

closes_before : (inside : List Event) (within : ℕ) (name : List ℕ) (after : List Event)
    → starts_in inside + within ≡ ends_in inside → IsLeast within inside
    → ClosesBefore within inside name after
closes_before [] zero name after balance least = (refl, refl, refl)
closes_before [] (suc within) name after balance least = absurd (omega (arith, balance))
closes_before (start tag ∷ inside) within name after balance least =
    closed_before (start tag) inside name after within (suc within) refl refl refl
    (closes_before inside (suc within) name after (omega (arith, balance))
    (least_later (start tag) inside within (suc within) least (omega arith)
    (λ front. omega arith) (λ front. omega arith)))
closes_before (end other_name ∷ inside) zero name after balance least =
    absurd (least [] inside other_name refl (omega arith))
closes_before (end other_name ∷ inside) (suc within) name after balance least =
    closed_before (end other_name) inside name after (suc within) within refl refl refl
    (closes_before inside within name after (omega (arith, balance))
    (least_later (end other_name) inside (suc within) within least (omega arith)
    (λ front. omega arith) (λ front. omega arith)))
closes_before (leaf kind ∷ inside) within name after balance least =
    closed_before (leaf kind) inside name after within within refl refl refl
    (closes_before inside within name after balance
    (least_later (leaf kind) inside within within least (omega arith) (λ front. omega arith)
    (λ front. omega arith)))

pub match_closes : (past : List Event) (tag : Tag) (events inside : List Event) (name : List ℕ)
    (after : List Event) → IsWhole past → IsMatch past tag events inside name after
    → (is_closed 0 events ≡ true) × (content 0 events ≡ inside) × (behind 0 events ≡ after)
match_closes past tag events inside name after is_whole is =
    let fewer = (balances past is_whole).ends in
    rw is.parts (closes_before inside 0 name after
    (omega (
      arith,
      is.one_in,
      fewer,
      (counts_together inside (start tag ∷ past)).starts,
      (counts_together inside (start tag ∷ past)).ends,
    ))
    (λ front more earlier parts same. is.least front more earlier parts
    (omega (
      arith,
      same,
      fewer,
      (counts_together front (start tag ∷ past)).starts,
      (counts_together front (start tag ∷ past)).ends,
    ))))

stays_open : (within : ℕ) (events : List Event) → is_closed within events ≡ false
    → (content within events ≡ events) × (behind within events ≡ [])
stays_open within [] is = (refl, refl)
stays_open within (start tag ∷ events) is = let rest = stays_open (suc within) events is in
    (ap (λ (more : List Event). start tag ∷ more) rest.0, rest.1)
stays_open zero (end name ∷ events) is = absurd (cc)
stays_open (suc within) (end name ∷ events) is = let rest = stays_open within events is in
    (ap (λ (more : List Event). end name ∷ more) rest.0, rest.1)
stays_open within (leaf kind ∷ events) is = let rest = stays_open within events is in
    (ap (λ (more : List Event). leaf kind ∷ more) rest.0, rest.1)

pub open_still : (events : List Event) → is_closed 0 events ≡ false → (content 0 events ≡ events)
    × (behind 0 events ≡ [])
open_still events is = stays_open 0 events is
