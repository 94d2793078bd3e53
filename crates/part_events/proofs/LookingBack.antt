-- Looking back finds the last start whose depth is one less.
use Rattle.std.proofs.Common.{◌≡◌, ◌≢◌, ℕ, zero, suc, ◌+◌, ◌<◌, ◌≤◌, List, [], ◌∷◌, ◌++◌, true}
use Rattle.std.proofs.Common.{false, refl, sym, ◌∙◌, ap, arith, Option, Some, None}
use Rattle.std.specs.Prelude.{option_map}
use Rattle.std.specs.Option.{option_map_or}
use Rattle.std.specs.Str.{bytes_eq}
use Rattle.part_events.specs.Event.{Tag, Event, start, end, leaf}
use Rattle.part_events.specs.Nesting.{OpenStart, starts_in, ends_in, depth, open_start, IsWhole}
use Rattle.part_events.specs.NestingLaws.{IsLastStartOneOut}

-- there are no more ends than starts, and one start less for each element that is open further out
pub record Balances (past : List Event) : Type 0 where
  pub ends : ends_in past ≤ starts_in past
  pub deep : (outside : ℕ) (opening : OpenStart) → open_start outside past ≡ Some opening
      → ends_in past + suc outside ≤ starts_in past

some_open : (o : Option OpenStart) (name : List ℕ)
    → option_map_or (bytes_eq name) (option_map (λ (opening : OpenStart). opening.tag.name) o) false
    ≡ true → (opening : OpenStart) × (o ≡ Some opening)
some_open None name is = absurd (cc)
some_open (Some opening) name is = (opening, refl)

deep_start : (tag : Tag) (past : List Event) → Balances past → (outside : ℕ) (opening : OpenStart)
    → open_start outside (start tag ∷ past) ≡ Some opening
    → ends_in past + suc outside ≤ starts_in past + 1
deep_start tag past was zero opening is = omega (arith, was.ends)
deep_start tag past was (suc outside) opening is = omega (arith, was.deep outside opening is)

pub balances : (past : List Event) → IsWhole past → Balances past
balances [] is = record { ends = omega arith; deep = λ outside opening never. absurd (cc) }
balances (start tag ∷ past) is =
    let was = balances past is.1 in
    record { ends = omega (arith, was.ends); deep = deep_start tag past was }
balances (end name ∷ past) is =
    let was = balances past is.1 in
    let found = some_open (open_start 0 past) name is.0 in
    record {
      ends = omega (arith, was.deep 0 found.0 found.1);
      deep = λ outside opening here. omega (arith, was.deep (suc outside) opening here);
    }
balances (leaf kind ∷ past) is = let was = balances past is.1 in
    record { ends = was.ends; deep = was.deep }

pub record Finds (outside : ℕ) (past : List Event) (opening : OpenStart) : Type 0 where
  pub later : List Event
  pub parts : past ≡ later ++ start opening.tag ∷ opening.before
  pub out : depth opening.before + 1 + outside ≡ depth past
  pub last : (nearer farther : List Event) (between : Tag) → later
      ≡ nearer ++ start between ∷ farther
      → depth (farther ++ start opening.tag ∷ opening.before) + 1 + outside ≢ depth past

-- no start stands in an empty list
nothing : (nearer farther : List Event) (between : Tag) → [] ≡ nearer ++ start between ∷ farther → ⊥
nothing [] farther between parts = cc
nothing (first ∷ nearer) farther between parts = cc

finds_here : (tag : Tag) (past : List Event) (opening : OpenStart) → Balances past
    → open_start 0 (start tag ∷ past) ≡ Some opening → Finds 0 (start tag ∷ past) opening
finds_here tag past opening was is =
    let here : OpenStart = record { tag = tag; before = past } in
    let same : here ≡ opening = cc in
    record {
      later = [];
      parts = ap (λ (o : OpenStart). start o.tag ∷ o.before) same;
      out = ap (λ (o : OpenStart). depth o.before + 1 + 0) (sym same) ∙ omega (arith, was.ends);
      last = λ nearer farther between parts. absurd (nothing nearer farther between parts);
    }

-- A start further out, seen from behind another event: the depth is `up` more than before that
-- event, less `down`.
finds_behind : (event : Event) (past : List Event) (opening : OpenStart) (outside before : ℕ)
    → Finds before past opening → depth (event ∷ past) + before ≡ depth past + outside
    → ((tag : Tag) → event ≡ start tag → 0 < outside) → Finds outside (event ∷ past) opening
finds_behind event past opening outside before found moves farther_out = record {
  later = event ∷ found.later;
  parts = ap (λ (events : List Event). event ∷ events) found.parts;
  out = omega (arith, found.out, moves);
  last = last;
}
  where
    last : (nearer farther : List Event) (between : Tag) → event ∷ found.later
        ≡ nearer ++ start between ∷ farther
        → depth (farther ++ start opening.tag ∷ opening.before) + 1 + outside ≢ depth (event ∷ past)
    last [] farther between parts =
        let first : event ≡ start between = cc in
        let rest : found.later ≡ farther = cc in
        let some = farther_out between first in
        let all : depth past ≡ depth (farther ++ start opening.tag ∷ opening.before) =
        ap depth (found.parts
        ∙ ap (λ (events : List Event). events ++ start opening.tag ∷ opening.before) rest) in
        λ same. omega (arith, found.out, moves, all, same, some)
    last (first ∷ nearer) farther between parts =
        let rest : found.later ≡ nearer ++ start between ∷ farther = cc in
        let not_there = found.last nearer farther between rest in
        λ same. not_there (omega (arith, found.out, moves, same))

pub finds_last : (past : List Event) (outside : ℕ) (opening : OpenStart) → IsWhole past
    → open_start outside past ≡ Some opening → Finds outside past opening
finds_last [] outside opening is here = absurd (cc)
finds_last (start tag ∷ past) zero opening is here =
    finds_here tag past opening (balances past is.1) here
finds_last (start tag ∷ past) (suc outside) opening is here =
    finds_behind (start tag) past opening (suc outside) outside
    (finds_last past outside opening is.1 here) (omega (arith, (balances past is.1).ends))
    (λ other_tag same. omega arith)
finds_last (end name ∷ past) outside opening is here =
    finds_behind (end name) past opening outside (suc outside)
    (finds_last past (suc outside) opening is.1 here)
    (omega (arith, (balances (end name ∷ past) is).ends)) (λ other_tag same. absurd (cc))
finds_last (leaf kind ∷ past) outside opening is here =
    finds_behind (leaf kind) past opening outside outside
    (finds_last past outside opening is.1 here) refl (λ other_tag same. absurd (cc))

abbrev IsLast : ℕ → List Event → Tag → List Event → Type 0
IsLast outside later tag before = (nearer farther : List Event) (between : Tag) → later
    ≡ nearer ++ start between ∷ farther
    → depth (farther ++ start tag ∷ before) + 1 + outside ≢ depth (later ++ start tag ∷ before)

last_behind : (event : Event) (later : List Event) (tag : Tag) (before : List Event)
    (outside deeper : ℕ) → IsLast outside (event ∷ later) tag before
    → depth (event ∷ (later ++ start tag ∷ before)) + deeper
    ≡ depth (later ++ start tag ∷ before) + outside → IsLast deeper later tag before
last_behind event later tag before outside deeper last moves = λ nearer farther between parts same.
    last (event ∷ nearer) farther between (ap (λ (events : List Event). event ∷ events) parts)
    (omega (arith, moves, same))

pub found_back : (later : List Event) (outside : ℕ) (tag : Tag) (before : List Event)
    → IsWhole (later ++ start tag ∷ before) → depth before + 1 + outside
    ≡ depth (later ++ start tag ∷ before) → IsLast outside later tag before
    → open_start outside (later ++ start tag ∷ before)
    ≡ Some (record { tag = tag; before = before })
found_back [] zero tag before is out last = refl
found_back [] (suc outside) tag before is out last =
    absurd (omega (arith, (balances before is.1).ends, out))
found_back (start next ∷ later) zero tag before is out last =
    absurd (last [] later next refl
    (omega (arith, out, (balances (later ++ start tag ∷ before) is.1).ends)))
found_back (start next ∷ later) (suc outside) tag before is out last =
    let moves : depth (start next ∷ (later ++ start tag ∷ before)) + outside
    ≡ depth (later ++ start tag ∷ before) + suc outside =
    omega (arith, (balances (later ++ start tag ∷ before) is.1).ends) in
    found_back later outside tag before is.1 (omega (arith, out, moves))
    (last_behind (start next) later tag before (suc outside) outside last moves)
found_back (end name ∷ later) outside tag before is out last =
    let moves : depth (end name ∷ (later ++ start tag ∷ before)) + suc outside
    ≡ depth (later ++ start tag ∷ before) + outside =
    omega (arith, (balances (end name ∷ (later ++ start tag ∷ before)) is).ends) in
    found_back later (suc outside) tag before is.1 (omega (arith, out, moves))
    (last_behind (end name) later tag before outside (suc outside) last moves)
found_back (leaf kind ∷ later) outside tag before is out last =
    found_back later outside tag before is.1 out
    (last_behind (leaf kind) later tag before outside outside last refl)

pub innermost_is_last : (past : List Event) (opening : OpenStart) → IsWhole past → open_start 0 past
    ≡ Some opening → IsLastStartOneOut past opening
innermost_is_last past opening is here =
    let found = finds_last past 0 opening is here in
    record {
      later = found.later;
      parts = found.parts;
      one_out = omega (arith, found.out);
      last = λ nearer farther between parts same. found.last nearer farther between parts
          (omega (arith, same));
    }

pub last_is_innermost : (past : List Event) (opening : OpenStart) → IsWhole past
    → IsLastStartOneOut past opening → open_start 0 past ≡ Some opening
last_is_innermost past opening is found =
    ap (open_start 0) found.parts
    ∙ found_back found.later 0 opening.tag opening.before (rw found.parts at is)
    (omega (arith, found.one_out, ap depth found.parts))
    (λ nearer farther between parts same. found.last nearer farther between parts
    (omega (arith, same, ap depth found.parts)))
