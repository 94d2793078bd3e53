-- Parts are found by their names.
use Rattle.std.proofs.Common.{◌≡◌, ℕ, suc, ◌<◌, List, [], ◌∷◌, ◌++◌, length, Bool, true, false}
use Rattle.std.proofs.Common.{Option, Some, None, refl, sym, ap, ◌∙◌, subst, arith}
use Rattle.std.proofs.lemmas.Cmp.{eq_by_cmp_equiv, nat_list_cmp_total, nat_list_eq_equiv}
use Rattle.std.proofs.lemmas.Map.Text.{is_eq-slice_cmp}
use Rattle.std.specs.Prelude.{if◌then◌else◌, option_map, is_some, IfSome, Vec, ◌≤◌}
use Rattle.std.specs.BTreeMap.{BTreeMap, UpdatesBy, is_at}
use Rattle.std.specs.Cmp.Lexicographic.{slice_cmp, bytes_decides}
use Rattle.std.specs.Ordering.{nat_cmp, is_eq, eq_by_cmp}
use Rattle.std.specs.declared.cmp.Ordering.{Ordering}
use Rattle.std.specs.Str.{bytes_eq}
use Rattle.std.specs.Map.{KeepsOthers, IsKeyTest, AreApart, lookup}
use Rattle.std.specs.declared.alloc.Global.{Global}
use Rattle.part_events.specs.Event.{Event}
use Rattle.part_events.specs.Memory.{part_at, with_event}
use Rattle.part_events.specs.Package.{Part, folded, part_of}
use Rattle.part_events.specs.PartNames.{place_of, place_by, FindsParts}
use Rattle.part_events.specs.declared.part_names.PartNames.{PartNames}

abbrev pub events_at : List Part → ℕ → List Event
events_at parts place = (part_at parts place).events

map_twice : (part : Part) (parts : List Part) (place : Option ℕ)
    → option_map (events_at parts) place
    ≡ option_map (events_at (part ∷ parts)) (option_map suc place)
map_twice part parts None = refl
map_twice part parts (Some place) = refl

found_if : (b : Bool) (part : Part) (parts : List Part) (name : List ℕ)
    → part_of parts name ≡ option_map (events_at parts) (place_of parts (folded name))
    → (if b then Some part.events else part_of parts name)
    ≡ option_map (events_at (part ∷ parts))
    (if b then Some 0 else option_map suc (place_of parts (folded name)))
found_if true part parts name same = refl
found_if false part parts name same = same ∙ map_twice part parts (place_of parts (folded name))

-- the part of a name is the one at its place
pub part_of_place : (parts : List Part) (name : List ℕ)
    → part_of parts name ≡ option_map (events_at parts) (place_of parts (folded name))
part_of_place [] name = refl
part_of_place (part ∷ parts) name =
    found_if (bytes_eq (folded part.name) (folded name)) part parts name (part_of_place parts name)

pub opens_found : (parts : List Part) (name : List ℕ) (place : ℕ)
    → Some place ≡ place_of parts (folded name) → part_of parts name ≡ Some (events_at parts place)
opens_found parts name place is =
    part_of_place parts name ∙ ap (option_map (events_at parts)) (sym is)

pub opens_none : (parts : List Part) (name : List ℕ) → None ≡ place_of parts (folded name)
    → part_of parts name ≡ None
opens_none parts name is = part_of_place parts name ∙ ap (option_map (events_at parts)) (sym is)

within_more : (part : Part) (parts : List Part) (place : Option ℕ)
    → IfSome place (λ at. at < length parts)
    → IfSome (option_map suc place) (λ at. at < length (part ∷ parts))
within_more part parts None is = tt
within_more part parts (Some place) is = omega (arith, is)

within_if : (b : Bool) (part : Part) (parts : List Part) (place : Option ℕ)
    → IfSome place (λ at. at < length parts)
    → IfSome (if b then Some 0 else option_map suc place) (λ at. at < length (part ∷ parts))
within_if true part parts place is = omega arith
within_if false part parts place is = within_more part parts place is

pub place_within : (parts : List Part) (key : List ℕ)
    → IfSome (place_of parts key) (λ at. at < length parts)
place_within [] key = tt
place_within (part ∷ parts) key =
    within_if (bytes_eq (folded part.name) key) part parts (place_of parts key)
    (place_within parts key)

-- ---- a part more

abbrev pub or_last : Option ℕ → Bool → ℕ → Option ℕ
or_last (Some place) is last = Some place
or_last None true last = Some last
or_last None false last = None

or_last_suc : (place : Option ℕ) (is : Bool) (last : ℕ)
    → option_map suc (or_last place is last) ≡ or_last (option_map suc place) is (suc last)
or_last_suc (Some place) is last = refl
or_last_suc None true last = refl
or_last_suc None false last = refl

last_if : (b is : Bool) (place : Option ℕ) (last : ℕ)
    → (if b then Some 0 else option_map suc (or_last place is last))
    ≡ or_last (if b then Some 0 else option_map suc place) is (suc last)
last_if true is place last = refl
last_if false is place last = or_last_suc place is last

first_if : (is : Bool) → (if is then Some 0 else None) ≡ or_last None is 0
first_if true = refl
first_if false = refl

pub place_of_more : (parts : List Part) (part : Part) (key : List ℕ)
    → place_of (parts ++ part ∷ []) key
    ≡ or_last (place_of parts key) (bytes_eq (folded part.name) key) (length parts)
place_of_more [] part key = first_if (bytes_eq (folded part.name) key)
place_of_more (first ∷ parts) part key =
    ap (λ (place : Option ℕ). if bytes_eq (folded first.name) key then Some 0
    else option_map suc place) (place_of_more parts part key)
    ∙ last_if (bytes_eq (folded first.name) key) (bytes_eq (folded part.name) key)
    (place_of parts key) (length parts)

-- an event more changes no name
pub place_with_event : (parts : List Part) (event : Event) (key : List ℕ)
    → place_of (with_event parts event) key ≡ place_of parts key
place_with_event [] event key = refl
place_with_event (part ∷ []) event key = refl
place_with_event (part ∷ next ∷ parts) event key =
    ap (λ (place : Option ℕ). if bytes_eq (folded part.name) key then Some 0
    else option_map suc place) (place_with_event (next ∷ parts) event key)

-- ---- what is kept

abbrev pub name_cmp : Vec ℕ Global → Vec ℕ Global → Ordering
name_cmp first second = slice_cmp nat_cmp first.items second.items

apart : (first second kept : List ℕ) → bytes_eq first second ≡ false
    → is_eq (slice_cmp nat_cmp first kept) ≡ true → is_eq (slice_cmp nat_cmp second kept) ≡ false
apart first second kept not is =
    is_eq-slice_cmp second kept ∙ nat_list_eq_equiv.symm second kept
    ∙ sym (nat_list_eq_equiv.congr first kept second (sym (is_eq-slice_cmp first kept) ∙ is)) ∙ not

kept_others : {K X : Type 0} (same : K → K → Bool) (test other : K → Bool) (old new : List (K × X))
    → KeepsOthers same test old new → IsKeyTest same other → AreApart test other
    → lookup other new ≡ lookup other old
unfolding KeepsOthers
kept_others same test other old new keeps one apart = keeps other one apart

kept_if : (old new : BTreeMap (Vec ℕ Global) ℕ) (key : Vec ℕ Global) (place : Option ℕ)
    → UpdatesBy name_cmp (name_cmp key) old new place → (other : List ℕ) (b : Bool)
    → bytes_eq key.items other ≡ b
    → place_by new other ≡ (if b then place else place_by old other)
kept_if old new key place updates other true is =
    subst (λ (own : List ℕ). place_by new own ≡ place) ((bytes_decides key.items other).0 is)
    updates.1
kept_if old new key place updates other false not =
    kept_others (eq_by_cmp name_cmp) (is_at (name_cmp key))
    (is_at (λ (kept : Vec ℕ Global). slice_cmp nat_cmp other kept.items)) old.entries new.entries
    updates.3 (λ x y. (eq_by_cmp_equiv nat_list_cmp_total).congr other x.items y.items)
    (λ kept. apart key.items other kept.items not)

is_longer_if : (first second : List ℕ) (b : Bool) → bytes_eq first second ≡ b
    → length first < length second → b ≡ false
is_longer_if first second false is shorter = refl
is_longer_if first second true is shorter =
    let same : first ≡ second = (bytes_decides first second).0 is in
    let lengths : length first ≡ length second = ap length same in
    absurd (omega (arith, lengths, shorter))

is_longer : (first second : List ℕ) → length first < length second → bytes_eq first second ≡ false
is_longer first second shorter = is_longer_if first second (bytes_eq first second) refl shorter

longer_has_none : (names : PartNames) (parts : List Part) (part : Part) (room : ℕ) (key : List ℕ)
    → FindsParts names parts → length names.buffer.items ≤ room
    → length (folded part.name) ≤ room → room < length key
    → place_of (parts ++ part ∷ []) key ≡ None
longer_has_none names parts part room key been grows fits longer =
    let none : place_of parts key ≡ None = been.fits key (omega (arith, grows, longer)) in
    let other : bytes_eq (folded part.name) key ≡ false =
    is_longer (folded part.name) key (omega (arith, fits, longer)) in
    rw (place_of_more parts part key, none, other) refl

none_last : (place : Option ℕ) (last : ℕ) → place ≡ or_last place false last
none_last None last = refl
none_last (Some place) last = refl

new_if : (place : Option ℕ) (b : Bool) (last : ℕ) → (b ≡ true → place ≡ None)
    → (if b then Some last else place) ≡ or_last place b last
new_if place true last none = rw (none refl) refl
new_if place false last none = none_last place last

-- the first part of its name was put behind the others
pub finds_new : (old new : PartNames) (parts : List Part) (part : Part) (key : Vec ℕ Global)
    → FindsParts old parts → key.items ≡ folded part.name → place_by old.places key.items ≡ None
    → UpdatesBy name_cmp (name_cmp key) old.places new.places (Some (length parts))
    → length old.buffer.items ≤ length new.buffer.items
    → length (folded part.name) ≤ length new.buffer.items
    → FindsParts new (parts ++ part ∷ [])
finds_new old new parts part key been named absent updates grows fits = record {
  kept = λ other.
      let b = bytes_eq key.items other in
      let found : place_by new.places other
      ≡ (if b then Some (length parts) else place_by old.places other) =
      kept_if old.places new.places key (Some (length parts)) updates other b refl in
      found
      ∙ ap (λ (place : Option ℕ). if b then Some (length parts) else place) (been.kept other)
      ∙ new_if (place_of parts other) b (length parts) (λ is.
      subst (λ (own : List ℕ). place_of parts own ≡ None)
      ((bytes_decides key.items other).0 is) (sym (been.kept key.items) ∙ absent))
      ∙ ap (λ (own : List ℕ). or_last (place_of parts other) (bytes_eq own other) (length parts))
      named
      ∙ sym (place_of_more parts part other);
  fits = λ other longer.
      longer_has_none old parts part (length new.buffer.items) other been grows fits longer;
}

again_if : (place : Option ℕ) (b : Bool) (last : ℕ) → (b ≡ true → place ≡ None → ⊥)
    → place ≡ or_last place b last
again_if (Some place) b last some = refl
again_if None true last some = absurd (some refl refl)
again_if None false last some = refl

-- or another part of its name stands before it
pub finds_again : (old new : PartNames) (parts : List Part) (part : Part) (key : Vec ℕ Global)
    → FindsParts old parts → key.items ≡ folded part.name
    → (place_by old.places key.items ≡ None → ⊥)
    → new.places ≡ old.places → length old.buffer.items ≤ length new.buffer.items
    → length (folded part.name) ≤ length new.buffer.items
    → FindsParts new (parts ++ part ∷ [])
finds_again old new parts part key been named there same grows fits = record {
  kept = λ other.
      let b = bytes_eq key.items other in
      ap (λ (places : BTreeMap (Vec ℕ Global) ℕ). place_by places other) same
      ∙ been.kept other
      ∙ again_if (place_of parts other) b (length parts) (λ is none.
      there (been.kept key.items ∙ subst (λ (own : List ℕ). place_of parts own ≡ None)
      (sym ((bytes_decides key.items other).0 is)) none))
      ∙ ap (λ (own : List ℕ). or_last (place_of parts other) (bytes_eq own other) (length parts))
      named
      ∙ sym (place_of_more parts part other);
  fits = λ other longer.
      longer_has_none old parts part (length new.buffer.items) other been grows fits longer;
}

pub none_kept : (place : Option ℕ) → is_some place ≡ false → place ≡ None
none_kept None is = refl
none_kept (Some place) is = absurd (cc)

pub some_kept : (place : Option ℕ) → is_some place ≡ true → place ≡ None → ⊥
some_kept None is none = cc
some_kept (Some place) is none = cc

-- what isn't kept longer is found as before
pub finds_still : (old new : PartNames) (parts : List Part) → FindsParts old parts
    → new.places ≡ old.places → length old.buffer.items ≤ length new.buffer.items
    → FindsParts new parts
finds_still old new parts been same grows = record {
  kept = λ key. ap (λ (places : BTreeMap (Vec ℕ Global) ℕ). place_by places key) same
      ∙ been.kept key;
  fits = λ key longer. been.fits key (omega (arith, grows, longer));
}

-- an event more changes nothing here
pub finds_with_event : (names : PartNames) (parts : List Part) (event : Event)
    → FindsParts names parts → FindsParts names (with_event parts event)
finds_with_event names parts event been = record {
  kept = λ key. been.kept key ∙ sym (place_with_event parts event key);
  fits = λ key longer. place_with_event parts event key ∙ been.fits key longer;
}
