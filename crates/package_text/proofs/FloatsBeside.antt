-- Parts and events have no numbers, so that these are looked for beside them alone.
use Rattle.std.proofs.Common.{◌≡◌, ◌||◌, ℕ, List, Bool, true, false, Option, Some, None, refl, sym}
use Rattle.std.proofs.Common.{◌∙◌, ap, if◌then◌else◌, codes, ◌∷◌, ◌++◌, inl, inr}
use Rattle.std.specs.Prelude.{◌⊎◌}
use Rattle.std.specs.Option.{option_map, option_and_then}
use Rattle.std.specs.Ordering.{is_eq, nat_cmp, match_ordering}
use Rattle.std.specs.Str.{bytes_eq}
use Rattle.std.specs.Cmp.Lexicographic.{slice_cmp}
use Rattle.std.specs.declared.cmp.Ordering.{Ordering}
use Rattle.std.specs.declared.cmp.Ordering.TheVariants.{Less, Equal, Greater}
use Rattle.std.proofs.lemmas.Map.Text.{is_eq-slice_cmp}
use Rattle.serde_json.specs.Data.{Data, null, boolean, number, string, array, object, Items}
use Rattle.serde_json.specs.Data.{no_items, item, Members, no_members, member}
use Rattle.serde_json.specs.Find.{get, get_member, as_array, as_str, as_number, as_u64}
use Rattle.serde_json.specs.Written.{has_float, items_have_float, members_have_float}
use Rattle.part_events.specs.Words.{Event, Part}
use Rattle.package_text.specs.PackageText.{texts_of, events_of_texts, events_of_value}
use Rattle.package_text.specs.PackageText.{events_of_items, named_part, part_in, parts_in}
use Rattle.package_text.specs.PackageText.{version_is_second, package_of, members_have_float_beside}
use Rattle.package_text.specs.PackageText.{has_float_beside, part_beside, parts_beside}
use Rattle.package_text.specs.PackageText.{package_beside}

-- ---- the members of an object

-- whether a value that may be there has a float
abbrev given_float : Option Data → Bool
given_float None = false
given_float (Some value) = has_float value

or_swap : (a b : Bool) → (a || b) ≡ (b || a)
or_swap true true = refl
or_swap true false = refl
or_swap false true = refl
or_swap false false = refl

or_over : (a b c : Bool) → (a || (b || c)) ≡ ((a || b) || c)
or_over true b c = refl
or_over false b c = refl

-- the member of an order, beside the others
by_order : (order : Ordering) (test : Bool) (value : Data) (rest beside : Bool)
    (found : Option Data) → is_eq order ≡ test → rest ≡ (beside || given_float found)
    → (has_float value || rest)
    ≡ ((if test then rest else (has_float value || beside))
    || given_float (match_ordering order found (Some value) found))
by_order Less true value rest beside found is same = absurd cc
by_order Less false value rest beside found is same =
    ap (λ (own : Bool). has_float value || own) same
    ∙ or_over (has_float value) beside (given_float found)
by_order Equal true value rest beside found is same = or_swap (has_float value) rest
by_order Equal false value rest beside found is same = absurd cc
by_order Greater true value rest beside found is same = absurd cc
by_order Greater false value rest beside found is same =
    ap (λ (own : Bool). has_float value || own) same
    ∙ or_over (has_float value) beside (given_float found)

members_by_key : (key : List ℕ) (members : Members)
    → members_have_float members
    ≡ (members_have_float_beside key members || given_float (get_member key members))
members_by_key key no_members = refl
members_by_key key (member own value members) =
    by_order (slice_cmp nat_cmp key own) (bytes_eq key own) value (members_have_float members)
    (members_have_float_beside key members) (get_member key members) (is_eq-slice_cmp key own)
    (members_by_key key members)

-- a value that has a member of the key has a float beside it or in it
by_key : (key : List ℕ) (value : Data)
    → has_float value ≡ (has_float_beside key value || given_float (get key value))
by_key key null = refl
by_key key (boolean b) = refl
by_key key (number n) = or_swap false (has_float (number n))
by_key key (string s) = refl
by_key key (array items) = or_swap false (has_float (array items))
by_key key (object members) = members_by_key key members

-- ---- events

behind_none : (s : List ℕ) (rest : Items) (found : Option (List (List ℕ)))
    (texts : List (List ℕ))
    → ((more : List (List ℕ)) → texts_of rest ≡ Some more → items_have_float rest ≡ false)
    → texts_of rest ≡ found
    → option_map (λ (own : List (List ℕ)). s ∷ own) found ≡ Some texts
    → items_have_float rest ≡ false
behind_none s rest None texts none read is = absurd cc
behind_none s rest (Some more) texts none read is = none more read

texts_have_none : (items : Items) (texts : List (List ℕ)) → texts_of items ≡ Some texts
    → items_have_float items ≡ false
texts_have_none no_items texts is = refl
texts_have_none (item null rest) texts is = absurd cc
texts_have_none (item (boolean b) rest) texts is = absurd cc
texts_have_none (item (number n) rest) texts is = absurd cc
texts_have_none (item (string s) rest) texts is =
    behind_none s rest (texts_of rest) texts (texts_have_none rest) refl is
texts_have_none (item (array items) rest) texts is = absurd cc
texts_have_none (item (object members) rest) texts is = absurd cc

array_has_none : (is_second : Bool) (items : Items) (found : Option (List (List ℕ)))
    (own : List Event)
    → texts_of items ≡ found → option_and_then (events_of_texts is_second) found ≡ Some own
    → items_have_float items ≡ false
array_has_none is_second items None own read is = absurd cc
array_has_none is_second items (Some texts) own read is = texts_have_none items texts read

value_has_none : (is_second : Bool) (value : Data) (own : List Event)
    → events_of_value is_second value ≡ Some own → has_float value ≡ false
value_has_none is_second null own is = absurd cc
value_has_none is_second (boolean b) own is = absurd cc
value_has_none is_second (number n) own is = absurd cc
value_has_none is_second (string s) own is = absurd cc
value_has_none is_second (array items) own is =
    array_has_none is_second items (texts_of items) own refl is
value_has_none is_second (object members) own is = absurd cc

or_none : (a b : Bool) → a ≡ false → b ≡ false → (a || b) ≡ false
or_none true b none other = absurd cc
or_none false b none other = other

both_have_none : (is_second : Bool) (value : Data) (rest : Items) (first : Option (List Event))
    (found : Option (List Event)) (events : List Event)
    → ((more : List Event) → events_of_items is_second rest ≡ Some more → items_have_float rest
    ≡ false)
    → events_of_value is_second value ≡ first → events_of_items is_second rest ≡ found
    → option_and_then (λ (own : List Event). option_map (λ (more : List Event). own ++ more) found)
    first ≡ Some events
    → (has_float value || items_have_float rest) ≡ false
both_have_none is_second value rest None found events none one other is = absurd cc
both_have_none is_second value rest (Some own) None events none one other is = absurd cc
both_have_none is_second value rest (Some own) (Some more) events none one other is =
    or_none (has_float value) (items_have_float rest) (value_has_none is_second value own one)
    (none more other)

events_have_none : (is_second : Bool) (items : Items) (events : List Event)
    → events_of_items is_second items ≡ Some events → items_have_float items ≡ false
events_have_none is_second no_items events is = refl
events_have_none is_second (item value rest) events is =
    both_have_none is_second value rest (events_of_value is_second value)
    (events_of_items is_second rest) events (events_have_none is_second rest) refl refl is

-- ---- parts

either_events : (is_second : Bool) (items : Items) (found : Option (List Event))
    → events_of_items is_second items ≡ found
    → (events_of_items is_second items ≡ None) ⊎ (items_have_float items ≡ false)
either_events is_second items None read = inl read
either_events is_second items (Some events) read =
    inr (events_have_none is_second items events read)

-- what is no list of events, or has no float
either : (is_second : Bool) (found : Option Data)
    → (option_and_then (events_of_items is_second) (option_and_then as_array found) ≡ None)
    ⊎ (given_float found ≡ false)
either is_second None = inr refl
either is_second (Some null) = inl refl
either is_second (Some (boolean b)) = inl refl
either is_second (Some (number n)) = inl refl
either is_second (Some (string s)) = inl refl
either is_second (Some (array items)) =
    either_events is_second items (events_of_items is_second items) refl
either is_second (Some (object members)) = inl refl

nameless : (name : Option (List ℕ))
    → option_and_then (λ (own : List ℕ). named_part own None) name ≡ None
nameless None = refl
nameless (Some name) = refl

either_named : (name : Option (List ℕ)) (events : Option (List Event)) (float : Bool)
    → (events ≡ None) ⊎ (float ≡ false)
    → (option_and_then (λ (own : List ℕ). named_part own events) name ≡ None) ⊎ (float ≡ false)
either_named name events float (inl none) =
    inl (ap (λ (own : Option (List Event)). option_and_then (λ (n : List ℕ). named_part n own) name)
    none ∙ nameless name)
either_named name events float (inr is) = inr is

either_part : (is_second : Bool) (value : Data)
    → (part_in is_second value ≡ None) ⊎ (given_float (get (codes "events") value) ≡ false)
either_part is_second value = either_named (option_and_then as_str (get (codes "name") value))
    (option_and_then (events_of_items is_second)
    (option_and_then as_array (get (codes "events") value)))
    (given_float (get (codes "events") value)) (either is_second (get (codes "events") value))

beside_decides : (beside float : Bool) (part : Option Part) → (part ≡ None) ⊎ (float ≡ false)
    → (if beside || float then None else part) ≡ (if beside then None else part)
beside_decides true float part is = refl
beside_decides false true part (inl none) = sym none
beside_decides false true part (inr is) = absurd cc
beside_decides false false part is = refl

-- a part has no float, where none stands beside its events
part_checked : (is_second : Bool) (value : Data)
    → (if has_float value then None else part_in is_second value) ≡ part_beside is_second value
part_checked is_second value =
    ap (λ (test : Bool). if test then None else part_in is_second value)
    (by_key (codes "events") value)
    ∙ beside_decides (has_float_beside (codes "events") value)
    (given_float (get (codes "events") value)) (part_in is_second value)
    (either_part is_second value)

-- a part in front of others
abbrev in_front : Option Part → Option (List Part) → Option (List Part)
in_front first rest =
    option_and_then (λ (part : Part). option_map (λ (parts : List Part). part ∷ parts) rest) first

front_checked : (one other : Bool) (first : Option Part) (rest : Option (List Part))
    → (if one || other then None else in_front first rest)
    ≡ in_front (if one then None else first) (if other then None else rest)
front_checked true other first rest = refl
front_checked false true None rest = refl
front_checked false true (Some part) rest = refl
front_checked false false first rest = refl

parts_checked : (is_second : Bool) (items : Items)
    → (if items_have_float items then None else parts_in is_second items)
    ≡ parts_beside is_second items
parts_checked is_second no_items = refl
parts_checked is_second (item value rest) =
    front_checked (has_float value) (items_have_float rest) (part_in is_second value)
    (parts_in is_second rest)
    ∙ ap (λ (first : Option Part). in_front first
    (if items_have_float rest then None else parts_in is_second rest))
    (part_checked is_second value)
    ∙ ap (in_front (part_beside is_second value)) (parts_checked is_second rest)

-- ---- the package

none_anyway : {X : Type 0} (float : Bool)
    → (let none : Option X = None in (if float then none else none) ≡ none)
none_anyway true = refl
none_anyway false = refl

array_checked : (version : Option Bool) (items : Items)
    → (if items_have_float items then None
    else option_and_then (λ (is_second : Bool). parts_in is_second items) version)
    ≡ option_and_then (λ (is_second : Bool). parts_beside is_second items) version
array_checked None items = none_anyway (items_have_float items)
array_checked (Some is_second) items = parts_checked is_second items

-- the parts that are read by a version
abbrev by_version :
    (Bool → Items → Option (List Part)) → Option Bool → Option Data → Option (List Part)
by_version read version found =
    option_and_then (λ (is_second : Bool). option_and_then (read is_second)
    (option_and_then as_array found)) version

no_array : (read : Bool → Items → Option (List Part)) (version : Option Bool)
    → option_and_then (λ (is_second : Bool). option_and_then (read is_second) None) version ≡ None
no_array read None = refl
no_array read (Some is_second) = refl

nothing_checked : (version : Option Bool) (float : Bool) (found : Option Data)
    → option_and_then as_array found ≡ None
    → (if float then None else by_version parts_in version found)
    ≡ by_version parts_beside version found
nothing_checked version float found none =
    let one : by_version parts_in version found ≡ None =
    ap (λ (own : Option Items). option_and_then (λ (is_second : Bool).
    option_and_then (parts_in is_second) own) version) none ∙ no_array parts_in version in
    let other : by_version parts_beside version found ≡ None =
    ap (λ (own : Option Items). option_and_then (λ (is_second : Bool).
    option_and_then (parts_beside is_second) own) version) none ∙ no_array parts_beside version in
    ap (λ (own : Option (List Part)). if float then None else own) one
    ∙ none_anyway float ∙ sym other

package_checked : (beside : Bool) (version : Option Bool) (found : Option Data)
    → (if beside || given_float found then None else by_version parts_in version found)
    ≡ (if beside then None else by_version parts_beside version found)
package_checked true version found = refl
package_checked false version None = nothing_checked version false None refl
package_checked false version (Some null) = nothing_checked version false (Some null) refl
package_checked false version (Some (boolean b)) =
    nothing_checked version false (Some (boolean b)) refl
package_checked false version (Some (number n)) =
    nothing_checked version (has_float (number n)) (Some (number n)) refl
package_checked false version (Some (string s)) =
    nothing_checked version false (Some (string s)) refl
package_checked false version (Some (array items)) = array_checked version items
package_checked false version (Some (object members)) =
    nothing_checked version (members_have_float members) (Some (object members)) refl

-- a package has no float, where none stands beside its parts and beside their events
pub checked_beside : (value : Data) → package_of value ≡ package_beside value
unfolding package_of package_beside
checked_beside value =
    let number = option_and_then as_number (get (codes "version") value) in
    let version = version_is_second (option_and_then as_u64 number) in
    let found = get (codes "parts") value in
    ap (λ (test : Bool). if test then None else by_version parts_in version found)
    (by_key (codes "parts") value)
    ∙ package_checked (has_float_beside (codes "parts") value) version found
