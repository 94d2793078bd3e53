-- What is found along items by two ways that agree on them.
use Rattle.std.proofs.Common.{◌≡◌, ◌∙◌, ◌&&◌, ℕ, zero, suc, List, [], ◌∷◌, refl, ap}
use Rattle.std.specs.Prelude.{if◌then◌else◌}
use Rattle.formula_tokens.specs.Items.{PlaceText, NamedText, ItemText, says, calls, opens, closes}
use Rattle.formula_tokens.specs.Items.{colon, apart, unread}
use Rattle.xlsx_graph.specs.Naming.{Found, found_along, item_found, items_belonging, range_found}
use Rattle.xlsx_graph.specs.Naming.{ranged, ranged_on, place_alone, closes_next, is_place_asked}
use Rattle.xlsx_graph.specs.Naming.{before_next, both_found}
use Rattle.xlsx_graph.specs.declared.before.Before.{Before}
use Rattle.xlsx_graph.specs.declared.before.Before.TheVariants.{AnyOther}

-- two ways agree on an item
abbrev pub AgreeAt : (find other : PlaceText → NamedText → Found) →
    (call answer : PlaceText → List ℕ → Found) → ItemText → Type 0
AgreeAt find other call answer (says p n) = find p n ≡ other p n
AgreeAt find other call answer (calls p w) = call p w ≡ answer p w
AgreeAt find other call answer _ = Unit {0}

-- two ways agree on each item
abbrev pub AgreeOn : (find other : PlaceText → NamedText → Found) →
    (call answer : PlaceText → List ℕ → Found) → List ItemText → Type 0
AgreeOn find other call answer [] = Unit {0}
AgreeOn find other call answer (i ∷ is) =
    AgreeAt find other call answer i × AgreeOn find other call answer is

range_agrees : (find other : PlaceText → NamedText → Found)
    (call answer : PlaceText → List ℕ → Found) (f : Found) (is : List ItemText) →
    AgreeOn find other call answer is → ranged_on find f is ≡ ranged_on other f is
range_agrees find other call answer f (colon ∷ says p n ∷ is) agree =
    ap (λ x. ranged_on find (ranged f x) is) agree.1.0
    ∙ range_agrees find other call answer (ranged f (other p n)) is agree.1.1
range_agrees find other call answer f is agree = refl

item_agrees : (find other : PlaceText → NamedText → Found)
    (call answer : PlaceText → List ℕ → Found) (before : Before) (i : ItemText)
    (is : List ItemText) → AgreeAt find other call answer i → AgreeOn find other call answer is →
    item_found find call before i is ≡ item_found other answer before i is
item_agrees find other call answer before (says p n) is at on =
    ap (λ x. range_found find before x is) at
    ∙ ap
    (λ x. if is_place_asked before && closes_next is then place_alone (other p n) else x)
    (range_agrees find other call answer (other p n) is on)
item_agrees find other call answer before (calls p w) is at on = at
item_agrees find other call answer before opens is at on = refl
item_agrees find other call answer before closes is at on = refl
item_agrees find other call answer before colon is at on = refl
item_agrees find other call answer before apart is at on = refl
item_agrees find other call answer before (unread text) is at on = refl

-- the same is found where two ways agree
pub along_agrees : (find other : PlaceText → NamedText → Found)
    (call answer : PlaceText → List ℕ → Found) (before : Before) (skip : ℕ)
    (is : List ItemText) → AgreeOn find other call answer is →
    found_along find call before skip is ≡ found_along other answer before skip is
unfolding found_along
along_agrees find other call answer before zero [] agree = refl
along_agrees find other call answer before (suc skip) [] agree = refl
along_agrees find other call answer before (suc skip) (i ∷ is) agree =
    along_agrees find other call answer AnyOther skip is agree.1
along_agrees find other call answer before zero (i ∷ is) agree =
    ap
    (λ x. both_found x
    (found_along find call (before_next before i) (items_belonging i is) is))
    (item_agrees find other call answer before i is agree.0 agree.1)
    ∙ ap (both_found (item_found other answer before i is))
    (along_agrees find other call answer (before_next before i) (items_belonging i is) is agree.1)
