-- Formulas that are gathered: what each of them names stays where it is as more is found.
use Rattle.std.proofs.Common.{◌≡◌, ◌∙◌, ℕ, ◌+◌, ◌-◌, ◌≤◌, ◌<◌, Bool, true, false, List, [], ◌∷◌}
use Rattle.std.proofs.Common.{◌++◌, ap, arith, drop, inl, inr, length, map, refl, sym, take, get_or}
use Rattle.std.specs.Prelude.{◌&&◌, ◌^◌, nat_le, min, option_map, replicate, Option, Some, sum_by}
use Rattle.std.specs.List.{list_all, slice_get, slice_range}
use Rattle.std.proofs.lemmas.Bool.{and_from, and_parts, le-leb, leb-true, lt-ltb, or_left, or_right}
use Rattle.std.proofs.lemmas.Bool.{le-ltb, or_from}
use Rattle.std.proofs.lemmas.List.{drop-append-le, length-append, drop-map, length-drop, map-append}
use Rattle.std.proofs.lemmas.List.{take-append-le, take-map}
use Rattle.std.proofs.lemmas.Option.{same_Some, slice_get-map, slice_get_read}
use Rattle.std.proofs.lemmas.List.Folds.{list_all-append}
use Rattle.std.proofs.lemmas.List.Sums.{sum_by-append, sum_by-cons}
use Rattle.std.proofs.Math.Seq.{drop-append_seam, take-length}
use Rattle.cell_refs.specs.Words.{cell_count}
use Rattle.xlsx_graph.specs.Gathered.{AreGathered, Gathered, Gathers, IsMeasured, IsOver, Stays}
use Rattle.xlsx_graph.specs.Gathered.{formula_in, gathered_of, is_too_large, lies_among}
use Rattle.xlsx_graph.specs.Gathered.{lies_in_areas, nothing_gathered, total_covered, total_named}
use Rattle.xlsx_graph.specs.Gathered.{total_read}
use Rattle.xlsx_graph.specs.Graph.{GraphFormula}
use Rattle.xlsx_graph.specs.Kept.{Adds, KeepsInFront, Kept}
use Rattle.xlsx_graph.specs.Naming.{Found, OpenText, weight}
use Rattle.xlsx_graph.specs.Told.{open_told}
use Rattle.xlsx_graph.specs.declared.named.BookArea.{BookArea}
use Rattle.xlsx_graph.specs.declared.named.OpenWord.{OpenWord}
use Rattle.xlsx_graph.specs.declared.workbook_graph.Placed.{Placed}
use Rattle.xlsx_graph.specs.declared.workbook_graph.TheConstants.{MAX_COVERED, MAX_NAMED, MAX_READ}

-- a part of a list stays as more stands behind the list
part_stays : {X : Type 0} (xs ys : List X) (a b : ℕ) → a ≤ b → b ≤ length xs
    → slice_range (xs ++ ys) a b ≡ slice_range xs a b
part_stays xs ys a b order within =
    let start : a ≤ length xs = omega arith in
    let size = length-drop a xs in
    ap (take (b - a)) (drop-append-le a xs ys start)
    ∙ take-append-le (b - a) (drop a xs) ys (omega arith)

-- what stands behind a list is its last part
part_behind : {X : Type 0} (xs ys all : List X) → all ≡ xs ++ ys
    → slice_range all (length xs) (length all) ≡ ys
part_behind xs ys all is =
    let size : length all ≡ length xs + length ys = ap length is ∙ length-append xs ys in
    let rest : length all - length xs ≡ length ys = omega arith in
    ap (λ n. take n (drop (length xs) all)) rest
    ∙ ap (λ zs. take (length ys) (drop (length xs) zs)) is
    ∙ ap (take (length ys)) (drop-append_seam xs ys) ∙ take-length ys

-- the places of what a formula names
record Lies (areas words : ℕ) (p : Placed) : Type 0 where
  areas_order : p.areas.0 ≤ p.areas.1
  areas_within : p.areas.1 ≤ areas
  words_order : p.words.0 ≤ p.words.1
  words_within : p.words.1 ≤ words

of_lies : (areas words : ℕ) (p : Placed) → lies_among areas words p ≡ true → Lies areas words p
of_lies areas words p is =
    let parts = and_parts (lies_in_areas areas p) _ is in
    let first = and_parts (nat_le p.areas.0 p.areas.1) _ parts.0 in
    let second = and_parts (nat_le p.words.0 p.words.1) _ parts.1 in
    record {
      areas_order = leb-true p.areas.0 p.areas.1 first.0;
      areas_within = leb-true p.areas.1 areas first.1;
      words_order = leb-true p.words.0 p.words.1 second.0;
      words_within = leb-true p.words.1 words second.1;
    }

lies_from : (areas words : ℕ) (p : Placed) → Lies areas words p → lies_among areas words p ≡ true
lies_from areas words p lies =
    and_from _ _
    (and_from _ _ (le-leb p.areas.0 p.areas.1 lies.areas_order)
    (le-leb p.areas.1 areas lies.areas_within))
    (and_from _ _ (le-leb p.words.0 p.words.1 lies.words_order)
    (le-leb p.words.1 words lies.words_within))

lies_more : (a b words more : ℕ) (p : Placed) → a ≤ b → words ≤ more
    → lies_among a words p ≡ true → lies_among b more p ≡ true
lies_more a b words more p areas_more words_more is =
    let lies = of_lies a words p is in
    let areas_within = lies.areas_within in
    let words_within = lies.words_within in
    lies_from b more p (record {
      areas_order = lies.areas_order;
      areas_within = omega arith;
      words_order = lies.words_order;
      words_within = omega arith;
    })

all_more : (a b words more : ℕ) (placed : List Placed) → a ≤ b → words ≤ more
    → list_all (lies_among a words) placed ≡ true → list_all (lies_among b more) placed ≡ true
all_more a b words more [] areas_more words_more is = refl
all_more a b words more (p ∷ ps) areas_more words_more is =
    let parts = and_parts (lies_among a words p) (list_all (lies_among a words) ps) is in
    and_from _ _ (lies_more a b words more p areas_more words_more parts.0)
    (all_more a b words more ps areas_more words_more parts.1)

extends_areas : (old new : Kept) → KeepsInFront old new → length old.areas ≤ length new.areas
extends_areas old new more =
    let size = ap length more.areas ∙ length-append old.areas more.more_areas in omega arith

extends_words : (old new : Kept) → KeepsInFront old new → length old.words ≤ length new.words
extends_words old new more =
    let size = ap length more.words ∙ length-append old.words more.more_words in omega arith

-- what is known stays as more is found
pub gathered_more : (old new : Kept) (placed : List Placed) (covered : ℕ) → KeepsInFront old new
    → AreGathered old placed covered → AreGathered new placed covered
gathered_more old new placed covered more are = record {
  within = all_more (length old.areas) (length new.areas) (length old.words) (length new.words)
      placed (extends_areas old new more) (extends_words old new more) are.within;
  closed = more.opened ∙ are.closed
      ∙ ap (λ (bs : List Bool). replicate (length bs) false) (sym more.opened);
  most = are.most;
}

formula_stays : (old new : Kept) (p : Placed) → KeepsInFront old new
    → lies_among (length old.areas) (length old.words) p ≡ true
    → formula_in new.areas new.words p ≡ formula_in old.areas old.words p
formula_stays old new p more is =
    let lies = of_lies (length old.areas) (length old.words) p is in
    let same_areas : slice_range new.areas p.areas.0 p.areas.1
    ≡ slice_range old.areas p.areas.0 p.areas.1 =
    ap (λ xs. slice_range xs p.areas.0 p.areas.1) more.areas
    ∙ part_stays old.areas more.more_areas p.areas.0 p.areas.1 lies.areas_order
    lies.areas_within in
    let same_words : slice_range new.words p.words.0 p.words.1
    ≡ slice_range old.words p.words.0 p.words.1 =
    ap (λ xs. slice_range xs p.words.0 p.words.1) more.words
    ∙ part_stays old.words more.more_words p.words.0 p.words.1 lies.words_order
    lies.words_within in
    let with : List BookArea → List OpenText → GraphFormula =
    λ areas words. record {
      cell = p.cell;
      covers = p.covers;
      found = record { areas = areas; words = words; read = p.read };
    } in
    ap (λ areas. with areas (slice_range new.words p.words.0 p.words.1)) same_areas
    ∙ ap (with (slice_range old.areas p.areas.0 p.areas.1)) same_words

-- and the formulas stay
pub formulas_stay : (old new : Kept) (placed : List Placed) → KeepsInFront old new
    → list_all (lies_among (length old.areas) (length old.words)) placed ≡ true
    → map (formula_in new.areas new.words) placed ≡ map (formula_in old.areas old.words) placed
formulas_stay old new [] more is = refl
formulas_stay old new (p ∷ ps) more is =
    let parts = and_parts (lies_among (length old.areas) (length old.words) p) _ is in
    ap (λ f. f ∷ map (formula_in new.areas new.words) ps) (formula_stays old new p more parts.0)
    ∙ ap (λ fs. formula_in old.areas old.words p ∷ fs) (formulas_stay old new ps more parts.1)

-- ---- one more formula

-- a formula stands where what it names was found
pub record IsPlaced (old new : Kept) (p : Placed) : Type 0 where
  pub areas : p.areas ≡ (length old.areas, length new.areas)
  pub words : p.words ≡ (length old.words, length new.words)
  pub read : p.read ≡ old.read_left - new.read_left

formula_new : (old new : Kept) (p : Placed) (f : Found) → Adds old new f → IsPlaced old new p
    → formula_in new.areas new.words p ≡ record { cell = p.cell; covers = p.covers; found = f }
formula_new old new p f adds is =
    let left = adds.read in
    let areas : slice_range new.areas p.areas.0 p.areas.1 ≡ f.areas =
    ap (λ (ends : ℕ × ℕ). slice_range new.areas ends.0 ends.1) is.areas
    ∙ part_behind old.areas f.areas new.areas adds.areas in
    let words : slice_range new.words p.words.0 p.words.1 ≡ f.words =
    ap (λ (ends : ℕ × ℕ). slice_range new.words ends.0 ends.1) is.words
    ∙ part_behind old.words f.words new.words adds.words in
    let read : p.read ≡ f.read = is.read ∙ omega arith in
    let with : List BookArea → List OpenText → ℕ → GraphFormula =
    λ as_areas as_words as_read. record {
      cell = p.cell;
      covers = p.covers;
      found = record { areas = as_areas; words = as_words; read = as_read };
    } in
    ap (λ x. with x (slice_range new.words p.words.0 p.words.1) p.read) areas
    ∙ ap (λ x. with f.areas x p.read) words ∙ ap (with f.areas f.words) read

placed_lies : (old new : Kept) (p : Placed) → KeepsInFront old new → IsPlaced old new p
    → lies_among (length new.areas) (length new.words) p ≡ true
placed_lies old new p more is =
    let areas_more = extends_areas old new more in
    let words_more = extends_words old new more in
    ap (λ (ends : ℕ × ℕ). nat_le ends.0 ends.1 && nat_le ends.1 (length new.areas)
    && (nat_le p.words.0 p.words.1 && nat_le p.words.1 (length new.words))) is.areas
    ∙ ap (λ (ends : ℕ × ℕ). nat_le (length old.areas) (length new.areas)
    && nat_le (length new.areas) (length new.areas)
    && (nat_le ends.0 ends.1 && nat_le ends.1 (length new.words))) is.words
    ∙ and_from _ _
    (and_from _ _ (le-leb (length old.areas) (length new.areas) areas_more)
    (le-leb (length new.areas) (length new.areas) (omega arith)))
    (and_from _ _ (le-leb (length old.words) (length new.words) words_more)
    (le-leb (length new.words) (length new.words) (omega arith)))

-- what is known of one formula more
pub gathered_one : (old new : Kept) (placed : List Placed) (p : Placed) (covered left : ℕ)
    → KeepsInFront old new → IsPlaced old new p → left ≤ covered → AreGathered old placed covered
    → AreGathered new (placed ++ p ∷ []) left
gathered_one old new placed p covered left more is less are =
    let kept = gathered_more old new placed covered more are in
    let most = are.most in
    record {
      within = list_all-append (lies_among (length new.areas) (length new.words)) placed (p ∷ [])
          ∙ and_from _ _ kept.within (and_from _ _ (placed_lies old new p more is) refl);
      closed = kept.closed;
      most = omega arith;
    }

-- the formulas with one more
pub formulas_one : (old new : Kept) (placed : List Placed) (p : Placed) (f : Found)
    → KeepsInFront old new → Adds old new f → IsPlaced old new p
    → list_all (lies_among (length old.areas) (length old.words)) placed ≡ true
    → map (formula_in new.areas new.words) (placed ++ p ∷ [])
    ≡ map (formula_in old.areas old.words) placed
    ++ record { cell = p.cell; covers = p.covers; found = f } ∷ []
formulas_one old new placed p f more adds is within =
    map-append (formula_in new.areas new.words) placed (p ∷ [])
    ∙ ap (λ fs. fs ++ formula_in new.areas new.words p ∷ [])
    (formulas_stay old new placed more within)
    ∙ ap (λ (g : GraphFormula). map (formula_in old.areas old.words) placed ++ g ∷ [])
    (formula_new old new p f adds is)

-- ---- what is gathered

-- the formulas stay where more is found than is kept
pub stays_now : (old new : Kept) (placed : List Placed) (covered left : ℕ) (was : Gathered)
    → gathered_of old placed covered ≡ was → KeepsInFront old new → AreGathered old placed covered
    → Stays was (gathered_of new placed left)
stays_now old new placed covered left was is more are = record {
  formulas = formulas_stay old new placed more are.within ∙ ap (λ (g : Gathered). g.formulas) is;
  names = ap length more.opened ∙ ap (λ (g : Gathered). g.names) is;
}

-- one more formula is gathered
pub gathers_now : (old new : Kept) (placed : List Placed) (p : Placed) (covered cells : ℕ)
    (was : Gathered) (f : Found) → gathered_of old placed covered ≡ was → KeepsInFront old new
    → AreGathered old placed covered → Adds old new f → IsPlaced old new p → cells ≤ covered
    → cells ≡ cell_count p.covers
    → Gathers was (gathered_of new (placed ++ p ∷ []) (covered - cells))
    (record { cell = p.cell; covers = p.covers; found = f })
gathers_now old new placed p covered cells was f is more are adds placed_is within count =
    let left = ap (λ (g : Gathered). g.covered_left) is in
    record {
      formulas = formulas_one old new placed p f more adds placed_is are.within
          ∙ ap (λ (g : Gathered).
          g.formulas ++ record { cell = p.cell; covers = p.covers; found = f } ∷ []) is;
      names = ap length more.opened ∙ ap (λ (g : Gathered). g.names) is;
      named = adds.named ∙ ap (λ (g : Gathered). g.named_left) is;
      read = adds.read ∙ ap (λ (g : Gathered). g.read_left) is;
      covered = ap (λ n. covered - cells + n) (sym count) ∙ omega (arith, within) ∙ left;
    }

-- a count of cells that there is room for is exact
pub cells_exact : (count cells covered : ℕ) → cells ≡ min count (2 ^ 64 - 1) → cells ≤ covered
    → covered ≤ MAX_COVERED → cells ≡ count
cells_exact count cells covered is within most = omega arith

-- the open words of a formula
pub words_at : (areas : List BookArea) (words : List OpenText) (placed : List Placed) (n : ℕ)
    (p : Placed) (own : List OpenWord) (f : GraphFormula) → n < length placed
    → p ≡ get_or placed n p → map open_told own ≡ words
    → slice_get (map (formula_in areas words) placed) n ≡ Some f
    → map open_told (take (p.words.1 - p.words.0) (drop p.words.0 own)) ≡ f.found.words
words_at areas words placed n p own f within is told at =
    let here : slice_get placed n ≡ Some p =
    slice_get_read placed (length placed) n p refl within is in
    let same : formula_in areas words p ≡ f =
    same_Some (formula_in areas words p) f
    (ap (λ (o : Option Placed). option_map (formula_in areas words) o) (sym here)
    ∙ sym (slice_get-map (formula_in areas words) placed n) ∙ at) in
    sym (take-map open_told (p.words.1 - p.words.0) (drop p.words.0 own))
    ∙ ap (take (p.words.1 - p.words.0)) (sym (drop-map open_told p.words.0 own))
    ∙ ap (λ ws. slice_range ws p.words.0 p.words.1) told
    ∙ ap (λ (g : GraphFormula). g.found.words) same

-- ---- the room for all formulas of a workbook

sum-one : (g : GraphFormula → ℕ) (fs : List GraphFormula) (f : GraphFormula)
    (rest : List GraphFormula) → sum_by g (fs ++ f ∷ rest) ≡ sum_by g fs + (g f + sum_by g rest)
sum-one g fs f rest =
    sum_by-append g fs (f ∷ rest) ∙ ap (λ n. sum_by g fs + n) (sum_by-cons g f rest)

-- no formulas are measured
pub measured_none : (names : ℕ) → IsMeasured (nothing_gathered names)
measured_none names = record { named = refl; read = refl; covered = refl }

-- one formula more is, too
pub measured_one : (old new : Gathered) (f : GraphFormula) → IsMeasured old → Gathers old new f
    → IsMeasured new
measured_one old new f measured gathers =
    let named_sum = sum-one (λ (g : GraphFormula). weight g.found) old.formulas f [] in
    let read_sum = sum-one (λ (g : GraphFormula). g.found.read) old.formulas f [] in
    let covered_sum = sum-one (λ (g : GraphFormula). cell_count g.covers) old.formulas f [] in
    let named_before = measured.named in
    let read_before = measured.read in
    let covered_before = measured.covered in
    let named_now = gathers.named in
    let read_now = gathers.read in
    let covered_now = gathers.covered in
    record {
      named = ap (λ fs. new.named_left + total_named fs) gathers.formulas ∙ omega arith;
      read = ap (λ fs. new.read_left + total_read fs) gathers.formulas ∙ omega arith;
      covered = ap (λ fs. new.covered_left + total_covered fs) gathers.formulas ∙ omega arith;
    }

-- formulas that are measured aren't too large
pub measured_fits : (gathered : Gathered) → IsMeasured gathered
    → is_too_large gathered.formulas ≡ false
unfolding is_too_large
measured_fits gathered measured =
    let named = measured.named in
    let read = measured.read in
    let covered = measured.covered in
    or_from _ _ (le-ltb MAX_NAMED (total_named gathered.formulas) (omega arith))
    (or_from _ _ (le-ltb MAX_READ (total_read gathered.formulas) (omega arith))
    (le-ltb MAX_COVERED (total_covered gathered.formulas) (omega arith)))

-- where the next formula takes more room than there is, all of the workbook are too large
pub over_is_too_large : (gathered : Gathered) (f : GraphFormula) (rest : List GraphFormula)
    → IsMeasured gathered → IsOver gathered f
    → is_too_large (gathered.formulas ++ f ∷ rest) ≡ true
unfolding is_too_large
over_is_too_large gathered f rest measured (inl over) =
    let before = measured.named in
    let all = sum-one (λ (g : GraphFormula). weight g.found) gathered.formulas f rest in
    or_left _ _ (lt-ltb MAX_NAMED (total_named (gathered.formulas ++ f ∷ rest)) (omega arith))
over_is_too_large gathered f rest measured (inr (inl over)) =
    let before = measured.read in
    let all = sum-one (λ (g : GraphFormula). g.found.read) gathered.formulas f rest in
    or_right _ _ (or_left _ _
    (lt-ltb MAX_READ (total_read (gathered.formulas ++ f ∷ rest)) (omega arith)))
over_is_too_large gathered f rest measured (inr (inr over)) =
    let before = measured.covered in
    let all = sum-one (λ (g : GraphFormula). cell_count g.covers) gathered.formulas f rest in
    or_right _ _ (or_right _ _
    (lt-ltb MAX_COVERED (total_covered (gathered.formulas ++ f ∷ rest)) (omega arith)))

-- where all that is named lies, the areas do
pub all_in_areas : (areas words : ℕ) (placed : List Placed)
    → list_all (lies_among areas words) placed ≡ true
    → list_all (lies_in_areas areas) placed ≡ true
all_in_areas areas words [] is = refl
all_in_areas areas words (p ∷ ps) is =
    let parts = and_parts (lies_among areas words p) (list_all (lies_among areas words) ps) is in
    and_from _ _ (and_parts (lies_in_areas areas p) _ parts.0).0
    (all_in_areas areas words ps parts.1)
