-- What is kept of groups is kept of some formulas.
use Rattle.std.proofs.Common.{◌≡◌, ℕ, List, [], ◌∷◌, Bool, true, false, refl, ◌∙◌, arith, Global}
use Rattle.std.specs.Prelude.{map, cond, ◌==◌, if◌then◌else◌, Option, Some, None, option_map}
use Rattle.std.specs.BTreeMap.{is_at}
use Rattle.std.specs.Map.{lookup}
use Rattle.std.specs.Ordering.{nat_cmp}
use Rattle.std.specs.Rc.{rc_value}
use Rattle.std.specs.declared.rc.Rc.{Rc}
use Rattle.xlsx_formulas.specs.Formula.{FormulaText, master, master_of, or_further}
use Rattle.xlsx_formulas.specs.Kept.{AreMasters, group_seen}
use Rattle.xlsx_formulas.specs.declared.shared_formulas.SharedFormulas.{SharedFormulas}
use Rattle.xlsx_formulas.specs.declared.shared_formulas.Master as kept

-- a formula of which a group is kept so
group_formula : ℕ × Rc kept.Master Global → FormulaText
group_formula entry =
    let own = rc_value entry.1 in
    record {
      sharing = master entry.0 (record { start = own.corner; end = own.corner });
      text = own.formula;
    }

same_test : (index own : ℕ) → is_at (nat_cmp index) own ≡ (own == index)
same_test index own = grind arith

first_or_further : (b : Bool) (found : Rc kept.Master Global)
    (further : Option (Rc kept.Master Global))
    → option_map group_seen (cond b (Some found) further)
    ≡ or_further (if b then Some (group_seen found) else None) (option_map group_seen further)
first_or_further true found further = refl
first_or_further false found further = refl

groups_of : (index : ℕ) (entries : List (ℕ × Rc kept.Master Global))
    → option_map group_seen (lookup (is_at (nat_cmp index)) entries)
    ≡ master_of index (map group_formula entries)
unfolding group_formula
groups_of index [] = refl
groups_of index (entry ∷ entries) =
    first_or_further (is_at (nat_cmp index) entry.0) entry.1
    (lookup (is_at (nat_cmp index)) entries)
    ∙ rw (same_test index entry.0, groups_of index entries) refl

pub formulas_kept : (masters : SharedFormulas) → (earlier : List FormulaText)
    × AreMasters earlier masters
formulas_kept masters =
    (map group_formula masters.groups.entries, λ index. groups_of index masters.groups.entries)
