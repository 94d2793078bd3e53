use Rattle.std.proofs.Common.{◌≡◌, ℕ, List, [], ◌∷◌, Bool, true, false, Some, map, refl, ap, ◌∙◌}
use Rattle.std.specs.Prelude.{if◌then◌else◌, option_map, string_bytes, String}
use Rattle.std.specs.BTreeMap.{BTreeMap, is_at, get_by_text}
use Rattle.std.specs.Cmp.Lexicographic.{slice_cmp}
use Rattle.std.specs.Map.{lookup}
use Rattle.std.specs.Ordering.{nat_cmp}
use Rattle.std.specs.List.{AllZip}
use Rattle.std.specs.declared.alloc.Global.{Global}
use Rattle.xlsx_properties.specs.Kept.{entry_texts}
use Rattle.xlsx_properties.proofs.workbook_properties.WorkbookProperties.clone_in.Goals as goal

abbrev Entry : Type 0
Entry = String Global × String Global

-- a key is this name
abbrev named : List ℕ → String Global → Bool
named name key = is_at (λ (k : String Global). slice_cmp nat_cmp name (string_bytes k)) key

abbrev IsCopy : Entry → Entry → Type 0
IsCopy own copy =
    (string_bytes copy.0 ≡ string_bytes own.0) × (string_bytes copy.1 ≡ string_bytes own.1)

same_texts : (entries copies : List Entry) → AllZip IsCopy entries copies
    → map entry_texts copies ≡ map entry_texts entries
same_texts [] [] are = refl
same_texts [] (copy ∷ copies) are = absurd are
same_texts (own ∷ entries) [] are = absurd are
same_texts (own ∷ entries) (copy ∷ copies) are =
    rw (are.0.0, are.0.1, same_texts entries copies are.1) refl

same_held : (name : List ℕ) (entries copies : List Entry) → AllZip IsCopy entries copies
    → option_map string_bytes (lookup (named name) copies)
    ≡ option_map string_bytes (lookup (named name) entries)
same_held name [] [] are = refl
same_held name [] (copy ∷ copies) are = absurd are
same_held name (own ∷ entries) [] are = absurd are
same_held name (own ∷ entries) (copy ∷ copies) are =
    rw are.0.0
    (elim (named name own.0) as (λ b. option_map string_bytes
    (if b then Some copy.1 else lookup (named name) copies)
    ≡ option_map string_bytes (if b then Some own.1 else lookup (named name) entries)) [
      | true ↦ ap (λ (text : List ℕ). Some text) are.0.1
      | false ↦ same_held name entries copies are.1
    ])

pub returns : goal.returns
returns c =
    let kept = c.copy_texts.ensures.custom in
    let source = c.args.self.now.custom_properties.entries in
    let copies = c.in_ok-copy.field-0.entries in
    record {
      held = c.in_ok-copy_texts.ensures.held;
      custom =
          ap (λ (own : BTreeMap (String Global) (String Global)). map entry_texts own.entries) kept
          ∙ same_texts source copies c.in_ok-copy.ensures.cases;
      named = λ name.
          ap (λ (own : BTreeMap (String Global) (String Global)).
          option_map string_bytes (get_by_text own name)) kept
          ∙ same_held name source copies c.in_ok-copy.ensures.cases;
    }
