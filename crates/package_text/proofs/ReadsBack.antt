-- The text that is written of a package is read as its value.
use Rattle.std.proofs.Common.{◌≡◌, ℕ, ◌≤◌, List, [], ◌∷◌, Option, Some, refl, sym, ap, ◌∙◌, arith}
use Rattle.std.proofs.Common.{append-nil}
use Rattle.std.specs.Option.{option_and_then}
use Rattle.json.specs.Json as json
use Rattle.json.specs.Token.{Token}
use Rattle.json.specs.Tree.{json_tokens, HasNumbers, ItemsHaveNumbers, MembersHaveNumbers}
use Rattle.json.specs.Tree as tree
use Rattle.json.proofs.Printed.Decimals.{IsNumber-decimal}
use Rattle.json.proofs.Printed.Tokens.{tokens-print}
use Rattle.json.proofs.Printed.Trees.{value-json_tokens, ArePrintable-json_tokens}
use Rattle.serde_json.specs.Data.{Data}
use Rattle.serde_json.specs.Read.{of_json, of_items, read, max_depth}
use Rattle.serde_json.specs.Written.{outline, items_outline}
use Rattle.serde_json.proofs.Numbers.{number_of-decimal}
use Rattle.serde_json.proofs.Texts.{print-outline}
use Rattle.part_events.specs.Words.{Part}
use Rattle.package_text.specs.PackageText.{package_of}
use Rattle.package_text.specs.WrittenPackage.{texts_data, event_texts, events_data, part_data}
use Rattle.package_text.specs.WrittenPackage.{parts_data, package_data, written_package}
use Rattle.package_text.specs.WrittenPackage.{TextReadsBack}
use Rattle.package_text.proofs.SpellsBack.{spells_its_parts}

-- ---- what stands between the brackets

texts_read : (texts : List (List ℕ))
    → of_items (items_outline (texts_data texts)) ≡ Some (texts_data texts)
texts_read [] = refl
texts_read (content ∷ texts) = rw (texts_read texts) refl

events_read : (texts : List (List (List ℕ)))
    → of_items (items_outline (events_data texts)) ≡ Some (events_data texts)
events_read [] = refl
events_read (texts ∷ others) = rw (texts_read texts) (rw (events_read others) refl)

part_read : (part : Part) → of_json (outline (part_data part)) ≡ Some (part_data part)
part_read part = rw (events_read (event_texts part.events)) refl

parts_read : (parts : List Part)
    → of_items (items_outline (parts_data parts)) ≡ Some (parts_data parts)
parts_read [] = refl
parts_read (part ∷ parts) = rw (part_read part) (rw (parts_read parts) refl)

package_read : (parts : List Part)
    → of_json (outline (package_data parts)) ≡ Some (package_data parts)
unfolding package_data
package_read parts = rw (parts_read parts) (rw (number_of-decimal 2 (omega arith)) refl)

-- ---- numbers

texts_numbers : (texts : List (List ℕ)) → ItemsHaveNumbers (items_outline (texts_data texts))
texts_numbers [] = tt
texts_numbers (content ∷ texts) = (tt, texts_numbers texts)

events_numbers : (texts : List (List (List ℕ)))
    → ItemsHaveNumbers (items_outline (events_data texts))
events_numbers [] = tt
events_numbers (texts ∷ others) = (texts_numbers texts, events_numbers others)

parts_numbers : (parts : List Part) → ItemsHaveNumbers (items_outline (parts_data parts))
parts_numbers [] = tt
parts_numbers (part ∷ parts) =
    ((events_numbers (event_texts part.events), (tt, tt)), parts_numbers parts)

package_numbers : (parts : List Part) → HasNumbers (outline (package_data parts))
unfolding package_data
package_numbers parts = (parts_numbers parts, (IsNumber-decimal 2 (omega arith), tt))

-- ---- depths

texts_depth : (texts : List (List ℕ)) → tree.items_depth (items_outline (texts_data texts)) ≤ 0
texts_depth [] = omega arith
texts_depth (content ∷ texts) = omega (arith, texts_depth texts)

events_depth : (texts : List (List (List ℕ)))
    → tree.items_depth (items_outline (events_data texts)) ≤ 1
events_depth [] = omega arith
events_depth (texts ∷ others) = omega (arith, texts_depth texts, events_depth others)

parts_depth : (parts : List Part) → tree.items_depth (items_outline (parts_data parts)) ≤ 3
parts_depth [] = omega arith
parts_depth (part ∷ parts) =
    omega (arith, events_depth (event_texts part.events), parts_depth parts)

package_depth : (parts : List Part) → tree.depth (outline (package_data parts)) ≤ max_depth
unfolding package_data
package_depth parts = omega (arith, parts_depth parts)

-- ---- the text

-- the value of a text whose tokens are read
abbrev whole : Option (json.Json × List Token) → Option Data
whole found = option_and_then of_json (option_and_then (λ p. json.if_last p.0 p.1) found)

value_read : (parts : List Part) → read (written_package parts) ≡ Some (package_data parts)
value_read parts =
    let own = outline (package_data parts) in
    ap read (sym (print-outline (package_data parts)))
    ∙ ap whole (ap (json.value max_depth)
    (tokens-print (json_tokens own) (ArePrintable-json_tokens own (package_numbers parts))
    ∙ sym (append-nil (json_tokens own)))
    ∙ value-json_tokens own max_depth [] (package_depth parts))
    ∙ package_read parts

pub is_read_back : TextReadsBack
is_read_back parts = ap (option_and_then package_of) (value_read parts) ∙ spells_its_parts parts
