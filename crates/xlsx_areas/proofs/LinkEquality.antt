-- `==` of hyperlinks holds exactly where all their fields are the same.
use Rattle.std.proofs.Common.{◌≡◌, Bool, ◌&&◌, true, Option, Some, None, refl, ap, rules, List, ℕ}
use Rattle.std.specs.Bool.{Decides}
use Rattle.std.specs.Option.{option_eq}
use Rattle.std.specs.Prelude.{◌↔◌, option_map, string_bytes, string_eq, String}
use Rattle.std.specs.declared.alloc.Global.{Global}
use Rattle.std.proofs.lemmas.Bool.Decides.{Decides-and}
use Rattle.std.proofs.lemmas.Slice.Eq.{bytes_eq-Decides}
use Rattle.cell_refs.specs.contracts.dimensions.DimensionsPartialEq.TheImpl as dimensions
use Rattle.cell_refs.specs.declared.dimensions.Dimensions.{Dimensions}
use Rattle.xlsx_areas.specs.Hyperlinks.{Link, link_said}
use Rattle.xlsx_areas.specs.contracts.hyperlink.HyperlinkPartialEq.TheImpl as hyperlink
use Rattle.xlsx_areas.specs.declared.hyperlink.Hyperlink.{Hyperlink}

abbrev Text : Type 0
Text = Option (String Global)

abbrev said : Text → Option (List ℕ)
said text = option_map string_bytes text

abbrev same_text : Text → Text → Bool
same_text a b = option_eq string_eq a b

range_law : (a b : Dimensions) → Decides (dimensions.ghosts.eq a b) (a ≡ b)
range_law a b = search rules

text_law : (a b : Text) → Decides (same_text a b) (said a ≡ said b)
text_law None None = (λ _. refl, λ _. refl)
text_law None (Some y) = (λ same. absurd (cc), λ same. absurd (cc))
text_law (Some x) None = (λ same. absurd (cc), λ same. absurd (cc))
text_law (Some x) (Some y) =
    let law = bytes_eq-Decides (string_bytes x) (string_bytes y) in
    (λ same. ap Some (law.0 same), λ same. law.1 (cc))

and_text : {P : Type 0} (more : Bool) (a b : Text) → Decides more P
    → Decides (same_text a b && more) ((said a ≡ said b) × P)
and_text more a b law = Decides-and (same_text a b) more (text_law a b) law

pub hyperlink_law : (a b : Hyperlink)
    → (hyperlink.ghosts.eq a b ≡ true) ↔ (link_said a ≡ link_said b)
hyperlink_law a b =
    let tips = text_law a.tooltip b.tooltip in
    let shown = and_text _ a.displayed_text b.displayed_text tips in
    let places = and_text _ a.location b.location shown in
    let targets = and_text _ a.target b.target places in
    let all = Decides-and (dimensions.ghosts.eq a.range b.range) _ (range_law a.range b.range)
    targets in (
      λ same.
          let own = all.0 same in
          λ i. record {
            range = own.0 i;
            target = own.1.0 i;
            location = own.1.1.0 i;
            displayed_text = own.1.1.1.0 i;
            tooltip = own.1.1.1.1 i;
          },
      λ same. all.1 (
        ap (λ (link : Link). link.range) same,
        (
          ap (λ (link : Link). link.target) same,
          (
            ap (λ (link : Link). link.location) same,
            (
              ap (λ (link : Link). link.displayed_text) same,
              ap (λ (link : Link). link.tooltip) same,
            ),
          ),
        ),
      ),
    )
