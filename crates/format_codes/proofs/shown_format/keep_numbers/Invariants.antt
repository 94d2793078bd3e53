use Rattle.std.proofs.Common.{◌≡◌, map, take, true}
use Rattle.std.specs.List.{list_all}
use Rattle.std.specs.Prelude.{Some, is_some}
use Rattle.format_codes.specs.Kinds.{section_kind}
use Rattle.format_codes.specs.ShownFormats.{kept_section, section_kept}
use Rattle.format_codes.proofs.shown_format.keep_numbers.Given as goal

abbrev pub invariant-loop-section : goal.invariant-loop-section
invariant-loop-section l = record {
  kept : map (λ s. Some (section_kept s)) l.kept.items
      ≡ map kept_section (map (λ s. s.items) (take l.section-index l.sections));
  kinds : list_all (λ section. is_some (section_kind section))
      (map (λ s. s.items) (take l.section-index l.sections)) ≡ true;
}
