use Rattle.std.proofs.Common.{◌≡◌, ◌∙◌, ◌+◌, ℕ, List, [], Option, None, Some, Ok, sym, ap, inl, inr}
use Rattle.std.proofs.Common.{arith}
use Rattle.std.proofs.lemmas.Result.{err_from_is_err_and}
use Rattle.part_events.specs.Words.{PackageState, Part, SameParts, UsesPackage, part_of}
use Rattle.part_events.specs.Words.{event_count}
use Rattle.part_events.proofs.Uses.{uses_then, leaves_then, same_further}
use Rattle.xlsx_sections.proofs.Failing.{fails_by_weaker, same_parts}
use Rattle.looks.specs.Words.{look_said}
use Rattle.looks.proofs.Answered.{paired_is}
use Rattle.xlsx_properties.specs.ByKeys.{if_there_by_keys}
use Rattle.xlsx_properties.specs.CustomProperties.{custom_in}
use Rattle.xlsx_properties.specs.Kept.{held, custom_held}
use Rattle.xlsx_properties.specs.Parts.{PropertiesCause, SaidCause, core_part, custom_part}
use Rattle.xlsx_properties.specs.Parts.{program_part, later_texts, said_by, properties_with}
use Rattle.xlsx_properties.specs.Parts.{texts_look}
use Rattle.xlsx_properties.specs.Property.{core_properties, program_properties}
use Rattle.xlsx_properties.specs.PropertyTexts.{property_in}
use Rattle.xlsx_properties.specs.declared.property.Property.{Property}
use Rattle.xlsx_properties.specs.declared.property.Property.TheVariants.{Creator}
use Rattle.xlsx_properties.proofs.EventsSaid.{none_earlier}
use Rattle.xlsx_properties.proofs.PropertiesTaken.{both_by_keys, said_by_keys}
use Rattle.xlsx_properties.proofs.read.read_properties.Goals as goal

-- the same parts have as many events at a path
same_count : {old new : PackageState} (path : List ℕ) → SameParts old new
    → event_count new.parts path ≡ event_count old.parts path
same_count path same = ap (λ (parts : List Part). event_count parts path) same.parts

pub returns-in_err-keep_part : goal.returns-in_err-keep_part
returns-in_err-keep_part g c =
    let old = c.args.xml.now.source in
    let new = c.keep_part.new.xml.source in
    let uses = c.in_err-keep_part.ensures.uses in
    let p = err_from_is_err_and c.from_residual.result c.from_residual.ensures.1 in
    record {
      answers =
          rw (p.1, p.2)
          (record {
            uses = record {
              parts = uses.parts;
              faults = uses.faults;
              forward = uses.forward;
              taken = λ told. let bound = uses.taken told in omega (arith, bound);
            };
            to_end = λ told. tt;
            said = λ told. tt;
            err =
                fails_by_weaker (PropertiesCause old.parts)
                (SaidCause (property_in core_properties) core_part old.parts) new
                c.in_err-keep_part.field-0.0 (same_parts old) (λ told cause. inl (inl cause))
                (rw c.new-core.ensures.following at c.in_err-keep_part.ensures.err);
            kind = c.in_err-keep_part.ensures.kind;
          });
    }

pub returns-in_err-keep_part-2 : goal.returns-in_err-keep_part-2
returns-in_err-keep_part-2 g c =
    let old = c.args.xml.now.source in
    let mid = c.keep_part.new.xml.source in
    let new = c.keep_part-2.new.xml.source in
    let first = c.in_ok-keep_part.ensures.uses in
    let p = err_from_is_err_and c.from_residual-in_err-keep_part-2.result
    c.from_residual-in_err-keep_part-2.ensures.1 in
    record {
      answers =
          rw (p.1, p.2)
          (record {
            uses =
                leaves_then (omega (arith, same_count program_part first.parts)) first
                c.in_err-keep_part-2.ensures.uses;
            to_end = λ told. tt;
            said = λ told. tt;
            err =
                fails_by_weaker (PropertiesCause old.parts)
                (SaidCause (property_in program_properties) program_part mid.parts) new
                c.in_err-keep_part-2.field-0.0 first.parts
                (λ told cause. inl (inr (rw first.parts.parts at cause)))
                (rw c.new-program.ensures.following at c.in_err-keep_part-2.ensures.err);
            kind = c.in_err-keep_part-2.ensures.kind;
          });
    }

pub returns-in_err-keep_part-3 : goal.returns-in_err-keep_part-3
returns-in_err-keep_part-3 g c =
    let old = c.args.xml.now.source in
    let mid = c.keep_part-2.new.xml.source in
    let new = c.keep_part-3.new.xml.source in
    let first = c.in_ok-keep_part.ensures.uses in
    let second = c.in_ok-keep_part-2.ensures.uses in
    let both : UsesPackage (event_count old.parts core_part + event_count old.parts program_part)
    old mid = uses_then (omega (arith, same_count program_part first.parts)) first second in
    let p = err_from_is_err_and c.from_residual-in_err-keep_part-3.result
    c.from_residual-in_err-keep_part-3.ensures.1 in
    record {
      answers =
          rw (p.1, p.2)
          (record {
            uses =
                leaves_then (omega (arith, same_count custom_part both.parts)) both
                c.in_err-keep_part-3.ensures.uses;
            to_end = λ told. tt;
            said = λ told. tt;
            err =
                fails_by_weaker (PropertiesCause old.parts)
                (SaidCause custom_in custom_part mid.parts) new c.in_err-keep_part-3.field-0.0
                both.parts (λ told cause. inr (rw both.parts.parts at cause))
                (rw c.new-custom.ensures.following at c.in_err-keep_part-3.ensures.err);
            kind = c.in_err-keep_part-3.ensures.kind;
          });
    }

pub returns : goal.returns
returns g c =
    let old = c.args.xml.now.source in
    let mid = c.keep_part-2.new.xml.source in
    let first = c.in_ok-keep_part.ensures.uses in
    let second = c.in_ok-keep_part-2.ensures.uses in
    let both : UsesPackage (event_count old.parts core_part + event_count old.parts program_part)
    old mid = uses_then (omega (arith, same_count program_part first.parts)) first second in
    record {
      answers =
          record {
            uses =
                uses_then (omega (arith, same_count custom_part both.parts)) both
                c.in_ok-keep_part-3.ensures.uses;
            to_end = λ told.
                let still = first.parts.is_visible ∙ told in
                omega (
                  arith,
                  c.in_ok-keep_part.ensures.to_end told,
                  rw first.parts.parts at (c.in_ok-keep_part-2.ensures.to_end still),
                  rw (second.parts.parts, first.parts.parts) at
                      (c.in_ok-keep_part-3.ensures.to_end (second.parts.is_visible ∙ still)),
                );
            said = λ told.
                let still = first.parts.is_visible ∙ told in
                let last = second.parts.is_visible ∙ still in
                let core = c.new-core.ensures in
                let program = c.new-program.ensures in
                let custom = c.new-custom.ensures in
                let kept = c.keep_part-3.new.keeper.properties in
                let texts =
                both_by_keys (property_in core_properties) (property_in program_properties) Creator
                (part_of old.parts core_part) (part_of old.parts program_part)
                (λ own. held own c.keep_part.new.keeper.properties)
                (λ own. held own kept) (c.in_ok-keep_part.ensures.whole told)
                (rw first.parts.parts at (c.in_ok-keep_part-2.ensures.whole still))
                (λ wanted. none_earlier
                (said_by (property_in core_properties) wanted (part_of old.parts core_part))
                (held wanted c.keep_part.new.keeper.properties)
                (rw (core.following, core.properties, c.new-none.ensures.none wanted) at
                (c.in_ok-keep_part.ensures.said told wanted)))
                (λ wanted. rw (program.following, program.properties, first.parts.parts) at
                (c.in_ok-keep_part-2.ensures.said still wanted)
                ∙ ap (λ (own : Option (List ℕ)). Ok own)
                (sym (rw custom.properties at (c.in_ok-keep_part-3.ensures.beside wanted)))) in
                let customs =
                said_by_keys custom_in [] (part_of old.parts custom_part)
                (λ name. custom_held name kept)
                (rw (second.parts.parts, first.parts.parts) at
                (c.in_ok-keep_part-3.ensures.whole last))
                (λ name. none_earlier (said_by custom_in name (part_of old.parts custom_part))
                (custom_held name kept)
                (let none : custom_held name c.keep_part-2.new.keeper.properties ≡ None =
                rw program.properties at (c.in_ok-keep_part-2.ensures.beside name)
                ∙ rw core.properties at (c.in_ok-keep_part.ensures.beside name)
                ∙ c.new-none.ensures.no_custom name in
                rw (custom.following, custom.properties, none, second.parts.parts, first.parts.parts)
                at
                (c.in_ok-keep_part-3.ensures.said last name))) in
                paired_is properties_with (look_said texts_look old.parts)
                ((if_there_by_keys custom_in []).said (part_of old.parts custom_part))
                (λ own. held own kept) (λ name. custom_held name kept)
                (paired_is later_texts
                ((if_there_by_keys (property_in core_properties) Creator).said
                (part_of old.parts core_part))
                ((if_there_by_keys (property_in program_properties) Creator).said
                (part_of old.parts program_part))
                (λ own. held own c.keep_part.new.keeper.properties) texts.0 texts.1 texts.2
                ∙ ap (λ (own : Property → Option (List ℕ)). Some own) texts.3)
                customs;
            err = tt;
            kind = tt;
          };
    }
