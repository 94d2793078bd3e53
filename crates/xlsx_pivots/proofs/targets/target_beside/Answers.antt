use Rattle.std.proofs.Common.{◌≡◌, Some, None, Ok, ◌∙◌, codes, option_map, string_bytes, rules}
use Rattle.std.proofs.lemmas.Result.{err_from_is_err_and}
use Rattle.part_events.specs.Words.{section_ahead, events_of, part_of}
use Rattle.xlsx_sections.specs.Words.{IsInsideRefused, always, SectionFails}
use Rattle.xlsx_parts.specs.Words.{section_said}
use Rattle.looks.specs.Words.{LookCause}
use Rattle.xlsx_relationships.specs.Words.{relationships_beside}
use Rattle.xlsx_pivots.specs.Targets.{single_target_in, target_look}
use Rattle.xlsx_pivots.proofs.PivotsRead.{single_fails, target_refused, target_lacks}
use Rattle.xlsx_pivots.proofs.targets.target_beside.Goals as goal

pub returns-in_err-keep_starts-clause-answers : goal.returns-in_err-keep_starts-clause-answers
returns-in_err-keep_starts-clause-answers g c =
    let mid = c.enter_part.new.xml in
    let new = c.keep_starts.new.xml in
    let wanted = c.args.wanted.now in
    let error = c.in_err-keep_starts.field-0.0 in
    let enters = c.in_ok-enter_part.ensures.enters c.if-not-branch.false in
    let name = codes "Relationships" in
    let refused = IsInsideRefused (single_target_in wanted c.args.single) in
    let here : SectionFails (always name) refused c.depth-base.result mid new error =
    c.in_err-keep_starts.ensures.err tt in
    let p = err_from_is_err_and c.from_residual-in_err-keep_starts.result
    c.from_residual-in_err-keep_starts.ensures.1 in
    rw (p.1, p.2) (record {
      uses = search rules;
      to_end = λ told. tt;
      said = λ told. tt;
      err =
          target_refused wanted c.args.path.now c.args.single c.args.xml.now.source new.source error
          (search rules);
      kind = search rules;
    })

pub returns-in-Some-clause-answers : goal.returns-in-Some-clause-answers
returns-in-Some-clause-answers g c =
    let mid = c.enter_part.new.xml in
    let enters = c.in_ok-enter_part.ensures.enters c.if-not-branch.false in
    let inside = section_ahead c.depth-base.result mid in
    let wanted = c.args.wanted.now in
    record {
      uses = search rules;
      to_end = search rules;
      said = λ told.
          let said : single_target_in wanted c.args.single inside
          ≡ Ok (option_map string_bytes c.keep_starts.new.keeper.kept) =
          c.in_ok-keep_starts.ensures.kept (enters.parts.is_visible ∙ told) tt in
          search rules;
      err = tt;
      kind = tt;
    }

pub returns-clause-answers : goal.returns-clause-answers
returns-clause-answers g c =
    let old = c.args.xml.now.source in
    let mid = c.enter_part.new.xml in
    let new = c.keep_starts.new.xml.source in
    let enters = c.in_ok-enter_part.ensures.enters c.if-not-branch.false in
    let inside = section_ahead c.depth-base.result mid in
    let path = c.args.path.now in
    let wanted = c.args.wanted.now in
    let single = c.args.single in
    record {
      uses = search rules;
      to_end = λ told. tt;
      said = λ told. tt;
      err =
          single_fails (LookCause (target_look wanted single path) old.parts) old new
          c.lacking.result c.lacking.ensures.single
          (λ told.
          let said : single_target_in wanted single inside
          ≡ Ok (option_map string_bytes c.keep_starts.new.keeper.kept) =
          c.in_ok-keep_starts.ensures.kept (enters.parts.is_visible ∙ told) tt in
          let there : part_of old.parts (relationships_beside path) ≡ Some (events_of mid) =
          search rules in
          let lacks : section_said (codes "Relationships") (single_target_in wanted single)
          (events_of mid) ≡ Some None = search rules in
          target_lacks wanted path single old.parts (events_of mid) c.lacking.result there lacks
          c.lacking.ensures.told);
      kind = search rules;
    }
