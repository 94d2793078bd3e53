use Rattle.std.proofs.Common.{◌≡◌, codes, length, Some, rules}
use Rattle.part_events.specs.Words.{events_of}
use Rattle.xlsx_error.specs.declared.error.XlsxError.TheVariants.{OutOfMemory, Io}
use Rattle.xlsx_sections.specs.Words.{section_in, section_left}
use Rattle.xlsx_areas.proofs.MergesRead.{never_refused}
use Rattle.xlsx_areas.proofs.merged_parts.merges_or_none.Goals as goal

pub returns-in-Err : goal.returns-in-Err
returns-in-Err g c =
    let old = c.args.xml.now in
    let mid = c.find_section.new.xml in
    let new = c.read_merge_cells.new.xml.source in
    let refusal = c.in-Err.refusal in
    let other : refusal ≡ Io → ⊥ = search rules in
    let more : refusal ≡ OutOfMemory → ⊥ = search rules in
    record {
      moves = search rules;
      merges = search rules;
      ends = λ told there.
          let section = section_left (length mid.names) mid in
          let found : section_in (codes "mergeCells") (events_of old) ≡ Some section = search rules
          in
          absurd (never_refused (events_of old) section mid.source new refusal found there other
          more c.in-Err.ensures.err (search rules));
      faults = search rules;
      err = search rules;
      kind = search rules;
    }
