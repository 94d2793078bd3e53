use Rattle.std.proofs.Common.{inr, rules}
use Rattle.std.proofs.lemmas.Result.{IfErr-weaker}
use Rattle.part_events.specs.Words.{events_of}
use Rattle.xlsx_sections.specs.Words.{FailsBy}
use Rattle.xlsx_sections.proofs.Failing.{fails_by_weaker}
use Rattle.looks.specs.Words.{LookCause}
use Rattle.xlsx_widths.specs.Widths.{starts_ask, starts_look}
use Rattle.xlsx_widths.proofs.widths.keep_at.Goals as goal

pub returns : goal.returns
returns g c =
    let old = c.args.xml.now.source in
    let mid = c.open_part.new.xml in
    let new = c.keep_in.new.xml.source in
    let section = c.args.section.now in
    let name = c.args.name.now in
    let opens = c.in_ok-open_part.ensures.opens c.if-not-branch.false in
    record {
      answers = λ i.
          let change = g.K.Keeps.change c.args.keeper.now i in
          let first = g.K.Keeps.held c.args.keeper.now i in
          let cause = LookCause (starts_look section name change first c.args.path.now) old.parts in
          let own = (starts_ask section name change first).cause (events_of mid) in
          record {
            uses = search rules;
            to_end = search rules;
            said = search rules;
            err =
                IfErr-weaker c.keep_in.result _ (FailsBy cause old new)
                (λ error fails. fails_by_weaker cause own new error opens.parts
                (λ told is. inr (rw (opens.part told) is)) (fails i)) c.keep_in.ensures.err;
            kind = search rules;
          };
    }
