use Rattle.std.proofs.Common.{◌++◌, ◌∙◌, ap, sym, append_assoc, rules, ◌∷◌, []}
use Rattle.std.proofs.lemmas.Result.{on_ok_weaker}
use Rattle.part_events.specs.Words.{leaf, entity_ref}
use Rattle.written_markup.specs.Words.{with_events, run_events, text_events}
use Rattle.written_markup.proofs.Drafted.{joined_step, events_joined}
use Rattle.written_markup.proofs.EventsReadBack.{one_run}
use Rattle.xlsx_writer.specs.declared.escaping.Escaping.TheVariants.{References}
use Rattle.xlsx_writer.proofs.Escapes.{events_cut, cut_shorter}
use Rattle.xlsx_writer.proofs.texts.push_text.Goals as goal

pub runs-smaller : goal.runs-smaller
runs-smaller c =
    cut_shorter References c.runs.rest.now _ _ _ c.in-Some.ensures

pub runs-preserved : goal.runs-preserved
runs-preserved c =
    let run = c.in-Some.cut.run.now in
    let behind = c.in-Some.cut.behind.now in
    let reference = leaf (entity_ref c.in-Some.cut.escape.now) ∷ [] in (
      search rules,
      ap (λ held. with_events held (text_events behind))
          (joined_step c.runs.builder c.push_run.new.builder c.push.new.self (run_events run)
          reference
          c.in_ok-push_run.ensures c.in_ok-push.ensures)
          ∙ events_joined c.runs.builder (run_events run ++ reference) (text_events behind)
          ∙ ap (with_events c.runs.builder)
          (append_assoc (run_events run) reference (text_events behind)
          ∙ sym (events_cut c.runs.rest.now run c.in-Some.cut.escape.now behind c.in-Some.ensures))
          ∙ c.runs.invariant.1,
    )

pub returns : goal.returns
returns c =
    let rest = c.runs.rest.now in
    on_ok_weaker c.push_run-2.result
    (λ pushed. pushed ∙ ap (with_events c.runs.builder) (sym (one_run rest c.in_default.ensures))
    ∙ c.runs.invariant.1)
    c.push_run-2.ensures
