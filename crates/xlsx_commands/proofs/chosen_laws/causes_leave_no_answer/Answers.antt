use Rattle.xlsx_commands.proofs.AnswerLemmas.{answers_never}
use Rattle.xlsx_commands.proofs.chosen_laws.causes_leave_no_answer.Goals as goal

pub returns : goal.returns
returns c = record {
  never =
      answers_never c.causes_leave_no_output.ensures.never
      c.openings_have_no_cause_of_a_refusal.ensures;
}
