use Rattle.xlsx_commands.proofs.AnswerLemmas.{one_name, answers_by_name}
use Rattle.xlsx_commands.proofs.chosen_laws.chosen_sheets_answer_by_their_names.Goals as goal

pub returns : goal.returns
returns c = record {
  name = one_name;
  onward = λ parts choice name output command chooses prints.
      answers_by_name parts choice name command output chooses prints;
  back = λ parts choice name output command chooses prints. (name, chooses, prints);
}
