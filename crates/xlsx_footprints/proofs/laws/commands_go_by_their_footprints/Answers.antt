use Rattle.std.proofs.Common.{ℕ, List}
use Rattle.part_events.specs.Words.{Part}
use Rattle.xlsx_commands.specs.Words.{Command}
use Rattle.xlsx_footprints.proofs.CommandsAlike.{way_back, output_over, output_cause_over}
use Rattle.xlsx_footprints.proofs.laws.commands_go_by_their_footprints.Goals as goal

pub returns : goal.returns
returns c = record {
  back = way_back;
  outputs = output_over;
  same = λ (command : Command) (one : List Part) (two : List Part) (output : List ℕ)
      (other : List ℕ) way first second.
      c.commands_have_one_output.ensures command two output other
      (output_over command one two output way first) second;
  causes = output_cause_over;
}
