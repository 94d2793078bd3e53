use Rattle.xlsx_tool.proofs.RunLemmas.{answers}
use Rattle.xlsx_commands.specs.Words.{texts}
use Rattle.xlsx_tool.specs.Run.{Streams}
use Rattle.xlsx_tool.proofs.run.run.Goals as goal

pub returns-clause-exact : goal.returns-clause-exact
returns-clause-exact g c =
    let call = c.run_request in
    let old : Streams = record {
      source = g.S.Source.state c.args.source.now;
      sink = g.K.Sink.state c.args.sink.now;
    }
    in
    let new : Streams = record {
      source = g.S.Source.state call.new.source;
      sink = g.K.Sink.state call.new.sink;
    }
    in
    let never = c.causes_leave_no_answer.ensures.never in
    answers never (texts c.args.words.now) old new call.result call.ensures.ok call.ensures.err
