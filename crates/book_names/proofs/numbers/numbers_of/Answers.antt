use Rattle.std.proofs.Common.{[], arith}
use Rattle.book_names.proofs.Keeping.{found_step}
use Rattle.book_names.proofs.numbers.numbers_of.Goals as goal

pub loop-number-preserved : goal.loop-number-preserved
loop-number-preserved c = record {
  in_range = omega arith;
  found = found_step c.put_name.new.numbers c.loop-number.numbers c.args.names.now
      c.loop-number.number (record { ref_ptr = (0, 0); now = [] }) c.loop-number-test.true
      c.loop-number.invariant.in_range c.loop-number.invariant.found c.in_ok-put_name.ensures;
}
