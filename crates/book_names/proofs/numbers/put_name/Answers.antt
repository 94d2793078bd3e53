use Rattle.std.proofs.Common.{Some}
use Rattle.book_names.specs.Book.{lowered}
use Rattle.book_names.proofs.Keeping.{kept_now}
use Rattle.book_names.proofs.numbers.put_name.Goals as goal

pub returns : goal.returns
returns c =
    kept_now c.args.numbers.now c.insert.new.self c.in_ok-lowered_copy.field-0
    (lowered c.args.name.now) (Some c.args.number) c.in_ok-insert.ensures.updates
    c.in_ok-lowered_copy.ensures
