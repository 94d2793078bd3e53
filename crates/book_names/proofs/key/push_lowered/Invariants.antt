use Rattle.std.proofs.Common.{◌≡◌, ◌++◌, take}
use Rattle.book_names.specs.Book.{lowered}
use Rattle.book_names.proofs.key.push_lowered.Given as goal

abbrev pub invariant-loop-b : goal.invariant-loop-b
invariant-loop-b l = l.out.items ≡ l.initial.out.items ++ lowered (take l.b-index l.name)
