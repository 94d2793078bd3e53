use Rattle.std.proofs.Common.{◌≡◌, ◌++◌, length}
use Rattle.formula_tokens.specs.Items.{kept_bytes}
use Rattle.book_names.specs.Book.{lowered}
use Rattle.book_names.proofs.key.push_kept.Given as goal

abbrev pub invariant-loop-byte : goal.invariant-loop-byte
invariant-loop-byte l =
    l.out.items ++ lowered (kept_bytes l.rest)
    ≡ l.initial.out.items ++ lowered (kept_bytes l.fn.text)

abbrev pub decreases-loop-byte : goal.decreases-loop-byte
decreases-loop-byte l = length l.rest
