use Rattle.std.proofs.lemmas.List.{nil_from_length}
use Rattle.book_names.proofs.Keeping.{kept_none, kept_alone}
use Rattle.book_names.proofs.key.split_kept.Goals as goal

pub returns-in_err-first-clause-kept : goal.returns-in_err-first-clause-kept
returns-in_err-first-clause-kept c =
    rw c.from_residual.ensures (kept_none c.args.text.now
    (nil_from_length c.args.text.now c.in_err-first.ensures.cases))

pub returns-in-None-clause-kept : goal.returns-in-None-clause-kept
returns-in-None-clause-kept c =
    kept_alone c.args.text.now c.in_ok-first.behind.now c.in_ok-first.first.now
    c.in_ok-first.ensures.cases.0
    (nil_from_length c.in_ok-first.behind.now c.in-None.ensures.cases)
