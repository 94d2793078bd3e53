use Rattle.xlsx_core.proofs.worksheet_list.put_behind.Goals as goal

pub returns-in_ok-push : goal.returns-in_ok-push
returns-in_ok-push c =
    rw c.in-Some.is
    (c.in_ok-from_str.field-0, c.in_ok-from_str.ensures.ok, c.in_ok-push.ensures.items)
