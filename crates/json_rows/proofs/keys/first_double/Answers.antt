use Rattle.std.proofs.Common.{rules, ◌≡◌, ◌∙◌, ◌∷◌, sym, true}
use Rattle.json_rows.specs.RowObjects.{is_among}
use Rattle.json_rows.proofs.EqualKeys.{seen_more, not_among, double_further}
use Rattle.json_rows.proofs.keys.first_double.Goals as goal

pub loop-key-preserved : goal.loop-key-preserved
loop-key-preserved c =
    let (before, known, rest) = c.loop-key.invariant in
    let key = c.as_str.result in
    let new : c.in_ok-insert.field-0 ≡ true = search rules in
    let apart = not_among _ _ (is_among key.now before) c.in_ok-insert.ensures.added (known key) new
    in (
      key.now ∷ before,
      λ other. seen_more key other before _ _ (c.in_ok-insert.ensures.updates.0 other) (known
          other),
      sym (double_further c.args.keys.now c.loop-key.key-index c.key-item.result key.now before
          c.key-item.is c.loop-key-test.true c.as_str.ensures.value apart) ∙ rest,
    )
