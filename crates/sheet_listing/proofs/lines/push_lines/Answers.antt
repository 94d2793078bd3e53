use Rattle.std.proofs.Common.{string_bytes, ◌++◌, ◌∙◌, ap}
use Rattle.std.specs.Option.{option_copied}
use Rattle.cell_styles.specs.Words.{style_named}
use Rattle.sorted_cells.specs.Words.{placed_left}
use Rattle.cell_data.proofs.Stepping.{next_splits}
use Rattle.sheet_listing.specs.SheetListing.{ids_left}
use Rattle.sheet_listing.proofs.SheetListingLemmas.{lines_on, lines_end, lines_left, shorter}
use Rattle.sheet_listing.proofs.lines.push_lines.Goals as goal

pub positions-smaller : goal.positions-smaller
positions-smaller c =
    shorter c.in-Some.position (placed_left c.positions.values_left)
    (placed_left c.next_at-value.new.self) (placed_left c.positions.formulas_left)
    (placed_left c.next_at-formula.new.self) (ids_left c.positions.ids_left)
    (ids_left c.next_at-id.new.self) c.in-Some.ensures c.next_at-value.ensures.left
    c.next_at-formula.ensures.left c.next_at-id.ensures.left

pub positions-preserved : goal.positions-preserved
positions-preserved c =
    let p = c.in-Some.position in
    let style = style_named c.args.styles.now in
    let value = option_copied c.next_at-value.result in
    let formula = option_copied c.next_at-formula.result in
    let id = c.next_at-id.result in
    let values = placed_left c.positions.values_left in
    let formulas = placed_left c.positions.formulas_left in
    let ids = ids_left c.positions.ids_left in
    let vs = placed_left c.next_at-value.new.self in
    let fs = placed_left c.next_at-formula.new.self in
    let ds = ids_left c.next_at-id.new.self in
    let splits_v = next_splits p value values vs c.positions.invariant.values_order
    c.in-Some.ensures.before_values c.next_at-value.ensures.value
    c.next_at-value.ensures.left in
    let splits_f = next_splits p formula formulas fs c.positions.invariant.formulas_order
    c.in-Some.ensures.before_formulas c.next_at-formula.ensures.value
    c.next_at-formula.ensures.left in
    let splits_d = next_splits p id ids ds c.positions.invariant.ids_order
    c.in-Some.ensures.before_ids c.next_at-id.ensures.value c.next_at-id.ensures.left in
    record {
      printed = lines_on c.args.form style p value formula id
          (option_copied c.style_with_id-style.result)
          values vs formulas fs ids ds (string_bytes c.positions.out)
          (string_bytes c.push_line.new.out)
          (string_bytes c.args.out.now
          ++ lines_left c.args.form style (placed_left c.args.values) (placed_left c.args.formulas)
          (ids_left c.args.ids))
          splits_v splits_f splits_d
          (c.style_with_id-style.ensures ∙ ap (style p) c.unwrap_or.ensures)
          c.in_ok-push_line.ensures
          c.positions.invariant.printed;
      values_order = splits_v.order;
      formulas_order = splits_f.order;
      ids_order = splits_d.order;
    }

pub returns : goal.returns
returns c =
    let style = style_named c.args.styles.now in
    lines_end c.args.form style (string_bytes c.positions.out)
    (string_bytes c.args.out.now
    ++ lines_left c.args.form style (placed_left c.args.values) (placed_left c.args.formulas)
    (ids_left c.args.ids))
    (placed_left c.positions.values_left) (placed_left c.positions.formulas_left)
    (ids_left c.positions.ids_left) c.in_default.ensures c.positions.invariant.printed
