use Rattle.std.proofs.Common.{◌≡◌, ◌∙◌, arith}
use Rattle.std.specs.List.{position_or_len}
use Rattle.markup.specs.Marks.{is_reference_end}
use Rattle.markup.proofs.Searches.{first_place, first_within, reference_end_ascii}
use Rattle.markup.proofs.marks.reference_size.Goals as goal

pub returns : goal.returns
returns c =
    let is : c.unwrap_or.result ≡ position_or_len is_reference_end c.args.bytes.now =
    c.unwrap_or.ensures
    ∙ first_place is_reference_end c.args.bytes.now c.memchr3.result c.memchr3.ensures in
    record {
      value = is;
      within = omega (arith, first_within is_reference_end c.args.bytes.now);
      ascii = reference_end_ascii c.args.bytes.now c.unwrap_or.result is;
    }
