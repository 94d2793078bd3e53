use Rattle.std.proofs.Common.{◌≡◌, ◌∙◌, arith}
use Rattle.std.specs.List.{position_or_len}
use Rattle.markup.specs.Marks.{is_bracket}
use Rattle.markup.proofs.Searches.{first_place, first_within, bracket_ascii}
use Rattle.markup.proofs.marks.end_size.Goals as goal

pub returns : goal.returns
returns c =
    let is : c.unwrap_or.result ≡ position_or_len is_bracket c.args.bytes.now =
    c.unwrap_or.ensures
    ∙ first_place is_bracket c.args.bytes.now c.memchr2.result c.memchr2.ensures in
    record {
      value = is;
      within = omega (arith, first_within is_bracket c.args.bytes.now);
      ascii = bracket_ascii c.args.bytes.now c.unwrap_or.result is;
    }
