use Rattle.std.proofs.Common.{◌≡◌, ◌∙◌, arith}
use Rattle.std.specs.List.{position_or_len}
use Rattle.markup.specs.Marks.{is_mark}
use Rattle.markup.proofs.Searches.{first_place, first_within, mark_ascii}
use Rattle.markup.proofs.marks.text_size.Goals as goal

pub returns : goal.returns
returns c =
    let is : c.unwrap_or.result ≡ position_or_len is_mark c.args.bytes.now =
    c.unwrap_or.ensures ∙ first_place is_mark c.args.bytes.now c.memchr2.result c.memchr2.ensures in
    record {
      value = is;
      within = omega (arith, first_within is_mark c.args.bytes.now);
      ascii = mark_ascii c.args.bytes.now c.unwrap_or.result is;
    }
