use Rattle.std.proofs.Common.{◌≡◌, ◌+◌, ◌-◌, ◌≤◌, take, length}
use Rattle.std.specs.List.{suffix_len}
use Rattle.xlsx_strings.specs.Strings.{is_blank}
use Rattle.xlsx_strings.proofs.trim.kept_len.Given as goal

abbrev pub invariant-blanks : goal.invariant-blanks
invariant-blanks l = record {
  within : l.end ≤ length l.text;
  counted :
      suffix_len is_blank l.text
      ≡ (length l.text - l.end) + suffix_len is_blank (take l.end l.text);
}

abbrev pub decreases-blanks : goal.decreases-blanks
decreases-blanks l = l.end
