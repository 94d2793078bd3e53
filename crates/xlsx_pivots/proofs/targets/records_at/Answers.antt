use Rattle.std.proofs.Common.{Global, rules, string_bytes}
use Rattle.std.proofs.lemmas.Result.{err_from_is_err_and}
use Rattle.xlsx_pivots.specs.Targets.{records_path, records_type, target_look}
use Rattle.xlsx_pivots.specs.declared.single.Single.TheVariants as single
use Rattle.looks.proofs.Answered.{mapped_said, mapped_refused, refused_behind}
use Rattle.xlsx_pivots.proofs.targets.records_at.Goals as goal

pub returns-in_err-target : goal.returns-in_err-target
returns-in_err-target g c =
    let p = err_from_is_err_and c.from_residual.result c.from_residual.ensures.1 in
    record {
      answers =
          rw (p.1, p.2)
          (mapped_refused (records_path c.args.folder.now)
          (target_look records_type single.Records c.args.path.now) string_bytes (λ is. is)
          c.in_err-target.ensures.answers);
    }

pub returns-in_err-records_path : goal.returns-in_err-records_path
returns-in_err-records_path g c =
    let p = err_from_is_err_and c.from_residual-in_err-records_path.result
    c.from_residual-in_err-records_path.ensures.1 in
    record {
      answers =
          rw (p.1, p.2)
          (mapped_refused (records_path c.args.folder.now)
          (target_look records_type single.Records c.args.path.now) string_bytes (λ is. is)
          (refused_behind (string_bytes {Z = Global}) tt c.in_ok-target.ensures.answers));
    }

pub returns : goal.returns
returns g c = record {
  answers =
      mapped_said (records_path c.args.folder.now)
      (target_look records_type single.Records c.args.path.now) string_bytes
      (search rules) c.in_ok-target.ensures.answers;
}
