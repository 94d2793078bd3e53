use Rattle.std.proofs.Common.{◌≡◌, Some, Ok, rules, refl, string_bytes}
use Rattle.std.proofs.lemmas.Result.{err_from_is_err_and}
use Rattle.xlsx_sections.specs.Words.{Answers}
use Rattle.looks.specs.Words.{look_ask}
use Rattle.looks.proofs.Called.{then_refused, next_refused, next_said}
use Rattle.xlsx_relationships.specs.Words.{target_path}
use Rattle.xlsx_pivots.specs.PivotErrors.{IsPivotsError}
use Rattle.xlsx_pivots.specs.Targets.{definitions_type, target_look, led_look}
use Rattle.xlsx_pivots.specs.declared.single.Single.TheVariants as single
use Rattle.looks.proofs.Answered.{says_answered, refused_at_once}
use Rattle.xlsx_pivots.proofs.targets.definitions_at.Goals as goal

pub returns-in_err-target : goal.returns-in_err-target
returns-in_err-target g c =
    let path = c.args.path.now in
    let p = err_from_is_err_and c.from_residual.result c.from_residual.ensures.1 in
    record {
      answers =
          rw (p.1, p.2)
          (then_refused (target_look definitions_type single.Definitions path) (led_look path)
          string_bytes (λ e is. is) c.in_err-target.ensures.answers);
    }

pub returns-in_err-there : goal.returns-in_err-there
returns-in_err-there g c =
    let path = c.args.path.now in
    let p = err_from_is_err_and c.from_residual-in_err-there.result
    c.from_residual-in_err-there.ensures.1 in
    record {
      answers =
          rw (p.1, p.2)
          (next_refused (target_look definitions_type single.Definitions path) (led_look path)
          string_bytes (λ e is. is) c.in_ok-target.ensures.answers
          (refused_at_once
          (look_ask IsPivotsError (led_look path (string_bytes c.in_ok-target.target)))
          string_bytes c.target_beside.new.xml.source tt));
    }

pub returns : goal.returns
returns g c =
    let path = c.args.path.now in
    let target = string_bytes c.in_ok-target.target in
    let there = c.in-Some.there in
    let leads : target_path path target ≡ Some (string_bytes there) = search rules in
    let known : Answers (look_ask IsPivotsError (led_look path target)) string_bytes (Ok there)
    c.target_beside.new.xml.source c.target_beside.new.xml.source =
    rw leads (says_answered (string_bytes there) string_bytes there
    c.target_beside.new.xml.source refl) in
    record {
      answers =
          next_said (target_look definitions_type single.Definitions path) (led_look path)
          string_bytes c.in_ok-target.ensures.answers known;
    }
