use Rattle.std.proofs.Common.{◌≡◌, ℕ, List, [], ◌∷◌, ◌++◌, map, rules, string_bytes, append-nil}
use Rattle.std.proofs.Common.{sym}
use Rattle.std.proofs.lemmas.List.{nil_from_length}
use Rattle.std.proofs.lemmas.Result.{err_from_is_err_and}
use Rattle.xlsx_parts.proofs.ManyRead.{kept_behind, leads_on, leads_refused, leads_done}
use Rattle.looks.specs.Words.{look_ask}
use Rattle.looks.proofs.Called.{each_leads}
use Rattle.xlsx_relationships.specs.RelatedLook.{related_look}
use Rattle.xlsx_relationships.proofs.related_lists.push_related.Goals as goal

pub paths-init : goal.paths-init
paths-init g c = record {
  leads =
      rw c.as_slice-left.ensures.value
      (each_leads (related_look c.args.typ.now c.args.path.now)
      (g.R.ReadsRelated.look c.args.by.now) c.in_ok-paths.ensures.answers);
  kept = ([], sym (append-nil c.args.items.now.items));
}

pub paths-preserved : goal.paths-preserved
paths-preserved g c =
    let r = g.R.ReadsRelated in
    let now = c.paths.invariant in
    let left : c.paths.left.now ≡ c.in-Some.there.now ∷ c.in-Some.others.now = search rules in
    record {
      leads =
          leads_on (λ (path : List ℕ). look_ask r.Kind (r.look c.args.by.now path))
          (string_bytes c.in-Some.there.now)
          (map string_bytes c.in-Some.others.now) (rw left at now.leads)
          (rw c.as_str.ensures.value at c.in_ok-push.ensures.answers);
      kept = (
        now.kept.0 ++ c.in_ok-push.ensures.kept.0,
        kept_behind c.args.items.now.items c.paths.items.items c.push.new.items.items now.kept.0
            c.in_ok-push.ensures.kept.0 now.kept.1 c.in_ok-push.ensures.kept.1,
      );
    }

pub returns-clause-answers : goal.returns-clause-answers
returns-clause-answers g c =
    let r = g.R.ReadsRelated in
    let now = c.paths.invariant in
    let left = nil_from_length c.paths.left.now c.in_default.ensures.cases in
    leads_done (λ (path : List ℕ). look_ask r.Kind (r.look c.args.by.now path))
    (rw left at now.leads)

pub returns-clause-kept : goal.returns-clause-kept
returns-clause-kept g c = c.paths.invariant.kept

pub returns-in_err-push-clause-answers : goal.returns-in_err-push-clause-answers
returns-in_err-push-clause-answers g c =
    let r = g.R.ReadsRelated in
    let left : c.paths.left.now ≡ c.in-Some.there.now ∷ c.in-Some.others.now = search rules in
    let handed = err_from_is_err_and c.from_residual-in_err-push.result
    c.from_residual-in_err-push.ensures.1 in
    rw (handed.1, handed.2)
    (leads_refused (λ (path : List ℕ). look_ask r.Kind (r.look c.args.by.now path))
    (string_bytes c.in-Some.there.now) (map string_bytes c.in-Some.others.now)
    (map (r.kept c.args.by.now) c.push.new.items.items) (λ is. is)
    (rw left at c.paths.invariant.leads)
    (rw c.as_str.ensures.value at c.in_err-push.ensures.answers))

pub returns-in_err-push-clause-kept : goal.returns-in_err-push-clause-kept
returns-in_err-push-clause-kept g c =
    let now = c.paths.invariant in (
      now.kept.0 ++ c.in_err-push.ensures.kept.0,
      kept_behind c.args.items.now.items c.paths.items.items c.push.new.items.items now.kept.0
          c.in_err-push.ensures.kept.0 now.kept.1 c.in_err-push.ensures.kept.1,
    )
