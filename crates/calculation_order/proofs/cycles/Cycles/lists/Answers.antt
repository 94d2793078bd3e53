use Rattle.std.proofs.Common.{◌≡◌, ◌∙◌, ◌++◌, ◌+◌, ◌∷◌, [], ap, arith, length, List, map, Option}
use Rattle.std.proofs.Common.{subst, sym, ℕ}
use Rattle.std.proofs.lemmas.List.{length-map}
use Rattle.calculation_order.specs.Cycles.{AreFirsts, AreCyclesKept, cycles_by, with_next}
use Rattle.calculation_order.specs.Edges.{firsts_of}
use Rattle.calculation_order.proofs.CyclesBy.{are_firsts, cycles_alike, size_of_firsts}
use Rattle.calculation_order.proofs.ListsStep.{next_kept}
use Rattle.calculation_order.proofs.cycles.Cycles.lists.Goals as goal

pub loop-formula-preserved : goal.loop-formula-preserved
loop-formula-preserved c =
    let firsts = c.args.self.now in
    let formula = c.loop-formula.formula in
    let lists : List (List ℕ) = map (λ list. list.items) c.loop-formula.lists.items in
    let places : List ℕ = c.loop-formula.places.items in
    let more : List ℕ = places ++ length lists ∷ [] in
    let told : length lists ≡ length c.loop-formula.lists.items =
    length-map c.loop-formula.lists.items (λ list. list.items) in
    let count : c.len-in-loop-formula.result ≡ length lists = omega arith in
    let pushed : c.push.new.self.items ≡ more =
    c.in_ok-push.ensures.items ∙ ap (λ (n : ℕ). places ++ n ∷ []) count in
    let kept = c.in_ok-keep_next.ensures
    ∙ ap (λ (l : List ℕ). with_next lists l c.first.result formula)
    (c.deref.ensures.value ∙ pushed)
    ∙ ap (λ (o : Option ℕ). with_next lists more o formula) c.first.ensures in
    record {
      kept = λ so. subst (AreCyclesKept firsts (formula + 1) _) (sym pushed)
          (subst (λ (l : List (List ℕ)). AreCyclesKept firsts (formula + 1) l more) (sym kept)
          (next_kept firsts so formula lists places (c.loop-formula.invariant.kept so)));
    }

pub returns : goal.returns
returns c edges within same =
    let firsts = c.args.self.now in
    let so : AreFirsts firsts = subst AreFirsts (sym same) (are_firsts edges within) in
    let inside : length c.self.inside.firsts.items ≡ length firsts =
    ap (λ (l : List (Option ℕ)). length l) c.self.view_is in
    let count : c.loop-formula.formula ≡ length firsts = omega arith in
    (c.loop-formula.invariant.kept so).cycles
    ∙ ap (cycles_by firsts) count
    ∙ ap (λ (l : List (Option ℕ)). cycles_by l (length l)) same
    ∙ ap (cycles_by (firsts_of edges)) (size_of_firsts edges within)
    ∙ cycles_alike edges within
