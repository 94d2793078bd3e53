use Rattle.std.proofs.Common.{◌≡◌, ◌∙◌, ◌++◌, ◌∷◌, [], ap, arith, Bool, cond, List, map, set, sym}
use Rattle.std.proofs.Common.{ℕ}
use Rattle.std.specs.List.{slice_index_or}
use Rattle.std.proofs.lemmas.Bool.{ne_eqb}
use Rattle.std.proofs.lemmas.List.{get_or-map, map-set}
use Rattle.calculation_order.proofs.cycles.keep.Goals as goal

pub returns-in_ok-push-2 : goal.returns-in_ok-push-2
returns-in_ok-push-2 c =
    let lists = c.args.lists.now.items in
    let told : List (List ℕ) = map (λ list. list.items) lists in
    let old = c.index_mut.result.now in
    let new : List ℕ = slice_index_or told c.args.place [] ++ c.args.formula ∷ [] in
    let same : slice_index_or told c.args.place [] ≡ old.items =
    get_or-map (λ list. list.items) lists c.args.place old [] (omega arith)
    ∙ ap (λ list. list.items) (sym c.index_mut.ensures.value) in
    map-set (λ list. list.items) lists c.args.place c.push-then-place-len.new.self
    ∙ ap (λ (l : List ℕ). set told c.args.place l) (c.in_ok-push-2.ensures.items
    ∙ ap (λ (l : List ℕ). l ++ c.args.formula ∷ []) (sym same))
    ∙ sym (ap (λ (b : Bool). cond b (told ++ (c.args.formula ∷ []) ∷ [])
    (set told c.args.place new)) (ne_eqb _ _ c.if-first-formula.false))
