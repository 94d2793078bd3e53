use Rattle.std.proofs.Common.{◌≡◌, ◌-◌, length, ℕ, drop, true, ◌∙◌, ap, take, reverse, ◌∷◌, Some}
use Rattle.std.proofs.Common.{arith}
use Rattle.std.specs.Prelude.{slice_get}
use Rattle.std.specs.Str.{bytes_eq}
use Rattle.std.proofs.lemmas.Slice.Eq.{bytes_eq-Decides}
use Rattle.std.proofs.lemmas.Grind.{common_steps}
use Rattle.part_events.specs.OpenNames.{names_cut}
use Rattle.part_events.proofs.Opened.{innermost_first}
use Rattle.part_events.proofs.open_names.OpenNames.close.Goals as goal
use Rattle.part_events.proofs.open_names.OpenNames.close.Goals.{In-Some}

first : (c : In-Some) → slice_get c.self.inside.sizes.items (length c.self.inside.sizes.items - 1)
    ≡ Some c.in-Some.size
first c = grind (arith, common_steps)

-- where the innermost name begins, and what the others are
innermost : (c : In-Some) (begins : ℕ) → begins ≡ length c.self.inside.text.items - c.in-Some.size
    → c.args.self.now ≡ drop begins c.self.inside.text.items ∷ names_cut
    (take begins c.self.inside.text.items)
    (reverse (take (length c.self.inside.sizes.items - 1) c.self.inside.sizes.items))
innermost c begins at = innermost_first c.self.inside.text.items c.self.inside.sizes.items
    c.args.self.now c.in-Some.size begins c.self.view_is (first c) at

pub returns-then-ne-clause-answer : goal.returns-then-ne-clause-answer
returns-then-ne-clause-answer c =
    let text = c.self.inside.text in
    let begins = c.len.result - c.in-Some.size in
    rw (innermost (goal.at.returns-then-ne-clause-answer c).In-Some begins
    (ap (λ (n : ℕ). n - c.in-Some.size) (c.len.ensures ∙ text.ok.0))) (grind arith)

pub returns-clause-answer : goal.returns-clause-answer
returns-clause-answer c =
    let text = c.self.inside.text in
    let begins = c.len.result - c.in-Some.size in
    rw (innermost (goal.at.returns-clause-answer c).In-Some begins
    (ap (λ (n : ℕ). n - c.in-Some.size) (c.len.ensures ∙ text.ok.0))) (grind arith)

pub returns-clause-closed : goal.returns-clause-closed
returns-clause-closed c =
    let inside = c.self.inside in
    let begins = c.len.result - c.in-Some.size in
    let shape = innermost (goal.at.returns-clause-closed c).In-Some begins
    (ap (λ (n : ℕ). n - c.in-Some.size) (c.len.ensures ∙ inside.text.ok.0)) in
    let tested : bytes_eq c.args.name.now (drop begins inside.text.items) ≡ true = grind arith in
    let named : c.args.name.now ≡ drop begins inside.text.items =
    (bytes_eq-Decides c.args.name.now (drop begins inside.text.items)).0 tested in
    let text_is : c.truncate.new.self.items ≡ take begins inside.text.items =
    c.truncate.ensures.items in
    let sizes_are : c.truncate-2.new.self.items
    ≡ take (length inside.sizes.items - 1) inside.sizes.items = c.truncate-2.ensures.items
    ∙ ap (λ (n : ℕ). take (n - 1) inside.sizes.items) (c.len-2.ensures ∙ inside.sizes.ok.0) in
    rw (text_is, sizes_are, named) shape
