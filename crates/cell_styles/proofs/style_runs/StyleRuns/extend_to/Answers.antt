use Rattle.std.proofs.Common.{◌≡◌, ◌+◌, ◌-◌, ◌<◌, ◌≤◌, length, slice_set, sym, ◌∙◌, ap, arith, true}
use Rattle.std.proofs.Common.{false}
use Rattle.cell_styles.specs.StyleRuns.{end_along, numbers_along, last_is}
use Rattle.cell_styles.proofs.RunLists.{Extends, pushed, lengthened, none_more, end_is}
use Rattle.cell_styles.proofs.RunLists.{last_is_there, extended_numbers}
use Rattle.cell_styles.proofs.style_runs.StyleRuns.extend_to.Goals as goal

pub returns-then-end_of-end-clause-ok : goal.returns-then-end_of-end-clause-ok
returns-then-end_of-end-clause-ok c =
    let runs = c.self.inside.runs.items in
    let view : numbers_along 0 runs ≡ c.args.self.now = c.self.view_is in
    let e : end_along 0 runs ≡ 0 + length (numbers_along 0 runs) = end_is 0 runs c.self.invariant in
    let answer : c.end_of.result ≡ end_along 0 runs =
    c.end_of.ensures ∙ ap (end_along 0) c.deref.ensures.value in
    let all : length c.args.self.now ≡ c.args.end = omega (arith, ap length view, answer, e) in
    none_more c.args.self.now c.args.end c.args.id all

at_last : (c : goal.After-self-1) → Extends c.self.inside.runs.items
    (slice_set c.self.inside.runs.items (c.len-last.result - 1)
    (record { end = c.args.end; id = c.args.id })) c.args.end c.args.id
at_last c =
    let runs = c.self.inside.runs.items in
    let view : numbers_along 0 runs ≡ c.args.self.now = c.self.view_is in
    let room : length (numbers_along 0 runs) ≤ c.args.end = rw view c.requires in
    let same : last_is c.args.id runs ≡ true =
    sym (ap (last_is c.args.id) c.deref-2.ensures.value)
    ∙ (sym c.is_last.ensures ∙ c.if-is_last.true) in
    let there : 0 < length runs = last_is_there c.args.id runs same in
    let last : c.len-last.result - 1 + 1 ≡ length runs = omega (arith, there, c.len-last.ensures) in
    lengthened runs c.args.end c.args.id (c.len-last.result - 1) last c.self.invariant room same

pub invariant_of-self : goal.invariant_of-self
invariant_of-self c = (at_last c).canonical

behind : (c : goal.In_ok-push)
    → Extends c.self.inside.runs.items c.push.new.self.items c.args.end c.args.id
behind c =
    let runs = c.self.inside.runs.items in
    let view : numbers_along 0 runs ≡ c.args.self.now = c.self.view_is in
    let room : length (numbers_along 0 runs) ≤ c.args.end = rw view c.requires in
    let other : last_is c.args.id runs ≡ false =
    sym (ap (last_is c.args.id) c.deref-2.ensures.value)
    ∙ (sym c.is_last.ensures ∙ c.if-is_last.false) in
    let more : end_along 0 runs ≡ c.args.end → ⊥ =
    λ e. c.if-end_of-end.false (c.end_of.ensures ∙ ap (end_along 0) c.deref.ensures.value ∙ e) in
    rw c.in_ok-push.ensures.items
    (pushed runs c.args.end c.args.id c.self.invariant room more other)

pub invariant_of-self-2 : goal.invariant_of-self-2
invariant_of-self-2 c = (behind c).canonical

pub returns-then-is_last-clause-ok : goal.returns-then-is_last-clause-ok
returns-then-is_last-clause-ok c = extended_numbers c.args.self.now (at_last c) c.self.view_is

pub returns-clause-ok : goal.returns-clause-ok
returns-clause-ok c = extended_numbers c.args.self.now (behind c) c.self.view_is
