use Rattle.std.proofs.Common.{◌≡◌, ℕ, ◌<◌, ◌≤◌, [], map, get_or, None}
use Rattle.std.specs.Option.{option_copied}
use Rattle.attr_text.specs.Wanted.{value_noted}
use Rattle.attr_text.proofs.values.note_value.Given as goal

abbrev pub invariant-loop-i : goal.invariant-loop-i
invariant-loop-i l = record {
  done : (k : ℕ) → k < l.i →
      option_copied (get_or l.values k None)
      ≡ value_noted l.key l.value (get_or (map (λ w. w.now) l.keys) k [])
      (option_copied (get_or l.initial.values k None));
  left : (k : ℕ) → l.i ≤ k → get_or l.values k None ≡ get_or l.initial.values k None;
}
