use Rattle.std.proofs.Common.{◌≡◌, drop, map}
use Rattle.formula_tokens.specs.Tokens.{word_size}
use Rattle.formula_tokens.proofs.ends.word_size.Given as goal

abbrev pub invariant-loop-word : goal.invariant-loop-word
invariant-loop-word l =
    word_size (map (λ w. w.now) (drop l.word-index l.words)) l.text
    ≡ word_size (map (λ w. w.now) l.words) l.text
