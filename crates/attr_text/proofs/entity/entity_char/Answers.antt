use Rattle.std.proofs.Common.{◌∙◌, ap}
use Rattle.attr_text.specs.Text.{entity_character, unnamed_character}
use Rattle.attr_text.proofs.EntityLemmas.{entity_character-other}
use Rattle.attr_text.proofs.entity.entity_char.Goals as goal

pub returns-in-lt : goal.returns-in-lt
unfolding entity_character
returns-in-lt c = rw c.in-lt.is

pub returns-in-gt : goal.returns-in-gt
unfolding entity_character
returns-in-gt c = rw c.in-gt.is

pub returns-in-amp : goal.returns-in-amp
unfolding entity_character
returns-in-amp c = rw c.in-amp.is

pub returns-in-apos : goal.returns-in-apos
unfolding entity_character
returns-in-apos c = rw c.in-apos.is

pub returns-in-quot : goal.returns-in-quot
unfolding entity_character
returns-in-quot c = rw c.in-quot.is

pub returns-in_default : goal.returns-in_default
returns-in_default c =
    let others = c.in_default in
    c.numbered_char.ensures ∙ ap unnamed_character c.as_bytes.ensures.value
    ∙ entity_character-other c.args.name.now others.not-lt others.not-gt others.not-amp
    others.not-apos others.not-quot
