use Rattle.std.proofs.lemmas.Str.{IsCharBoundary-after_ascii}
use Rattle.format_codes.proofs.text.behind_ascii.Goals as goal

pub split_at-requires : goal.split_at-requires
split_at-requires c =
    IsCharBoundary-after_ascii _ _ c.utf8.text c.requires.within c.requires.ascii
