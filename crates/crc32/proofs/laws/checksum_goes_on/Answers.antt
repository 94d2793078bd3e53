use Rattle.std.proofs.lemmas.List.Sums.{fold-append}
use Rattle.crc32.specs.Crc.{after_byte}
use Rattle.crc32.proofs.laws.checksum_goes_on.Goals as goal

pub returns : goal.returns
returns c = λ register bytes more. fold-append after_byte register bytes more
