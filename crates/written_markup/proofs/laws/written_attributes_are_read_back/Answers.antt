use Rattle.written_markup.proofs.PairsReadBack.{items_written}
use Rattle.written_markup.proofs.laws.written_attributes_are_read_back.Goals as goal

pub returns : goal.returns
returns c = items_written
