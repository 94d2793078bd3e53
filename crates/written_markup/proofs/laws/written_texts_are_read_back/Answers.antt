use Rattle.written_markup.proofs.TextsReadBack.{decoded_encoded, encoded_without_quote}
use Rattle.written_markup.proofs.TextsReadBack.{unescaped_escaped, line_ends_without_return}
use Rattle.written_markup.proofs.EventsReadBack.{joined_text_events, text_events_are_known}
use Rattle.written_markup.proofs.LeastEscapes.{unescaped_least}
use Rattle.written_markup.proofs.laws.written_texts_are_read_back.Goals as goal

pub returns : goal.returns
returns c = record {
  decoded = decoded_encoded;
  quoted = encoded_without_quote;
  unescaped = unescaped_escaped;
  least = unescaped_least;
  line_ends = line_ends_without_return;
  joined = joined_text_events;
  known = text_events_are_known;
}
