pub mod Drafted
pub mod TextsReadBack
pub mod LeastEscapes
pub mod PairsReadBack
pub mod EventsReadBack
pub mod Nested
