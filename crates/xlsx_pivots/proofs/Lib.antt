pub mod PivotsRead
