pub mod XlsxError
