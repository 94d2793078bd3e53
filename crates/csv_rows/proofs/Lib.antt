mod RecordSteps
mod RowFields
