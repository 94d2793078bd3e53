mod TextValues
mod ValuesRead
