pub mod Records
pub mod RecordStores
