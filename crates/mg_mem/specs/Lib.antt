pub mod Memtable
