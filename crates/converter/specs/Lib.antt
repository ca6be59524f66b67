pub mod Convert
