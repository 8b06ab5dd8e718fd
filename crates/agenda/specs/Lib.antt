pub mod Agendas
pub mod Rankings
