pub use Rattle.desk_build.proofs as desk_build_proofs
