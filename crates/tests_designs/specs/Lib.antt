pub use Rattle.desk_build.specs as desk_build
