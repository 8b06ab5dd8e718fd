pub mod Answers
pub mod Shown
pub mod Stores
-- passed on to the crates above
pub use Rattle.desk_verdict.specs.check_all
pub use Rattle.desk_verdict.specs.check_clean
pub use Rattle.desk_verdict.specs.net_clean
pub use Rattle.desk_verdict.specs.sign_firm
pub use Rattle.desk_answers.specs as desk_answers
pub use Rattle.desk_answers.specs.desk_build
pub use Rattle.desk_memo.specs as desk_memo
pub use Rattle.desk_verdict.specs as desk_verdict
pub use Rattle.desk_answers.specs.elab_flat
pub use Rattle.desk_answers.specs.elab_names
pub use Rattle.desk_answers.specs.elab_scope
pub use Rattle.desk_answers.specs.rtl_elab
