-- It serves inner contracts and proofs; no answer of the program is stated by it.
-- Room in tables for one row more of each.
use Rattle.std.specs.Prelude.{◌<◌, vec_len, vec_capacity}
use Rattle.desk_tables.specs.declared.rows.Tables.{Tables}

-- room for a file, a waiver, a sign-off and a reply
pub record HasRoom (tables : Tables) : Type 0 where
  pub files : vec_len tables.files < vec_capacity tables.files
  pub waivers : vec_len tables.waivers < vec_capacity tables.waivers
  pub signoffs : vec_len tables.signoffs < vec_capacity tables.signoffs
  pub replies : vec_len tables.replies < vec_capacity tables.replies
