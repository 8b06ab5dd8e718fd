-- The tables in their plain form: a list of rows for each.
use Rattle.std.specs.Prelude.{List, [], ◌∷◌}
use Rattle.desk_tables.specs.declared.rows.MetaRow.{MetaRow}
use Rattle.desk_tables.specs.declared.rows.FileRow.{FileRow}
use Rattle.desk_tables.specs.declared.rows.WaiverRow.{WaiverRow}
use Rattle.desk_tables.specs.declared.rows.SignOffRow.{SignOffRow}
use Rattle.desk_tables.specs.declared.rows.ReplyRow.{ReplyRow}
use Rattle.desk_tables.specs.declared.rows.Tables.{Tables}

-- the rows of each table
pub record Kept : Type 0 where
  pub meta : List MetaRow
  pub files : List FileRow
  pub waivers : List WaiverRow
  pub signoffs : List SignOffRow
  pub replies : List ReplyRow

-- what tables hold
abbrev pub kept_of : Tables → Kept
kept_of tables = record {
  meta = tables.meta.items;
  files = tables.files.items;
  waivers = tables.waivers.items;
  signoffs = tables.signoffs.items;
  replies = tables.replies.items;
}

-- the tables of a new desk: of version 2, and with no other row
abbrev pub new_tables : Kept
new_tables = record {
  meta = record { version = 2 } ∷ [];
  files = [];
  waivers = [];
  signoffs = [];
  replies = [];
}
