-- Tables that break no rule, table by table.
use Rattle.std.proofs.Common.{◌≡◌, ℕ, [], ◌∷◌, ◌++◌, Option, Some, None, refl}
use Rattle.std.specs.Prelude.{⊤}
use Rattle.desk_tables.specs.Changes.{changed, reply_of, with_file}
use Rattle.desk_tables.specs.Editions.{version_of}
use Rattle.desk_tables.specs.Rules.{broken_meta, broken_row, file_breaks, first_broken, in_table, or_else, reply_breaks, signoff_breaks, waiver_breaks}
use Rattle.desk_tables.specs.Tables.{Kept}
use Rattle.desk_tables.specs.declared.change.Change.{Change}
use Rattle.desk_tables.specs.declared.change.Change.TheVariants.{PutFile, DropFile, Grant, Revoke, SignOff}
use Rattle.desk_tables.specs.declared.rows.Table.{Table}
use Rattle.desk_tables.specs.declared.rows.Table.TheVariants.{Meta, Files, Waivers, SignOffs, Replies}
use Rattle.desk_sound.proofs.FilesKept.{dropped_kept}
use Rattle.desk_sound.proofs.RowsKept.{end_kept}

-- no table breaks a rule
pub record AreSound (kept : Kept) : Type 0 where
  pub meta : broken_meta kept.meta ≡ None
  pub files : first_broken file_breaks [] kept.files ≡ None
  pub waivers : first_broken waiver_breaks [] kept.waivers ≡ None
  pub signoffs : first_broken (signoff_breaks (version_of kept.meta)) [] kept.signoffs ≡ None
  pub replies : first_broken reply_breaks [] kept.replies ≡ None

pub or_else_none : {A : Type 0} (one other : Option A) → or_else one other ≡ None → (one ≡ None) × (other ≡ None)
or_else_none None other none = (refl, none)
or_else_none (Some it) other none = cc

in_table_none : (table : Table) (place : Option ℕ) → in_table table place ≡ None → place ≡ None
in_table_none table None none = refl
in_table_none table (Some place) none = cc

pub sound_from : (kept : Kept) → broken_row kept ≡ None → AreSound kept
sound_from kept none =
    let metas = or_else_none _ _ none in
    let files = or_else_none _ _ metas.1 in
    let waivers = or_else_none _ _ files.1 in
    let signoffs = or_else_none _ _ waivers.1 in
    record {
      meta = in_table_none _ _ metas.0;
      files = in_table_none _ _ files.0;
      waivers = in_table_none _ _ waivers.0;
      signoffs = in_table_none _ _ signoffs.0;
      replies = in_table_none _ _ signoffs.1;
    }

-- the first of these tables that breaks a rule is none where none of them does
none_of : (meta files waivers signoffs replies : Option ℕ) → meta ≡ None → files ≡ None → waivers ≡ None → signoffs ≡ None → replies ≡ None → or_else (in_table Meta meta) (or_else (in_table Files files) (or_else (in_table Waivers waivers) (or_else (in_table SignOffs signoffs) (in_table Replies replies)))) ≡ None
none_of meta files waivers signoffs replies a b c d e = simp (a, b, c, d, e)

pub sound_to : (kept : Kept) → AreSound kept → broken_row kept ≡ None
sound_to kept sound =
    none_of (broken_meta kept.meta) (first_broken file_breaks [] kept.files) (first_broken waiver_breaks [] kept.waivers) (first_broken (signoff_breaks (version_of kept.meta)) [] kept.signoffs) (first_broken reply_breaks [] kept.replies)
    sound.meta sound.files sound.waivers sound.signoffs sound.replies

-- the rows of a change break no rule in their table
abbrev pub RowsHold : Change → Kept → Type 0
RowsHold (PutFile row reply) kept = first_broken file_breaks [] (with_file row kept.files) ≡ None
RowsHold (DropFile name reply) kept = ⊤
RowsHold (Grant row reply) kept = first_broken waiver_breaks [] (kept.waivers ++ row ∷ []) ≡ None
RowsHold (Revoke id day reply) kept = ⊤
RowsHold (SignOff row reply) kept = first_broken (signoff_breaks (version_of kept.meta)) [] (kept.signoffs ++ row ∷ []) ≡ None

pub sound_after : (change : Change) (kept : Kept) → AreSound kept → RowsHold change kept → first_broken reply_breaks [] (kept.replies ++ reply_of change ∷ []) ≡ None → AreSound (changed change kept)
sound_after (PutFile row reply) kept sound rows replies = record {
  meta = sound.meta;
  files = rows;
  waivers = sound.waivers;
  signoffs = sound.signoffs;
  replies = replies;
}
sound_after (DropFile name reply) kept sound rows replies = record {
  meta = sound.meta;
  files = dropped_kept name kept.files sound.files;
  waivers = sound.waivers;
  signoffs = sound.signoffs;
  replies = replies;
}
sound_after (Grant row reply) kept sound rows replies = record {
  meta = sound.meta;
  files = sound.files;
  waivers = rows;
  signoffs = sound.signoffs;
  replies = replies;
}
sound_after (Revoke id day reply) kept sound rows replies = record {
  meta = sound.meta;
  files = sound.files;
  waivers = end_kept id day kept.waivers sound.waivers;
  signoffs = sound.signoffs;
  replies = replies;
}
sound_after (SignOff row reply) kept sound rows replies = record {
  meta = sound.meta;
  files = sound.files;
  waivers = sound.waivers;
  signoffs = rows;
  replies = replies;
}
