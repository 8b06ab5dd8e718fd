-- The columns of the database in which the rows of the tables stand.
-- Worked examples: crates/tests_parts/stdin.
use Rattle.std.specs.Prelude.{◌≡◌, ℕ, ℤ, ◌+◌, pos, List, [], ◌∷◌, Option, Some, None}
use Rattle.sqlite_value.specs.declared.value.Value.{Value}
use Rattle.sqlite_value.specs.declared.value.Value.TheVariants.{Null, Int, Text, Blob}
use Rattle.sqlite_value.specs.Order.{Row, column}
use Rattle.desk_tables.specs.declared.rows.MetaRow.{MetaRow}
use Rattle.desk_tables.specs.declared.rows.FileRow.{FileRow}
use Rattle.desk_tables.specs.declared.rows.WaiverRow.{WaiverRow}
use Rattle.desk_tables.specs.declared.rows.SignOffRow.{SignOffRow}
use Rattle.desk_tables.specs.declared.rows.ReplyRow.{ReplyRow}

-- a number of the tables
abbrev pub number : ℕ → Value
number n = Int (pos n)

-- the day on which a waiver was revoked, or NULL
abbrev pub end_day : Option ℤ → Value
end_day None = Null
end_day (Some day) = Int day

-- a number, or NULL
abbrev pub number_or_null : Option ℕ → Value
number_or_null None = Null
number_or_null (Some n) = number n

-- ---- the columns of a row, in their order

abbrev pub meta_columns : MetaRow → List Value
meta_columns row = number row.version ∷ []

abbrev pub file_columns : FileRow → List Value
file_columns row = Text row.name ∷ Blob row.text ∷ Blob row.digest ∷ Text row.editor ∷ []

abbrev pub waiver_columns : WaiverRow → List Value
waiver_columns row =
    number row.id.0 ∷ Text row.top ∷ Text row.rule ∷ Text row.target ∷ Text row.file ∷ number row.at ∷ Blob row.digest ∷ Text row.owner ∷ Text row.asker ∷ Text row.reason ∷ Int row.last_day ∷ end_day row.ended ∷ []

abbrev pub signoff_columns : SignOffRow → List Value
signoff_columns row =
    number row.id ∷ Text row.top ∷ Text row.who ∷ Int row.day ∷ Text row.grade ∷ Blob row.reach ∷ number_or_null row.edition ∷ []

abbrev pub reply_columns : ReplyRow → List Value
reply_columns row =
    Text row.user ∷ Text row.request ∷ Blob row.digest ∷ number row.status ∷ Blob row.body ∷ []

-- ---- a row of an answer

-- from this place on a row has these values
abbrev pub HoldsFrom : ℕ → Row → List Value → Type 0
HoldsFrom at row [] = Unit {0}
HoldsFrom at row (value ∷ values) = (column row at ≡ value) × HoldsFrom (at + 1) row values

-- a row begins with these values
abbrev pub Holds : Row → List Value → Type 0
Holds row values = HoldsFrom 0 row values

-- these are the rows of an answer, each in its place
abbrev pub HoldAll : {R : Type 0} → (R → List Value) → List Row → List R → Type 0
HoldAll columns [] [] = Unit {0}
HoldAll columns [] (it ∷ its) = ⊥
HoldAll columns (row ∷ rows) [] = ⊥
HoldAll columns (row ∷ rows) (it ∷ its) = Holds row (columns it) × HoldAll columns rows its
