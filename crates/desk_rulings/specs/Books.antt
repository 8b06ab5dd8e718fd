-- The waivers of the tables as a book.
-- Worked examples: crates/desk_rulings/proofs/Example.antt.
use Rattle.std.specs.Prelude.{List, option_map}
use Rattle.std.specs.List.{filter_map}
use Rattle.rtl_rule.specs.Rows.{rule_with}
use Rattle.rtl_rule.specs.declared.rule.Rule.{Rule}
use Rattle.desk_tables.specs.declared.rows.WaiverRow.{WaiverRow}
use Rattle.waiver_book.specs.Waivers.{Entry}

abbrev pub entry_with : WaiverRow → Rule → Entry
entry_with row rule = record {
  waiver = record {
    key = record { rule = rule; target = row.target; file = row.file; at = row.at };
    digest = row.digest;
    owner = row.owner;
    last_day = row.last_day;
    reason = row.reason;
  };
  ended = row.ended;
}

-- the book that has the waivers of these rows, in their order
abbrev pub book_of : List WaiverRow → List Entry
book_of rows = filter_map (λ row. option_map (entry_with row) (rule_with row.rule)) rows
