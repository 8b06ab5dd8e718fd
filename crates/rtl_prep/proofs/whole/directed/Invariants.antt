use Rattle.std.proofs.Common.{◌≡◌, ◌++◌, drop}
use Rattle.rtl_prep.specs.Tables.{seen}
use Rattle.rtl_prep.specs.Passes.{all_seen}
use Rattle.rtl_prep.specs.Reading.{read}
use Rattle.rtl_prep.specs.Conditions.{notices}
use Rattle.rtl_prep.specs.Prepares.{start}
use Rattle.rtl_prep.proofs.whole.directed.Given as goal

abbrev pub invariant-loop-at : goal.invariant-loop-at
invariant-loop-at l = record {
  text : l.reader.text.now ≡ l.fn.text;
  same : l.reader.replacer.text.now ≡ l.fn.text;
  read : read l.fn.text (drop l.at l.fn.tokens) (seen l.reader) ≡ read l.fn.text l.fn.tokens start;
  noted : all_seen l.notices.items ++ notices l.fn.text (drop l.at l.fn.tokens) (seen l.reader) ≡ notices l.fn.text l.fn.tokens start;
}
