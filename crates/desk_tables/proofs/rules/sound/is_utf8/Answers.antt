use Rattle.std.proofs.Common.{◌∙◌, ap}
use Rattle.std.specs.Str.{is_utf8}
use Rattle.desk_tables.proofs.Texts.{utf8_is, utf8_isnt}
use Rattle.desk_tables.proofs.rules.sound.is_utf8.Goals as goal

pub returns-in-Ok : goal.returns-in-Ok
returns-in-Ok c = utf8_is _ c.in-Ok.ensures.cases.1 ∙ ap is_utf8 c.as_bytes.ensures

pub returns-in-Err : goal.returns-in-Err
returns-in-Err c = utf8_isnt _ c.in-Err.ensures.cases.0 ∙ ap is_utf8 c.as_bytes.ensures
