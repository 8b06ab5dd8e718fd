use Rattle.source_file.specs.SourceFiles.{texts_in}
use Rattle.vcd_check.specs.vcd_signals.vcd_read.Reading.{dump_of, read}
use Rattle.desk_top.proofs.Dumps.{read_of, unread_of}
use Rattle.desk_top.proofs.vcd.compare_text.Goals as goal

pub returns-in-Ok-clause-work : goal.returns-in-Ok-clause-work
returns-in-Ok-clause-work c =
    let files = c.args.files.now in
    read_of c.args.top.now files (texts_in files) c.args.scope.now (dump_of c.in-Ok.dump) (read c.args.text.now) c.compare_in.result
    c.in-Ok.ensures.read c.compare_in.ensures.work

pub returns-in-Err-clause-work : goal.returns-in-Err-clause-work
returns-in-Err-clause-work c =
    let files = c.args.files.now in
    unread_of c.args.top.now files (texts_in files) c.args.scope.now c.in-Err.fault (read c.args.text.now) c.tell_unread.result
    c.in-Err.ensures.fault c.tell_unread.ensures.work
