use Rattle.std.proofs.Common.{◌∙◌, sym}
use Rattle.rtl_flat.specs.Flats.{flat}
use Rattle.vcd_read.specs.Frames.{variables}
use Rattle.vcd_signals.specs.Recording.{changes_of, text_of}
use Rattle.vcd_signals.proofs.Behind.{times_all}
use Rattle.vcd_signals.proofs.recorder.Recorder.count.Goals as goal

pub returns : goal.returns
returns c =
    let self = c.args.self.now in
    let vs = variables (text_of self) in
    c.len.ensures ∙ self.dump.now.frames.ok.0 ∙ sym (times_all (flat self.design.now) self.scope.now vs vs (changes_of self) self.dump.now.frames.items)
