use Rattle.std.proofs.Common.{◌∙◌, ◌<◌, ℕ, ap, length, subst, sym}
use Rattle.rtl_flat.specs.Flats.{flat}
use Rattle.vcd_read.specs.declared.dump.Frame.{Frame}
use Rattle.vcd_read.specs.Frames.{variables}
use Rattle.vcd_signals.specs.Recording.{changes_of, text_of}
use Rattle.vcd_signals.proofs.Behind.{time_at, times_all}
use Rattle.vcd_signals.proofs.recorder.Recorder.time.Goals as goal

pub returns : goal.returns
returns c = λ sight is.
    let self = c.args.self.now in
    let vs = variables (text_of self) in
    let frames = self.dump.now.frames.items in
    let inside : c.args.frame < length frames =
    subst (λ (n : ℕ). c.args.frame < n) (times_all (flat self.design.now) self.scope.now vs vs (changes_of self) frames) c.requires in
    ap (λ (f : Frame). f.time) c.index.ensures
    ∙ time_at (flat self.design.now) self.scope.now vs vs (changes_of self) frames c.args.frame c.index.result.now sight inside is

pub index-requires : goal.index-requires
index-requires c =
    let self = c.args.self.now in
    let vs = variables (text_of self) in
    let frames = self.dump.now.frames.items in
    subst (λ (n : ℕ). c.args.frame < n)
    (times_all (flat self.design.now) self.scope.now vs vs (changes_of self) frames ∙ sym self.dump.now.frames.ok.0)
    c.requires
