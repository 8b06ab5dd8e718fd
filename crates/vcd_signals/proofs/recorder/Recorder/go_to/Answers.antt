use Rattle.std.proofs.Common.{◌∙◌, ◌≡◌, ◌≤◌, ◌<◌, ℕ, arith, subst}
use Rattle.rtl_flat.specs.Flats.{flat}
use Rattle.vcd_read.specs.Frames.{variables}
use Rattle.vcd_signals.specs.Recording.{changes_of, text_of}
use Rattle.vcd_signals.proofs.Behind.{times_all}
use Rattle.vcd_signals.proofs.Recorded.{arrived}
use Rattle.vcd_signals.proofs.recorder.Recorder.go_to.Goals as goal

pub returns-clause-at : goal.returns-clause-at
returns-clause-at c = λ sight is.
    let old = c.args.self.now in
    let new = c.loop-self.self in
    let before = c.loop-self.invariant in
    let reached : c.until-until.result ≤ new.applied = c.loop-self-test.false in
    let within : new.applied ≤ c.until-until.result = before.within in
    let here : new.applied ≡ c.until-until.result = omega (arith, reached, within) in
    arrived old new c.args.frame sight before.same before.is_recorder (here ∙ c.until-until.ensures) is

pub until-until-requires : goal.until-until-requires
until-until-requires c =
    let self = c.args.self.now in
    let vs = variables (text_of self) in
    subst (λ (n : ℕ). c.args.frame < n)
    (times_all (flat self.design.now) self.scope.now vs vs (changes_of self) self.dump.now.frames.items)
    c.requires.there
