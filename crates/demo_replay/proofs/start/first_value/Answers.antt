use Rattle.std.proofs.Common.{◌≡◌, ◌∙◌, refl, Some}
use Rattle.std.specs.List.{slice_get}
use Rattle.std.proofs.lemmas.Option.{slice_get_read}
use Rattle.rtl_flat.specs.Flats.{flat}
use Rattle.demo_replay.proofs.Starting.{filled_is, given_is, width_at}
use Rattle.demo_replay.proofs.start.first_value.Goals as goal

pub returns-in-Some-clause-value : goal.returns-in-Some-clause-value
returns-in-Some-clause-value c =
    let d = flat c.args.design.now in
    let i = c.args.signal.0 in
    let signal = c.index-signal.result.now in
    let there : slice_get d.signals i ≡ Some signal = slice_get_read d.signals _ i signal refl c.requires c.index-signal.ensures in
    given_is d c.args.trial.number i signal there c.as_bytes.result.now c.as_bytes.ensures c.in-Some.value c.in-Some.ensures.exact

pub returns-in-Some-clause-width : goal.returns-in-Some-clause-width
returns-in-Some-clause-width c =
    let d = flat c.args.design.now in
    let i = c.args.signal.0 in
    let signal = c.index-signal.result.now in
    let there : slice_get d.signals i ≡ Some signal = slice_get_read d.signals _ i signal refl c.requires c.index-signal.ensures in
    c.in-Some.ensures.width ∙ width_at d.signals i signal there

pub returns-in-None-clause-value : goal.returns-in-None-clause-value
returns-in-None-clause-value c =
    let d = flat c.args.design.now in
    let i = c.args.signal.0 in
    let signal = c.index-signal.result.now in
    let there : slice_get d.signals i ≡ Some signal = slice_get_read d.signals _ i signal refl c.requires c.index-signal.ensures in
    filled_is d c.args.trial.number i signal there c.as_bytes.result.now c.as_bytes.ensures c.filled.result c.in-None.ensures.exact c.filled.ensures.bits

pub returns-in-None-clause-width : goal.returns-in-None-clause-width
returns-in-None-clause-width c =
    let d = flat c.args.design.now in
    let i = c.args.signal.0 in
    let signal = c.index-signal.result.now in
    let there : slice_get d.signals i ≡ Some signal = slice_get_read d.signals _ i signal refl c.requires c.index-signal.ensures in
    c.filled.ensures.width ∙ width_at d.signals i signal there
