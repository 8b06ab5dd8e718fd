use Rattle.std.proofs.Common.{◌≡◌, ◌∙◌, ◌<◌, ℕ, Bool, true, not, List, length, map, ap, subst, sym}
use Rattle.std.specs.Prelude.{Some}
use Rattle.std.specs.List.{All, filter, list_all}
use Rattle.rtl_bits.specs.declared.Bit.{Bit}
use Rattle.rtl_bits.specs.Bits.{has_unknown}
use Rattle.rtl_flat.specs.declared.expr.SigId.{SigId}
use Rattle.rtl_flat.specs.Flats.{Flat, widths}
use Rattle.event_model.specs.declared.setting.Setting.{Setting}
use Rattle.net_model.specs.Cycle as cycle
use Rattle.net_model.specs.Lawful.{SetsData, TurnsControl}
use Rattle.netlist_eval.specs.Sims.{flat_of, shown}
use Rattle.netlist_eval.specs.net_settle.Settle.{setting_view}
use Rattle.netlist_eval.specs.net_start.Stored.{places}
use Rattle.vcd_signals.specs.Recording.{kept}
use Rattle.vcd_signals.proofs.Recorded.{kept_wide}
use Rattle.vcd_check.specs.Checks.{Takes, is_marked, seen, watched_of}
use Rattle.vcd_check.specs.Departure.{changed, read_as}
use Rattle.vcd_check.proofs.Following.{fine, followed, sets, tops_inside, turns}
use Rattle.vcd_check.proofs.follow.follow.Goals as goal

pub changes-requires-clause-inside : goal.changes-requires-clause-inside
changes-requires-clause-inside c =
    let d = flat_of c.args.net.now in
    subst (All (λ (signal : SigId). signal.0 < length d.signals)) (sym c.deref.ensures.value)
    (tops_inside d c.args.basis.now.tops.items c.requires.basis.tops)

pub take_steps-requires-clause-controls : goal.take_steps-requires-clause-controls
take_steps-requires-clause-controls c =
    let net = c.args.net.now in
    let d = flat_of net in
    let n = shown net in
    let basis = c.args.basis.now in
    let sight = seen c.args.recorder.now in
    let ch = changed n sight (places basis.tops.items) in
    let set : map setting_view c.in_ok-settings.settings.items ≡ ch =
    c.in_ok-settings.ensures ∙ ap (λ (l : List SigId). changed n sight (places l)) c.deref.ensures.value in
    let known : list_all (λ (one : cycle.Setting). not (has_unknown one.number)) ch ≡ true =
    ap (λ (l : List cycle.Setting). list_all (λ (one : cycle.Setting). not (has_unknown one.number)) l) (sym (ap (λ (l : List Setting). map setting_view l) c.deref-2.ensures.value ∙ set))
    ∙ sym c.are_known.ensures ∙ c.if-not-are_known.false in
    let wide = λ (i : ℕ) (bits : List Bit) (is : kept c.args.recorder.now i ≡ Some bits). kept_wide c.args.recorder.now i bits c.requires.recorder is ∙ ap (λ (one : Flat). widths one i) c.requires.design in
    let are = fine d n sight wide (places basis.tops.items) (λ i among. (c.requires.basis.tops.each i).0 among) known in
    let turned : map setting_view c.deref-7.result.now ≡ filter (λ (one : cycle.Setting). is_marked basis.controls.items one.input) ch =
    ap (λ (l : List Setting). map setting_view l) c.deref-7.ensures.value ∙ c.in_ok-controls.ensures
    ∙ ap (λ (m : List Bool). filter (λ (one : cycle.Setting). is_marked m one.input) (map setting_view c.deref-4.result.now)) c.deref-3.ensures.value
    ∙ ap (λ (l : List cycle.Setting). filter (λ (one : cycle.Setting). is_marked basis.controls.items one.input) l) (ap (λ (l : List Setting). map setting_view l) c.deref-4.ensures.value ∙ set) in
    subst (All (TurnsControl d n)) (sym turned) (turns d n (is_marked basis.controls.items) c.requires.basis.controls ch are)

pub take_steps-requires-clause-data : goal.take_steps-requires-clause-data
take_steps-requires-clause-data c =
    let net = c.args.net.now in
    let d = flat_of net in
    let n = shown net in
    let basis = c.args.basis.now in
    let sight = seen c.args.recorder.now in
    let ch = changed n sight (places basis.tops.items) in
    let set : map setting_view c.in_ok-settings.settings.items ≡ ch =
    c.in_ok-settings.ensures ∙ ap (λ (l : List SigId). changed n sight (places l)) c.deref.ensures.value in
    let known : list_all (λ (one : cycle.Setting). not (has_unknown one.number)) ch ≡ true =
    ap (λ (l : List cycle.Setting). list_all (λ (one : cycle.Setting). not (has_unknown one.number)) l) (sym (ap (λ (l : List Setting). map setting_view l) c.deref-2.ensures.value ∙ set))
    ∙ sym c.are_known.ensures ∙ c.if-not-are_known.false in
    let wide = λ (i : ℕ) (bits : List Bit) (is : kept c.args.recorder.now i ≡ Some bits). kept_wide c.args.recorder.now i bits c.requires.recorder is ∙ ap (λ (one : Flat). widths one i) c.requires.design in
    let are = fine d n sight wide (places basis.tops.items) (λ i among. (c.requires.basis.tops.each i).0 among) known in
    let given : map setting_view c.deref-8.result.now ≡ filter (λ (one : cycle.Setting). not (is_marked basis.controls.items one.input)) ch =
    ap (λ (l : List Setting). map setting_view l) c.deref-8.ensures.value ∙ c.in_ok-data.ensures
    ∙ ap (λ (m : List Bool). filter (λ (one : cycle.Setting). not (is_marked m one.input)) (map setting_view c.deref-6.result.now)) c.deref-5.ensures.value
    ∙ ap (λ (l : List cycle.Setting). filter (λ (one : cycle.Setting). not (is_marked basis.controls.items one.input)) l) (ap (λ (l : List Setting). map setting_view l) c.deref-6.ensures.value ∙ set) in
    subst (All (SetsData d)) (sym given) (sets d n (is_marked basis.controls.items) c.requires.basis.controls ch are)

pub returns-clause-follows : goal.returns-clause-follows
returns-clause-follows c =
    let net = c.args.net.now in
    let d = flat_of net in
    let n = shown net in
    let basis = c.args.basis.now in
    let sight = seen c.args.recorder.now in
    let ch = changed n sight (places basis.tops.items) in
    let set : map setting_view c.in_ok-settings.settings.items ≡ ch =
    c.in_ok-settings.ensures ∙ ap (λ (l : List SigId). changed n sight (places l)) c.deref.ensures.value in
    let known : list_all (λ (one : cycle.Setting). not (has_unknown one.number)) ch ≡ true =
    ap (λ (l : List cycle.Setting). list_all (λ (one : cycle.Setting). not (has_unknown one.number)) l) (sym (ap (λ (l : List Setting). map setting_view l) c.deref-2.ensures.value ∙ set))
    ∙ sym c.are_known.ensures ∙ c.if-not-are_known.false in
    let turned : map setting_view c.deref-7.result.now ≡ filter (λ (one : cycle.Setting). is_marked basis.controls.items one.input) ch =
    ap (λ (l : List Setting). map setting_view l) c.deref-7.ensures.value ∙ c.in_ok-controls.ensures
    ∙ ap (λ (m : List Bool). filter (λ (one : cycle.Setting). is_marked m one.input) (map setting_view c.deref-4.result.now)) c.deref-3.ensures.value
    ∙ ap (λ (l : List cycle.Setting). filter (λ (one : cycle.Setting). is_marked basis.controls.items one.input) l) (ap (λ (l : List Setting). map setting_view l) c.deref-4.ensures.value ∙ set) in
    let given : map setting_view c.deref-8.result.now ≡ filter (λ (one : cycle.Setting). not (is_marked basis.controls.items one.input)) ch =
    ap (λ (l : List Setting). map setting_view l) c.deref-8.ensures.value ∙ c.in_ok-data.ensures
    ∙ ap (λ (m : List Bool). filter (λ (one : cycle.Setting). not (is_marked m one.input)) (map setting_view c.deref-6.result.now)) c.deref-5.ensures.value
    ∙ ap (λ (l : List cycle.Setting). filter (λ (one : cycle.Setting). not (is_marked basis.controls.items one.input)) l) (ap (λ (l : List Setting). map setting_view l) c.deref-6.ensures.value ∙ set) in
    let new = shown c.take_steps.new.net in
    followed d (watched_of basis) n new sight c.take_steps.result known
    (subst (λ (l : List cycle.Setting). Takes d (read_as l (filter (λ (one : cycle.Setting). not (is_marked basis.controls.items one.input)) ch)) n c.take_steps.result new) turned
    (subst (λ (l : List cycle.Setting). Takes d (read_as (map setting_view c.deref-7.result.now) l) n c.take_steps.result new) given c.take_steps.ensures.taken))
