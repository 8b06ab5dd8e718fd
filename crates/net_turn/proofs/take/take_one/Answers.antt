use Rattle.std.proofs.Common.{◌≡◌, ◌∙◌, Option, None, Some, refl, sym, ap, subst}
use Rattle.std.proofs.Math.Path.{fun_ext}
use Rattle.rtl_bits.specs.Bits.{tabulate}
use Rattle.rtl_flat.specs.Process.{Actions}
use Rattle.rtl_flat.specs.Value.{store}
use Rattle.rtl_flat.specs.Flats.{flat, widths}
use Rattle.net_model.specs.Numbers.{AreNumbers}
use Rattle.net_settle.specs.net_body.Ends.{changed_digits}
use Rattle.net_settle.proofs.Able.{able_after}
use Rattle.net_turn.specs.Runs.{run_bit, run_of, numbers_with, view_of}
use Rattle.net_turn.proofs.Chosen.{run_part}
use Rattle.net_turn.proofs.Put.{none_new}
use Rattle.net_turn.proofs.take.take_one.Goals as goal

pub run_aside-requires-clause-body : goal.run_aside-requires-clause-body
run_aside-requires-clause-body c =
    let old = store c.args.before.now in
    let body = view_of c.in-Some.body.now in
    let is : run_of old (numbers_with old c.args.turn.now) c.args.one.now ≡ Some body = sym c.in-Some.ensures in
    c.requires.can.lawful body (run_part old (numbers_with old c.args.turn.now) c.args.one.now body is)

pub run_aside-requires-clause-room : goal.run_aside-requires-clause-room
run_aside-requires-clause-room c =
    let old = store c.args.before.now in
    let body = view_of c.in-Some.body.now in
    let is : run_of old (numbers_with old c.args.turn.now) c.args.one.now ≡ Some body = sym c.in-Some.ensures in
    c.requires.can.room body (run_part old (numbers_with old c.args.turn.now) c.args.one.now body is) c.args.maps.now c.requires.able refl

pub returns-in-Some-clause-after : goal.returns-in-Some-clause-after
returns-in-Some-clause-after c = λ i.
    let ws = widths (flat c.args.maps.now.design.now) in
    let old = store c.args.before.now in
    let body = view_of c.in-Some.body.now in
    let is : run_of old (numbers_with old c.args.turn.now) c.args.one.now ≡ Some body = sym c.in-Some.ensures in
    c.run_aside.ensures.after i
    ∙ ap (λ (o : Option Actions). changed_digits (old i) (tabulate (ws i) (run_bit ws c.args.fill old o i)) (store c.args.after.now i)) (sym is)

pub returns-in-Some-clause-able : goal.returns-in-Some-clause-able
returns-in-Some-clause-able c =
    let m = c.args.maps.now in
    let d = flat m.design.now in
    able_after m c.run_aside.new.self c.requires.able c.run_aside.ensures.ready c.run_aside.ensures.design c.run_aside.ensures.room
    (subst (λ n. AreNumbers d n) (sym (fun_ext c.run_aside.ensures.numbers)) c.requires.before)

pub returns-in_default-clause-after : goal.returns-in_default-clause-after
returns-in_default-clause-after c = λ i.
    let d = flat c.args.maps.now.design.now in
    let ws = widths d in
    let old = store c.args.before.now in
    let after = store c.args.after.now in
    let none : run_of old (numbers_with old c.args.turn.now) c.args.one.now ≡ None = sym c.in_default.ensures in
    none_new d c.args.fill old c.requires.before after c.requires.after i
    ∙ ap (λ (o : Option Actions). changed_digits (old i) (tabulate (ws i) (run_bit ws c.args.fill old o i)) (after i)) (sym none)
