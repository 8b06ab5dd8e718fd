use Rattle.std.proofs.Common.{◌≡◌, ◌∙◌, true, List, map, ap, sym, subst}
use mathlib.Core.Path.{fun_ext}
use Rattle.rtl_bits.specs.declared.Bit.{Bit}
use Rattle.rtl_bits.specs.Bits.{tabulate}
use Rattle.rtl_flat.specs.Process.{action, body_of}
use Rattle.rtl_flat.specs.Signs.{width_in}
use Rattle.rtl_flat.specs.Value.{store}
use Rattle.rtl_flat.specs.Flats.{flat}
use Rattle.event_model.specs.Writes.{Values}
use Rattle.net_model.specs.Block.{Maps, acts, first_maps, block_bit}
use Rattle.net_body.specs.Ends.{Ending, changed_digits, ending}
use Rattle.net_body.proofs.Ended.{Fits, all_ended, ended_aside, ended_back, fits_block, settled_block}
use Rattle.net_body.proofs.maps.run_beside.Goals as goal

pub returns-clause-after : goal.returns-clause-after
returns-clause-after c = λ i.
    let design = c.args.design.now in
    let ws = width_in design.signals.items in
    let f = c.args.fill in
    let n = store c.args.numbers.now in
    let old = store c.args.before.now in
    let body = body_of (map action c.args.body.now) in
    let e : Ending = ending c.run_all.new.numbers c.run_all.new.marks c.args.after.now in
    let ran : e.maps ≡ acts ws f (first_maps n) body = c.run_all.ensures.maps ∙ ap (λ (m : Maps). acts ws f m body) c.requires.clear in
    let same : n ≡ old = fun_ext c.requires.same in
    let run = settled_block ws f n body e ran i (sym (c.run_all.ensures.kept.each i)) ∙ ap (λ (v : Values). tabulate (ws i) (block_bit ws f v body i)) same in
    ap (λ (x : Ending). x.after i) c.end_all.ensures.ends
    ∙ ended_aside ws f n body e ran i old (ws i) (c.requires.same i)
    (record { wide = c.requires.before.wide i; known = c.requires.before.known i })
    (subst (Fits (ws i)) (sym run) (fits_block (flat design) f old body c.requires.before c.requires.body i))
    (record { wide = c.requires.after.wide i; known = c.requires.after.known i })
    ∙ ap (λ (bits : List Bit). changed_digits (old i) bits (store c.args.after.now i)) run

pub returns-clause-numbers : goal.returns-clause-numbers
returns-clause-numbers c = λ i.
    let ws = width_in c.args.design.now.signals.items in
    let f = c.args.fill in
    let n = store c.args.numbers.now in
    let body = body_of (map action c.args.body.now) in
    let e : Ending = ending c.run_all.new.numbers c.run_all.new.marks c.args.after.now in
    let ran : e.maps ≡ acts ws f (first_maps n) body = c.run_all.ensures.maps ∙ ap (λ (m : Maps). acts ws f m body) c.requires.clear in
    ap (λ (x : Ending). x.maps.now i) c.end_all.ensures.ends
    ∙ ended_back ws f n body e ran i (store c.args.before.now) (c.requires.same i)

pub returns-clause-clear : goal.returns-clause-clear
returns-clause-clear c =
    let ws = width_in c.args.design.now.signals.items in
    let f = c.args.fill in
    let n = store c.args.numbers.now in
    let body = body_of (map action c.args.body.now) in
    let e : Ending = ending c.run_all.new.numbers c.run_all.new.marks c.args.after.now in
    let ran : e.maps ≡ acts ws f (first_maps n) body = c.run_all.ensures.maps ∙ ap (λ (m : Maps). acts ws f m body) c.requires.clear in
    all_ended ws f n body e ran true (store c.args.before.now) c.end_all.new.numbers c.end_all.new.marks c.end_all.new.after c.end_all.ensures.ends
