use Rattle.std.proofs.Common.{◌≡◌, ◌∙◌, false, [], map, ap, sym}
use Rattle.rtl_flat.specs.Process.{action, body_of}
use Rattle.rtl_flat.specs.Signs.{width_in}
use Rattle.rtl_flat.specs.Value.{store}
use Rattle.net_model.specs.Block.{Maps, acts, first_maps}
use Rattle.net_body.specs.Ends.{Ending, ending}
use Rattle.net_body.proofs.Ended.{all_ended, ended_now, settled_block}
use Rattle.net_body.proofs.maps.run_body.Goals as goal

pub returns-clause-numbers : goal.returns-clause-numbers
returns-clause-numbers c = λ i.
    let ws = width_in c.args.design.now.signals.items in
    let f = c.args.fill in
    let n = store c.args.numbers.now in
    let body = body_of (map action c.args.body.now) in
    let e : Ending = ending c.run_all.new.numbers c.run_all.new.marks [] in
    let ran : e.maps ≡ acts ws f (first_maps n) body = c.run_all.ensures.maps ∙ ap (λ (m : Maps). acts ws f m body) c.requires.clear in
    ap (λ (x : Ending). x.maps.now i) c.end_all.ensures.ends
    ∙ ended_now ws f n body e ran i (store [])
    ∙ settled_block ws f n body e ran i (sym (c.run_all.ensures.kept.each i))

pub returns-clause-clear : goal.returns-clause-clear
returns-clause-clear c =
    let ws = width_in c.args.design.now.signals.items in
    let f = c.args.fill in
    let n = store c.args.numbers.now in
    let body = body_of (map action c.args.body.now) in
    let e : Ending = ending c.run_all.new.numbers c.run_all.new.marks [] in
    let ran : e.maps ≡ acts ws f (first_maps n) body = c.run_all.ensures.maps ∙ ap (λ (m : Maps). acts ws f m body) c.requires.clear in
    all_ended ws f n body e ran false (store []) c.end_all.new.numbers c.end_all.new.marks c.end_all.new.after c.end_all.ensures.ends
