-- Each answer is told from what the survey and the builder say.
use Rattle.std.proofs.Common.{map}
use Rattle.rtl_tree.specs.TreeModule.{written_circuit}
use Rattle.rtl_parse.proofs.Answers.{are_read, outside_cause, all_inside, stop_cause, depth_cause, built, certain, parsed, held_cause, inside_of}
use Rattle.rtl_parse.proofs.whole.parse.Goals as goal

pub returns-in-Some-clause-cause : goal.returns-in-Some-clause-cause
returns-in-Some-clause-cause g c =
    let read = are_read c.args.text.now _ _ _ c.as_slice-tokens.result.now c.text.ensures c.tokens.ensures c.in_ok-terminals.ensures.found c.in_ok-terminals.ensures.numbered c.as_slice-tokens.ensures.value in
    outside_cause c.args.text.now c.as_slice-tokens.result.now c.text-in-Some.result.now c.refused.result c.in-Some.number c.in_ok-word.word c.in_ok-word.at read c.refused.ensures c.in-Some.is c.text-in-Some.ensures c.in_ok-word.ensures

pub returns-in-Stopped-clause-cause : goal.returns-in-Stopped-clause-cause
returns-in-Stopped-clause-cause g c =
    let read = are_read c.args.text.now _ _ _ c.as_slice-tokens.result.now c.text.ensures c.tokens.ensures c.in_ok-terminals.ensures.found c.in_ok-terminals.ensures.numbered c.as_slice-tokens.ensures.value in
    let inside = all_inside c.args.text.now c.as_slice-tokens.result.now c.refused.result read c.refused.ensures c.in_default.is in
    stop_cause c.args.text.now c.as_slice-tokens.result.now c.text-in-Stopped.result.now c.in_ok-number.field-0 c.in-Stopped.number c.in_ok-token-in-Stopped.token c.in_ok-token-in-Stopped.at read inside c.in_ok-number.ensures c.in-Stopped.is c.text-in-Stopped.ensures c.in_ok-token-in-Stopped.ensures

pub returns-in-TooDeep-clause-cause : goal.returns-in-TooDeep-clause-cause
returns-in-TooDeep-clause-cause g c =
    let read = are_read c.args.text.now _ _ _ c.as_slice-tokens.result.now c.text.ensures c.tokens.ensures c.in_ok-terminals.ensures.found c.in_ok-terminals.ensures.numbered c.as_slice-tokens.ensures.value in
    let inside = all_inside c.args.text.now c.as_slice-tokens.result.now c.refused.result read c.refused.ensures c.in_default.is in
    depth_cause c.args.text.now c.as_slice-tokens.result.now c.in_ok-number.field-0 c.in-TooDeep.at read inside c.in_ok-number.ensures c.in-TooDeep.is

pub returns-in-Ok-clause-inside : goal.returns-in-Ok-clause-inside
returns-in-Ok-clause-inside g c =
    let read = are_read c.args.text.now _ _ _ c.as_slice-tokens.result.now c.text.ensures c.tokens.ensures c.in_ok-terminals.ensures.found c.in_ok-terminals.ensures.numbered c.as_slice-tokens.ensures.value in
    inside_of c.args.text.now c.followed-in-Ok.result (all_inside c.args.text.now c.as_slice-tokens.result.now c.refused.result read c.refused.ensures c.in_default.is)

pub returns-in-Ok-clause-parsed : goal.returns-in-Ok-clause-parsed
returns-in-Ok-clause-parsed g c =
    let read = are_read c.args.text.now _ _ _ c.as_slice-tokens.result.now c.text.ensures c.tokens.ensures c.in_ok-terminals.ensures.found c.in_ok-terminals.ensures.numbered c.as_slice-tokens.ensures.value in
    let shown = built c.args.text.now c.as_slice-tokens.result.now c.in_ok-number.field-0 _ c.build.result c.in-Ok.written read c.in_ok-number.ensures c.in-Spelled.is c.dropped-regions.ensures c.build.ensures.built c.in-Ok.is in
    parsed c.args.text.now (map written_circuit c.in-Ok.written.items) c.followed-in-Ok.result shown c.followed-in-Ok.ensures.plain c.followed-in-Ok.ensures.followed

pub returns-in-Ok-clause-cause : goal.returns-in-Ok-clause-cause
returns-in-Ok-clause-cause g c =
    let read = are_read c.args.text.now _ _ _ c.as_slice-tokens.result.now c.text.ensures c.tokens.ensures c.in_ok-terminals.ensures.found c.in_ok-terminals.ensures.numbered c.as_slice-tokens.ensures.value in
    let inside = all_inside c.args.text.now c.as_slice-tokens.result.now c.refused.result read c.refused.ensures c.in_default.is in
    let shown = built c.args.text.now c.as_slice-tokens.result.now c.in_ok-number.field-0 _ c.build.result c.in-Ok.written read c.in_ok-number.ensures c.in-Spelled.is c.dropped-regions.ensures c.build.ensures.built c.in-Ok.is in
    held_cause c.args.text.now (map written_circuit c.in-Ok.written.items) c.followed-in-Ok.result shown inside c.followed-in-Ok.ensures.held

pub returns-in-Some-2-clause-inside : goal.returns-in-Some-2-clause-inside
returns-in-Some-2-clause-inside g c =
    let read = are_read c.args.text.now _ _ _ c.as_slice-tokens.result.now c.text.ensures c.tokens.ensures c.in_ok-terminals.ensures.found c.in_ok-terminals.ensures.numbered c.as_slice-tokens.ensures.value in
    inside_of c.args.text.now c.followed.result (all_inside c.args.text.now c.as_slice-tokens.result.now c.refused.result read c.refused.ensures c.in_default.is)

pub returns-in-Some-2-clause-parsed : goal.returns-in-Some-2-clause-parsed
returns-in-Some-2-clause-parsed g c =
    let read = are_read c.args.text.now _ _ _ c.as_slice-tokens.result.now c.text.ensures c.tokens.ensures c.in_ok-terminals.ensures.found c.in_ok-terminals.ensures.numbered c.as_slice-tokens.ensures.value in
    let shown = certain c.args.text.now c.as_slice-tokens.result.now _ c.in_ok-written.field-0 c.in-Some-2.written read c.dropped-regions.ensures c.in_ok-written.ensures.spelled c.in_ok-written.ensures.shallow c.in-Some-2.is in
    parsed c.args.text.now (map written_circuit c.in-Some-2.written.items) c.followed.result shown c.followed.ensures.plain c.followed.ensures.followed

pub returns-in-Some-2-clause-cause : goal.returns-in-Some-2-clause-cause
returns-in-Some-2-clause-cause g c =
    let read = are_read c.args.text.now _ _ _ c.as_slice-tokens.result.now c.text.ensures c.tokens.ensures c.in_ok-terminals.ensures.found c.in_ok-terminals.ensures.numbered c.as_slice-tokens.ensures.value in
    let inside = all_inside c.args.text.now c.as_slice-tokens.result.now c.refused.result read c.refused.ensures c.in_default.is in
    let shown = certain c.args.text.now c.as_slice-tokens.result.now _ c.in_ok-written.field-0 c.in-Some-2.written read c.dropped-regions.ensures c.in_ok-written.ensures.spelled c.in_ok-written.ensures.shallow c.in-Some-2.is in
    held_cause c.args.text.now (map written_circuit c.in-Some-2.written.items) c.followed.result shown inside c.followed.ensures.held
