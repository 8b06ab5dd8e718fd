use Rattle.std.proofs.Common.{◌≡◌, ◌∙◌, Some, List, map, refl, sym, subst}
use Rattle.std.specs.List.{All}
use Rattle.std.specs.Option.{IsSomeAnd}
use Rattle.rtl_flat.specs.Process.{Task}
use Rattle.rtl_flat.specs.Flats.{flat}
use Rattle.net_list.specs.rtl_scan.Arrows.{Among}
use Rattle.net_list.specs.rtl_scan.Graph.{row}
use Rattle.net_list.proofs.check_assign_proofs.Turns.{task_of}
use Rattle.net_list.specs.check_chains.declared.chain.Guard.{Guard}
use Rattle.net_list.specs.check_chains.Chains.{chain_of}
use Rattle.net_list.specs.check_chains.Views.{chain_view, guard_view}
use Rattle.net_list.proofs.check_gates_proofs.Topped.{comes_from}
use Rattle.infer_regs.specs.Taken.{AreResetTops, HasTop}
use Rattle.infer_regs.proofs.Faults.{has_fault}
use Rattle.infer_regs.proofs.Judging.{chain_is, chain_there, judged_not, judged_some, topped}
use Rattle.infer_regs.proofs.Topped.{reset_at, reset_count, viewed_topped}
use Rattle.infer_regs.proofs.clocked.clocked_of.Goals as goal

pub returns-then-is_some : goal.returns-then-is_some
returns-then-is_some c =
    let d = flat c.args.design.now in
    let p = c.args.p.0 in
    let (t, there) = task_of c.args.design.now p c.requires.there in
    let (rule, fault) = judged_some d p t c.in_ok-first_broken.field-0 (sym c.is_some.ensures ∙ c.if-is_some.true) (c.in_ok-first_broken.ensures t there) in
    (rule, has_fault d p t there rule fault)

pub returns-in_default : goal.returns-in_default
returns-in_default c =
    let design = c.args.design.now in
    let p = c.args.p.0 in
    let (t, there) = task_of design p c.requires.there in
    let none = judged_not (flat design) p t c.in_ok-first_broken.field-0 (sym c.is_some.ensures ∙ c.if-is_some.false) (c.in_ok-first_broken.ensures t there) in
    absurd (chain_there design p c.index.result.now c.requires.there c.index.ensures t there c.requires.waits none c.in_ok-chain.field-0 c.in_ok-chain.ensures c.in_default.not-Some)

pub top_of-clock-requires : goal.top_of-clock-requires
top_of-clock-requires c =
    let design = c.args.design.now in
    let p = c.args.p.0 in
    let (t, there) = task_of design p c.requires.there in
    let none = judged_not (flat design) p t c.in_ok-first_broken.field-0 (sym c.is_some.ensures ∙ c.if-is_some.false) (c.in_ok-first_broken.ensures t there) in
    let x = c.index.result.now in
    let is = chain_is design p x c.requires.there c.index.ensures t there c.in_ok-chain.field-0 c.in_ok-chain.ensures c.in-Some.chain c.in-Some.is in
    let both = topped design p x c.requires.there c.index.ensures t there c.requires.waits none c.args.facts.now.tops.items c.requires.facts.tops_are (chain_view c.in-Some.chain) is in
    subst (λ tops. HasTop tops c.in-Some.chain.clock.now.signal.0) (sym c.deref.ensures.value) both.0

pub reset_tops-requires : goal.reset_tops-requires
reset_tops-requires c =
    let design = c.args.design.now in
    let p = c.args.p.0 in
    let (t, there) = task_of design p c.requires.there in
    let none = judged_not (flat design) p t c.in_ok-first_broken.field-0 (sym c.is_some.ensures ∙ c.if-is_some.false) (c.in_ok-first_broken.ensures t there) in
    let x = c.index.result.now in
    let tops = c.args.facts.now.tops.items in
    let is = chain_is design p x c.requires.there c.index.ensures t there c.in_ok-chain.field-0 c.in_ok-chain.ensures c.in-Some.chain c.in-Some.is in
    let both = topped design p x c.requires.there c.index.ensures t there c.requires.waits none tops c.requires.facts.tops_are (chain_view c.in-Some.chain) is in
    subst (λ (guards : List Guard). All (λ (guard : Guard). HasTop c.deref-2.result.now guard.item.now.signal.0) guards) (sym c.deref-3.ensures.value)
    (subst (λ all. All (λ (guard : Guard). HasTop all guard.item.now.signal.0) c.in-Some.chain.resets.items) (sym c.deref-2.ensures.value)
    (viewed_topped tops c.in-Some.chain.resets.items both.1))

pub returns : goal.returns
returns c =
    let design = c.args.design.now in
    let d = flat design in
    let p = c.args.p.0 in
    let (t, there) = task_of design p c.requires.there in
    let x = c.index.result.now in
    let tops = c.args.facts.now.tops.items in
    let are = c.requires.facts.tops_are in
    let chain = c.in-Some.chain in
    let is = chain_is design p x c.requires.there c.index.ensures t there c.in_ok-chain.field-0 c.in_ok-chain.ensures chain c.in-Some.is in
    let among = subst (λ all. Among (row all chain.clock.now.signal.0) c.top_of-clock.result.0) c.deref.ensures.value c.top_of-clock.ensures in
    let resets : AreResetTops tops (map guard_view chain.resets.items) c.in_ok-resets.resets.items =
    subst (λ (guards : List Guard). AreResetTops tops (map guard_view guards) c.in_ok-resets.resets.items) c.deref-3.ensures.value
    (subst (λ all. AreResetTops all (map guard_view c.deref-3.result.now) c.in_ok-resets.resets.items) c.deref-2.ensures.value c.in_ok-resets.ensures) in
    record {
      process = refl;
      clocked = record {
        chain = subst (λ o. IsSomeAnd o (λ (one : Task). chain_of d one.does ≡ Some (chain_view chain))) (sym there) is;
        clock = (comes_from d tops are chain.clock.now.signal.0 c.top_of-clock.result.0).0 among;
        as_many = reset_count tops (map guard_view chain.resets.items) c.in_ok-resets.resets.items resets;
        resets = λ k guard top at at'. (comes_from d tops are guard.item.signal top.0).0 (reset_at tops (map guard_view chain.resets.items) c.in_ok-resets.resets.items resets k guard top at at');
      };
      whole = λ other at. judged_not d p other c.in_ok-first_broken.field-0 (sym c.is_some.ensures ∙ c.if-is_some.false) (c.in_ok-first_broken.ensures other at);
    }
