use Rattle.std.proofs.Common.{◌≡◌, ◌∙◌, List, Option, None, Some, map, refl, sym, ap}
use Rattle.net_model.specs.Cycle.{Guard}
use Rattle.rtl_flat.specs.Flats.{flat}
use Rattle.net_list.specs.check_chains.declared.chain.Guard as code
use Rattle.net_list.specs.check_chains.Views.{chain_view, guard_view}
use Rattle.infer_regs.proofs.Faults.{below_of}
use Rattle.infer_regs.proofs.Judging.{chain_is, chain_there, judged_none}
use Rattle.infer_regs.proofs.forms.form_of.Goals as goal

pub returns-in-Some-2 : goal.returns-in-Some-2
returns-in-Some-2 c = λ t there.
    let design = c.args.design.now in
    let p = c.args.p.0 in
    let below = below_of design p c.requires in
    let chain = c.in-Some-2.chain in (
      judged_none (flat design) p t c.in_ok-rule.field-0 c.in_default.not-Some (c.in_ok-rule.ensures t there),
      record {
        chain = chain_view chain;
        is_chain = chain_is design p c.index.result.now below c.index.ensures t there c.in_ok-chain.field-0 c.in_ok-chain.ensures chain c.in-Some-2.is;
        clock_is = refl;
        resets_are = sym (c.in_ok-resets-in-Some-2.ensures ∙ ap (λ (guards : List code.Guard). map (λ (guard : Guard). guard.item) (map guard_view guards)) c.deref.ensures.value);
      },
    )

pub returns : goal.returns
returns c = λ t there.
    let design = c.args.design.now in
    let p = c.args.p.0 in
    let below = below_of design p c.requires in
    let none = judged_none (flat design) p t c.in_ok-rule.field-0 c.in_default.not-Some (c.in_ok-rule.ensures t there) in
    absurd (chain_there design p c.index.result.now below c.index.ensures t there c.requires none c.in_ok-chain.field-0 c.in_ok-chain.ensures (λ chain some. none_some c.in_ok-chain.field-0 chain c.in-None.is some))
  where
    none_some : {A : Type 0} (o : Option A) (x : A) → o ≡ None → o ≡ Some x → ⊥
    none_some o x none some = absurd (cc)
