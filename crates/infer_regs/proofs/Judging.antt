-- What is known of a process that is looked at.
use Rattle.std.proofs.Common.{◌≡◌, ◌∙◌, ◌<◌, ℕ, Bool, true, false, List, length, map, get_or, Option, None, Some, refl, sym, ap, subst}
use Rattle.std.specs.Prelude.{◌↔◌, Vec}
use Rattle.std.specs.List.{list_any, slice_get}
use Rattle.std.specs.Option.{is_some, option_map}
use Rattle.std.specs.declared.alloc.Global.{Global}
use Rattle.std.proofs.lemmas.Bool.{both_ways, false≢true, true≢false}
use Rattle.rtl_flat.specs.declared.act.EventItem.{EventItem}
use Rattle.rtl_flat.specs.declared.act.Process.{Process}
use Rattle.rtl_flat.specs.declared.design.Design.{Design}
use Rattle.rtl_flat.specs.Process.{Watched, Actions, Edge', Task, doing, task, watched}
use Rattle.net_model.specs.Cycle.{Chain, Guard}
use Rattle.rtl_rule.specs.declared.rule.Rule.{Rule}
use Rattle.rtl_rule.specs.declared.rule.Rule.TheVariants.{MixedEdges, DerivedClock, ResetShape, ResetPolarity}
use Rattle.rtl_flat.specs.Flats.{Flat, flat}
use Rattle.net_list.proofs.check_found_proofs.Sites.{task_at}
use Rattle.net_list.specs.check_sense.Sense.{has_item}
use Rattle.net_list.specs.check_sense.Telling.{level_in}
use Rattle.net_list.specs.check_chains.declared.chain.Chain as code
use Rattle.net_list.specs.check_chains.Chains.{chain_of, is_shapeless}
use Rattle.net_list.specs.check_chains.Inner.{has_turned}
use Rattle.net_list.specs.check_chains.Views.{chain_view}
use Rattle.net_list.proofs.check_chains_proofs.Told.{same_truth}
use Rattle.net_list.specs.check_clocks.Clocks.{events_of}
use Rattle.net_list.specs.check_gates.Tops.{AreTops}
use Rattle.net_list.specs.check_clocks.Roles.{is_derived}
use Rattle.net_list.specs.chain_laws.Chained.{HasChain}
use Rattle.rtl_rule.proofs.Lists.{Each}
use Rattle.net_list.specs.Faults.{IsFault, Waits}
use Rattle.net_list.proofs.Formed.{chain_at, lawful_at}
use Rattle.infer_regs.specs.Facts.{AreFacts}
use Rattle.infer_regs.specs.Forms.{AreNone, form_rules}
use Rattle.infer_regs.specs.Judged.{IsJudged}
use Rattle.infer_regs.specs.Taken.{HasTop}
use Rattle.infer_regs.proofs.Faults.{derived_fault, edges_of, first_holds, level_is, waits_of}
use Rattle.infer_regs.proofs.Topped.{clock_topped, each_top, guards_topped}

pub refuted : {P : Type 0} (b : Bool) → b ≡ true ↔ P → b ≡ false → P → ⊥
refuted b is none h = both_ways b none (is.1 h)

-- ---- a process that is looked at

module _ (design : Design) (p : ℕ) (x : Process) (below : p < length design.processes.items) (is : x ≡ get_or design.processes.items p x) (t : Task) (there : slice_get (flat design).tasks p ≡ Some t) where
  abbrev D : Flat
  D = flat design

  pub same_task : task x ≡ t
  same_task = let here = task_at design p x below is in cc

  pub same_does : doing x.does ≡ t.does
  same_does = ap (λ (one : Task). one.does) same_task

  pub level : (events : List EventItem) → map watched events ≡ events_of (doing x.does) → (b : Bool) → b ≡ has_item (level_in (map watched events)) → b ≡ true ↔ IsFault D p t MixedEdges
  level events same b e =
      same_truth b _ (e ∙ ap (λ items. has_item (level_in items)) (same ∙ ap events_of same_does) ∙ ap has_item (level_is t.does))

  pub derived : (tops : List (Vec ℕ Global)) (clocks resets temporaries : List Bool) → AreFacts D tops clocks resets temporaries → Waits D p → (events : List EventItem) → map watched events ≡ events_of (doing x.does) → (b : Bool) → b ≡ list_any (λ (item : EventItem). is_derived tops clocks resets (map watched events) item.signal.0) events → b ≡ true ↔ IsFault D p t DerivedClock
  derived tops clocks resets temporaries facts waits events same b e =
      subst (λ a. a ≡ true ↔ IsFault D p t DerivedClock) (sym e)
      (derived_fault D tops clocks resets temporaries facts p t (waits_of D p t there waits) events (same ∙ ap events_of same_does))

  pub shape : (b : Bool) → b ≡ is_shapeless D (doing x.does) → b ≡ true ↔ IsFault D p t ResetShape
  shape b e = same_truth b _ (e ∙ ap (is_shapeless D) same_does)

  pub turned : (b : Bool) → b ≡ has_turned D (doing x.does) → b ≡ true ↔ IsFault D p t ResetPolarity
  turned b e = same_truth b _ (e ∙ ap (has_turned D) same_does)

  pub chain_is : (found : Option code.Chain) → option_map chain_view found ≡ chain_of D (doing x.does) → (chain : code.Chain) → found ≡ Some chain → chain_of D t.does ≡ Some (chain_view chain)
  chain_is found e chain some =
      sym (ap (chain_of D) same_does) ∙ sym e ∙ ap (option_map chain_view) some

  -- ---- where no rule has a finding

  module _ (waits : Waits D p) (none : AreNone (IsFault D p t) form_rules) where
    record IsWhole : Type 0 where
      events : List Watched
      body : Actions
      does : t.does ≡ Edge' events body
      chain : HasChain D events body

    whole : IsWhole
    whole =
        let (events, body, does) = edges_of t.does (waits_of D p t there waits) in
        record {
          events = events;
          body = body;
          does = does;
          chain = chain_at D p t events body does (lawful_at D.signals D.tasks p t design.is_design.each_process there) none.0 none.1.1.0 none.1.1.1.0;
        }

    pub chain_there : (found : Option code.Chain) → option_map chain_view found ≡ chain_of D (doing x.does) → ((chain : code.Chain) → found ≡ Some chain → ⊥) → ⊥
    chain_there (Some chain) e never = never chain refl
    chain_there None e never =
        let w = whole in
        let one = e ∙ ap (chain_of D) same_does ∙ ap (chain_of D) w.does ∙ w.chain.is_chain in
        absurd (cc)

    pub topped : (tops : List (Vec ℕ Global)) → AreTops D (length D.signals) tops → (chain : Chain) → chain_of D t.does ≡ Some chain → HasTop tops chain.clock.signal × Each (λ (guard : Guard). HasTop tops guard.item.signal) chain.resets
    topped tops are chain e =
        let w = whole in
        let same : w.chain.chain ≡ chain = let two = sym w.chain.is_chain ∙ sym (ap (chain_of D) w.does) ∙ e in cc in
        let each = subst (λ items. Each (λ (item : Watched). HasTop tops item.signal) items) (ap events_of w.does) (each_top D tops are p t none.1.0) in
        let own = w.chain.chain in
        subst (λ (one : Chain). HasTop tops one.clock.signal × Each (λ (guard : Guard). HasTop tops guard.item.signal) one.resets) same
        (clock_topped tops w.events own.clock own.resets w.chain.chained.items each, guards_topped tops w.events own.clock own.resets w.chain.chained.items each)

-- ---- what was judged

module _ (d : Flat) (p : ℕ) (t : Task) where
  pub judged_none : (o : Option Rule) → ((rule : Rule) → o ≡ Some rule → ⊥) → IsJudged d p t o → AreNone (IsFault d p t) form_rules
  judged_none None never h = h
  judged_none (Some rule) never h = absurd (never rule refl)

  pub judged_not : (o : Option Rule) → is_some o ≡ false → IsJudged d p t o → AreNone (IsFault d p t) form_rules
  judged_not None none h = h
  judged_not (Some rule) none h = absurd (true≢false none)

  pub judged_some : (o : Option Rule) → is_some o ≡ true → IsJudged d p t o → (rule : Rule) × IsFault d p t rule
  judged_some None some h = absurd (false≢true some)
  judged_some (Some rule) some h = (rule, first_holds d p t (IsFault d p t) form_rules rule h)
