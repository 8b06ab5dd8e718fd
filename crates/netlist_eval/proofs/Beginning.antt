-- What a simulator begins with.
use Rattle.std.proofs.Common.{◌≡◌, ◌∙◌, ◌*◌, ◌≤◌, ℕ, List, length, get_or, Option, None, Some, refl, sym, ap, subst}
use Rattle.std.specs.List.{All, slice_get}
use Rattle.std.specs.Option.{option_map}
use Rattle.std.proofs.Math.Logic.{∥∥₁_elim}
use Rattle.std.proofs.lemmas.Option.{none-some, same_Some, slice_get-get_or, slice_get-map, slice_get_within}
use Rattle.rtl_bits.specs.declared.Bit.{Bit}
use Rattle.rtl_flat.specs.declared.act.Process.{Process}
use Rattle.rtl_flat.specs.declared.design.Design.{Design}
use Rattle.rtl_flat.specs.Process.{Comb, Edge', Doing, doing, task}
use Rattle.rtl_flat.specs.Value.{store}
use Rattle.event_model.specs.Queue.{doing_at, doing_of}
use Rattle.rtl_flat.specs.Flats.{Flat, flat}
use Rattle.event_model.specs.Writes.{Values}
use Rattle.net_model.specs.Numbers.{AreNumbers}
use Rattle.infer_regs.specs.net_list.declared.clocked.Clocked.{Clocked}
use Rattle.infer_regs.specs.net_list.declared.netlist.Netlist.{Netlist}
use Rattle.net_turn.specs.net_body.declared.maps.Maps.{Maps}
use Rattle.net_turn.specs.net_body.Levels.{process_levels}
use Rattle.net_turn.specs.net_body.Ready.{IsReady}
use Rattle.net_turn.specs.net_settle.Work.{IsAble}
use Rattle.net_turn.specs.Steps.{AreFilled, Begins}
use Rattle.net_turn.proofs.Sourced.{sources}
use Rattle.netlist_eval.specs.Netlists.{chains_in, flat_in}
use Rattle.netlist_eval.specs.Steps.{Starts}
use Rattle.netlist_eval.proofs.Once.{starts_one}
use Rattle.netlist_eval.proofs.Started.{starts}

-- room that serves each process serves its body
module _ (design : Design) (room : ℕ) (all : All (λ (process : Process). process_levels (doing process.does) * length design.signals.items ≤ room) design.processes.items) where
  roomy : (p : ℕ) (does : Doing) → doing_at (flat design) p ≡ Some does → process_levels does * length design.signals.items ≤ room
  roomy p does here = by (slice_get design.processes.items p) refl
    where
      by : (o : Option Process) → slice_get design.processes.items p ≡ o → process_levels does * length design.signals.items ≤ room
      by None is =
          absurd (none-some does (sym (ap (λ (o : Option Process). doing_of (option_map task o)) is) ∙ (sym (ap doing_of (slice_get-map task design.processes.items p)) ∙ here)))
      by (Some x) is =
          let below = slice_get_within design.processes.items p x is in
          let does_is : doing x.does ≡ does =
          same_Some _ _ (sym (ap (λ (o : Option Process). doing_of (option_map task o)) is) ∙ (sym (ap doing_of (slice_get-map task design.processes.items p)) ∙ here)) in
          let at : get_or design.processes.items p x ≡ x = same_Some _ _ (sym (slice_get-get_or design.processes.items p x below) ∙ is) in
          subst (λ one. process_levels one * length design.signals.items ≤ room) does_is
          (subst (λ (process : Process). process_levels (doing process.does) * length design.signals.items ≤ room) at (all p x below))

pub able_new :
    (m : Maps) (design : Design) (numbers : List (List Bit)) → IsReady m → m.numbers.items ≡ numbers → m.design.now ≡ design →
    AreNumbers (flat design) (store numbers) →
    All (λ (process : Process). process_levels (doing process.does) * length design.signals.items ≤ length m.room.items) design.processes.items → IsAble m
able_new m design numbers ready same_numbers same_design are all = record {
  ready = ready;
  numbers = subst (λ (d : Design). AreNumbers (flat d) (store m.numbers.items)) (sym same_design) (subst (λ (l : List (List Bit)). AreNumbers (flat design) (store l)) (sym same_numbers) are);
  blocks = λ p list body here. room_for p (Comb list body) here;
  clocked = λ p events body here. room_for p (Edge' events body) here;
}
  where
    room_for : (p : ℕ) (does : Doing) → doing_at (flat m.design.now) p ≡ Some does → process_levels does * length m.design.now.signals.items ≤ length m.room.items
    room_for p does here =
        subst (λ (d : Design). process_levels does * length d.signals.items ≤ length m.room.items) (sym same_design)
        (roomy design (length m.room.items) all p does (subst (λ (d : Design). doing_at (flat d) p ≡ Some does) same_design here))

-- what is shown at the beginning
pub begun_starts :
    (netlist : Netlist) (d : Flat) (clocked : List Clocked) (u u' n : Values) → d ≡ flat_in netlist → clocked ≡ netlist.clocked.items → u' ≡ u →
    AreFilled (flat_in netlist) netlist.fill u → Begins d netlist.fill clocked u' n → Starts (flat_in netlist) (chains_in netlist) netlist.fill u n
begun_starts netlist d clocked u u' n same_design same_clocked same_numbers filled begins =
    let here = subst (λ v. Begins (flat_in netlist) netlist.fill netlist.clocked.items v n) same_numbers
    (subst (λ l. Begins (flat_in netlist) netlist.fill l u' n) same_clocked (subst (λ e. Begins e netlist.fill clocked u' n) same_design begins)) in
    ∥∥₁_elim netlist.chosen (starts_one (flat_in netlist) (chains_in netlist) netlist.fill u n)
    (λ chosen.
    starts (flat_in netlist) (chains_in netlist) netlist.fill u n
    (here.begun (chains_in netlist) (sources netlist.design.now netlist.formed netlist.clocked.items chosen) filled))
