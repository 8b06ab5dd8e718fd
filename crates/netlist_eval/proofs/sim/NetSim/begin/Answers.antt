use Rattle.std.proofs.Common.{◌≡◌, ◌∙◌, List, length, sym, ap, subst}
use Rattle.std.specs.List.{All}
use Rattle.std.proofs.Math.Logic.{∥∥₁_elim}
use Rattle.std.proofs.Props.{props}
use Rattle.rtl_bits.specs.declared.Bit.{Bit}
use Rattle.rtl_flat.specs.declared.design.Design.{Design}
use Rattle.rtl_flat.specs.Value.{store}
use Rattle.net_start.proofs.rtl_scan_proofs.Users.{written_back}
use Rattle.rtl_flat.specs.Flats.{flat}
use Rattle.infer_regs.specs.net_list.declared.clocked.Clocked.{Clocked}
use Rattle.net_turn.specs.net_settle.Settle.{IsSolved}
use Rattle.net_order.specs.net_solve.Laws.{AreApart, IsOrder}
use Rattle.net_turn.specs.Sources.{CanRun}
use Rattle.net_turn.proofs.Bridges.{apart}
use Rattle.net_turn.specs.net_settle.Work.{numbers_of}
use Rattle.netlist_eval.proofs.Beginning.{able_new, begun_starts}
use Rattle.netlist_eval.proofs.Stepping.{can_all}
use Rattle.netlist_eval.proofs.sim.NetSim.begin.Goals as goal

pub begin-requires-clause-able : goal.begin-requires-clause-able
begin-requires-clause-able c =
    able_new c.in_ok-maps.maps c.args.netlist.now.design.now c.args.numbers.items c.in_ok-maps.ensures.ready c.in_ok-maps.ensures.numbers c.in_ok-maps.ensures.design c.requires.numbers c.in_ok-maps.ensures.room

pub begin-requires-clause-apart : goal.begin-requires-clause-apart
begin-requires-clause-apart c =
    subst (λ (d : Design). AreApart (flat d)) (sym c.in_ok-maps.ensures.design) (apart c.args.netlist.now.design.now c.args.netlist.now.apart)

pub begin-requires-clause-can : goal.begin-requires-clause-can
begin-requires-clause-can c =
    subst (λ (l : List Clocked). All (CanRun c.in_ok-maps.maps.design.now) l) (sym c.deref-2.ensures.value)
    (subst (λ (d : Design). All (CanRun d) c.args.netlist.now.clocked.items) (sym c.in_ok-maps.ensures.design) (can_all c.args.netlist.now))

pub invariant_of-result : goal.invariant_of-result
invariant_of-result c =
    let netlist = c.args.netlist.now in
    let m = c.begin.new.maps in
    let same : m.design.now ≡ netlist.design.now = ap (λ r. r.now) c.begin.ensures.design ∙ c.in_ok-maps.ensures.design in
    let starts = begun_starts netlist (flat c.in_ok-maps.maps.design.now) c.deref-2.result.now (store c.args.numbers.items) (store c.in_ok-maps.maps.numbers.items) (store m.numbers.items)
    (ap flat c.in_ok-maps.ensures.design) c.deref-2.ensures.value (ap store c.in_ok-maps.ensures.numbers) c.requires.filled c.begin.ensures.begins in
    let count = ap (λ (d : Design). length d.signals.items) (sym same) in
    let before = c.in_ok-before.before in
    let after = c.in_ok-after.after in
    let long : length c.begin.new.before ≡ length before.items = c.begin.auto.before ∙ ap (λ (l : List (List Bit)). length l) c.deref_mut.ensures.value in
    let long_after : length c.begin.new.after ≡ length after.items = c.begin.auto.after ∙ ap (λ (l : List (List Bit)). length l) c.deref_mut-2.ensures.value in
    let many = c.len-count.ensures ∙ netlist.design.now.signals.ok.0 in
    let size : length before.items ≡ length netlist.design.now.signals.items = sym before.ok.0 ∙ (c.in_ok-before.ensures.len ∙ many) in
    let size_after : length after.items ≡ length netlist.design.now.signals.items = sym after.ok.0 ∙ (c.in_ok-after.ensures.len ∙ many) in
    record {
      is_simulator =
          ∣ record {
            design = same;
            able = c.begin.ensures.able;
            is_order = subst (λ (d : Design). IsOrder (flat d) (numbers_of c.args.order.items)) (sym same) c.requires.order;
            solved = subst (λ (d : Design). IsSolved (flat d) netlist.fill (store m.numbers.items)) (sym same) (store c.args.numbers.items, starts.solution);
            room = ap (λ (l : List (List Bit)). length l) (written_back before.items c.begin.new.before before.len long before.ok.0) ∙ (long ∙ (size ∙ count));
            more_room =
                ap (λ (l : List (List Bit)). length l) (written_back after.items c.begin.new.after after.len long_after after.ok.0) ∙ (long_after ∙ (size_after ∙ count));
            controls_are = λ s. (
              λ h. ∣ (c.requires.controls s).0 h ∣₁,
              λ h. ∥∥₁_elim h (hlevel props) (c.requires.controls s).1,
            );
          } ∣₁;
    }

pub returns-clause-starts : goal.returns-clause-starts
returns-clause-starts c =
    begun_starts c.args.netlist.now (flat c.in_ok-maps.maps.design.now) c.deref-2.result.now (store c.args.numbers.items) (store c.in_ok-maps.maps.numbers.items) (store c.begin.new.maps.numbers.items)
    (ap flat c.in_ok-maps.ensures.design) c.deref-2.ensures.value (ap store c.in_ok-maps.ensures.numbers) c.requires.filled c.begin.ensures.begins
