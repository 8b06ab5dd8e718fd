-- It serves inner contracts and proofs; no answer of the program is stated by it.
-- What a simulator of a netlist keeps.
use Rattle.std.specs.Prelude.{◌≡◌, ◌↔◌, ℕ, Bool, false, true, List, length, slice_index_or}
use Rattle.rtl_bits.specs.declared.Bit.{Bit}
use Rattle.rtl_flat.specs.declared.act.ProcId.{ProcId}
use Rattle.rtl_flat.specs.Value.{store}
use Rattle.rtl_flat.specs.Flats.{flat}
use Rattle.net_model.specs.Gates.{IsControl}
use Rattle.infer_regs.specs.net_list.declared.netlist.Netlist.{Netlist}
use Rattle.net_order.specs.net_solve.Laws.{IsOrder}
use Rattle.net_turn.specs.net_body.declared.maps.Maps.{Maps}
use Rattle.net_turn.specs.net_settle.Work.{IsAble, numbers_of}
use Rattle.net_turn.specs.net_settle.Settle.{IsSolved}
use Rattle.netlist_eval.specs.Netlists.{flat_in}

-- numbers that solve the equations of the netlist's design, an order of its processes, which of its inputs
-- are clocks, resets and gates, and room
pub record IsSimulator (netlist : Netlist) (order : List ProcId) (m : Maps) (before after : List (List Bit)) (controls : List Bool) : Type 0 where
  pub design : m.design.now ≡ netlist.design.now
  pub able : IsAble m
  pub is_order : IsOrder (flat m.design.now) (numbers_of order)
  pub solved : IsSolved (flat m.design.now) netlist.fill (store m.numbers.items)
  pub room : length before ≡ length m.design.now.signals.items
  pub more_room : length after ≡ length m.design.now.signals.items
  pub controls_are : (s : ℕ) → slice_index_or controls s false ≡ true ↔ ∥ IsControl (flat_in netlist) s ∥₁
