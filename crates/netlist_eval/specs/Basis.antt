-- It serves inner contracts and proofs; no answer of the program is stated by it.
-- What all simulators of a design's netlists begin with.
use Rattle.std.specs.Prelude.{◌≡◌, ◌↔◌, ◌≤◌, ℕ, false, true, length, slice_index_or}
use Rattle.rtl_flat.specs.Flats.{Flat}
use Rattle.net_model.specs.Gates.{IsControl}
use Rattle.net_order.specs.net_solve.Laws.{IsOrder}
use Rattle.net_start.specs.rtl_scan.Sets.{has}
use Rattle.net_start.specs.Stored.{AreInputs, AreStored, is_kept, places}
use Rattle.net_turn.specs.net_settle.Work.{numbers_of}
use Rattle.netlist_eval.specs.declared.basis.Basis.{Basis}
use Rattle.netlist_eval.specs.Steps.{HasNoCycle}

-- that of a design: an order of its processes, the signals that are given values, the bits that are kept, and which inputs
-- are clocks, resets and gates
pub record IsBasisOf (d : Flat) (basis : Basis) : Type 0 where
  pub is_order : IsOrder d (numbers_of basis.order.items)
  pub no_cycle : HasNoCycle d
  pub holders : AreStored d (places basis.holders.items)
  pub tops : AreInputs d (places basis.tops.items)
  pub kept : (s k : ℕ) → has basis.kept.masks s k ≡ is_kept d s k
  pub few : length basis.holders.items ≤ length d.signals
  pub few_tops : length basis.tops.items ≤ length d.signals
  pub controls : (s : ℕ) → slice_index_or basis.controls.items s false ≡ true ↔ IsControl d s
