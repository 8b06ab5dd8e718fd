-- Numbers that are worked out process by process.
use Rattle.std.specs.Prelude.{ℕ, ◌≡◌, List, map, Some}
use Rattle.rtl_flat.specs.declared.act.ProcId.{ProcId}
use Rattle.rtl_flat.specs.Process.{Actions, Comb, Edge', Watched}
use Rattle.rtl_flat.specs.Value.{store}
use Rattle.std.specs.Prelude.{Option}
use Rattle.event_model.specs.Queue.{doing_at}
use Rattle.rtl_flat.specs.Flats.{Flat, flat}
use Rattle.net_model.specs.declared.fill.Fill.{Fill}
use Rattle.net_model.specs.Numbers.{AreNumbers}
use Rattle.net_model.specs.Solution.{IsSolution}
use Rattle.net_body.specs.declared.maps.Maps.{Maps}
use Rattle.net_body.specs.Ready.{HasRoom, IsReady}
use Rattle.net_solve.specs.Laws.{IsBeginning}
use Rattle.event_model.specs.Writes.{Values}

-- the processes of an order
abbrev pub numbers_of : List ProcId → List ℕ
numbers_of order = map (λ (p : ProcId). p.0) order

-- digits for the signals of the design, and room for the body of each of its processes
pub record IsAble (m : Maps) : Type 0 where
  pub ready : IsReady m
  pub numbers : AreNumbers (flat m.design.now) (store m.numbers.items)
  pub blocks :
      (p : ℕ) (list : Option (List Watched)) (body : Actions) →
      doing_at (flat m.design.now) p ≡ Some (Comb list body) → HasRoom m body
  pub clocked :
      (p : ℕ) (events : List Watched) (body : Actions) →
      doing_at (flat m.design.now) p ≡ Some (Edge' events body) → HasRoom m body

-- where the numbers begin as a design's equations ask, they come to solve them
abbrev pub Solves : Flat → Fill → Values → Values → Type 0
Solves d f old new = (held given : Values) → IsBeginning d f held given old → IsSolution d f held given new
