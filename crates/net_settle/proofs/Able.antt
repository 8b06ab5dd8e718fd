-- What is kept while processes are worked out.
use Rattle.std.proofs.Common.{◌≡◌, ◌∙◌, ◌*◌, ◌<◌, ◌≤◌, ℕ, List, Option, None, Some, length, get_or, refl, sym, ap, subst}
use Rattle.std.specs.List.{slice_get}
use Rattle.std.specs.Option.{IsSomeAnd, option_map}
use Rattle.std.proofs.lemmas.List.{length-map, get_or-map}
use Rattle.std.proofs.lemmas.Option.{slice_get-get_or, slice_get-map, slice_get_within}
use Rattle.rtl_flat.specs.declared.act.ProcId.{ProcId}
use Rattle.rtl_flat.specs.declared.act.Process.{Process}
use Rattle.rtl_flat.specs.declared.design.Design.{Design}
use Rattle.rtl_flat.specs.Levels.{HasNoEdge, IsNode}
use Rattle.rtl_flat.specs.Process.{Actions, Comb, Edge', Task, doing, task}
use Rattle.rtl_flat.specs.Value.{store}
use Rattle.event_model.specs.Queue.{doing_at, doing_of}
use Rattle.rtl_flat.specs.Flats.{flat}
use Rattle.net_model.specs.Numbers.{AreNumbers}
use Rattle.net_body.specs.declared.maps.Maps.{Maps}
use Rattle.net_body.specs.Levels.{levels_of}
use Rattle.net_body.specs.Ready.{HasRoom, IsReady}
use Rattle.net_solve.specs.Laws.{place}
use Rattle.net_settle.specs.Work.{IsAble, numbers_of}

-- maps of the same design and the same room
pub able_after :
    (m after : Maps) → IsAble m → IsReady after → after.design ≡ m.design → length after.room.items ≡ length m.room.items →
    AreNumbers (flat m.design.now) (store after.numbers.items) → IsAble after
able_after m after able ready design room numbers = record {
  ready = ready;
  numbers = subst (λ r. AreNumbers (flat r.now) (store after.numbers.items)) (sym design) numbers;
  blocks = λ p list body here.
      roomy body (able.blocks p list body (subst (λ r. doing_at (flat r.now) p ≡ Some (Comb list body)) design here));
  clocked = λ p events body here.
      roomy body (able.clocked p events body (subst (λ r. doing_at (flat r.now) p ≡ Some (Edge' events body)) design here));
}
  where
    roomy : (body : Actions) → HasRoom m body → HasRoom after body
    roomy body h =
        subst (λ r. levels_of body * length r.now.signals.items ≤ length after.room.items) (sym design)
        (subst (λ n. levels_of body * length m.design.now.signals.items ≤ n) (sym room) h)

-- a process without an edge is there
pub node_below : (design : Design) (p : ℕ) → IsNode (flat design).tasks p → p < length design.processes.items
node_below design p node =
    subst (λ n. p < n) (length-map design.processes.items task) (by (slice_get (flat design).tasks p) refl node)
  where
    by : (o : Option Task) → slice_get (flat design).tasks p ≡ o → IsSomeAnd o (λ one. HasNoEdge one.does) → p < length (flat design).tasks
    by None is none = absurd none
    by (Some one) is some = slice_get_within (flat design).tasks p one is

-- what it does
pub doing_there : (design : Design) (p : ℕ) (x : Process) → p < length design.processes.items → x ≡ get_or design.processes.items p x → doing_at (flat design) p ≡ Some (doing x.does)
doing_there design p x below is =
    ap doing_of (slice_get-map task design.processes.items p
    ∙ ap (option_map task) (slice_get-get_or design.processes.items p x below ∙ ap Some (sym is)))

-- the process at a place
pub place_is : (order : List ProcId) (j : ℕ) → j < length order → place (numbers_of order) j ≡ (get_or order j (record { 0 = 0 })).0
place_is order j below = get_or-map (λ (p : ProcId). p.0) order j (record { 0 = 0 }) 0 below
