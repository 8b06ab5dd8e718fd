-- What a body runs under a reset or at its clock's edge has room where the body has.
use Rattle.std.proofs.Common.{◌≡◌, ◌≤◌, ℕ, zero, suc, List, [], ◌∷◌, length, Some, ap, refl, arith}
use Rattle.std.specs.List.{slice_get}
use Rattle.rtl_flat.specs.Process.{Set, If, Case, Block, Actions, Done, Then}
use Rattle.net_model.specs.Cycle.{Guard, IsChained, opened}
use Rattle.net_body.specs.declared.maps.Maps.{Maps}
use Rattle.net_body.specs.Levels.{levels_of}
use Rattle.net_body.specs.Ready.{HasRoom}
use Rattle.net_body.proofs.Choosing.{less_room}

-- blocks that hold nothing but one statement count nothing
opened_levels : (body : Actions) → levels_of (opened body) ≡ levels_of body
opened_levels Done = refl
opened_levels (Then (Set target value delayed spot) others) = refl
opened_levels (Then (If test taken other spot) others) = refl
opened_levels (Then (Case kind full parallel selector branches fallback spot) others) = refl
opened_levels (Then (Block body) Done) =
    let inside = opened_levels body in omega (arith, inside)
opened_levels (Then (Block body) (Then one others)) = refl

pub part_levels : (resets : List Guard) (part body : Actions) → IsChained resets part body → levels_of part ≤ levels_of body
part_levels [] part body h = let same = ap levels_of h in omega (arith, same)
part_levels (guard ∷ others) part body h =
    let rest = part_levels others part h.0 h.3 in
    let one = ap levels_of h.2 in
    let same = opened_levels body in
    omega (arith, rest, one, same)

pub reset_levels : (resets : List Guard) (part body : Actions) → IsChained resets part body → (place : ℕ) (guard : Guard) → slice_get resets place ≡ Some guard → levels_of guard.branch ≤ levels_of body
reset_levels [] part body h place guard is = absurd cc
reset_levels (first ∷ others) part body h zero guard is =
    let here : first ≡ guard = cc in
    let branch = ap (λ (one : Guard). levels_of one.branch) here in
    let one = ap levels_of h.2 in
    let same = opened_levels body in
    omega (arith, branch, one, same)
reset_levels (first ∷ others) part body h (suc place) guard is =
    let rest = reset_levels others part h.0 h.3 place guard is in
    let one = ap levels_of h.2 in
    let same = opened_levels body in
    omega (arith, rest, one, same)

pub part_room : (m : Maps) (part body : Actions) → levels_of part ≤ levels_of body → HasRoom m body → HasRoom m part
part_room m part body less fits =
    less_room (levels_of part) (levels_of body) (length m.design.now.signals.items) (length m.room.items) less fits
